use Rattle.std.proofs.Common.{◌≡◌, ◌*◌, ◌/◌, Some, refl, sym, ◌∙◌, ap, arith}
use Rattle.std.specs.Prelude.{Option, option_map, unwrap_or}
use Rattle.dml_types.specs.declared.jobs.Job.{Job}
use Rattle.dml_types.specs.declared.operations.Op.{Op}
use Rattle.dml_types.specs.declared.operations.Op.TheVariants.{CreateDelta}
use Rattle.dml_types.specs.Chunk.{create_fault, create_staged}
use Rattle.dml_types.specs.Job.{op_of}
use Rattle.dml_types.specs.Refusal.{need, operation_need}
use Rattle.dml_effect.specs.Chunks.{IsCreateFrom}
use Rattle.dml_effect.proofs.CreateJoinLemmas.{once_yields_create}
use Rattle.dml_effect.proofs.carrying.create_in.Goals as goal

-- the staging that a create needs
need_of_create : (job : Job) → op_of job ≡ Some CreateDelta → need job ≡ 10 * (job.size / 8)
need_of_create job operation = ap (λ (o : Option Op). unwrap_or (option_map (λ op. operation_need op job) o) 0) operation

pub scan_create-piece-requires-clause-fits : goal.scan_create-piece-requires-clause-fits
scan_create-piece-requires-clause-fits c =
    omega (arith, need_of_create c.args.job.now c.requires.operation, c.requires.fits, ap (λ (j : Job). j.size) c.job.ensures.job)

pub join_create-requires : goal.join_create-requires
join_create-requires c =
    let memory = c.args.image.now in
    let job = c.args.job.now in
    let scan = c.scan_create-piece.ensures in
    let value : IsCreateFrom memory job 0 c.scan_create-piece.result = record {
      begins = scan.chunk.0;
      order = omega arith;
      fault = scan.fault ∙ ap (create_fault memory job 0) (sym scan.chunk.1);
      staged = scan.staged ∙ ap (create_staged memory job 0) (sym scan.chunk.1);
    } in
    let all = scan.chunk.1 ∙ ap (λ (j : Job). j.size / 8) c.job.ensures.job in
    λ k. ((refl, tt), (c.requires.operation, (tt, (tt, once_yields_create memory job c.scan_create-piece.result c.once.result c.once.ensures.item (value, all)))))
