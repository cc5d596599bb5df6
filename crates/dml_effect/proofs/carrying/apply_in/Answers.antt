use Rattle.std.proofs.Common.{◌≡◌, ◌/◌, ◌∙◌, ap, arith, refl}
use Rattle.dml_types.specs.declared.jobs.Job.{Job}
use Rattle.dml_effect.proofs.ApplyChunkLemmas.{need_of_apply, once_yields_apply, scanned_value}
use Rattle.dml_effect.proofs.carrying.apply_in.Goals as goal

pub scan_apply-piece-requires-clause-within : goal.scan_apply-piece-requires-clause-within
scan_apply-piece-requires-clause-within c =
    let size = ap (λ (j : Job). j.delta_size) c.job.ensures.job in
    omega (arith, size)

pub scan_apply-piece-requires-clause-fits : goal.scan_apply-piece-requires-clause-fits
scan_apply-piece-requires-clause-fits c =
    let size = ap (λ (j : Job). j.delta_size) c.job.ensures.job in
    omega (arith, size, need_of_apply c.args.job.now c.requires.operation, c.requires.fits)

pub join_apply-requires : goal.join_apply-requires
join_apply-requires c =
    let memory = c.args.image.now in
    let job = c.args.job.now in
    let piece = c.scan_apply-piece.result in
    let scan = c.scan_apply-piece.ensures in
    let size : c.job.result.now.delta_size / 10 ≡ job.delta_size / 10 = ap (λ (j : Job). j.delta_size / 10) c.job.ensures.job in
    let value = scanned_value memory job 0 _ piece (omega arith) scan.chunk scan.bad scan.first scan.last scan.staged in
    λ k. ((refl, tt), (c.requires.operation, (tt, (tt, once_yields_apply memory job piece c.once.result c.once.ensures.item value (scan.chunk.1 ∙ size)))))
