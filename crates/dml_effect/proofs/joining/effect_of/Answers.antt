use Rattle.std.proofs.Common.{◌≡◌, ℕ, List, [], None, Some, Option, MatchOption, sym, ◌∙◌, ap, ap₂, subst, arith}
use Rattle.dml_types.specs.declared.jobs.Job.{Job}
use Rattle.dml_types.specs.declared.operations.Op.{Op}
use Rattle.dml_types.specs.declared.operations.Direction.{Direction}
use Rattle.dml_types.specs.declared.records.Record.{Record}
use Rattle.dml_types.specs.Job.{op_of}
use Rattle.dml_types.specs.Memory.{Memory, Put}
use Rattle.dml_types.specs.Effect.{Effect}
use Rattle.dml_types.specs.Bytewise.{operation_direction}
use Rattle.dml_types.specs.Chunk.{scan_done, scan_found, scan_staged}
use Rattle.dml_scan.specs.declared.scans.ScanPiece.{ScanPiece}
use Rattle.dml_scan.proofs.ReachLemmas.{scan_done_within, found_none}
use Rattle.dml_effect.specs.Chunks.{IsScanFrom, IsWholeScan, scan_size}
use Rattle.dml_effect.specs.Effects.{are_present, some_puts}
use Rattle.dml_effect.specs.Joined.{scanned_record, scanned_puts}
use Rattle.dml_effect.proofs.ScannedLemmas.{answer_at, count_at}
use Rattle.dml_effect.proofs.WholeLemmas.{puts_none, record_of_step, puts_of_effect, effect_of_checked, image_of_puts, scan_size_within}
use Rattle.dml_effect.proofs.joining.effect_of.Goals as goal

-- what is known of the piece, by the operation that the job tells
value_at : (memory : Memory) (job : Job) (op : Op) (whole : Option ScanPiece) (piece : ScanPiece) → op_of job ≡ Some op → IsWholeScan memory job whole → whole ≡ Some piece
    → (piece.found ≡ scan_found op memory job 0 (scan_size op job)) × (piece.staged.bytes ≡ scan_staged op memory job 0 (scan_size op job))
value_at memory job op whole piece operation is at =
    let same : is.op ≡ op = cc (sym is.operation ∙ operation) in
    let value : IsScanFrom is.op memory job 0 piece × (piece.to ≡ scan_size is.op job) =
    subst (λ (w : Option ScanPiece). MatchOption w (scan_size is.op job ≡ 0) (λ p. IsScanFrom is.op memory job 0 p × (p.to ≡ scan_size is.op job))) at is.value in
    let to : piece.to ≡ scan_size op job = value.1 ∙ ap (λ (o : Op). scan_size o job) same in (
      value.0.found ∙ ap₂ (λ (o : Op) (to : ℕ). scan_found o memory job 0 to) same to,
      value.0.staged ∙ ap₂ (λ (o : Op) (to : ℕ). scan_staged o memory job 0 to) same to,
    )

-- where there is no piece, nothing was to be scanned
empty_at : (memory : Memory) (job : Job) (op : Op) (whole : Option ScanPiece) → op_of job ≡ Some op → IsWholeScan memory job whole → whole ≡ None → scan_size op job ≡ 0
empty_at memory job op whole operation is at =
    let same : is.op ≡ op = cc (sym is.operation ∙ operation) in
    ap (λ (o : Op). scan_size o job) (sym same)
    ∙ subst (λ (w : Option ScanPiece). MatchOption w (scan_size is.op job ≡ 0) (λ p. IsScanFrom is.op memory job 0 p × (p.to ≡ scan_size is.op job))) at is.value

-- the puts that the code made
puts_at : (memory : Memory) (job given : Job) (op : Op) (direction : Direction) (piece : ScanPiece) (answer : Record) (puts : List Put)
    → (piece.found ≡ scan_found op memory job 0 (scan_size op job)) × (piece.staged.bytes ≡ scan_staged op memory job 0 (scan_size op job))
    → given ≡ job → direction ≡ operation_direction op job → answer ≡ scanned_record op given direction piece.found → puts ≡ scanned_puts op given direction answer.completed piece.staged.bytes
    → puts ≡ scanned_puts op job (operation_direction op job) (scan_done op memory job 0 (scan_size op job)) (scan_staged op memory job 0 (scan_size op job))
puts_at memory job given op direction piece answer puts value same way told puts_told =
    let count = count_at memory job given op direction piece.found answer same way value.0 told in
    puts_told ∙ (ap₂ (λ (j : Job) (d : Direction). scanned_puts op j d answer.completed piece.staged.bytes) same way ∙ ap₂ (scanned_puts op job (operation_direction op job)) count value.1)

pub scanned_puts-puts-requires-clause-within : goal.scanned_puts-puts-requires-clause-within
scanned_puts-puts-requires-clause-within c =
    let job = c.args.job.now in
    let op = c.op-op.result in
    let operation = c.op-op.ensures.rules.operation in
    let value = value_at c.args.image.now job op c.args.whole c.in-Some.piece operation c.requires.whole c.in-Some.is in
    let count = count_at c.args.image.now job c.job-job.result.now op c.args.direction c.in-Some.piece.found c.scanned_record-answer.result c.job-job.ensures.job (c.requires.direction op operation) value.0 c.scanned_record-answer.ensures in
    let size : c.job-job.result.now.size ≡ job.size = ap (λ (j : Job). j.size) c.job-job.ensures.job in
    omega (arith, count, size, scan_done_within op c.args.image.now job 0 (scan_size op job), scan_size_within op job)

pub returns-in-None-clause-answer : goal.returns-in-None-clause-answer
returns-in-None-clause-answer c =
    let job = c.args.job.now in
    let op = c.op-op.result in
    let operation = c.op-op.ensures.rules.operation in
    let none = empty_at c.args.image.now job op c.args.whole operation c.requires.whole c.in-None.is in
    answer_at c.args.image.now job c.job-job.result.now op c.args.direction _ c.scanned_record.result c.job-job.ensures.job (c.requires.direction op operation) (found_none op c.args.image.now job 0 (scan_size op job) (omega arith)) c.scanned_record.ensures
    ∙ record_of_step c.args.image.now job op operation c.requires.operation c.job-job.ensures.checked

none_put : (memory : Memory) (job : Job) (op : Op) → scan_size op job ≡ 0 → scanned_puts op job (operation_direction op job) (scan_done op memory job 0 (scan_size op job)) (scan_staged op memory job 0 (scan_size op job)) ≡ []
none_put memory job op none =
    puts_none op job (operation_direction op job) _ _ (omega (arith, none, scan_done_within op memory job 0 (scan_size op job)))

pub returns-in-None-clause-puts : goal.returns-in-None-clause-puts
returns-in-None-clause-puts c =
    let memory = c.args.image.now in
    let job = c.args.job.now in
    let op = c.op-op.result in
    let operation = c.op-op.ensures.rules.operation in
    let none = empty_at memory job op c.args.whole operation c.requires.whole c.in-None.is in
    sym (none_put memory job op none)
    ∙ ((puts_of_effect memory job op operation c.requires.operation c.pages-pages.ensures.memory.whole).same
    ∙ ap (λ (e : Effect). some_puts e.puts) (effect_of_checked memory job op operation c.job-job.ensures.checked))

pub returns-in-None-clause-image : goal.returns-in-None-clause-image
returns-in-None-clause-image c = image_of_puts c.args.image.now c.args.job.now _ (returns-in-None-clause-puts c)

pub returns-in-Some-clause-answer : goal.returns-in-Some-clause-answer
returns-in-Some-clause-answer c =
    let job = c.args.job.now in
    let op = c.op-op.result in
    let operation = c.op-op.ensures.rules.operation in
    let value = value_at c.args.image.now job op c.args.whole c.in-Some.piece operation c.requires.whole c.in-Some.is in
    answer_at c.args.image.now job c.job-job.result.now op c.args.direction c.in-Some.piece.found c.scanned_record-answer.result c.job-job.ensures.job (c.requires.direction op operation) value.0 c.scanned_record-answer.ensures
    ∙ record_of_step c.args.image.now job op operation c.requires.operation c.job-job.ensures.checked

pub returns-in-Some-clause-puts : goal.returns-in-Some-clause-puts
returns-in-Some-clause-puts c =
    let memory = c.args.image.now in
    let job = c.args.job.now in
    let op = c.op-op.result in
    let operation = c.op-op.ensures.rules.operation in
    let value = value_at memory job op c.args.whole c.in-Some.piece operation c.requires.whole c.in-Some.is in
    puts_at memory job c.job-job.result.now op c.args.direction c.in-Some.piece c.scanned_record-answer.result _ value c.job-job.ensures.job (c.requires.direction op operation) c.scanned_record-answer.ensures c.scanned_puts-puts.ensures
    ∙ ((puts_of_effect memory job op operation c.requires.operation c.pages-pages.ensures.memory.whole).same
    ∙ ap (λ (e : Effect). some_puts e.puts) (effect_of_checked memory job op operation c.job-job.ensures.checked))

pub returns-in-Some-clause-image : goal.returns-in-Some-clause-image
returns-in-Some-clause-image c = image_of_puts c.args.image.now c.args.job.now _ (returns-in-Some-clause-puts c)

pub returns-in-Some-clause-present : goal.returns-in-Some-clause-present
returns-in-Some-clause-present c =
    let memory = c.args.image.now in
    let job = c.args.job.now in
    let op = c.op-op.result in
    let operation = c.op-op.ensures.rules.operation in
    let value = value_at memory job op c.args.whole c.in-Some.piece operation c.requires.whole c.in-Some.is in
    let puts = puts_at memory job c.job-job.result.now op c.args.direction c.in-Some.piece c.scanned_record-answer.result _ value c.job-job.ensures.job (c.requires.direction op operation) c.scanned_record-answer.ensures c.scanned_puts-puts.ensures in
    ap (are_present memory) puts
    ∙ (puts_of_effect memory job op operation c.requires.operation c.pages-pages.ensures.memory.whole).present
