use Rattle.std.proofs.Common.{◌≡◌, ℕ, ◌/◌, min, List, [], None, Some, Option, length, refl, ◌∙◌, ap, subst, arith}
use Rattle.dml_types.specs.declared.jobs.Job.{Job}
use Rattle.dml_types.specs.Memory.{Memory}
use Rattle.dml_types.specs.Chunk.{create_staged}
use Rattle.dml_types.specs.Delta.{entry_room}
use Rattle.dml_delta.specs.declared.creates.CreatePiece.{CreatePiece}
use Rattle.dml_effect.specs.Chunks.{IsCreateFrom, IsWholeCreate}
use Rattle.dml_effect.proofs.CreatedLemmas.{answer_of_create, create_limits, finished_is, nothing_faults, nothing_staged, puts_are, puts_of_create}
use Rattle.dml_effect.proofs.WholeLemmas.{image_of_puts}
use Rattle.dml_effect.proofs.EntryLemmas.{entries_tens}
use Rattle.dml_effect.proofs.creating.effect_of.Goals as goal

-- where there is no piece, there is no block
no_blocks : (memory : Memory) (job : Job) (whole : Option CreatePiece) → IsWholeCreate memory job whole → whole ≡ None → job.size / 8 ≡ 0
no_blocks memory job whole is at = subst (λ (w : Option CreatePiece). IsWholeCreate memory job w) at is

-- the bytes of the piece are all entries
staged_at : (memory : Memory) (job : Job) (whole : Option CreatePiece) (piece : CreatePiece) → IsWholeCreate memory job whole → whole ≡ Some piece → piece.staged.bytes ≡ create_staged memory job 0 (job.size / 8)
staged_at memory job whole piece is at =
    let value : IsCreateFrom memory job 0 piece × (piece.to ≡ job.size / 8) = subst (λ (w : Option CreatePiece). IsWholeCreate memory job w) at is in
    value.0.staged ∙ ap (create_staged memory job 0) value.1

pub finished-requires-clause-fault : goal.finished-requires-clause-fault
finished-requires-clause-fault c = nothing_faults c.args.image.now c.args.job.now (no_blocks c.args.image.now c.args.job.now c.args.whole c.requires.whole c.in-None.is)

pub returns-in-None-clause-answer : goal.returns-in-None-clause-answer
returns-in-None-clause-answer c =
    let memory = c.args.image.now in
    let job = c.args.job.now in
    let none = no_blocks memory job c.args.whole c.requires.whole c.in-None.is in
    let limits = create_limits job c.job-checked.ensures.checked c.requires.operation in
    c.finished.ensures
    ∙ (finished_is memory job (entries_tens memory job 0 (job.size / 8) c.pages-pages.ensures.memory.whole) limits [] (nothing_staged memory job none) 0 0 refl (omega arith) (omega arith)
    ∙ answer_of_create memory job c.requires.operation c.job-checked.ensures.checked)

pub returns-in-None-clause-puts : goal.returns-in-None-clause-puts
returns-in-None-clause-puts c =
    let memory = c.args.image.now in
    let job = c.args.job.now in
    let none = no_blocks memory job c.args.whole c.requires.whole c.in-None.is in
    let limits = create_limits job c.job-checked.ensures.checked c.requires.operation in
    puts_are memory job (entries_tens memory job 0 (job.size / 8) c.pages-pages.ensures.memory.whole) limits [] (nothing_staged memory job none) 0 0 refl (omega arith)
    ∙ puts_of_create memory job c.requires.operation c.job-checked.ensures.checked

pub returns-in-None-clause-image : goal.returns-in-None-clause-image
returns-in-None-clause-image c = image_of_puts c.args.image.now c.args.job.now [] (returns-in-None-clause-puts c)

pub returns-in-Some-clause-answer : goal.returns-in-Some-clause-answer
returns-in-Some-clause-answer c =
    c.created_record-answer.ensures ∙ answer_of_create c.args.image.now c.args.job.now c.requires.operation c.job-checked.ensures.checked

pub returns-in-Some-clause-puts : goal.returns-in-Some-clause-puts
returns-in-Some-clause-puts c =
    let memory = c.args.image.now in
    let job = c.args.job.now in
    let bytes = c.in-Some.piece.staged.bytes in
    let limits = create_limits job c.job-checked.ensures.checked c.requires.operation in
    let fits : c.room_for-room.result ≡ min (length bytes / 10) (entry_room memory job) =
    c.room_for-room.ensures.value ∙ ap (λ (xs : List ℕ). min (length xs / 10) (entry_room memory job)) c.bytes.ensures.bytes in
    c.record_puts-puts.ensures
    ∙ (puts_are memory job (entries_tens memory job 0 (job.size / 8) c.pages-pages.ensures.memory.whole) limits bytes (staged_at memory job c.args.whole c.in-Some.piece c.requires.whole c.in-Some.is) (length bytes / 10) c.room_for-room.result refl fits
    ∙ puts_of_create memory job c.requires.operation c.job-checked.ensures.checked)

pub returns-in-Some-clause-image : goal.returns-in-Some-clause-image
returns-in-Some-clause-image c = image_of_puts c.args.image.now c.args.job.now _ (returns-in-Some-clause-puts c)
