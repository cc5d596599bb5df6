use Rattle.std.proofs.Common.{◌/◌, length, refl, ◌∙◌, ap, arith}
use Rattle.dml_types.specs.Delta.{crowded}
use Rattle.dml_effect.proofs.CreatedLemmas.{bytes_few, create_limits, crowded_is, finished_is, room_stops, written_most}
use Rattle.dml_effect.proofs.EntryLemmas.{entries_tens}
use Rattle.dml_effect.proofs.creating.created_record.Goals as goal

pub overflow_cast-count : goal.overflow_cast-count
overflow_cast-count c =
    let few = bytes_few c.args.image.now c.args.job.now (entries_tens c.args.image.now c.args.job.now 0 (c.args.job.now.size / 8) c.pages-pages.ensures.memory.whole) (create_limits c.args.job.now c.job-checked.ensures.checked c.requires.operation) c.args.entries.now c.requires.entries in
    omega (arith, few)

pub crowded-requires-clause-most : goal.crowded-requires-clause-most
crowded-requires-clause-most c =
    let limits = create_limits c.args.job.now c.job-checked.ensures.checked c.requires.operation in
    written_most c.args.image.now c.args.job.now (entries_tens c.args.image.now c.args.job.now 0 (c.args.job.now.size / 8) c.pages-pages.ensures.memory.whole) limits c.args.entries.now c.requires.entries (length c.args.entries.now / 10) c.args.room refl c.requires.room

pub crowded-requires-clause-stops : goal.crowded-requires-clause-stops
crowded-requires-clause-stops c =
    let limits = create_limits c.args.job.now c.job-checked.ensures.checked c.requires.operation in
    room_stops c.args.image.now c.args.job.now (entries_tens c.args.image.now c.args.job.now 0 (c.args.job.now.size / 8) c.pages-pages.ensures.memory.whole) limits c.args.entries.now c.requires.entries (length c.args.entries.now / 10) c.args.room refl c.requires.room (omega arith)

pub finished-requires-clause-most : goal.finished-requires-clause-most
finished-requires-clause-most c =
    let limits = create_limits c.args.job.now c.job-checked.ensures.checked c.requires.operation in
    omega (arith, written_most c.args.image.now c.args.job.now (entries_tens c.args.image.now c.args.job.now 0 (c.args.job.now.size / 8) c.pages-pages.ensures.memory.whole) limits c.args.entries.now c.requires.entries (length c.args.entries.now / 10) c.args.room refl c.requires.room)

pub returns-then-room-count : goal.returns-then-room-count
returns-then-room-count c =
    let limits = create_limits c.args.job.now c.job-checked.ensures.checked c.requires.operation in
    c.crowded.ensures
    ∙ (ap (crowded c.args.image.now c.args.job.now c.args.room) c.block_number.ensures
    ∙ crowded_is c.args.image.now c.args.job.now (entries_tens c.args.image.now c.args.job.now 0 (c.args.job.now.size / 8) c.pages-pages.ensures.memory.whole) limits c.args.entries.now c.requires.entries (length c.args.entries.now / 10) c.args.room refl c.requires.room (omega arith))

pub returns-else-room-count : goal.returns-else-room-count
returns-else-room-count c =
    let limits = create_limits c.args.job.now c.job-checked.ensures.checked c.requires.operation in
    c.finished.ensures
    ∙ finished_is c.args.image.now c.args.job.now (entries_tens c.args.image.now c.args.job.now 0 (c.args.job.now.size / 8) c.pages-pages.ensures.memory.whole) limits c.args.entries.now c.requires.entries (length c.args.entries.now / 10) c.args.room refl c.requires.room (omega arith)
