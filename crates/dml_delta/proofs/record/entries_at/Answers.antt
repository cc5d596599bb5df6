use Rattle.std.proofs.Common.{◌≡◌, ◌+◌, length, ◌∙◌, ap, arith}
use Rattle.dml_types.specs.Memory.{has}
use Rattle.dml_types.proofs.MemoryLemmas.{has_all_at}
use Rattle.dml_delta.proofs.UnitLemmas.{has_front}
use Rattle.dml_delta.proofs.record.entries_at.Goals as goal

pub part-part-requires : goal.part-part-requires
part-part-requires c =
    let start : c.args.place ≡ c.args.place + 0 = omega arith in
    ap (has c.args.image.now) start ∙ has_all_at c.args.image.now c.args.place c.args.left 0 c.requires.present (omega arith)

pub read_into-requires : goal.read_into-requires
read_into-requires c =
    has_front c.args.image.now c.args.place (length c.args.edge.now) c.args.left c.requires.present (omega arith)
