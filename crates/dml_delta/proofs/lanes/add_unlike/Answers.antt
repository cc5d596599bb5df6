use Rattle.std.proofs.Common.{◌≡◌, ℕ, ◌+◌, ◌/◌, ◌++◌, List, length, sym, ◌∙◌, ap, arith, append-nil}
use Rattle.std.specs.Prelude.{bit_xor}
use Rattle.dml_delta.specs.Entries.{nth_entry, is_marked}
use Rattle.dml_delta.proofs.EntryLemmas.{gathered_none}
use Rattle.dml_delta.proofs.LaneLemmas.{no_marks}
use Rattle.dml_delta.proofs.lanes.add_unlike.Goals as goal

pub returns-else-alike-ne-ALL-clause-bytes : goal.returns-else-alike-ne-ALL-clause-bytes
returns-else-alike-ne-ALL-clause-bytes c =
    let here = c.args.room.now.bytes ++ c.args.entries.now in
    let all : c.args.alike ≡ 255 = omega arith in
    sym (append-nil here)
    ∙ ap (λ (xs : List ℕ). here ++ xs) (sym (gathered_none (nth_entry c.args.number c.args.blocks.now) (is_marked (bit_xor 255 c.args.alike)) 0 (length c.args.blocks.now / 8) (λ i below. ap (λ (m : ℕ). is_marked (bit_xor 255 m) (0 + i)) all ∙ no_marks (0 + i))))
