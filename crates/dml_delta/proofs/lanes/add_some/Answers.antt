use Rattle.std.proofs.Common.{◌≡◌, ℕ, ◌+◌, ◌/◌, ◌++◌, List, length, sym, ◌∙◌, ap, arith, append-nil}
use Rattle.dml_delta.specs.Entries.{nth_entry, is_marked}
use Rattle.dml_delta.proofs.EntryLemmas.{gathered_none}
use Rattle.dml_delta.proofs.LaneLemmas.{no_marks}
use Rattle.dml_delta.proofs.lanes.add_some.Goals as goal

pub returns-else-marks-ne0 : goal.returns-else-marks-ne0
returns-else-marks-ne0 c =
    let none : c.args.marks ≡ 0 = omega arith in
    sym (append-nil c.args.entries.now)
    ∙ ap (λ (xs : List ℕ). c.args.entries.now ++ xs) (sym (gathered_none (nth_entry c.args.number c.args.blocks.now) (is_marked c.args.marks) 0 (length c.args.blocks.now / 8) (λ i below. ap (λ (m : ℕ). is_marked m (0 + i)) none ∙ no_marks (0 + i))))
