use Rattle.std.proofs.Common.{ℕ, ◌-◌, List, length, take, sym, ◌∙◌, ap, arith}
use Rattle.dml_types.specs.Memory.{overwrite}
use Rattle.dml_direct.specs.Buffers.{drawn}
use Rattle.dml_direct.proofs.CreateLaws.{entries_long}
use Rattle.dml_direct.proofs.creating.put_run.Goals as goal

pub put_entries-drawn-requires-clause-whole : goal.put_entries-drawn-requires-clause-whole
put_entries-drawn-requires-clause-whole c =
    omega (arith, ap (λ (xs : List ℕ). length xs) (c.bytes.ensures ∙ c.add_blocks.ensures), entries_long c.args.number c.args.one.now c.args.other.now (sym c.requires.lengths))

pub returns-clause-bytes : goal.returns-clause-bytes
returns-clause-bytes c =
    c.put_entries-drawn.ensures.bytes
    ∙ ap (λ (xs : List ℕ). overwrite c.args.delta.now c.args.at (take (length c.args.delta.now - c.args.at) xs)) (c.bytes.ensures ∙ c.add_blocks.ensures)

pub returns-clause-drawn : goal.returns-clause-drawn
returns-clause-drawn c =
    c.put_entries-drawn.ensures.drawn ∙ ap (drawn c.args.at (length c.args.delta.now)) (c.bytes.ensures ∙ c.add_blocks.ensures)
