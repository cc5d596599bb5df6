use Rattle.std.proofs.Common.{◌≡◌, ◌-◌, length, sym, ◌∙◌, arith}
use Rattle.std.proofs.lemmas.Bool.{eqb-true}
use Rattle.dml_buffers.proofs.HoldsLemmas.{no_bytes}
use Rattle.dml_direct.proofs.CreateSteps.{none_written}
use Rattle.dml_direct.proofs.creating.put_entries.Goals as goal

pub returns-then-is_empty-clause-bytes : goal.returns-then-is_empty-clause-bytes
returns-then-is_empty-clause-bytes c =
    let none : length c.args.entries.now ≡ 0 = eqb-true (length c.args.entries.now) 0 (sym c.is_empty.ensures ∙ c.if-is_empty.true) in
    none_written c.args.delta.now c.args.at (length c.args.delta.now - c.args.at) c.args.entries.now (no_bytes c.args.entries.now (omega (arith, none)))
