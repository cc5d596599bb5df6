use Rattle.std.proofs.Common.{ℕ, ◌+◌, ◌-◌, sym, ◌∙◌, ap, arith}
use Rattle.dml_types.specs.declared.operations.Direction.TheVariants.{Backward}
use Rattle.dml_types.specs.Memory.{has}
use Rattle.dml_image.proofs.RunLemmas.{present_toward_stops}
use Rattle.dml_image.proofs.runs.present_downwards.Goals as goal

pub returns-then-not-has-clause-value : goal.returns-then-not-has-clause-value
returns-then-not-has-clause-value c =
    present_toward_stops Backward c.args.image.now c.args.addr c.args.len _ (omega (arith, c.loop-done-test.true, c.from-all.ensures))
    (λ i low. c.loop-done.invariant i low (omega (arith, c.loop-done-test.true, c.from-all.ensures)))
    (ap (λ (n : ℕ). has c.args.image.now (c.args.addr + (n - 1 - c.loop-done.done))) (sym c.from-all.ensures)
    ∙ (sym c.has.ensures.value ∙ c.if-not-has.true))
