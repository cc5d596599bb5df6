use Rattle.std.proofs.Common.{sym, ◌∙◌, arith}
use Rattle.dml_types.specs.declared.operations.Direction.TheVariants.{Forward}
use Rattle.dml_image.proofs.RunLemmas.{present_toward_stops}
use Rattle.dml_image.proofs.runs.present_upwards.Goals as goal

pub returns-then-not-has-clause-value : goal.returns-then-not-has-clause-value
returns-then-not-has-clause-value c =
    present_toward_stops Forward c.args.image.now c.args.addr c.args.len _ (omega (arith, c.loop-done-test.true, c.from-all.ensures))
    (λ i low. c.loop-done.invariant i low (omega (arith, c.loop-done-test.true, c.from-all.ensures)))
    (sym c.has.ensures.value ∙ c.if-not-has.true)
