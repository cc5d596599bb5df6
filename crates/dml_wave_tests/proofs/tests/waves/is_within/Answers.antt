use Rattle.std.proofs.Common.{◌<◌, subst, arith}
use Rattle.std.specs.List.{All}
use Rattle.std.proofs.lemmas.List.{take_all}
use Rattle.std.proofs.lemmas.List.Elements.{All-more}
use Rattle.dml_wave_tests.proofs.tests.waves.is_within.Goals as goal

pub loop-place-preserved : goal.loop-place-preserved
loop-place-preserved c =
    All-more (λ i. i < c.args.count) c.args.wave.now c.loop-place.place-index 0 (omega (arith, c.loop-place-test.true)) c.loop-place.invariant
    (omega (arith, c.if-place-count.false))

pub returns : goal.returns
returns c = λ all.
    subst (All (λ i. i < c.args.count)) (take_all c.loop-place.place-index c.args.wave.now (omega (arith, c.loop-place-test.false))) c.loop-place.invariant
