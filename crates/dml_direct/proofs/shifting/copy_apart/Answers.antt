use Rattle.std.proofs.Common.{arith}
use Rattle.dml_segments.proofs.SliceLemmas.{copied_front}
use Rattle.dml_direct.proofs.ShiftLemmas.{copied_behind}
use Rattle.dml_direct.proofs.shifting.copy_apart.Goals as goal

pub returns-then-from-to : goal.returns-then-from-to
returns-then-from-to c =
    copied_behind _ _ _ _ _ _ c.args.from c.args.to _ c.split_at_mut-front.ensures.front c.split_at_mut-front.ensures.back
    c.split_at_mut-source.ensures.front c.split_at_mut-source.ensures.back c.copy.ensures
    (omega (arith, c.requires.apart, c.if-from-to.true)) c.requires.within.1

pub returns-else-from-to : goal.returns-else-from-to
returns-else-from-to c =
    copied_front _ _ _ _ _ _ _ c.split_at_mut-front.ensures.front c.split_at_mut-front.ensures.back
    c.copy-else-from-to.ensures (omega (arith, c.requires.apart, c.if-from-to.false)) c.requires.within.0
