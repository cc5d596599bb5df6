use Rattle.dml_segments.proofs.SliceLemmas.{copied_back, copied_front, copied_held}
use Rattle.dml_segments.proofs.slices.copy_at.Goals as goal

pub returns-then-from-len : goal.returns-then-from-len
returns-then-from-len c =
    copied_back _ _ _ _ c.args.from _ _ c.split_at_mut-front.ensures.front c.split_at_mut-front.ensures.back
    c.copy_from_slice.ensures.after c.if-from-len.true c.requires.within.1

pub returns-then-to-len : goal.returns-then-to-len
returns-then-to-len c =
    copied_front _ _ _ _ _ _ _ c.split_at_mut-front-then-to-len.ensures.front c.split_at_mut-front-then-to-len.ensures.back
    c.copy_from_slice-then-to-len.ensures.after c.if-to-len.true c.requires.within.0

pub returns-else-to-len : goal.returns-else-to-len
returns-else-to-len c =
    copied_held _ _ _ _ c.args.from _ _ c.copy_from_slice-else-to-len.ensures.after c.copy_from_slice-else-to-len-2.ensures.after
    c.requires.within.0 c.requires.within.1
