use Rattle.std.proofs.Common.{◌≡◌, ◌≤◌, length, take}
use Rattle.dml_core.specs.Gather.{Lists, AreGathered, AreParts, NoneFetches, counts_of, listed}
use Rattle.dml_core.proofs.gathering.take_back.Given as goal

abbrev pub invariant-loop-left : goal.invariant-loop-left
invariant-loop-left l =
    (l.left ≤ length l.steps)
    × (l.from ≤ l.left)
    × ((first : Lists) → AreGathered first l.steps (listed l.initial.sent.items l.initial.fetched.items)
    → AreGathered first (take l.left l.steps) (listed l.sent.items l.fetched.items))
    × (NoneFetches l.steps l.from → l.fetched.items ≡ l.initial.fetched.items)
    × AreParts (counts_of l.sent.items) l.fetched.items

abbrev pub decreases-loop-left : goal.decreases-loop-left
decreases-loop-left l = l.left
