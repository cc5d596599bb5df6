use Rattle.std.proofs.Common.{◌≡◌, ℕ, ◌<◌, get_or, map}
use Rattle.dml_portal.specs.Lanes.{ArePopped, ArePushed, AreSameLanes, IsAnswered, waiting}
use Rattle.dml_portal.specs.declared.lanes.Lane.{Lane}
use Rattle.dml_portal.proofs.answering.push_all_answers.Given as goal

abbrev pub invariant-loop-client : goal.invariant-loop-client
invariant-loop-client l =
    ArePopped l.lanes.items l.log
    × ArePushed l.lanes.items l.log
    × ((client : ℕ) (lane : Lane) → client < l.client → IsAnswered l.log client (get_or l.lanes.items client lane))
    × (map waiting l.lanes.items ≡ map waiting l.initial.lanes.items)
    × AreSameLanes l.initial.lanes.items l.lanes.items
