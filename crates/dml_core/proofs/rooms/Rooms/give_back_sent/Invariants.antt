use Rattle.std.proofs.Common.{◌≡◌}
use Rattle.dml_core.proofs.rooms.Rooms.give_back_sent.Given as goal

abbrev pub invariant-loop-i : goal.invariant-loop-i
invariant-loop-i l = l.sent.items ≡ l.initial.sent.items
