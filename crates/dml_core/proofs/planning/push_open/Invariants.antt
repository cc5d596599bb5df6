use Rattle.std.proofs.Common.{◌≡◌, filter}
use Rattle.std.specs.List.{range_with_len}
use Rattle.dml_core.specs.Plan.{is_open}
use Rattle.dml_core.proofs.planning.push_open.Given as goal

abbrev pub invariant-loop-i : goal.invariant-loop-i
invariant-loop-i l = l.places.items ≡ filter (is_open l.fetched) (range_with_len 0 l.i)
