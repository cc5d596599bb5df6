use Rattle.std.proofs.Common.{◌≡◌, ℕ, ◌-◌, ◌/◌, ◌<◌, ◌≤◌, true, length}
use Rattle.dml_types.specs.Delta.{block_number}
use Rattle.dml_delta.specs.Record.{is_allowed, least_in}
use Rattle.dml_delta.proofs.record.judge.Given as goal

abbrev pub decreases-loop-i : goal.decreases-loop-i
decreases-loop-i l = length l.entries / 10 - l.i

abbrev pub invariant-loop-i : goal.invariant-loop-i
invariant-loop-i l = record {
  within : l.i ≤ length l.entries / 10;
  least : l.least ≡ least_in l.initial.least l.entries l.i;
  allowed : (k : ℕ) → k < l.i → is_allowed l.image l.job (least_in l.initial.least l.entries k) (block_number l.entries k) ≡ true;
}
