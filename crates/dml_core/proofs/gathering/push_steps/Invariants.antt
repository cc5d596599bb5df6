use Rattle.std.proofs.Common.{◌≡◌, ℕ, ◌-◌, ◌<◌, ◌≤◌, true, drop, length, take}
use Rattle.dml_core.specs.Plan.{open_places}
use Rattle.dml_core.specs.Gather.{AreGathered, AreParts, FetchesAt, counts_of, fetch_follows, listed}
use Rattle.dml_core.proofs.gathering.push_steps.Given as goal

abbrev pub invariant-loop-i : goal.invariant-loop-i
invariant-loop-i l = record {
  all : AreGathered (listed l.initial.sent.items l.initial.fetched.items) (take l.i l.steps) (listed l.sent.items l.fetched.items);
  counted : l.open_jobs ≡ length (open_places l.fetched.items);
  parts : AreParts (counts_of l.sent.items) l.fetched.items;
  onward : l.i ≤ l.end;
  within : l.end ≤ length l.steps;
  last : 0 < l.end → FetchesAt l.steps (l.end - 1);
  follows : (k : ℕ) → l.i ≤ k → k < l.end → fetch_follows (length l.initial.sent.items) (drop k l.steps) ≡ true;
  few : 0 < l.i → length (open_places l.fetched.items) ≤ 1024;
  fixed : l.i ≡ 0 → l.fetched.items ≡ l.initial.fetched.items;
}
