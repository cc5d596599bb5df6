use Rattle.std.proofs.Common.{◌-◌, ◌≡◌, ◌+◌, ◌<◌, ℕ, true}
use Rattle.dml_types.specs.Memory.{has}
use Rattle.dml_image.proofs.runs.present_downwards.Given as goal

-- the last page may pass the range
abbrev pub invariant-loop-done : goal.invariant-loop-done
invariant-loop-done l = (i : ℕ) → i < l.done → i < l.len → has l.image (l.addr + (l.len - 1 - i)) ≡ true

abbrev pub decreases-loop-done : goal.decreases-loop-done
decreases-loop-done l = l.len - l.done
