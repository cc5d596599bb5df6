use Rattle.std.proofs.Common.{◌≡◌, ◌-◌, ◌≤◌, length, take}
use Rattle.dml_types.specs.Memory.{bytes_at}
use Rattle.dml_segments.proofs.segmented.Segments.read_into.Given as goal

abbrev pub invariant-loop-done : goal.invariant-loop-done
invariant-loop-done l = record {
  within : l.done ≤ length l.fn.buffer;
  size : length l.buffer ≡ length l.fn.buffer;
  front : take l.done l.buffer ≡ bytes_at l.self l.addr l.done;
}

abbrev pub decreases-loop-done : goal.decreases-loop-done
decreases-loop-done l = length l.fn.buffer - l.done
