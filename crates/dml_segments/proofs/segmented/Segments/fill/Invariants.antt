use Rattle.std.proofs.Common.{◌≡◌, ◌-◌, ◌%◌, ◌≤◌, ◌⊎◌}
use Rattle.dml_types.specs.Memory.{put}
use Rattle.dml_types.specs.Bytewise.{pattern_bytes}
use Rattle.dml_segments.proofs.segmented.Segments.fill.Given as goal

abbrev pub invariant-loop-done : goal.invariant-loop-done
invariant-loop-done l = record {
  within : l.done ≤ l.len;
  words : (l.done % 8 ≡ 0) ⊎ (l.done ≡ l.len);
  filled : l.self ≡ put l.fn.self l.addr (pattern_bytes l.pattern l.done);
}

abbrev pub decreases-loop-done : goal.decreases-loop-done
decreases-loop-done l = l.len - l.done
