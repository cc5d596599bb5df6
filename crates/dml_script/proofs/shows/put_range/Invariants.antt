use Rattle.std.proofs.Common.{◌≡◌, ◌*◌, ◌-◌, ◌≤◌, take}
use Rattle.std.specs.List.{flat_map}
use Rattle.dml_script.specs.Output.{shown_text}
use Rattle.dml_script.specs.Run.{shown_bytes}
use Rattle.dml_script.proofs.shows.put_range.Given as goal

abbrev pub invariant-loop-done : goal.invariant-loop-done
invariant-loop-done l = record {
  within : l.done ≤ l.len;
  so_far : take (2 * l.done) l.text ≡ flat_map shown_text (shown_bytes l.image l.addr l.done);
}

abbrev pub decreases-loop-done : goal.decreases-loop-done
decreases-loop-done l = l.len - l.done
