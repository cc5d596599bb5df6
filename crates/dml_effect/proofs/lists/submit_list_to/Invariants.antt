use Rattle.std.proofs.Common.{◌≡◌, ◌++◌, take, drop}
use Rattle.dml_types.specs.Step.{memory_after, records_of}
use Rattle.dml_effect.proofs.lists.submit_list_to.Given as goal

abbrev pub invariant-loop-i : goal.invariant-loop-i
invariant-loop-i l =
    (memory_after l.image (drop l.i l.jobs) l.staging ≡ memory_after l.initial.image l.jobs l.staging)
    × (take l.i l.records ++ records_of l.image (drop l.i l.jobs) l.staging ≡ records_of l.initial.image l.jobs l.staging)
    × (l.arena ≡ l.initial.arena)
