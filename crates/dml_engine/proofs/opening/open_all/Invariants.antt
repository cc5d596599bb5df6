use Rattle.std.proofs.Common.{◌≡◌, ℕ, ◌<◌, ◌≤◌, All, get_or, length, map, take}
use Rattle.std.specs.Prelude.{vec_capacity}
use Rattle.dml_types.specs.Refusal.{need}
use Rattle.dml_levels.specs.Waves.{job_at}
use Rattle.dml_engine.specs.Lists.{idle_record, judged, no_op_record, opened}
use Rattle.dml_engine.proofs.opening.open_all.Given as goal

abbrev pub invariant-loop-i : goal.invariant-loop-i
invariant-loop-i l =
    (l.list.items ≡ map (opened l.fences l.staging) (take l.i l.jobs))
    × (vec_capacity l.list ≡ length l.jobs)
    × All (λ job. need job ≤ l.staging) l.list.items
    × ((k : ℕ) → k < l.i → get_or l.records k no_op_record ≡ idle_record l.staging (judged l.fences (job_at l.jobs k)))
