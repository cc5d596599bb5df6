-- The least range of addresses around some ranges. It decides quickly that two jobs are apart.
use Rattle.std.specs.Prelude.{ℕ, ◌+◌, ◌-◌, ◌^◌, max, min, Bool, ◌&&◌, ◌||◌, List, zero, suc, fold, slice_index_or, nat_le}
use Rattle.dml_types.specs.declared.jobs.Job.{Job}
use Rattle.dml_types.specs.declared.spans.Span.{Span}
use Rattle.dml_types.specs.Job.{no_op_job}
use Rattle.dml_levels.specs.declared.hulls.Hull.{Hull}
use Rattle.dml_levels.specs.declared.hulls.Reach.{Reach}
use Rattle.dml_levels.specs.Touched.{read_spans, written_spans}

-- around no range
abbrev pub no_hull : Hull
no_hull = record { first = 2 ^ 64 - 1; last = 0 }

abbrev pub widened_hull : Hull → Span → Hull
widened_hull hull range =
    record { first = min hull.first range.start; last = max hull.last (range.start + (range.len - 1)) }

abbrev pub hull_of : List Span → Hull
hull_of spans = fold widened_hull no_hull spans

abbrev pub hull_both : Hull → Hull → Hull
hull_both a b = record { first = min a.first b.first; last = max a.last b.last }

abbrev pub hulls_meet : Hull → Hull → Bool
hulls_meet a b = nat_le a.first b.last && nat_le b.first a.last

-- the hulls of what a job reads and of what it writes
abbrev pub reach_of : Job → Reach
reach_of job = record { reads = hull_of (read_spans job); writes = hull_of (written_spans job) }

abbrev pub no_reach : Reach
no_reach = record { reads = no_hull; writes = no_hull }

abbrev pub reach_both : Reach → Reach → Reach
reach_both a b = record { reads = hull_both a.reads b.reads; writes = hull_both a.writes b.writes }

abbrev pub reaches_meet : Reach → Reach → Bool
reaches_meet a b = hulls_meet a.writes b.reads || hulls_meet a.writes b.writes || hulls_meet a.reads b.writes

-- around the first n jobs
abbrev pub reach_so_far : List Job → ℕ → Reach
reach_so_far jobs zero = no_reach
reach_so_far jobs (suc n) = reach_both (reach_so_far jobs n) (reach_of (slice_index_or jobs n no_op_job))
