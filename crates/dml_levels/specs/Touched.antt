-- The ranges that a job touches.
use Rattle.std.specs.Prelude.{List, filter, nat_lt}
use Rattle.dml_types.specs.declared.jobs.Job.{Job}
use Rattle.dml_types.specs.declared.spans.Span.{Span}
use Rattle.dml_types.specs.Job.{reads, writes}
use Rattle.dml_types.specs.Conflict.{ranges_of}
use Rattle.dml_levels.specs.declared.touched.Touches.{Touches}

-- the ranges that are not empty
abbrev pub some_spans : List Span → List Span
some_spans spans = filter (λ range. nat_lt 0 range.len) spans

abbrev pub read_spans : Job → List Span
read_spans job = some_spans (ranges_of reads job)

abbrev pub written_spans : Job → List Span
written_spans job = some_spans (ranges_of writes job)

abbrev pub touched_by : Job → Touches
touched_by job = record { reads = read_spans job; writes = written_spans job }
