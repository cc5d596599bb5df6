-- Rounds that are carried out part by part.
use Rattle.std.specs.Prelude.{◌≡◌, ℕ, ◌-◌, List, ◌++◌, drop, length, slice_index_or, take}
use Rattle.std.specs.List.{slice_range, sum_by}
use Rattle.dml_portal.specs.Types.{Job, Record}
use Rattle.dml_portal.specs.Lanes.{EachLane}
use Rattle.dml_portal.specs.Whole.{kept_by}
use Rattle.dml_portal.specs.declared.lanes.Lane.{Lane}

-- how many bytes the jobs of a list move, fill, compare or make from one place up to another, by their sizes
abbrev pub bytes_of : List Job → ℕ → ℕ → ℕ
bytes_of jobs from to = sum_by (λ job. job.size) (slice_range jobs from to)

-- of a client's block of a round's records those that are among these, the first of the round, were pushed or wait, and
-- its lane says where the others stand behind these
pub record IsPartly (records : List Record) (lane now : Lane) : Type 0 where
  pub kept : kept_by now ≡ kept_by lane ++ take lane.fetched (drop lane.before records)
  pub left : now.fetched ≡ lane.fetched - length (take lane.fetched (drop lane.before records))
  pub before : now.before ≡ lane.before - length records

abbrev pub ArePartly : List Record → List Lane → List Lane → Type 0
ArePartly records lanes now =
    EachLane (λ client lane. IsPartly records (slice_index_or lanes client lane) lane) now
