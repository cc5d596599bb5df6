-- The law of order with fences: all jobs before a fenced one stand in earlier waves than it and all later
-- ones.
use Rattle.std.specs.Prelude.{◌≡◌, ℕ, ◌+◌, ◌<◌, ◌≤◌, Bool, true, List, ◌∷◌, ◌++◌, length, map, take, drop, nat_lt, slice_index}
use Rattle.dml_types.specs.declared.jobs.Job.{Job}
use Rattle.dml_types.specs.declared.records.Record.{Record}
use Rattle.dml_types.specs.Job.{is_fenced, unfenced}
use Rattle.dml_types.specs.Memory.{Memory, IsWhole}
use Rattle.dml_types.specs.Conflict.{clash_of, fenced_clash, fenced_levels}
use Rattle.dml_types.specs.Step.{memory_after, records_of}
use Rattle.dml_order.specs.Order.{run_all, is_in, IsOrder}
use Rattle.dml_order.specs.Waves.{further, joined, waves_of}
use Rattle.dml_levels.specs.Laws.{begun, carried, HoldsConflicts}
use Rattle.dml_levels.specs.Waves.{job_at}

-- fences only add clashes, so that these still hold the conflicts
abbrev pub FencesOnlyAdd : Type 0
FencesOnlyAdd =
    (jobs these : List Job) (staging : ℕ) → HoldsConflicts (clash_of these) jobs staging
    → HoldsConflicts (fenced_clash these) jobs staging

-- a place of the list whose job is fenced
pub record IsFence (jobs : List Job) (fence : ℕ) : Type 0 where
  pub below : fence < length jobs
  pub fenced : is_fenced (job_at jobs fence) ≡ true

abbrev pub FencesPart : Type 0
FencesPart =
    (jobs : List Job) (fence i k : ℕ) → IsFence jobs fence → i < fence → fence ≤ k → k < length jobs
    → slice_index (fenced_levels jobs) i < slice_index (fenced_levels jobs) k

-- waves that end before the first one with a place at a fence or behind it
pub record EndsAtFence (fence : ℕ) (front : List (List ℕ)) (next : List ℕ) : Type 0 where
  pub before : (i : ℕ) → is_in i (joined front) ≡ true → i < fence
  pub reached : ℕ
  pub in_next : is_in reached next ≡ true
  pub behind : fence ≤ reached

-- they hold all places before the fence, and no other
abbrev pub WavesBeforeFence : Type 0
WavesBeforeFence =
    (jobs : List Job) (fits : List ℕ → Bool) (fence : ℕ)
    (front : List (List ℕ)) (next : List ℕ) (behind : List (List ℕ))
    → IsFence jobs fence → waves_of fits (fenced_levels jobs) ≡ front ++ next ∷ behind
    → EndsAtFence fence front next
    → (i : ℕ) → is_in i (joined front) ≡ nat_lt i fence

-- the front of an order that holds the first places and no other gives the image and the records of their
-- jobs, and leaves all other records
abbrev pub FrontIsFold : Type 0
FrontIsFold =
    (memory : Memory) (jobs : List Job) (staging : ℕ) (blank : List Record) (clash : ℕ → ℕ → Bool)
    (front behind : List ℕ) (count : ℕ)
    → IsWhole memory → length blank ≡ length jobs → HoldsConflicts clash jobs staging
    → IsOrder clash (length jobs) (front ++ behind) → count ≤ length jobs
    → ((i : ℕ) → is_in i front ≡ nat_lt i count)
    → run_all (carried jobs staging) (begun memory blank) front
    ≡ begun (memory_after memory (take count jobs) staging)
    (records_of memory (take count jobs) staging ++ drop count blank)

-- the jobs of a batch without their fences are such that its clashes hold their conflicts
abbrev pub BatchesHoldConflicts : Type 0
BatchesHoldConflicts =
    (jobs : List Job) (staging : ℕ) → HoldsConflicts (fenced_clash jobs) (map unfenced jobs) staging

-- waves that are parted at a place: those in front hold all places before it, those behind only it and later
-- ones, and those in front give the fold of the jobs before it, of each list whose conflicts the clashes hold
pub record ArePartedAt (jobs : List Job) (place : ℕ) (waves front behind : List (List ℕ)) : Type 0 where
  pub all : waves ≡ front ++ behind
  pub in_front : (i : ℕ) → is_in i (joined front) ≡ nat_lt i place
  pub in_behind : (i : ℕ) → is_in i (joined behind) ≡ true → place ≤ i
  pub fold :
      (memory : Memory) (these : List Job) (staging : ℕ) (blank : List Record)
      → IsWhole memory → length these ≡ length jobs → length blank ≡ length jobs
      → HoldsConflicts (fenced_clash jobs) these staging
      → run_all (carried these staging) (begun memory blank) (joined front)
      ≡ begun (memory_after memory (take place these) staging)
      (records_of memory (take place these) staging ++ drop place blank)

-- a fence parts the waves into those of the jobs before it, by themselves, and those of it and all later jobs,
-- by themselves, at their places. So the waves of a list are those of its pieces from each fence up to the next
abbrev pub FencesPartWaves : Type 0
FencesPartWaves =
    (jobs : List Job) (fits : List ℕ → Bool) (fence : ℕ) → IsFence jobs fence
    → ArePartedAt jobs fence (waves_of fits (fenced_levels jobs))
    (waves_of fits (fenced_levels (take fence jobs)))
    (further fence
    (waves_of (λ places. fits (map (λ i. fence + i) places)) (fenced_levels (drop fence jobs))))
