-- A batch as one list of waves, and as its pieces.
use Rattle.std.proofs.Common.{◌≡◌, ℕ, ◌+◌, ◌-◌, ◌<◌, zero, suc, Bool, true, false, cond, List, [], ◌∷◌, ◌++◌, length, map, filter, take, refl, sym, ◌∙◌, ap, ap₂, subst, arith, ⊎_elim, append_assoc}
use Rattle.std.proofs.lemmas.Bool.{cases_eq}
use Rattle.std.proofs.lemmas.List.{get_or-map, length-map, take_all}
use Rattle.std.specs.List.{range_with_len}
use Rattle.dml_types.specs.declared.jobs.Job.{Job}
use Rattle.dml_types.specs.Job.{is_fenced, no_op_job, unfenced}
use Rattle.dml_types.specs.Conflict.{conflict, fenced_clash, clash_levels}
use Rattle.dml_order.specs.Order.{IsOrder, run_all}
use Rattle.dml_order.specs.Waves.{further, joined, waves_of}
use Rattle.dml_order.proofs.WaveLemmas.{joined_append, waves_order}
use Rattle.dml_levels.specs.Fences.{IsFence}
use Rattle.dml_levels.specs.Laws.{HoldsConflicts, begun, carried, unless_refused}
use Rattle.dml_levels.specs.Pieces.{AllPiecesAreWaves, IsPiece, OneListIsFold, WavesMeetFences, fenced_unless_refused, later_fences, one_list, piece_of, waves_by_levels, waves_of_pieces}
use Rattle.dml_levels.specs.Waves.{fits_wave, job_at}
use Rattle.dml_levels.proofs.FenceLaws.{fences_only_add, front_is_fold, waves_before_fence}
use Rattle.dml_levels.proofs.LawLemmas.{waves_in_order}
use Rattle.dml_levels.proofs.PartLaws.{conflict_unfenced}
use Rattle.dml_levels.proofs.PieceLaws.{fence_kept, free_kept, pieces_are_waves}

module _ (jobs : List Job) (staging : ℕ) where
  abbrev list : List Job
  list = one_list staging jobs

  abbrev free : List Job
  free = map unfenced jobs

  long : length list ≡ length jobs
  long = length-map jobs (fenced_unless_refused staging)

  long_free : length free ≡ length jobs
  long_free = length-map jobs unfenced

  at : (i : ℕ) → i < length jobs → job_at list i ≡ fenced_unless_refused staging (job_at jobs i)
  at i below = get_or-map (fenced_unless_refused staging) jobs i no_op_job no_op_job below

  -- without its fence a job of the one list is one of the batch, as far as that does anything
  free_at : (i : ℕ) → i < length jobs → unless_refused staging (job_at free i) ≡ unfenced (job_at list i)
  free_at i below =
      ap (unless_refused staging) (get_or-map unfenced jobs i no_op_job no_op_job below)
      ∙ (sym (free_kept staging (job_at jobs i)) ∙ ap unfenced (sym (at i below)))

  list_holds : HoldsConflicts (fenced_clash list) free staging
  list_holds =
      fences_only_add free list staging
      (λ i k low below apart.
      let last : k < length jobs = omega (arith, below, long_free) in
      ap₂ conflict (free_at i (omega (arith, low, last))) (free_at k last)
      ∙ (conflict_unfenced (job_at list i) (job_at list k) ∙ apart))

  fence_of_list : (fence : ℕ) → IsFence jobs fence → IsFence list fence
  fence_of_list fence is = record {
    below = omega (arith, is.below, long);
    fenced = ap is_fenced (at fence is.below) ∙ (fence_kept staging (job_at jobs fence) ∙ is.fenced);
  }

  list_order : (chunk : ℕ) → IsOrder (fenced_clash list) (length free) (joined (waves_by_levels staging chunk list))
  list_order chunk =
      subst (λ n. IsOrder (fenced_clash list) n (joined (waves_by_levels staging chunk list))) (long ∙ sym long_free)
      (waves_order (fits_wave list staging chunk) (fenced_clash list) (length list))

pub one_list_is_fold : OneListIsFold
one_list_is_fold memory jobs staging chunk blank whole size =
    let own = list jobs staging in
    let these = free jobs staging in
    let fits = fits_wave own staging chunk in
    ap (λ n. run_all (carried these staging) (begun memory blank) (joined (waves_of fits (clash_levels (fenced_clash own) n))))
    (long jobs staging ∙ sym (long_free jobs staging))
    ∙ waves_in_order memory these staging blank (fenced_clash own) fits whole (size ∙ sym (long_free jobs staging)) (list_holds jobs staging)

pub waves_meet_fences : WavesMeetFences
waves_meet_fences jobs staging chunk fence front next behind is cut ends =
    let own = list jobs staging in
    let these = free jobs staging in
    let fence_is = fence_of_list jobs staging fence is in
    let held = waves_before_fence own (fits_wave own staging chunk) fence front next behind fence_is cut ends in
    let order : IsOrder (fenced_clash own) (length these) (joined front ++ joined (next ∷ behind)) =
    subst (IsOrder (fenced_clash own) (length these)) (ap joined cut ∙ joined_append front (next ∷ behind)) (list_order jobs staging chunk) in
    record {
      holds = held;
      fold = λ memory blank whole size.
          front_is_fold memory these staging blank (fenced_clash own) (joined front) (joined (next ∷ behind)) fence whole (size ∙ sym (long_free jobs staging)) (list_holds jobs staging) order (omega (arith, is.below, long_free jobs staging)) held;
    }

-- ends at which one piece follows another, to the end of the batch
abbrev ArePieces : List Job → ℕ → List ℕ → Type 0
ArePieces jobs from [] = IsPiece jobs from (length jobs)
ArePieces jobs from (to ∷ fences) = IsPiece jobs from to × ArePieces jobs to fences

fences_are_pieces : (jobs : List Job) (from at count : ℕ) → from < at → at + count ≡ length jobs
    → (0 < from → is_fenced (job_at jobs from) ≡ true)
    → ((i : ℕ) → from < i → i < at → is_fenced (job_at jobs i) ≡ false)
    → ArePieces jobs from (filter (λ i. is_fenced (job_at jobs i)) (range_with_len at count))
fences_are_pieces jobs from at zero order end begins none = record {
  order = omega (arith, order, end);
  within = omega arith;
  begins = begins;
  free = λ i low below. none i low (omega (arith, below, end));
}
fences_are_pieces jobs from at (suc count) order end begins none =
    let test : ℕ → Bool = λ i. is_fenced (job_at jobs i) in
    let rest = filter test (range_with_len (at + 1) count) in
    let more : at + 1 + count ≡ length jobs = omega (arith, end) in
    elim (test at) as (λ b. test at ≡ b → ArePieces jobs from (cond b (at ∷ rest) rest)) [
      | true ↦ λ fenced. (
        record { order = order; within = omega (arith, end); begins = begins; free = none },
        fences_are_pieces jobs at (at + 1) count (omega arith) more (λ some. fenced) (λ i low below. absurd (omega (arith, low, below))),
      )
      | false ↦ λ free_there.
          fences_are_pieces jobs from (at + 1) count (omega (arith, order)) more begins
          (λ i low below.
          ⊎_elim (λ same. ap (λ (k : ℕ). is_fenced (job_at jobs k)) same ∙ free_there) (λ other. none i low (omega (arith, below, other)))
          (cases_eq i at))
    ] refl

waves_from_pieces : (jobs : List Job) (staging chunk from : ℕ) (fences : List ℕ) → ArePieces jobs from fences
    → waves_by_levels staging chunk (one_list staging jobs)
    ≡ waves_by_levels staging chunk (take from (one_list staging jobs)) ++ waves_of_pieces staging chunk jobs from fences
waves_from_pieces jobs staging chunk from [] is =
    let whole = one_list staging jobs in
    let size : length whole ≡ length jobs = length-map jobs (fenced_unless_refused staging) in
    ap (waves_by_levels staging chunk) (sym (take_all (length jobs) whole (omega (arith, size))))
    ∙ pieces_are_waves jobs staging chunk from (length jobs) is
waves_from_pieces jobs staging chunk from (to ∷ fences) is =
    let whole = one_list staging jobs in
    let front = waves_by_levels staging chunk (take from whole) in
    let own = further from (waves_by_levels staging chunk (piece_of staging jobs from to)) in
    let rest = waves_of_pieces staging chunk jobs to fences in
    waves_from_pieces jobs staging chunk to fences is.1
    ∙ (ap (λ (waves : List (List ℕ)). waves ++ rest) (pieces_are_waves jobs staging chunk from to is.0)
    ∙ append_assoc front own rest)

pub all_pieces_are_waves : AllPiecesAreWaves
all_pieces_are_waves jobs staging chunk some =
    waves_from_pieces jobs staging chunk 0 (later_fences jobs)
    (fences_are_pieces jobs 0 1 (length jobs - 1) (omega arith) (omega (arith, some)) (λ low. absurd (omega (arith, low))) (λ i low below. absurd (omega (arith, low, below))))
