-- The records of a batch's first jobs are those that they have as a batch by themselves.
use Rattle.std.proofs.Common.{◌≡◌, ℕ, ◌+◌, ◌-◌, ◌<◌, ◌≤◌, zero, suc, Bool, not, List, [], ◌∷◌, ◌++◌, length, get_or, map, take, refl, sym, ◌∙◌, ap, arith, ⊎_elim}
use Rattle.std.proofs.lemmas.Bool.{cases_lt}
use Rattle.std.proofs.lemmas.List.{get_or-append_right, get_or-take, get_or_append_left, length-append, length-map, length-take, map-append}
use Rattle.std.specs.Prelude.{◌&&◌, replicate}
use Rattle.dml_types.specs.declared.jobs.Job.{Job}
use Rattle.dml_types.specs.declared.records.Record.{Record}
use Rattle.dml_types.specs.declared.statuses.Status.TheVariants.{Abandoned}
use Rattle.dml_types.specs.Job.{is_fenced, no_op_job, unfenced}
use Rattle.dml_types.specs.Memory.{Memory, first}
use Rattle.dml_types.specs.Effect.{ended}
use Rattle.dml_types.specs.Step.{batch, ends_before, have_succeeded, memory_after, records_of}
use Rattle.dml_types.proofs.BatchLemmas.{take_records}
use Rattle.dml_types.proofs.FirstLemmas.{first_agree, first_le, first_left, first_right}
use Rattle.dml_types.proofs.StepLemmas.{length_records_of, records_of_append}

abbrev pub blank : Record
blank = ended Abandoned 0 0 0

all_blank : (n i : ℕ) → get_or (replicate n blank) i blank ≡ blank
all_blank zero i = refl
all_blank (suc n) zero = refl
all_blank (suc n) (suc i) = all_blank n i

take_front : (n : ℕ) (xs ys : List Record) → n ≤ length xs → take n (xs ++ ys) ≡ take n xs
take_front zero xs ys within = refl
take_front (suc n) [] ys within = absurd (omega (arith, within))
take_front (suc n) (x ∷ xs) ys within = ap (λ (rest : List Record). x ∷ rest) (take_front n xs ys (omega (arith, within)))

module _ (memory : Memory) (jobs : List Job) (staging : ℕ) where
  abbrev records : List Record
  records = records_of memory (map unfenced jobs) staging

  abbrev count : ℕ
  count = first (length jobs) (ends_before jobs records)

  within : count ≤ length jobs
  within = first_le (length jobs) (ends_before jobs records)

  length_done : length (records_of memory (take count (map unfenced jobs)) staging) ≡ count
  length_done =
      omega (arith, length_records_of memory (take count (map unfenced jobs)) staging, length-take count (map unfenced jobs), length-map jobs unfenced, within)

  record_done : (i : ℕ) → i < count → get_or (batch memory jobs staging).2 i blank ≡ get_or records i blank
  record_done i low =
      let done = take count (map unfenced jobs) in
      get_or_append_left (records_of memory done staging) (replicate (length jobs - length done) blank) blank i (omega (arith, length_done, low))
      ∙ (ap (λ (rs : List Record). get_or rs i blank) (sym (take_records memory (map unfenced jobs) staging count)) ∙ get_or-take count records i blank low)

  record_left : (i : ℕ) → count ≤ i → get_or (batch memory jobs staging).2 i blank ≡ blank
  record_left i high =
      let done = take count (map unfenced jobs) in
      get_or-append_right (records_of memory done staging) (replicate (length jobs - length done) blank) count i blank length_done high
      ∙ all_blank (length jobs - length done) (i - count)

module _ (memory : Memory) (front back : List Job) (staging : ℕ) where
  abbrev jobs : List Job
  jobs = front ++ back

  abbrev test : List Job → ℕ → Bool
  test these = ends_before these (records_of memory (map unfenced these) staging)

  records_split : records memory jobs staging ≡ records memory front staging ++ records_of (memory_after memory (map unfenced front) staging) (map unfenced back) staging
  records_split =
      ap (λ (these : List Job). records_of memory these staging) (map-append unfenced front back)
      ∙ records_of_append memory (map unfenced front) (map unfenced back) staging

  length_front : length (records memory front staging) ≡ length front
  length_front = length_records_of memory (map unfenced front) staging ∙ length-map front unfenced

  same_test : (i : ℕ) → i < length front → test jobs i ≡ test front i
  same_test i low =
      let here : take i (records memory jobs staging) ≡ take i (records memory front staging) =
      ap (take i) records_split ∙ take_front i (records memory front staging) _ (omega (arith, length_front, low)) in
      ap (λ (job : Job). is_fenced job && not (have_succeeded (take i (records memory jobs staging)))) (get_or_append_left front back no_op_job i low)
      ∙ ap (λ (rs : List Record). is_fenced (get_or front i no_op_job) && not (have_succeeded rs)) here

  same_first : first (length front) (test jobs) ≡ count memory front staging
  same_first = first_agree (length front) (test jobs) (test front) same_test

  whole_first : count memory jobs staging ≡ first (length front + length back) (test jobs)
  whole_first = ap (λ n. first n (test jobs)) (length-append front back)

  cut_short : first (length front) (test jobs) < length front → count memory jobs staging ≡ count memory front staging
  cut_short low = whole_first ∙ (first_left (length front) (length back) (test jobs) low ∙ same_first)

  reaches : (i : ℕ) → i < count memory front staging → i < count memory jobs staging
  reaches i low =
      ⊎_elim (λ short. omega (arith, low, cut_short short))
      (λ full.
      let all : first (length front) (test jobs) ≡ length front = omega (arith, full, first_le (length front) (test jobs)) in
      omega (arith, low, same_first, all, whole_first, first_right (length front) (length back) (test jobs) all))
      (cases_lt (first (length front) (test jobs)) (length front))

  pub record_same : (i : ℕ) → i < length front → get_or (batch memory jobs staging).2 i blank ≡ get_or (batch memory front staging).2 i blank
  record_same i below =
      ⊎_elim (λ low.
      record_done memory jobs staging i (reaches i low)
      ∙ (ap (λ (rs : List Record). get_or rs i blank) records_split
      ∙ (get_or_append_left (records memory front staging) _ blank i (omega (arith, length_front, below)) ∙ sym (record_done memory front staging i low))))
      (λ high.
      let short : first (length front) (test jobs) < length front = omega (arith, same_first, high, below) in
      record_left memory jobs staging i (omega (arith, cut_short short, high)) ∙ sym (record_left memory front staging i high))
      (cases_lt i (count memory front staging))
