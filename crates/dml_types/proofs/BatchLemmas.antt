-- Batches: how far they are carried out, and what they are without fences.
use Rattle.std.proofs.Common.{◌≡◌, ℕ, ◌-◌, ◌<◌, ◌≤◌, zero, suc, true, false, List, [], ◌∷◌, ◌++◌, length, get_or, map, take, refl, ◌∙◌, ap, arith}
use Rattle.std.proofs.lemmas.Bool.{or_parts, and_left}
use Rattle.std.proofs.lemmas.List.{append-nil, length-append, length-map, take_all}
use Rattle.std.proofs.lemmas.List.{length-replicate}
use Rattle.std.specs.List.{list_any}
use Rattle.std.specs.Prelude.{replicate}
use Rattle.dml_types.specs.Types.{Job, Record, BatchRecord, Abandoned}
use Rattle.dml_types.specs.Job.{is_fenced, no_op_job, unfenced}
use Rattle.dml_types.specs.Memory.{Memory, first}
use Rattle.dml_types.specs.Effect.{ended}
use Rattle.dml_types.specs.Step.{batch, batch_answer, batch_jobs, ends_before, memory_after, records_of, step}
use Rattle.dml_types.proofs.FenceLemmas.{all_unfenced_same}
use Rattle.dml_types.proofs.FirstLemmas.{first_is}
use Rattle.dml_types.proofs.StepLemmas.{length_records_of}

-- the records of the first jobs
pub take_records : (memory : Memory) (jobs : List Job) (staging n : ℕ) → take n (records_of memory jobs staging) ≡ records_of memory (take n jobs) staging
take_records memory jobs staging zero = refl
take_records memory [] staging (suc n) = refl
take_records memory (job ∷ jobs) staging (suc n) = ap (λ (rest : List Record). (step memory job staging).1 ∷ rest) (take_records (step memory job staging).0 jobs staging n)

pub none_fenced : (jobs : List Job) (i : ℕ) → list_any is_fenced jobs ≡ false → is_fenced (get_or jobs i no_op_job) ≡ false
none_fenced [] i none = refl
none_fenced (job ∷ jobs) zero none = (or_parts (is_fenced job) (list_any is_fenced jobs) none).0
none_fenced (job ∷ jobs) (suc i) none = none_fenced jobs i (or_parts (is_fenced job) (list_any is_fenced jobs) none).1

-- a batch is carried out up to a place: it ends before none of the earlier ones, and before this one, if there is one
pub batch_jobs_are : (memory : Memory) (jobs : List Job) (staging count : ℕ) → count ≤ length jobs → ((i : ℕ) → i < count → ends_before jobs (records_of memory (map unfenced jobs) staging) i ≡ false) → (count < length jobs → ends_before jobs (records_of memory (map unfenced jobs) staging) count ≡ true) → batch_jobs memory jobs staging ≡ take count (map unfenced jobs)
batch_jobs_are memory jobs staging count within before here =
    ap (λ n. take n (map unfenced jobs)) (first_is (length jobs) (ends_before jobs (records_of memory (map unfenced jobs) staging)) count within before here)

abbrev zeros : ℕ → List Record
zeros n = replicate n (ended Abandoned 0 0 0)

pub batch_without_fences : (memory : Memory) (jobs : List Job) (staging : ℕ) → list_any is_fenced jobs ≡ false → batch memory jobs staging ≡ (memory_after memory jobs staging, batch_answer (records_of memory jobs staging), records_of memory jobs staging)
batch_without_fences memory jobs staging none =
    let free = all_unfenced_same jobs none in
    let never : (i : ℕ) → i < length jobs → ends_before jobs (records_of memory (map unfenced jobs) staging) i ≡ false =
    λ i below. and_left _ _ (none_fenced jobs i none) in
    let all : batch_jobs memory jobs staging ≡ jobs =
    batch_jobs_are memory jobs staging (length jobs) (omega arith) never (λ past. absurd (omega arith))
    ∙ (ap (take (length jobs)) free ∙ take_all (length jobs) jobs (omega arith)) in
    let answer : List Job → Memory × BatchRecord × List Record =
    λ done. (memory_after memory done staging, batch_answer (records_of memory done staging), records_of memory done staging ++ zeros (length jobs - length done)) in
    let empty : length jobs - length jobs ≡ 0 = omega arith in
    ap answer all
    ∙ ap (λ (rest : List Record). (memory_after memory jobs staging, batch_answer (records_of memory jobs staging), rest))
    (ap (λ n. records_of memory jobs staging ++ zeros n) empty ∙ append-nil (records_of memory jobs staging))

take_short : {A : Type 0} (n : ℕ) (xs : List A) → length (take n xs) ≤ length xs
take_short zero xs = omega arith
take_short (suc n) [] = omega arith
take_short (suc n) (x ∷ xs) = omega (arith, take_short n xs)

pub length_batch_records : (memory : Memory) (jobs : List Job) (staging : ℕ) → length (batch memory jobs staging).2 ≡ length jobs
length_batch_records memory jobs staging =
    let done = batch_jobs memory jobs staging in
    let few : length done ≤ length jobs =
    omega (arith, take_short (first (length jobs) (ends_before jobs (records_of memory (map unfenced jobs) staging))) (map unfenced jobs), length-map jobs unfenced) in
    omega (arith, length-append (records_of memory done staging) (zeros (length jobs - length done)), length_records_of memory done staging, length-replicate (length jobs - length done) (ended Abandoned 0 0 0), few)
