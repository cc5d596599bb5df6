-- The rows of compares over whole pages: too many bytes to compute with, so the laws of the first index and of
-- overwriting say which offset decides.
use Rattle.std.proofs.Common.{◌≡◌, ℕ, ◌+◌, ◌/◌, ◌<◌, ◌≤◌, ◌&&◌, ◌==◌, List, [], ◌∷◌, Bool, true, false, None, length, get_or, replicate, refl, sym, ◌∙◌, ap, arith, ◌⊎◌, ⊎_elim, inl, inr}
use Rattle.std.proofs.lemmas.Bool.{cases_lt, eq-eqb, ne_eqb, and_from, and_right}
use Rattle.std.proofs.lemmas.List.{get_or-replicate, get_or_past, length-replicate}
use Rattle.dml_types.specs.declared.operations.Op.TheVariants.{Compare}
use Rattle.dml_types.specs.declared.statuses.Status.TheVariants.{Success, ReadFault}
use Rattle.dml_types.specs.Memory.{Memory, has, byte_at, memory_of, overwrite}
use Rattle.dml_types.specs.Job.{compare_job}
use Rattle.dml_types.specs.Bytewise.{compare_answer, faults_at, compared}
use Rattle.dml_types.specs.Step.{effect}
use Rattle.dml_types.proofs.MemoryLemmas.{overwrite_below, overwrite_inside, overwrite_past}
use Rattle.dml_plain.specs.Row.{answer, Answers}
use Rattle.dml_plain.proofs.CompareLemmas.{compare_length_is}

-- four pages of zeros
pub record IsZeros (zeros : List ℕ) : Type 0 where
  pub long : length zeros ≡ 16384
  pub zero : (k : ℕ) → get_or zeros k 0 ≡ 0

pub zeros_of : (n : ℕ) → n ≡ 16384 → IsZeros (replicate n 0)
zeros_of n is = record {
  long = length-replicate n 0 ∙ is;
  zero = λ k.
      ⊎_elim (λ below. get_or-replicate n k 0 0 below) (λ above. get_or_past (replicate n 0) k 0 (omega (arith, length-replicate {A = ℕ})))
      (cases_lt k n);
}

abbrev pub four_pages : Bool → List ℕ → ℕ → Memory
four_pages last zeros place = memory_of (true ∷ false ∷ true ∷ last ∷ []) (overwrite zeros place (1 ∷ [])) None

has_front : (last : Bool) (zeros : List ℕ) (place i : ℕ) → i < 4096 → has (four_pages last zeros place) i ≡ true
has_front last zeros place i below = let first_page : i / 4096 ≡ 0 = omega arith in rw first_page refl

has_third : (last : Bool) (zeros : List ℕ) (place i : ℕ) → i < 4096 → has (four_pages last zeros place) (8192 + i) ≡ true
has_third last zeros place i below = let third_page : (8192 + i) / 4096 ≡ 2 = omega arith in rw third_page refl

zero_below : (last : Bool) (zeros : List ℕ) (place i : ℕ) → IsZeros zeros → place < 16384 → i < place → byte_at (four_pages last zeros place) i ≡ 0
zero_below last zeros place i is within below = overwrite_below zeros place (1 ∷ []) i 0 (omega (arith, is.long)) below ∙ is.zero i

zero_above : (last : Bool) (zeros : List ℕ) (place i : ℕ) → IsZeros zeros → place < 16384 → place < i → byte_at (four_pages last zeros place) i ≡ 0
zero_above last zeros place i is within above =
    overwrite_past zeros place (1 ∷ []) i 0 (omega (arith, is.long)) (omega arith) ∙ is.zero i

alike_zeros : (last : Bool) (zeros : List ℕ) (place i : ℕ) → IsZeros zeros → place < 16384 → i < 4096 → i < place → place < 8192 ⊎ 12288 ≤ place → has (four_pages last zeros place) (0 + i) && has (four_pages last zeros place) (8192 + i) && (byte_at (four_pages last zeros place) (0 + i) == byte_at (four_pages last zeros place) (8192 + i)) ≡ true
alike_zeros last zeros place i is within inside below aside =
    let zero_here = zero_below last zeros place (0 + i) is within (omega arith) in
    let zero_there : byte_at (four_pages last zeros place) (8192 + i) ≡ 0 =
    ⊎_elim (λ before. zero_above last zeros place (8192 + i) is within (omega arith)) (λ behind. zero_below last zeros place (8192 + i) is within (omega arith)) aside in
    and_from _ _ (and_from _ _ (has_front last zeros place (0 + i) (omega arith)) (has_third last zeros place i inside))
    (eq-eqb _ _ (zero_here ∙ sym zero_there))

-- the last byte before the absent pages differs
pub full_mismatch : (zeros : List ℕ) → IsZeros zeros → Answers (four_pages false zeros 4095) (compare_job 0 8192 8192 ∷ []) (answer Success 1 4095 0 0 ∷ [])
unfolding effect compared
full_mismatch zeros is =
    let memory = four_pages false zeros 4095 in
    let job = compare_job 0 8192 8192 in
    let one : byte_at memory (0 + 4095) ≡ 1 = overwrite_inside zeros 4095 (1 ∷ []) 0 0 (omega (arith, is.long)) (omega arith) in
    let other : byte_at memory (8192 + 4095) ≡ 0 = zero_above false zeros 4095 12287 is (omega arith) (omega arith) in
    let differ : (byte_at memory (0 + 4095) == byte_at memory (8192 + 4095)) ≡ false = ne_eqb _ _ (λ same. absurd (omega (arith, one, other, same))) in
    let stop = compare_length_is memory job 4095 (omega arith) (λ i low. alike_zeros false zeros 4095 i is (omega arith) (omega arith) low (inl (omega arith))) (λ _. and_right (has memory (0 + 4095) && has memory (8192 + 4095)) _ differ) in
    sym (ap (λ k. compare_answer memory job k (faults_at Compare job k) ∷ []) stop)

-- the absent page comes before the byte that differs
pub full_page_edge : (zeros : List ℕ) → IsZeros zeros → Answers (four_pages true zeros 13192) (compare_job 0 8192 8192 ∷ []) (answer ReadFault 0 4096 4096 0 ∷ [])
unfolding effect compared
full_page_edge zeros is =
    let memory = four_pages true zeros 13192 in
    let job = compare_job 0 8192 8192 in
    let stop = compare_length_is memory job 4096 (omega arith) (λ i low. alike_zeros true zeros 13192 i is (omega arith) low (omega arith) (inr (omega arith))) (λ _. refl) in
    sym (ap (λ k. compare_answer memory job k (faults_at Compare job k) ∷ []) stop)
