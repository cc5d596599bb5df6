-- A plan has few waves: each has a place of its own.
use Rattle.std.proofs.Common.{◌≡◌, ℕ, ◌+◌, ◌<◌, ◌≤◌, zero, suc, Bool, true, false, not, cond, List, [], ◌∷◌, ◌++◌, length, map, filter, refl, sym, ◌∙◌, ap, arith, ⊎_elim}
use Rattle.std.proofs.lemmas.Bool.{cases_eq, cases_lt, eq-eqb, false≢true, le-leb, lt-leb, ne_eqb}
use Rattle.std.proofs.lemmas.List.{length-append, length-map, length_push}
use Rattle.std.proofs.lemmas.List.FromFn.{length-range_with_len}
use Rattle.std.specs.Prelude.{nat_eq, nat_le, slice_index, ◌||◌}
use Rattle.std.specs.List.{range_with_len}
use Rattle.dml_types.specs.Conflict.{clash_of, levels}
use Rattle.dml_order.specs.Waves.{cut_behind, depth, higher_waves, is_nil, level_places, level_waves, waves_of}
use Rattle.dml_order.proofs.LevelLemmas.{length_levels_of}
use Rattle.dml_levels.specs.Waves.{fits_wave, job_at, waves}
use Rattle.dml_core.specs.Types.{Job, Fetched}
use Rattle.dml_core.specs.Plan.{accepted_places, accepted_waves, first_wave, is_refused, jobs_of, open_places, plan_of, with_refused}
use Rattle.dml_core.proofs.PlanFacts.{few_kept}

some_there : (wave : List ℕ) → is_nil wave ≡ false → 0 < length wave
some_there wave some =
    ⊎_elim (λ (there : 0 < length wave). there)
    (λ (none : length wave ≤ 0). absurd (false≢true (sym some ∙ eq-eqb (length wave) 0 (omega (arith, none)))))
    (cases_lt 0 (length wave))

neither : (a b : Bool) → (a || b) ≡ false → a ≡ false
neither true b none = none
neither false b none = refl

-- a cut has no more waves than places
few_cut : (fits : List ℕ → Bool) (wave places : List ℕ) → length (cut_behind fits wave places) ≤ length wave + length places
few_cut fits wave [] =
    elim (is_nil wave) as (λ b. is_nil wave ≡ b → length (cond b [] (wave ∷ [])) ≤ length wave + 0) [
      | true ↦ λ none. omega arith
      | false ↦ λ some. (let there = some_there wave some in omega (arith, there))
    ] refl
few_cut fits wave (i ∷ places) =
    let size = length_push wave i in
    let more = few_cut fits (wave ++ i ∷ []) places in
    let rest = few_cut fits (i ∷ []) places in
    elim (is_nil wave || fits (wave ++ i ∷ [])) as (λ b. (is_nil wave || fits (wave ++ i ∷ [])) ≡ b → length (cond b (cut_behind fits (wave ++ i ∷ []) places) (wave ∷ cut_behind fits (i ∷ []) places)) ≤ length wave + suc (length places)) [
      | true ↦ λ goes_on. omega (arith, size, more)
      | false ↦ λ ends. (let there = some_there wave (neither (is_nil wave) (fits (wave ++ i ∷ [])) ends) in omega (arith, rest, there))
    ] refl

-- the places of a level and those above it are among the ones from it on
one_if : (b : Bool) (i : ℕ) (xs : List ℕ) → length (cond b (i ∷ xs) xs) ≡ length xs + cond b 1 0
one_if true i xs = omega arith
one_if false i xs = omega arith

at_most_one : (b : Bool) → cond b 1 0 ≤ 1
at_most_one true = omega arith
at_most_one false = omega arith

level_one : (n k : ℕ) → cond (nat_eq n k) 1 0 + cond (nat_le (k + 1) n) 1 0 ≤ cond (nat_le k n) 1 0
level_one n k =
    ⊎_elim (λ (low : n < k).
    let here : ◌≡◌ {A = ℕ} (cond (nat_eq n k) 1 0) 0 = ap (λ b. cond b 1 0) (ne_eqb n k (λ same. omega (arith, same, low))) in
    let above : ◌≡◌ {A = ℕ} (cond (nat_le (k + 1) n) 1 0) 0 = ap (λ b. cond b 1 0) (lt-leb (k + 1) n (omega (arith, low))) in
    omega (arith, here, above))
    (λ (from : k ≤ n).
    let all : ◌≡◌ {A = ℕ} (cond (nat_le k n) 1 0) 1 = ap (λ b. cond b 1 0) (le-leb k n from) in
    ⊎_elim (λ (same : n ≡ k).
    let here : ◌≡◌ {A = ℕ} (cond (nat_eq n k) 1 0) 1 = ap (λ b. cond b 1 0) (eq-eqb n k same) in
    let above : ◌≡◌ {A = ℕ} (cond (nat_le (k + 1) n) 1 0) 0 = ap (λ b. cond b 1 0) (lt-leb (k + 1) n (omega (arith, same))) in
    omega (arith, all, here, above))
    (λ other.
    let here : ◌≡◌ {A = ℕ} (cond (nat_eq n k) 1 0) 0 = ap (λ b. cond b 1 0) (ne_eqb n k other) in
    let most = at_most_one (nat_le (k + 1) n) in
    omega (arith, all, here, most))
    (cases_eq n k))
    (cases_lt n k)

level_split : (f : ℕ → ℕ) (k : ℕ) (places : List ℕ) → length (filter (λ i. nat_eq (f i) k) places) + length (filter (λ i. nat_le (k + 1) (f i)) places) ≤ length (filter (λ i. nat_le k (f i)) places)
level_split f k [] = omega arith
level_split f k (i ∷ places) =
    let here = one_if (nat_eq (f i) k) i (filter (λ i. nat_eq (f i) k) places) in
    let above = one_if (nat_le (k + 1) (f i)) i (filter (λ i. nat_le (k + 1) (f i)) places) in
    let all = one_if (nat_le k (f i)) i (filter (λ i. nat_le k (f i)) places) in
    let rest = level_split f k places in
    let one = level_one (f i) k in
    omega (arith, here, above, all, rest, one)

few_higher : (fits : List ℕ → Bool) (levels : List ℕ) (from count : ℕ) → length (higher_waves fits levels from count) ≤ length (filter (λ i. nat_le from (slice_index levels i)) (range_with_len 0 (length levels)))
few_higher fits levels from zero = omega arith
few_higher fits levels from (suc count) =
    let size = length-append (level_waves fits levels from) (higher_waves fits levels (from + 1) count) in
    let here = few_cut fits [] (level_places levels from) in
    let rest = few_higher fits levels (from + 1) count in
    let split = level_split (slice_index levels) from (range_with_len 0 (length levels)) in
    omega (arith, size, here, rest, split)

few_waves : (fits : List ℕ → Bool) (levels : List ℕ) → length (waves_of fits levels) ≤ length levels
few_waves fits levels =
    let most = few_higher fits levels 0 (depth levels) in
    let kept = few_kept (λ i. nat_le 0 (slice_index levels i)) (range_with_len 0 (length levels)) in
    let size = length-range_with_len 0 (length levels) in
    omega (arith, most, kept, size)

-- the refused jobs add one at most
few_with : (jobs : List Job) (staging : ℕ) (places : List ℕ) (plan : List (List ℕ)) → length (with_refused jobs staging places plan) ≤ length plan + 1
few_with jobs staging places [] =
    let refused = first_wave jobs staging places [] in
    elim (is_nil refused) as (λ b. length (cond b [] (refused ∷ [])) ≤ 0 + 1) [
      | true ↦ omega arith
      | false ↦ omega arith
    ]
few_with jobs staging places (wave ∷ plan) = omega arith

pub few_planned : (fetched : List Fetched) (staging chunk : ℕ) (plan : List (List ℕ)) → plan ≡ plan_of fetched staging chunk → length (open_places fetched) ≤ 1024 → length plan ≤ 1025
few_planned fetched staging chunk plan is few =
    let jobs = jobs_of fetched in
    let places = open_places fetched in
    let accepted = accepted_places jobs staging places in
    let list = map (job_at jobs) accepted in
    let own = waves list (levels list) staging chunk in
    let one = ap length is in
    let two = few_with jobs staging places (accepted_waves jobs staging chunk accepted) in
    let three = length-map own (map (slice_index accepted)) in
    let four = few_waves (fits_wave list staging chunk) (levels list) in
    let five = length_levels_of (clash_of list) (length list) in
    let six = length-map accepted (job_at jobs) in
    let seven = few_kept (λ i. not (is_refused jobs staging i)) places in
    omega (arith, one, two, three, four, five, six, seven, few)
