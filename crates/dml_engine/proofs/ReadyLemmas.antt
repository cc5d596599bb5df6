-- The waves of a list may be carried out by workers.
use Rattle.std.proofs.Common.{◌≡◌, ℕ, ◌+◌, ◌<◌, true, false, List, [], ◌∷◌, ◌++◌, length, get_or, take, drop, refl, sym, ◌∙◌, ap, arith, ⊎_elim, append_assoc, All}
use Rattle.std.proofs.lemmas.Bool.{or_left, or_right, eq-eqb, false_from_ne_true}
use Rattle.std.proofs.lemmas.List.{drop_more, take-append-drop}
use Rattle.std.proofs.lemmas.List.Elements.{All-nil, All-cons}
use Rattle.std.proofs.lemmas.List.Folds.{list_any-append}
use Rattle.std.specs.Prelude.{nat_eq, slice_index}
use Rattle.dml_types.specs.declared.jobs.Job.{Job}
use Rattle.dml_types.specs.Conflict.{fenced_clash, fenced_levels, conflict}
use Rattle.dml_order.specs.Order.{IsOrder, is_in}
use Rattle.dml_order.specs.Waves.{IsOfOneLevel, Rises, joined}
use Rattle.dml_order.proofs.LevelLemmas.{levels_rise}
use Rattle.dml_order.proofs.WaveLemmas.{joined_append}
use Rattle.dml_levels.specs.Waves.{IsSmall, job_at}
use Rattle.dml_wave.specs.Waves.{AreApart}
use Rattle.dml_engine.specs.Lists.{IsReady}

in_right : (i : ℕ) (xs ys : List ℕ) → is_in i ys ≡ true → is_in i (xs ++ ys) ≡ true
in_right i xs ys found = list_any-append (nat_eq i) xs ys ∙ or_right (is_in i xs) (is_in i ys) found

in_left : (i : ℕ) (xs ys : List ℕ) → is_in i xs ≡ true → is_in i (xs ++ ys) ≡ true
in_left i xs ys found = list_any-append (nat_eq i) xs ys ∙ or_left (is_in i xs) (is_in i ys) found

in_head : (i : ℕ) (xs : List ℕ) → is_in i (i ∷ xs) ≡ true
in_head i xs = or_left (nat_eq i i) (is_in i xs) (eq-eqb i i refl)

-- an order that holds a wave goes on behind a place of the wave
behind_place : (order before : List ℕ) (i : ℕ) (wave behind : List ℕ) → order ≡ before ++ ((i ∷ wave) ++ behind) → order ≡ (before ++ i ∷ []) ++ (wave ++ behind)
behind_place order before i wave behind split = split ∙ sym (append_assoc before (i ∷ []) (wave ++ behind))

places_of : (n : ℕ) (order before wave behind : List ℕ) → order ≡ before ++ (wave ++ behind) → ((i : ℕ) → is_in i order ≡ true → i < n) → All (λ i. i < n) wave
places_of n order before [] behind split below = All-nil (λ i. i < n)
places_of n order before (i ∷ wave) behind split below =
    All-cons (λ i. i < n) i wave
    (below i (ap (is_in i) split ∙ in_right i before (i ∷ (wave ++ behind)) (in_head i (wave ++ behind))))
    (places_of n order (before ++ i ∷ []) wave behind (behind_place order before i wave behind split) below)

-- two places of one level do not conflict, the earlier with the later
abbrev AreApartPlaces : List Job → List ℕ → List ℕ → Type 0
AreApartPlaces jobs order whole =
    (before behind : List ℕ) (i k : ℕ) → order ≡ before ++ k ∷ behind → is_in i before ≡ true
    → is_in i whole ≡ true → is_in k whole ≡ true → conflict (job_at jobs i) (job_at jobs k) ≡ false

apart_places : (jobs : List Job) (order whole : List ℕ) → IsOrder (fenced_clash jobs) (length jobs) order → Rises (fenced_levels jobs) order → IsOfOneLevel (fenced_levels jobs) whole → AreApartPlaces jobs order whole
apart_places jobs order whole once rises level before behind i k split earlier first second =
    let same : slice_index (fenced_levels jobs) i ≡ slice_index (fenced_levels jobs) k = level i k first second in
    let below : k < length jobs = once.below k (ap (is_in k) split ∙ in_right k before (k ∷ behind) (in_head k behind)) in
    let low : i < k =
    ⊎_elim (λ less. absurd (omega (arith, less, same))) (λ (both : (slice_index (fenced_levels jobs) i ≡ slice_index (fenced_levels jobs) k) × (i < k)). both.1) (rises before behind k i split earlier) in
    false_from_ne_true (conflict (job_at jobs i) (job_at jobs k))
    (λ clash. absurd (omega (arith, levels_rise (fenced_clash jobs) (length jobs) i k low below (or_left (conflict (job_at jobs i) (job_at jobs k)) _ clash), same)))

apart_from : (jobs : List Job) (order whole before : List ℕ) (i : ℕ) (wave behind : List ℕ) → AreApartPlaces jobs order whole → order ≡ before ++ (wave ++ behind) → is_in i before ≡ true → is_in i whole ≡ true → ((k : ℕ) → is_in k wave ≡ true → is_in k whole ≡ true) → All (λ k. conflict (job_at jobs i) (job_at jobs k) ≡ false) wave
apart_from jobs order whole before i [] behind apart split earlier first inside = All-nil (λ k. conflict (job_at jobs i) (job_at jobs k) ≡ false)
apart_from jobs order whole before i (k ∷ wave) behind apart split earlier first inside =
    All-cons (λ k. conflict (job_at jobs i) (job_at jobs k) ≡ false) k wave
    (apart before (wave ++ behind) i k split earlier first (inside k (in_head k wave)))
    (apart_from jobs order whole (before ++ k ∷ []) i wave behind apart (behind_place order before k wave behind split)
    (in_left i before (k ∷ []) earlier) first (λ j found. inside j (or_right (nat_eq j k) (is_in j wave) found)))

apart_of : (jobs : List Job) (order whole before wave behind : List ℕ) → AreApartPlaces jobs order whole → order ≡ before ++ (wave ++ behind) → ((k : ℕ) → is_in k wave ≡ true → is_in k whole ≡ true) → AreApart jobs wave
apart_of jobs order whole before [] behind apart split inside = tt
apart_of jobs order whole before (i ∷ wave) behind apart split inside =
    let next = behind_place order before i wave behind split in
    let rest : (k : ℕ) → is_in k wave ≡ true → is_in k whole ≡ true = λ k found. inside k (or_right (nat_eq k i) (is_in k wave) found) in (
      apart_from jobs order whole (before ++ i ∷ []) i wave behind apart next (in_right i before (i ∷ []) (in_head i [])) (inside i (in_head i wave)) rest,
      apart_of jobs order whole (before ++ i ∷ []) wave behind apart next rest,
    )

-- the waves before one, its places, and the waves behind it
around : (waves : List (List ℕ)) (at : ℕ) (d : List ℕ) → at < length waves → joined waves ≡ joined (take at waves) ++ (get_or waves at d ++ joined (drop (at + 1) waves))
around waves at d below =
    ap joined (sym (take-append-drop at waves))
    ∙ (joined_append (take at waves) (drop at waves)
    ∙ ap (λ (rest : List (List ℕ)). joined (take at waves) ++ joined rest) (drop_more waves at d below))

pub all_ready : (jobs : List Job) (staging chunk : ℕ) (waves : List (List ℕ)) → IsOrder (fenced_clash jobs) (length jobs) (joined waves) → Rises (fenced_levels jobs) (joined waves) → All (IsOfOneLevel (fenced_levels jobs)) waves → All (IsSmall jobs staging chunk) waves → All (IsReady jobs staging chunk) waves
all_ready jobs staging chunk waves once rises level small at d below =
    let wave = get_or waves at d in
    let before = joined (take at waves) in
    let behind = joined (drop (at + 1) waves) in
    let split = around waves at d below in record {
      places = places_of (length jobs) (joined waves) before wave behind split once.below;
      apart =
          apart_of jobs (joined waves) wave before wave behind
          (apart_places jobs (joined waves) wave once rises (level at d below)) split (λ k found. found);
      small = small at d below;
    }
