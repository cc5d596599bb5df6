-- What the levels of a list share, job by job.
use Rattle.std.proofs.Common.{◌≡◌, ◌≢◌, ℕ, zero, suc, ◌+◌, ◌*◌, ◌^◌, ◌<◌, ◌≤◌, max, min, true, false, List, [], ◌∷◌, drop, get_or, set, take, length, refl, sym, ap, ◌∙◌, subst, ⊎_elim, arith}
use Rattle.std.specs.Prelude.{nat_eq, nat_le, if◌then◌else◌}
use Rattle.std.proofs.lemmas.Bool.{cases_eq}
use Rattle.std.proofs.lemmas.Bool.Decides.{nat_tests}
use Rattle.std.specs.List.{sum_by}
use Rattle.std.proofs.lemmas.List.{at_drop_all, get_or-set_other}
use Rattle.std.proofs.lemmas.List.Sums.{sum_by-drop_more}
use Rattle.std.proofs.lemmas.Grind.{get_or-set_at}
use Rattle.dml_types.specs.declared.jobs.Job.{Job}
use Rattle.dml_order.specs.Waves.{depth}
use Rattle.dml_engine.specs.Loads.{brought, brought_by_levels, capped, levels_pay, no_load, shared_at, with_job}

-- the bytes that one job shares
abbrev share_of : ℕ → Job → ℕ
share_of chunk job = (with_job chunk no_load job).shared

-- behind one job more
pub shared_more : (chunk : ℕ) (jobs : List Job) (levels : List ℕ) (n level : ℕ) (d : Job) → n < length jobs → n < length levels
    → shared_at chunk (take (n + 1) jobs) (take (n + 1) levels) level
    ≡ shared_at chunk (take n jobs) (take n levels) level + (if nat_eq (get_or levels n 0) level then share_of chunk (get_or jobs n d) else 0)
shared_more chunk [] levels n level d some more = absurd (omega (arith, some))
shared_more chunk (job ∷ jobs) [] n level d some more = absurd (omega (arith, more))
shared_more chunk (job ∷ jobs) (height ∷ levels) zero level d some more = omega arith
shared_more chunk (job ∷ jobs) (height ∷ levels) (suc n) level d some more =
    let rest = shared_more chunk jobs levels n level d (omega (arith, some)) (omega (arith, more)) in
    let place : suc n + 1 ≡ suc (n + 1) = omega arith in
    subst (λ m. shared_at chunk (take m (job ∷ jobs)) (take m (height ∷ levels)) level
    ≡ shared_at chunk (take (suc n) (job ∷ jobs)) (take (suc n) (height ∷ levels)) level + (if nat_eq (get_or levels n 0) level then share_of chunk (get_or jobs n d) else 0))
    (sym place) (omega (arith, rest))

-- behind all jobs that have a level
pub shared_whole : (chunk : ℕ) (jobs : List Job) (levels : List ℕ) (n level : ℕ) → n ≡ min (length jobs) (length levels)
    → shared_at chunk (take n jobs) (take n levels) level ≡ shared_at chunk jobs levels level
shared_whole chunk [] levels zero level whole = refl
shared_whole chunk [] levels (suc n) level whole = refl
shared_whole chunk (job ∷ jobs) [] zero level whole = refl
shared_whole chunk (job ∷ jobs) [] (suc n) level whole = refl
shared_whole chunk (job ∷ jobs) (height ∷ levels) zero level whole = absurd (omega (arith, whole))
shared_whole chunk (job ∷ jobs) (height ∷ levels) (suc n) level whole =
    let rest = shared_whole chunk jobs levels n level (omega (arith, whole)) in
    omega (arith, rest)

-- a table of levels whose job's level stands in it
pub raised : (chunk : ℕ) (jobs : List Job) (levels : List ℕ) (n most : ℕ) (d : Job) (table : List ℕ) (share : ℕ) → n < length jobs → n < length levels
    → length table ≡ most → ((level : ℕ) → level < most → get_or table level 0 ≡ capped (shared_at chunk (take n jobs) (take n levels) level))
    → get_or levels n 0 < most → share ≡ share_of chunk (get_or jobs n d) → (level : ℕ) → level < most
    → get_or (set table (get_or levels n 0) (capped (get_or table (get_or levels n 0) 0 + share))) level 0
    ≡ capped (shared_at chunk (take (n + 1) jobs) (take (n + 1) levels) level)
raised chunk jobs levels n most d table share some more long shares within is level below =
    let height = get_or levels n 0 in
    let one = shared_more chunk jobs levels n level d some more in
    let before = shares level below in
    ⊎_elim (λ (same : level ≡ height).
    let here : get_or (set table height (capped (get_or table height 0 + share))) level 0 ≡ capped (get_or table height 0 + share) =
    get_or-set_at table height level (capped (get_or table height 0 + share)) 0 same (omega (arith, within, long)) in
    let there : get_or table height 0 ≡ get_or table level 0 = ap (λ k. get_or table k 0) (sym same) in
    let whole : shared_at chunk (take (n + 1) jobs) (take (n + 1) levels) level ≡ shared_at chunk (take n jobs) (take n levels) level + share =
    grind (arith, nat_tests, one, same, is) in
    omega (arith, here, there, before, whole))
    (λ (other : level ≢ height).
    let here : get_or (set table height (capped (get_or table height 0 + share))) level 0 ≡ get_or table level 0 =
    get_or-set_other table height level (capped (get_or table height 0 + share)) 0 other in
    let whole : shared_at chunk (take (n + 1) jobs) (take (n + 1) levels) level ≡ shared_at chunk (take n jobs) (take n levels) level =
    grind (arith, nat_tests, one, other) in
    here ∙ before ∙ ap capped (sym whole))
    (cases_eq level height)

-- a table of levels where the job's level lies beyond it
pub passed : (chunk : ℕ) (jobs : List Job) (levels : List ℕ) (n most : ℕ) (d : Job) (table : List ℕ) → n < length jobs → n < length levels
    → ((level : ℕ) → level < most → get_or table level 0 ≡ capped (shared_at chunk (take n jobs) (take n levels) level))
    → most ≤ get_or levels n 0 → (level : ℕ) → level < most
    → get_or table level 0 ≡ capped (shared_at chunk (take (n + 1) jobs) (take (n + 1) levels) level)
passed chunk jobs levels n most d table some more shares beyond level below =
    let one = shared_more chunk jobs levels n level d some more in
    let other : get_or levels n 0 ≢ level = λ same. omega (arith, same, beyond, below) in
    let whole : shared_at chunk (take (n + 1) jobs) (take (n + 1) levels) level ≡ shared_at chunk (take n jobs) (take n levels) level =
    grind (arith, nat_tests, one, other) in
    shares level below ∙ ap capped (sym whole)

-- what the levels bring, one level on and at the end
pub brought_more : (table : List ℕ) (n all : ℕ) → n < length table → capped (all + sum_by brought (drop n table)) ≡ capped (sum_by brought table)
    → capped (capped (all + brought (get_or table n 0)) + sum_by brought (drop (n + 1) table)) ≡ capped (sum_by brought table)
brought_more table n all inside so_far =
    let one : sum_by brought (drop n table) ≡ brought (get_or table n 0) + sum_by brought (drop (n + 1) table) = sum_by-drop_more brought table n 0 inside in
    omega (arith, so_far, one)

pub brought_all : (table : List ℕ) (n all : ℕ) → length table ≤ n → all < 2 ^ 64 → capped (all + sum_by brought (drop n table)) ≡ capped (sum_by brought table)
    → all ≡ capped (sum_by brought table)
brought_all table n all ends fits so_far =
    let none : sum_by brought (drop n table) ≡ 0 = at_drop_all (sum_by brought) table n ends in
    omega (arith, so_far, none, fits)

-- a list of one level pays, and one of more by its bytes
pub pays_at_once : (chunk : ℕ) (jobs : List Job) (levels : List ℕ) → depth levels ≤ 1 → levels_pay chunk jobs levels ≡ true
pays_at_once chunk jobs levels one =
    let test : nat_le (depth levels) 1 ≡ true = grind (arith, nat_tests, one) in
    ap (λ b. if b then true else nat_le (max 1572864 (capped (depth levels * (32 * length jobs)))) (brought_by_levels chunk jobs levels)) test

pub pays_by_bytes : (chunk : ℕ) (jobs : List Job) (levels : List ℕ) → 1 < depth levels
    → levels_pay chunk jobs levels ≡ nat_le (max 1572864 (capped (depth levels * (32 * length jobs)))) (brought_by_levels chunk jobs levels)
pays_by_bytes chunk jobs levels more =
    let test : nat_le (depth levels) 1 ≡ false = grind (arith, nat_tests, more) in
    ap (λ b. if b then true else nat_le (max 1572864 (capped (depth levels * (32 * length jobs)))) (brought_by_levels chunk jobs levels)) test
