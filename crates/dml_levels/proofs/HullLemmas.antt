-- Jobs whose hulls are apart do not conflict.
use Rattle.std.proofs.Common.{◌≡◌, ℕ, ◌+◌, ◌-◌, ◌<◌, ◌≤◌, zero, suc, Bool, true, false, List, [], ◌∷◌, length, get_or, map, fold, min, max, sym, ◌∙◌, ap, arith, ⊎_elim}
use Rattle.std.proofs.lemmas.Bool.{cases_eq, ltb-true, le-leb, leb-true, and_from, and_parts, or_parts, or_from, or_cases, false≢true, false_from_ne_true, both_ways}
use Rattle.std.proofs.lemmas.List.{get_or-map}
use Rattle.std.specs.List.{list_any}
use Rattle.dml_types.specs.declared.jobs.Job.{Job}
use Rattle.dml_types.specs.declared.spans.Span.{Span}
use Rattle.dml_types.specs.Job.{no_op_job, any_shares, shares, reads, writes}
use Rattle.dml_types.specs.Conflict.{ranges_of, conflict, clash_of, level_over}
use Rattle.dml_order.proofs.LevelLemmas.{level_among_none}
use Rattle.dml_levels.specs.declared.hulls.Hull.{Hull}
use Rattle.dml_levels.specs.declared.hulls.Reach.{Reach}
use Rattle.dml_levels.specs.Hulls.{no_hull, widened_hull, hull_of, hull_both, hulls_meet, reach_of, reach_both, reaches_meet, reach_so_far}
use Rattle.dml_levels.specs.Touched.{some_spans}
use Rattle.dml_levels.proofs.TouchedLemmas.{any_shares_some}

pub record IsWithin (inner outer : Hull) : Type 0 where
  pub first : outer.first ≤ inner.first
  pub last : inner.last ≤ outer.last

pub record Covers (hull : Hull) (range : Span) : Type 0 where
  pub first : hull.first ≤ range.start
  pub last : range.start + (range.len - 1) ≤ hull.last

grows : (spans : List Span) (hull : Hull) → IsWithin hull (fold widened_hull hull spans)
grows [] hull = record { first = omega arith; last = omega arith }
grows (x ∷ xs) hull =
    let rest = grows xs (widened_hull hull x) in record { first = omega (arith, rest.first); last = omega (arith, rest.last) }

found : (test : Span → Bool) (spans : List Span) → list_any test spans ≡ true → (x : Span) × (test x ≡ true) × ((hull : Hull) → Covers (fold widened_hull hull spans) x)
found test [] some = absurd (false≢true some)
found test (x ∷ xs) some =
    ⊎_elim (λ here. (x, here, λ hull. let rest = grows xs (widened_hull hull x) in record { first = omega (arith, rest.first); last = omega (arith, rest.last) }))
    (λ later. let rest = found test xs later in (rest.0, rest.1, λ hull. rest.2 (widened_hull hull x)))
    (or_cases (test x) (list_any test xs) some)

meet_where_shared : (a b : Hull) (x y : Span) → Covers a x → Covers b y → shares x y ≡ true → hulls_meet a b ≡ true
meet_where_shared a b x y covers_x covers_y shared =
    let common = ltb-true (max x.start y.start) (min (x.start + x.len) (y.start + y.len)) shared in
    and_from _ _ (le-leb a.first b.last (omega (arith, covers_x.first, covers_y.last, common)))
    (le-leb b.first a.last (omega (arith, covers_y.first, covers_x.last, common)))

pub hulls_apart : (xs ys : List Span) → hulls_meet (hull_of xs) (hull_of ys) ≡ false → any_shares xs ys ≡ false
hulls_apart xs ys apart =
    false_from_ne_true (any_shares xs ys)
    (λ shared.
    let one = found (λ x. list_any (shares x) ys) xs shared in
    let other = found (shares one.0) ys one.1 in
    both_ways _ apart (meet_where_shared (hull_of xs) (hull_of ys) one.0 other.0 (one.2 no_hull) (other.2 no_hull) other.1))

some_apart : (xs ys : List Span) → hulls_meet (hull_of (some_spans xs)) (hull_of (some_spans ys)) ≡ false → any_shares xs ys ≡ false
some_apart xs ys apart = sym (any_shares_some xs ys) ∙ hulls_apart (some_spans xs) (some_spans ys) apart

pub reaches_apart : (a b : Job) → reaches_meet (reach_of a) (reach_of b) ≡ false → conflict a b ≡ false
reaches_apart a b apart =
    let parts = or_parts _ _ apart in
    let more = or_parts _ _ parts.0 in
    or_from _ _
    (or_from _ _ (some_apart (ranges_of writes a) (ranges_of reads b) more.0) (some_apart (ranges_of writes a) (ranges_of writes b) more.1))
    (some_apart (ranges_of reads a) (ranges_of writes b) parts.1)

-- what is apart from a hull is apart from each within it
apart_within : (inner outer other : Hull) → IsWithin inner outer → hulls_meet outer other ≡ false → hulls_meet inner other ≡ false
apart_within inner outer other within apart =
    false_from_ne_true (hulls_meet inner other)
    (λ meeting.
    let parts = and_parts _ _ meeting in
    both_ways _ apart
    (and_from _ _ (le-leb outer.first other.last (omega (arith, within.first, leb-true inner.first other.last parts.0)))
    (le-leb other.first outer.last (omega (arith, within.last, leb-true other.first inner.last parts.1)))))

in_left : (a b : Hull) → IsWithin a (hull_both a b)
in_left a b = record { first = omega arith; last = omega arith }

in_right : (a b : Hull) → IsWithin b (hull_both a b)
in_right a b = record { first = omega arith; last = omega arith }

apart_both : (a b c : Reach) → reaches_meet (reach_both a b) c ≡ false → (reaches_meet a c ≡ false) × (reaches_meet b c ≡ false)
apart_both a b c apart =
    let parts = or_parts _ _ apart in
    let more = or_parts _ _ parts.0 in (
      or_from _ _
          (or_from _ _ (apart_within a.writes (hull_both a.writes b.writes) c.reads (in_left a.writes b.writes) more.0)
          (apart_within a.writes (hull_both a.writes b.writes) c.writes (in_left a.writes b.writes) more.1))
          (apart_within a.reads (hull_both a.reads b.reads) c.writes (in_left a.reads b.reads) parts.1),
      or_from _ _
          (or_from _ _ (apart_within b.writes (hull_both a.writes b.writes) c.reads (in_right a.writes b.writes) more.0)
          (apart_within b.writes (hull_both a.writes b.writes) c.writes (in_right a.writes b.writes) more.1))
          (apart_within b.reads (hull_both a.reads b.reads) c.writes (in_right a.reads b.reads) parts.1),
    )

pub apart_before : (jobs : List Job) (n k : ℕ) (reach : Reach) → k < n → reaches_meet (reach_so_far jobs n) reach ≡ false → reaches_meet (reach_of (get_or jobs k no_op_job)) reach ≡ false
apart_before jobs zero k reach below apart = absurd (omega arith)
apart_before jobs (suc n) k reach below apart =
    let parts = apart_both (reach_so_far jobs n) (reach_of (get_or jobs n no_op_job)) reach apart in
    ⊎_elim (λ same. ap (λ i. reaches_meet (reach_of (get_or jobs i no_op_job)) reach) same ∙ parts.1)
    (λ other. apart_before jobs n k reach (omega (arith, other)) parts.0)
    (cases_eq k n)

-- the same of the jobs at two places, by the list of their reaches
pub apart_at : (jobs : List Job) (i k : ℕ) (d e : Reach) → i < length jobs → k < length jobs → reaches_meet (get_or (map reach_of jobs) i d) (get_or (map reach_of jobs) k e) ≡ false → clash_of jobs i k ≡ false
apart_at jobs i k d e first second apart =
    reaches_apart (get_or jobs i no_op_job) (get_or jobs k no_op_job)
    (ap (λ r. reaches_meet r (reach_of (get_or jobs k no_op_job))) (sym (get_or-map reach_of jobs i no_op_job d first))
    ∙ (ap (reaches_meet (get_or (map reach_of jobs) i d)) (sym (get_or-map reach_of jobs k no_op_job e second)) ∙ apart))

-- the reaches so far, and the next one
reach_at : (jobs : List Job) (reaches : List Reach) (reach : Reach) (i : ℕ) → reaches ≡ map reach_of jobs → i < length jobs → reach ≡ get_or reaches i reach → reach ≡ reach_of (get_or jobs i no_op_job)
reach_at jobs reaches reach i all below read =
    read ∙ (ap (λ (list : List Reach). get_or list i reach) all ∙ get_or-map reach_of jobs i no_op_job reach below)

pub reach_more : (jobs : List Job) (reaches : List Reach) (seen reach : Reach) (i : ℕ) → reaches ≡ map reach_of jobs → seen ≡ reach_so_far jobs i → i < length jobs → reach ≡ get_or reaches i reach → reach_both seen reach ≡ reach_so_far jobs (i + 1)
reach_more jobs reaches seen reach i all before below read =
    ap (λ r. reach_both r reach) before
    ∙ (ap (reach_both (reach_so_far jobs i)) (reach_at jobs reaches reach i all below read)
    ∙ ap (reach_so_far jobs) (let e : suc i ≡ i + 1 = omega arith in e))

-- a job that is apart from all before it has level 0
pub lowest : (jobs : List Job) (reaches : List Reach) (seen reach : Reach) (levels : List ℕ) (i : ℕ) → reaches ≡ map reach_of jobs → seen ≡ reach_so_far jobs i → i < length jobs → reach ≡ get_or reaches i reach → reaches_meet seen reach ≡ false → 0 ≡ level_over (clash_of jobs) levels i
lowest jobs reaches seen reach levels i all before below read apart =
    let own : reaches_meet (reach_so_far jobs i) (reach_of (get_or jobs i no_op_job)) ≡ false =
    sym (ap (λ r. reaches_meet r reach) before ∙ ap (reaches_meet (reach_so_far jobs i)) (reach_at jobs reaches reach i all below read)) ∙ apart in
    sym (level_among_none (clash_of jobs) levels i i
    (λ k low. reaches_apart (get_or jobs k no_op_job) (get_or jobs i no_op_job) (apart_before jobs i k (reach_of (get_or jobs i no_op_job)) low own)))
