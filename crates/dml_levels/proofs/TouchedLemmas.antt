-- Ranges without the empty ones.
use Rattle.std.proofs.Common.{◌≡◌, ℕ, ◌<◌, false, cond, List, [], ◌∷◌, length, get_or, map, refl, sym, ◌∙◌, ap, arith, ⊎_elim}
use Rattle.std.proofs.lemmas.Bool.{cases_lt, le-ltb, lt-ltb}
use Rattle.std.specs.Prelude.{◌||◌}
use Rattle.dml_types.specs.declared.spans.Span.{Span}
use Rattle.std.specs.List.{list_any}
use Rattle.std.proofs.lemmas.List.{get_or-map}
use Rattle.dml_types.specs.declared.jobs.Job.{Job}
use Rattle.dml_types.specs.Job.{no_op_job, shares, any_shares, reads, writes}
use Rattle.dml_types.specs.Conflict.{ranges_of, clash_of}
use Rattle.dml_levels.specs.declared.touched.Touches.{Touches}
use Rattle.dml_levels.specs.Touched.{some_spans, touched_by}

-- an empty range shares no byte
shares_empty_left : (a b : Span) → a.len ≡ 0 → shares a b ≡ false
shares_empty_left a b none = le-ltb _ _ (omega (arith, none))

shares_empty_right : (a b : Span) → b.len ≡ 0 → shares a b ≡ false
shares_empty_right a b none = le-ltb _ _ (omega (arith, none))

one_some : (a : Span) (ys : List Span) → list_any (shares a) (some_spans ys) ≡ list_any (shares a) ys
one_some a [] = refl
one_some a (y ∷ ys) =
    ⊎_elim (λ some.
    ap (λ b. list_any (shares a) (cond b (y ∷ some_spans ys) (some_spans ys))) (lt-ltb 0 y.len some)
    ∙ ap (λ b. shares a y || b) (one_some a ys))
    (λ empty.
    ap (λ b. list_any (shares a) (cond b (y ∷ some_spans ys) (some_spans ys))) (le-ltb 0 y.len empty)
    ∙ (one_some a ys ∙ sym (ap (λ b. b || list_any (shares a) ys) (shares_empty_right a y (omega arith)))))
    (cases_lt 0 y.len)

none_shared : (a : Span) (ys : List Span) → a.len ≡ 0 → list_any (shares a) ys ≡ false
none_shared a [] none = refl
none_shared a (y ∷ ys) none = ap (λ b. b || list_any (shares a) ys) (shares_empty_left a y none) ∙ none_shared a ys none

pub any_shares_some : (xs ys : List Span) → any_shares (some_spans xs) (some_spans ys) ≡ any_shares xs ys
any_shares_some [] ys = refl
any_shares_some (x ∷ xs) ys =
    ⊎_elim (λ some.
    ap (λ b. any_shares (cond b (x ∷ some_spans xs) (some_spans xs)) (some_spans ys)) (lt-ltb 0 x.len some)
    ∙ (ap (λ b. b || any_shares (some_spans xs) (some_spans ys)) (one_some x ys)
    ∙ ap (λ b. list_any (shares x) ys || b) (any_shares_some xs ys)))
    (λ empty.
    ap (λ b. any_shares (cond b (x ∷ some_spans xs) (some_spans xs)) (some_spans ys)) (le-ltb 0 x.len empty)
    ∙ (any_shares_some xs ys ∙ sym (ap (λ b. b || any_shares xs ys) (none_shared x ys (omega arith)))))
    (cases_lt 0 x.len)

-- the jobs at two places, by the list of what each touches
pub clash_at : (jobs : List Job) (i k : ℕ) (d e : Touches) → i < length jobs → k < length jobs → any_shares (get_or (map touched_by jobs) i d).writes (get_or (map touched_by jobs) k e).reads || any_shares (get_or (map touched_by jobs) i d).writes (get_or (map touched_by jobs) k e).writes || any_shares (get_or (map touched_by jobs) i d).reads (get_or (map touched_by jobs) k e).writes ≡ clash_of jobs i k
clash_at jobs i k d e first second =
    let a : Job = get_or jobs i no_op_job in
    let b : Job = get_or jobs k no_op_job in
    rw (get_or-map touched_by jobs i no_op_job d first, get_or-map touched_by jobs k no_op_job e second, any_shares_some (ranges_of writes a) (ranges_of reads b), any_shares_some (ranges_of writes a) (ranges_of writes b), any_shares_some (ranges_of reads a) (ranges_of writes b)) refl
