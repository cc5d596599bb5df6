-- `shorten` forgets the bytes past the first few, and touches none. Assumes `Logic`.
use Rattle.dml_arena.proofs.Steps.{◌≡◌, ◌≤◌, List, [], ◌∷◌, refl, sym, arith, w64, length, take, SProp, emp, never, id⊢, Lft, ftrue, flft, fact, fact_i, ‵, raw, ◌⊛◌, ◌$◌, ◌∵◌, !, qed, by, move, keep, use0, use1, split, split3, join, fsplit, fsplit3, fjoin, fjoin3, feq_i, rewrite, RattleType, Ptr, named, Fn, Val, vint, vptr, vunit, tables, unit_lit, of_opd, returns, enter, alloc_all, pass_all, free_all, look_at, sets, owns, in_a_block, types_at, plain, named_lft, nothing, heard, opens, closes, usize, uint_vals, uint_Tells, mut_vals, mut_Tells, open_ref, close_ref, alive, Stays, stay_dropped, stay_ref, walk_of, Goes-dropped, Goes-ref, proved, leaves}
use lib.ListN.{length-take}
use Rattle.dml_arena.proofs.Fronts.{shortened}
use Rattle.dml_arena.specs.Ownership.{front, Front, span_owns}
use Rattle.dml_arena.specs.contracts.span.Span as span
use Rattle.dml_arena.specs.contracts.span.Span.shorten as f
use Rattle.dml_arena.proofs.span.Span.shorten.Statement.{statement}
use Rattle.dml_arena.proofs.span.Span.shorten.Code as code

pub shorten_spec : {M : Type 1} → statement M
shorten_spec 𝓤 𝓛 𝓜 𝓡 wired =
    let H = 𝓛.H in
    let T = f.ended in
    let c = f.clauses 𝓛 𝓜.mem 𝓡.returns in
    let fn : Fn = code.function in
    let self = plain (λ κs. span.the_row (named_lft 2 1 tt κs)) in
    let stays : Stays T.signature.params T.kept = (stay_ref (0 ∷ []) tt self, (stay_dropped (plain (λ _. usize)) T.kept.1.0, tt)) in
    let 𝓣 = tables 𝓤 H 𝓜 𝓡 𝓡.env in
    proved 𝓛 T stays c 𝓜 𝓡 (Goes-ref 𝓛 2 0 tt self, (Goes-dropped 𝓛 2 (plain (λ _. usize)) T.kept.1.0 (λ κs x w. refl), tt))
    f.Key.name fn (code.unfolded 𝓤 H 𝓜 𝓡 wired)
    (λ κs. (mut_vals, (uint_vals w64, tt))) (λ κs. (mut_Tells (named 0) κs.0 (span.the_row (named_lft 2 1 tt κs)), (uint_Tells w64, tt))) (λ κs qs bounds a _ are.
    let Row : RattleType = span.the_row (named_lft 2 1 tt κs) in
    let κ : Lft = κs.1.0 in
    let b₀ = a.0.ref_ptr.0 in
    let o₀ = a.0.ref_ptr.1 in
    let h = a.0.now in
    let k = a.1.0 in
    let n = h.room in
    let xs = h.bytes in
    let ys = take k xs in
    let y : (walk_of 𝓛 T stays c).Ghost = ((κs, qs, bounds, a, (mut_vals a.0, (uint_vals w64 k, tt))), tt) in
    let Post : Val → SProp 𝓤 = (walk_of 𝓛 T stays c).post y in
    let Asked : Type 0 = k ≤ length xs in
    qed 𝓛 ((raw (alive 𝓛 T.signature κs qs) ⊛ ‵ (owns (types_at T.signature.params κs) a y.0.4)) ∷ raw (fact 𝓤 Asked) ∷ []) ∵
    move ! (1 ∷ []) $ heard ! Asked (λ asked. split ! $ use1 𝓛 (‵ (flft κs.0 qs.0) ⊛ ‵ (flft κ qs.1.0) ⊛ ‵ ftrue) (id⊢ 𝓤 _) $ split3 ! $
    move ! (3 ∷ []) $ fsplit ! $ fsplit3 ! $ keep ! (1 ∷ 2 ∷ 4 ∷ 5 ∷ 6 ∷ []) $
    enter ! 𝓣.C 𝓣.Λ fn (vptr b₀ o₀ ∷ vint w64 k ∷ []) Post $ alloc_all ! (λ l. pass_all ! refl ((tt, tt), ((tt, record { fits = are.1.0.1 }), tt)) $
    opens ! tt Row {h = h} b₀ o₀ (λ us. move ! (1 ∷ []) $ fsplit ! $ move ! (1 ∷ []) $
    in_a_block ! h.ptr (λ p. span_owns κ h.name p n xs) (id⊢ 𝓤 (never 𝓤)) (λ b o e. fsplit ! $ move ! (0 ∷ 1 ∷ 7 ∷ []) $
    open_ref ! tt (Front n) {x = xs} {b = b} {o = o} $ use1 𝓛 (‵ (front n ys b o)) (shortened 𝓛 b n k xs o asked) $ close_ref ! tt (Front n) ys $ fjoin ! $
    rewrite ! 0 (λ (p : Ptr). ‵ (span_owns κ h.name p n ys)) (sym e) refl $
    -- [the loan; its token; the fields; the struct's cell; the open borrow, in three entries; no other token]
    let held = h.held in
    let new : Row.Denot = record { ptr = h.ptr; mark = h.mark; name = h.name; tie = h.tie; room = n; bytes = ys; fits = h.fits; held = omega (arith, held, asked, length-take k xs); solid = h.solid } in
    move ! (2 ∷ 0 ∷ []) $ fjoin ! $ move ! (2 ∷ 0 ∷ 3 ∷ 4 ∷ 5 ∷ []) $ closes ! tt Row new us b₀ o₀ $
    sets ! (of_opd ! (unit_lit !)) refl (tt, tt) $ returns ! (look_at ! 0 refl) $ free_all ! refl $
    let Place : Type 0 = (new.ptr ≡ h.ptr) × (new.room ≡ n) × (new.tie ≡ h.tie) in
    let Bytes : Type 0 = new.bytes ≡ ys in
    feq_i ! (List Val) (vptr b₀ o₀ ∷ []) (vptr b₀ o₀ ∷ []) refl $ fjoin3 ! $ nothing ! $ nothing ! $ fjoin ! $ move ! (1 ∷ 0 ∷ []) $ fjoin ! $
    move ! (2 ∷ 3 ∷ []) $ join ! $ move ! (2 ∷ 0 ∷ []) $ join ! $ feq_i ! (List Val) (vunit ∷ []) (vunit ∷ []) refl $
    use0 𝓛 (raw (fact 𝓤 Bytes)) (fact_i 𝓤 Bytes (emp 𝓤) refl) $ use0 𝓛 (raw (fact 𝓤 Place)) (fact_i 𝓤 Place (emp 𝓤) (refl, refl, refl)) $ join ! $ move ! (2 ∷ 3 ∷ 1 ∷ 0 ∷ []) $
    by ! (leaves 𝓛 T stays c y vunit tt (new, (tt, tt)) (tt, (tt, tt))))))))
