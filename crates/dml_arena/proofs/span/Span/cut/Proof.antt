-- `cut` cuts the empty loan in two, and touches no byte. Assumes `Logic`.
use Rattle.dml_arena.proofs.Steps.{◌≡◌, ℕ, ◌+◌, ◌-◌, ◌≤◌, List, [], ◌∷◌, ◌++◌, refl, ap, sym, ◌∙◌, arith, w64, SProp, emp, never, id⊢, Lft, Share, ftrue, flft, fact, fact_i, ‵, raw, ◌⊛◌, some, later, ◌$◌, ◌∵◌, !, qed, by, move, keep, drop, use0, use1, use2, split, split3, join, pick, rewrite, regoal, fsplit, fsplit3, fjoin, await, prop, at_ret, RattleType, Ptr, block_ptr, block_of, count_of, Fn, Val, vint, vptr, Env, WpFn, tables, whole, sub, agg, stop, fld, of_opd, bin, no_more, and_then, first, blocks, exec, returns, enter, alloc_all, pass_all, free_all, look_at, get, get_in, is, sets, sets_last, env, owns, in_a_block, types_at, named_lft, nothing, heard, Tuple, alive, Stays, stay_dropped, walk_of, Goes-dropped, proved_at, leaves, Goes-blank, after}
use Rattle.std_alloc.proofs.Pairs.{pair_of, pair_val}
use Rattle.dml_arena.proofs.Walks.{slot_at}
use Rattle.dml_arena.proofs.Values.{span_val, span_own, span_told, span_own_made}
use Rattle.dml_arena.proofs.Spans.{Halves, span_cut}
use Rattle.dml_arena.specs.Ownership.{span_owns}
use Rattle.dml_arena.specs.contracts.span.Span as span
use Rattle.dml_arena.specs.contracts.span.Span.cut as f
use Rattle.dml_arena.proofs.span.Span.cut.Statement.{statement}
use Rattle.dml_arena.proofs.span.Span.cut.Code as code

pub cut_spec : {M : Type 1} → statement M
cut_spec 𝓤 𝓛 𝓜 𝓡 wired =
    let H = 𝓛.H in
    let T = f.ended in
    let c = f.clauses 𝓛 𝓜.mem 𝓡.returns in
    let fn : Fn = code.function in
    let self = slot_at 0 T.signature.params in
    let size = slot_at 1 T.signature.params in
    let stays : Stays T.signature.params T.kept = (stay_dropped self T.kept.0, (stay_dropped size T.kept.1.0, tt)) in
    let 𝓣 = tables 𝓤 H 𝓜 𝓡 𝓡.env in
    proved_at 𝓛 T stays c 𝓜 𝓡 (Goes-blank 𝓛 1 self T.kept.0 (λ κs x w. tt), (Goes-dropped 𝓛 1 size T.kept.1.0 (λ κs x w. refl), tt))
    f.Key.name fn (code.unfolded 𝓤 H 𝓜 𝓡 wired) (λ y are.
    let Post : Val → SProp 𝓤 = (walk_of 𝓛 T stays c).post y in
    let a = y.0.3 in
    let vss = y.0.4 in
    let κ : Lft = y.0.0.0 in
    let q : Share = y.0.1.0 in
    let x = a.0 in
    let n = a.1.0 in
    let small = are.1.0.1 in
    let Row : RattleType = span.the_row (named_lft 1 0 tt y.0.0) in
    let Asked : Type 0 = (n ≤ x.room) × (x.bytes ≡ []) in
    qed 𝓛 ((raw (alive 𝓛 T.signature y.0.0 y.0.1) ⊛ ‵ (owns (types_at T.signature.params y.0.0) a vss)) ∷ raw (fact 𝓤 Asked) ∷ []) ∵
    move ! (1 ∷ []) $ heard ! Asked (λ asked. split ! $ move ! (1 ∷ []) $ fsplit3 ! $ fsplit ! $ drop ! $
    in_a_block ! x.ptr (λ p. span_owns κ x.name p x.room x.bytes) (id⊢ 𝓤 (never 𝓤)) (λ b o e. keep ! (0 ∷ 3 ∷ []) $
    rewrite ! 0 (λ (zs : List ℕ). ‵ (span_owns κ x.name (block_ptr b o) x.room zs)) asked.1 refl $
    move ! (1 ∷ []) $ use1 𝓛 (‵ (flft κ q) ⊛ ‵ ftrue) (id⊢ 𝓤 _) $ split ! $ move ! (2 ∷ 0 ∷ []) $
    let told : vss.0 ≡ span_val (block_ptr b o) ∷ [] = span_told x.ptr vss.0 are.0.0 ∙ ap (λ (p : Ptr). span_val p ∷ []) e in
    regoal ! (λ (us : List Val). prop (WpFn 𝓤 H 𝓣.C 𝓣.Λ fn us Post)) (λ i. told i ++ (are.1.0.0 i ++ [])) refl $
    enter ! 𝓣.C 𝓣.Λ fn (span_val (block_ptr b o) ∷ vint w64 n ∷ []) Post $
    alloc_all ! (λ l. pass_all ! refl ((tt, (tt, (tt, tt))), ((tt, record { fits = small }), tt)) $
    let En : Env 𝓤 H = env fn.locals l in
    use2 𝓛 (later (some (Halves 𝓛 κ q b n (x.room - n) o))) (span_cut 𝓛 κ q b n x.room o x.name asked.0) $ await ! tt $ pick ! (λ γs. split3 ! $
    -- [the first loan; the second; the token; no other token]
    let place : count_of x.ptr ≡ o = ap count_of e in
    let fits = x.fits in
    let next : n + o ≡ o + n = omega arith in
    sets ! (of_opd ! (get_in ! (fld ! refl (stop !)) (sub ! 0 refl (whole !)))) refl (tt, tt) $
    sets ! (of_opd ! (get_in ! (fld ! refl (stop !)) (sub ! 1 refl (whole !)))) refl (tt, tt) $
    first ! $ blocks ! $ sets_last ! (is ! (bin ! (get ! refl) (get ! refl) tt) (ap (vptr b) next)) refl (tt, tt) $
    exec ! 𝓣.C 𝓣.Λ En (after 3 fn.body) (at_ret En Post) $
    sets ! (of_opd ! (get ! refl)) refl (tt, tt) $
    sets ! (agg ! (and_then ! (get ! refl) (and_then ! (get ! refl) (no_more !)))) refl (tt, (tt, (tt, tt))) $
    sets ! (agg ! (no_more !)) refl (tt, tt) $
    sets ! (agg ! (and_then ! (get ! refl) (and_then ! (get ! refl) (no_more !)))) refl (tt, (tt, (tt, tt))) $
    sets ! (agg ! (and_then ! (get ! refl) (and_then ! (get ! refl) (no_more !)))) refl (tt, ((tt, (tt, tt)), ((tt, (tt, tt)), tt))) $
    returns ! (look_at ! 0 refl) $ free_all ! refl $
    let p : Ptr = block_ptr b o in
    let p' : Ptr = block_ptr b (o + n) in
    let front : Row.Denot = record { ptr = p; mark = record {}; name = γs.0; tie = x.tie; room = n; bytes = []; fits = omega (arith, place, asked.0, fits); held = omega arith; solid = refl } in
    let back : Row.Denot = record { ptr = p'; mark = record {}; name = γs.1; tie = x.tie; room = x.room - n; bytes = []; fits = omega (arith, place, asked.0, fits); held = omega arith; solid = refl } in
    let v : Val = pair_val (span_val p) (span_val p') in
    let Front : Type 0 = (front.ptr ≡ x.ptr) × (front.room ≡ n) × (front.bytes ≡ []) in
    let Back : Type 0 = (block_of back.ptr ≡ block_of x.ptr) × (count_of back.ptr ≡ count_of x.ptr + n) × (back.room ≡ x.room - n) × (back.bytes ≡ []) in
    use0 𝓛 (‵ (span_own p (span_val p ∷ []))) (span_own_made 𝓛 p) $ fjoin ! $ move ! (1 ∷ []) $
    use0 𝓛 (‵ (span_own p' (span_val p' ∷ []))) (span_own_made 𝓛 p') $ fjoin ! $ move ! (1 ∷ 0 ∷ []) $
    use2 𝓛 (‵ ((Tuple (Row ∷ Row ∷ [])).own_val (front, back) (v ∷ []))) (pair_of 𝓛 Row Row front back (span_val p) (span_val p')) $ move ! (1 ∷ 2 ∷ []) $ join ! $
    use0 𝓛 (raw (fact 𝓤 Back)) (fact_i 𝓤 Back (emp 𝓤) (ap block_of (sym e), ap (λ (r : Ptr). count_of r + n) (sym e), refl, refl)) $
    use0 𝓛 (raw (fact 𝓤 Front)) (fact_i 𝓤 Front (emp 𝓤) (sym e, refl, refl)) $ join ! $ nothing ! $ nothing ! $ fjoin ! $ nothing ! $ fjoin ! $ move ! (2 ∷ 0 ∷ 3 ∷ 1 ∷ []) $
    by ! (leaves 𝓛 T stays c y v (front, back) (tt, (tt, tt)) (tt, (tt, tt))))))))
