-- `join` moves the second's bytes over the gap, while both loans are open. Assumes `Logic`.
use Rattle.dml_arena.proofs.Steps.{◌≡◌, ℕ, ◌+◌, ◌-◌, ◌^◌, ◌<◌, List, [], ◌∷◌, ◌++◌, refl, ap, sym, subst, ◌∙◌, arith, length, w64, SProp, emp, never, id⊢, Lft, GName, Share, ftrue, fobor, flft, fact, fact_i, ‵, raw, ◌⊛◌, some, given, later, ◌$◌, ◌∵◌, !, qed, by, move, keep, drop, use0, use1, use2, use3, split, split3, group, join, pick, learn, rewrite, regoal, fsplit, fsplit3, fjoin, fpick, await, prop, at_ret, ty_unit, has_ty, WT, vint, vptr, vunit, Env, bin, first, blocks, exec, is, lands_last, env, calls_at_last, Goes-dropped, after, fm, RattleType, Ptr, block_ptr, block_of, count_of, Fn, Val, WpFn, tables, whole, sub, agg, stop, fld, of_opd, no_more, and_then, returns, enter, alloc_all, pass_all, free_all, look_at, get, get_in, sets, owns, in_a_block, types_at, named_lft, nothing, heard, alive, Stays, stay_dropped, walk_of, proved_at, leaves, Goes-blank}
use base.Share
use lib.Dec.{T as Holds}
use denote.Builtin.{u8}
use Rattle.core.proofs.ptr.copy.Met as copies
use Rattle.dml_arena.proofs.Fronts.{rm, held, gap_closed}
use Rattle.dml_arena.proofs.Moves.{byte_laws, Copies, at_copies, Copies-goes, Copies-gives}
use Rattle.dml_arena.proofs.Walks.{slot_at}
use Rattle.dml_arena.proofs.Values.{span_val, span_own, span_told, span_own_made}
use Rattle.dml_arena.proofs.Spans.{Loan, Pair, Names, neighbour, joined, both_opened, both_closed}
use Rattle.dml_arena.specs.Ownership.{front, span_owns}
use Rattle.dml_arena.specs.contracts.span.Span as span
use Rattle.dml_arena.specs.contracts.span.Span.join as f
use Rattle.dml_arena.proofs.span.Span.join.Statement.{statement}
use Rattle.dml_arena.proofs.span.Span.join.Code as code

pub join_spec : {M : Type 1} → statement M
join_spec 𝓤 𝓛 𝓜 𝓡 wired =
    let H = 𝓛.H in
    let T = f.ended in
    let c = f.clauses 𝓛 𝓜.mem 𝓡.returns in
    let fn : Fn = code.function in
    let self = slot_at 0 T.signature.params in
    let len = slot_at 1 T.signature.params in
    let next = slot_at 2 T.signature.params in
    let count = slot_at 3 T.signature.params in
    let stays : Stays T.signature.params T.kept = (stay_dropped self T.kept.0, (stay_dropped len T.kept.1.0, (stay_dropped next T.kept.1.1.0, (stay_dropped count T.kept.1.1.1.0, tt)))) in
    let 𝓣 = tables 𝓤 H 𝓜 𝓡 𝓡.env in
    proved_at 𝓛 T stays c 𝓜 𝓡 (
      Goes-blank 𝓛 1 self T.kept.0 (λ κs x w. tt),
      (Goes-dropped 𝓛 1 len T.kept.1.0 (λ κs x w. refl), (Goes-blank 𝓛 1 next T.kept.1.1.0 (λ κs x w. tt), (Goes-dropped 𝓛 1 count T.kept.1.1.1.0 (λ κs x w. refl), tt))),
    )
    f.Key.name fn (code.unfolded 𝓤 H 𝓜 𝓡 wired) (λ y are.
    let Post : Val → SProp 𝓤 = (walk_of 𝓛 T stays c).post y in
    let a = y.0.3 in
    let vss = y.0.4 in
    let κ : Lft = y.0.0.0 in
    let q : Share = y.0.1.0 in
    let ql : Share = Share.left q in
    let qr : Share = Share.right q in
    let x = a.0 in
    let i = a.1.0 in
    let z = a.1.1.0 in
    let j = a.1.1.1.0 in
    let m = x.room in
    let n = z.room in
    let xs = x.bytes in
    let ys = z.bytes in
    let Row : RattleType = span.the_row (named_lft 1 0 tt y.0.0) in
    let Beside : Type 0 = (block_of z.ptr ≡ block_of x.ptr) × (count_of z.ptr ≡ count_of x.ptr + m) in
    let Counts : Type 0 = (i ≡ length xs) × (j ≡ length ys) in
    qed 𝓛 ((raw (alive 𝓛 T.signature y.0.0 y.0.1) ⊛ ‵ (owns (types_at T.signature.params y.0.0) a vss)) ∷ (raw (fact 𝓤 Beside) ⊛ raw (fact 𝓤 Counts) ⊛ raw (fact 𝓤 (i < m))) ∷ []) ∵
    move ! (1 ∷ []) $ split3 ! $ heard ! Beside (λ beside. heard ! Counts (λ counts. heard ! (i < m) (λ gap. split ! $ move ! (1 ∷ []) $ fsplit3 ! $ fsplit ! $ drop ! $
    in_a_block ! x.ptr (λ p. span_owns κ x.name p m xs) (id⊢ 𝓤 (never 𝓤)) (λ b o e. move ! (2 ∷ []) $ fsplit ! $ fsplit ! $ drop ! $
    let e' : z.ptr ≡ block_ptr b (o + m) = neighbour z.ptr x.ptr b o m z.solid e beside.0 beside.1 in
    rewrite ! 0 (λ (p : Ptr). ‵ (span_owns κ z.name p n ys)) e' refl $ keep ! (2 ∷ 0 ∷ 4 ∷ []) $
    move ! (2 ∷ []) $ use1 𝓛 (‵ (flft κ q) ⊛ ‵ ftrue) (id⊢ 𝓤 _) $ split ! $ use1 𝓛 (‵ (flft κ ql) ⊛ ‵ (flft κ qr)) (𝓛.lfts.lft_split κ q) $ split ! $ move ! (3 ∷ 4 ∷ 0 ∷ []) $
    -- [the first loan; the second; one half of the token; the other; no other token]
    let told : vss.0 ≡ span_val (block_ptr b o) ∷ [] = span_told x.ptr vss.0 are.0.0 ∙ ap (λ (p : Ptr). span_val p ∷ []) e in
    let told' : vss.1.1.0 ≡ span_val (block_ptr b (o + m)) ∷ [] = span_told z.ptr vss.1.1.0 are.1.1.0.0 ∙ ap (λ (p : Ptr). span_val p ∷ []) e' in
    regoal ! (λ (us : List Val). prop (WpFn 𝓤 H 𝓣.C 𝓣.Λ fn us Post)) (λ k. told k ++ (are.1.0.0 k ++ (told' k ++ (are.1.1.1.0.0 k ++ [])))) refl $
    enter ! 𝓣.C 𝓣.Λ fn (span_val (block_ptr b o) ∷ vint w64 i ∷ span_val (block_ptr b (o + m)) ∷ vint w64 j ∷ []) Post $
    alloc_all ! (λ l. pass_all ! refl ((tt, (tt, (tt, tt))), ((tt, record { fits = are.1.0.1 }), ((tt, (tt, (tt, tt))), ((tt, record { fits = are.1.1.1.0.1 }), tt)))) $
    let En : Env 𝓤 H = env fn.locals l in
    let place : count_of x.ptr ≡ o = ap count_of e in
    let place' : count_of z.ptr ≡ o + m = ap count_of e' in
    let fits = z.fits in
    let held₁ = x.held in
    let held₂ = z.held in
    let k : ℕ = length xs in
    let d : ℕ = o + k in
    let g : ℕ = m - k in
    use3 𝓛 (later (‵ (front m xs b o) ⊛ ‵ (front n ys b (o + m)) ⊛ ‵ (fobor κ ql (Pair 𝓛 κ ql b m n o x.name z.name)) ⊛ raw (Names 𝓛 κ ql b m n o x.name z.name)))
    (both_opened 𝓛 κ ql b m n o x.name z.name xs ys) $ await ! tt $ split3 ! $ fpick ! (λ _. fsplit ! $ move ! (2 ∷ []) $ fpick ! (λ _. fsplit ! $
    -- [the second's bytes; the room behind them; the first's bytes; the gap; the open loans; half of the token]
    let from : o + m ≡ d + g = omega (arith, held₁) in
    let to : i + o ≡ d = omega (arith, counts.0) in
    let room : 0 < g = omega (arith, counts.0, gap) in
    let ends : d + g + j < 2 ^ 63 = omega (arith, place', fits, held₁, held₂, counts.1) in
    rewrite ! 0 (λ (u : ℕ). ‵ (held 𝓛 b ys u)) from refl $ move ! (0 ∷ 3 ∷ 5 ∷ []) $
    sets ! (of_opd ! (get_in ! (fld ! refl (stop !)) (sub ! 0 refl (whole !)))) refl (tt, tt) $
    sets ! (of_opd ! (get_in ! (fld ! refl (stop !)) (sub ! 1 refl (whole !)))) refl (tt, tt) $
    sets ! (is ! (of_opd ! (get_in ! (fld ! refl (stop !)) (sub ! 0 refl (whole !)))) (ap (vptr b) from)) refl (tt, tt) $
    first ! $ blocks ! $ sets ! (of_opd ! (get ! refl)) refl (tt, tt) $ sets ! (is ! (bin ! (get ! refl) (get ! refl) tt) (ap (vptr b) to)) refl (tt, tt) $
    let call = at_copies 𝓛 𝓜.mem 𝓡.returns κ qr b d g j ys in
    use3 𝓛 (raw ((Copies 𝓛 𝓜.mem 𝓡.returns).pre call)) (Copies-goes 𝓛 𝓜.mem 𝓡.returns κ qr b d g j ys counts.1 room ends) $
    calls_at_last ! (fm 𝓛 𝓜 𝓡) (Copies 𝓛 𝓜.mem 𝓡.returns) (copies.met 𝓤 𝓛 𝓜 𝓡 (code.calls-core::ptr::copy 𝓡.env wired) u8 byte_laws) call (and_then ! (get ! refl) (and_then ! (get ! refl) (and_then ! (get ! refl) (no_more !)))) (λ v.
    use1 𝓛 (later (given (v ≡ vunit) (‵ (held 𝓛 b ys d) ⊛ ‵ (rm 𝓛 b g (d + length ys)) ⊛ ‵ (flft κ qr)))) (Copies-gives 𝓛 𝓜.mem 𝓡.returns κ qr b d g j ys counts.1 v) $
    await ! tt $ learn ! (λ is_unit. split3 ! $ lands_last ! refl (subst (λ (u : Val). Holds (has_ty ty_unit u) × WT u) (sym is_unit) (tt, tt)) $
    exec ! 𝓣.C 𝓣.Λ En (after 4 fn.body) (at_ret En Post) $
    -- [the second's bytes, moved; the gap; half of the token; the room behind; the first's bytes; the open loans]
    move ! (4 ∷ 0 ∷ 1 ∷ 3 ∷ []) $ group ! 4 $ use1 𝓛 (‵ (front (m + n) (xs ++ ys) b o)) (gap_closed 𝓛 b m n o xs ys held₁ held₂) $ move ! (2 ∷ []) $ split ! $ move ! (0 ∷ 2 ∷ 1 ∷ []) $
    use3 𝓛 (later (some (λ (γ : GName). ‵ (Loan 𝓛 κ ql b (m + n) o (xs ++ ys) γ) ⊛ ‵ (flft κ ql)))) (both_closed 𝓛 κ ql b m n o x.name z.name (xs ++ ys)) $ await ! tt $ pick ! (λ γ. split ! $
    move ! (1 ∷ 2 ∷ []) $ use2 𝓛 (‵ (flft κ q)) (𝓛.lfts.lft_join κ q) $ move ! (1 ∷ 0 ∷ []) $
    sets ! (agg ! (and_then ! (get ! refl) (and_then ! (get ! refl) (no_more !)))) refl (tt, (tt, (tt, tt))) $
    returns ! (look_at ! 0 refl) $ free_all ! refl $
    let p : Ptr = block_ptr b o in
    let r : Row.Denot = joined x z b o e' γ in
    let Place : Type 0 = (r.ptr ≡ x.ptr) × (r.room ≡ m + n) × (r.tie ≡ x.tie) in
    let Bytes : Type 0 = r.bytes ≡ xs ++ ys in
    use0 𝓛 (‵ (span_own p (span_val p ∷ []))) (span_own_made 𝓛 p) $ fjoin ! $ move ! (1 ∷ 2 ∷ []) $ join ! $
    use0 𝓛 (raw (fact 𝓤 Bytes)) (fact_i 𝓤 Bytes (emp 𝓤) refl) $ use0 𝓛 (raw (fact 𝓤 Place)) (fact_i 𝓤 Place (emp 𝓤) (sym e, refl, refl)) $ join ! $
    nothing ! $ nothing ! $ fjoin ! $ nothing ! $ fjoin ! $ nothing ! $ fjoin ! $ nothing ! $ fjoin ! $ move ! (2 ∷ 0 ∷ 3 ∷ 1 ∷ []) $
    by ! (leaves 𝓛 T stays c y (span_val p) r (tt, (tt, (tt, (tt, tt)))) (tt, (tt, (tt, (tt, tt))))))))))))))))
