-- `meet` closes two neighbours as one loan, and moves no byte. Assumes `Logic`.
use Rattle.dml_arena.proofs.Steps.{◌≡◌, ◌+◌, List, [], ◌∷◌, ◌++◌, refl, ap, sym, ◌∙◌, length, SProp, emp, never, id⊢, Lft, GName, Share, ftrue, fobor, flft, fact, fact_i, ‵, raw, ◌⊛◌, some, later, ◌$◌, ◌∵◌, !, qed, by, move, keep, drop, use0, use1, use2, use3, split, split3, join, pick, rewrite, regoal, fsplit, fsplit3, fjoin, await, prop, RattleType, Ptr, block_ptr, block_of, count_of, Fn, Val, WpFn, tables, whole, sub, agg, stop, fld, of_opd, no_more, and_then, returns, enter, alloc_all, pass_all, free_all, look_at, get, get_in, sets, owns, in_a_block, types_at, named_lft, nothing, heard, alive, Stays, stay_dropped, walk_of, proved_at, leaves, Goes-blank}
use Rattle.std.proofs.Common.{◌⊎◌}
use Rattle.dml_arena.proofs.Fronts.{met}
use Rattle.dml_arena.proofs.Walks.{slot_at}
use Rattle.dml_arena.proofs.Values.{span_val, span_own, span_told, span_own_made}
use Rattle.dml_arena.proofs.Spans.{Loan, Pair, Names, neighbour, joined, both_opened, both_closed}
use Rattle.dml_arena.specs.Ownership.{front, span_owns}
use Rattle.dml_arena.specs.contracts.span.Span as span
use Rattle.dml_arena.specs.contracts.span.Span.meet as f
use Rattle.dml_arena.proofs.span.Span.meet.Statement.{statement}
use Rattle.dml_arena.proofs.span.Span.meet.Code as code

pub meet_spec : {M : Type 1} → statement M
meet_spec 𝓤 𝓛 𝓜 𝓡 wired =
    let H = 𝓛.H in
    let T = f.ended in
    let c = f.clauses 𝓛 𝓜.mem 𝓡.returns in
    let fn : Fn = code.function in
    let self = slot_at 0 T.signature.params in
    let next = slot_at 1 T.signature.params in
    let stays : Stays T.signature.params T.kept = (stay_dropped self T.kept.0, (stay_dropped next T.kept.1.0, tt)) in
    let 𝓣 = tables 𝓤 H 𝓜 𝓡 𝓡.env in
    proved_at 𝓛 T stays c 𝓜 𝓡 (Goes-blank 𝓛 1 self T.kept.0 (λ κs x w. tt), (Goes-blank 𝓛 1 next T.kept.1.0 (λ κs x w. tt), tt))
    f.Key.name fn (code.unfolded 𝓤 H 𝓜 𝓡 wired) (λ y are.
    let Post : Val → SProp 𝓤 = (walk_of 𝓛 T stays c).post y in
    let a = y.0.3 in
    let vss = y.0.4 in
    let κ : Lft = y.0.0.0 in
    let q : Share = y.0.1.0 in
    let x = a.0 in
    let z = a.1.0 in
    let m = x.room in
    let n = z.room in
    let xs = x.bytes in
    let ys = z.bytes in
    let Row : RattleType = span.the_row (named_lft 1 0 tt y.0.0) in
    let Beside : Type 0 = (block_of z.ptr ≡ block_of x.ptr) × (count_of z.ptr ≡ count_of x.ptr + m) in
    let Touch : Type 0 = (length xs ≡ m) ⊎ (ys ≡ []) in
    qed 𝓛 ((raw (alive 𝓛 T.signature y.0.0 y.0.1) ⊛ ‵ (owns (types_at T.signature.params y.0.0) a vss)) ∷ (raw (fact 𝓤 Beside) ⊛ raw (fact 𝓤 Touch)) ∷ []) ∵
    move ! (1 ∷ []) $ split ! $ heard ! Beside (λ beside. heard ! Touch (λ touch. split ! $ move ! (1 ∷ []) $ fsplit3 ! $ fsplit ! $ drop ! $
    in_a_block ! x.ptr (λ p. span_owns κ x.name p m xs) (id⊢ 𝓤 (never 𝓤)) (λ b o e. move ! (1 ∷ []) $ fsplit ! $ drop ! $
    let e' : z.ptr ≡ block_ptr b (o + m) = neighbour z.ptr x.ptr b o m z.solid e beside.0 beside.1 in
    rewrite ! 0 (λ (p : Ptr). ‵ (span_owns κ z.name p n ys)) e' refl $ keep ! (1 ∷ 0 ∷ 3 ∷ []) $
    move ! (2 ∷ []) $ use1 𝓛 (‵ (flft κ q) ⊛ ‵ ftrue) (id⊢ 𝓤 _) $ split ! $ move ! (2 ∷ 3 ∷ 0 ∷ []) $
    -- [the first loan; the second; the token; no other token]
    let told : vss.0 ≡ span_val (block_ptr b o) ∷ [] = span_told x.ptr vss.0 are.0.0 ∙ ap (λ (p : Ptr). span_val p ∷ []) e in
    let told' : vss.1.0 ≡ span_val (block_ptr b (o + m)) ∷ [] = span_told z.ptr vss.1.0 are.1.0.0 ∙ ap (λ (p : Ptr). span_val p ∷ []) e' in
    regoal ! (λ (us : List Val). prop (WpFn 𝓤 H 𝓣.C 𝓣.Λ fn us Post)) (λ i. told i ++ (told' i ++ [])) refl $
    enter ! 𝓣.C 𝓣.Λ fn (span_val (block_ptr b o) ∷ span_val (block_ptr b (o + m)) ∷ []) Post $
    alloc_all ! (λ l. pass_all ! refl ((tt, (tt, (tt, tt))), ((tt, (tt, (tt, tt))), tt)) $
    use3 𝓛 (later (‵ (front m xs b o) ⊛ ‵ (front n ys b (o + m)) ⊛ ‵ (fobor κ q (Pair 𝓛 κ q b m n o x.name z.name)) ⊛ raw (Names 𝓛 κ q b m n o x.name z.name)))
    (both_opened 𝓛 κ q b m n o x.name z.name xs ys) $ await ! tt $ split3 ! $ use2 𝓛 (‵ (front (m + n) (xs ++ ys) b o)) (met 𝓛 b m n o xs ys touch) $
    move ! (1 ∷ []) $ split ! $ move ! (0 ∷ 2 ∷ 1 ∷ []) $
    use3 𝓛 (later (some (λ (γ : GName). ‵ (Loan 𝓛 κ q b (m + n) o (xs ++ ys) γ) ⊛ ‵ (flft κ q)))) (both_closed 𝓛 κ q b m n o x.name z.name (xs ++ ys)) $ await ! tt $ pick ! (λ γ. split ! $
    sets ! (of_opd ! (get_in ! (fld ! refl (stop !)) (sub ! 0 refl (whole !)))) refl (tt, tt) $
    sets ! (of_opd ! (get_in ! (fld ! refl (stop !)) (sub ! 1 refl (whole !)))) refl (tt, tt) $
    sets ! (agg ! (and_then ! (get ! refl) (and_then ! (get ! refl) (no_more !)))) refl (tt, (tt, (tt, tt))) $
    returns ! (look_at ! 0 refl) $ free_all ! refl $
    let p : Ptr = block_ptr b o in
    let r : Row.Denot = joined x z b o e' γ in
    let Place : Type 0 = (r.ptr ≡ x.ptr) × (r.room ≡ m + n) × (r.tie ≡ x.tie) in
    let Bytes : Type 0 = r.bytes ≡ xs ++ ys in
    use0 𝓛 (‵ (span_own p (span_val p ∷ []))) (span_own_made 𝓛 p) $ fjoin ! $ move ! (1 ∷ 2 ∷ []) $ join ! $
    use0 𝓛 (raw (fact 𝓤 Bytes)) (fact_i 𝓤 Bytes (emp 𝓤) refl) $ use0 𝓛 (raw (fact 𝓤 Place)) (fact_i 𝓤 Place (emp 𝓤) (sym e, refl, refl)) $ join ! $
    nothing ! $ nothing ! $ fjoin ! $ nothing ! $ fjoin ! $ move ! (2 ∷ 0 ∷ 3 ∷ 1 ∷ []) $
    by ! (leaves 𝓛 T stays c y (span_val p) r (tt, (tt, tt)) (tt, (tt, tt)))))))))
