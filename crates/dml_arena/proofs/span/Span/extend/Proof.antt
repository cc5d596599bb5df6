-- `extend` opens the loan, has the slice copied behind the bytes, and closes it. Assumes `Logic`.
use Rattle.dml_arena.proofs.Steps.{◌≡◌, ℕ, ◌+◌, ◌-◌, ◌≤◌, List, [], ◌∷◌, ◌++◌, refl, ap, sym, subst, ◌∙◌, arith, w64, Holds, length, length-append, full_share, SProp, emp, never, id⊢, Lft, Share, ftrue, fsep, flft, fact, fact_i, ‵, raw, ◌⊛◌, some, later, ◌$◌, ◌∵◌, !, qed, by, move, keep, drop, use0, use1, use3, split, split3, join, pick, fsplit, fsplit3, fjoin, fjoin3, fpick, feq_i, feq_l, rewrite, await, at_ret, RattleType, Ptr, block_ptr, ty_unit, has_ty, WT, named, Fn, Val, vint, vptr, vunit, Env, tables, whole, sub, look_in, stop, fld, load, unit_lit, of_opd, bin, no_more, and_then, first, blocks, exec, returns, enter, alloc_all, pass_all, free_all, look_at, get, is, through, sets, lands_last, env, owns, in_a_block, types_at, plain, named_lft, nothing, heard, opens, closes, u8, usize, uint_vals, uint_Tells, mut_vals, mut_Tells, open_ref, close_ref, alive, calls_at_last, Stays, stay_dropped, stay_ref, walk_of, Goes-dropped, Goes-ref, proved, leaves, after, fm}
use denote.Builtin.{unit}
use denote.Laws.{shows}
use denote.Memory.{cell_at}
use denote.Slice.{shr_slice_vals, shr_slice_Tells}
use denote.Steps.{only, peeks}
use denote.Triple.Spec.{triple_of}
use Rattle.dml_arena.proofs.Walks.{slot_at}
use Rattle.dml_arena.proofs.Fronts.{rm, opened_behind, two_held}
use Rattle.dml_arena.proofs.Values.{span_val, span_told}
use Rattle.dml_arena.specs.Ownership.{front, Front, holds_at, span_owns}
use Rattle.dml_arena.specs.contracts.span.fill as g
use Rattle.dml_arena.proofs.span.fill.Met.{met}
use Rattle.dml_arena.specs.contracts.span.Span as span
use Rattle.dml_arena.specs.contracts.span.Span.extend as f
use Rattle.dml_arena.proofs.span.Span.extend.Statement.{statement}
use Rattle.dml_arena.proofs.span.Span.extend.Code as code

pub extend_spec : {M : Type 1} → statement M
extend_spec 𝓤 𝓛 𝓜 𝓡 wired =
    let H = 𝓛.H in
    let T = f.ended in
    let c = f.clauses 𝓛 𝓜.mem 𝓡.returns in
    let fn : Fn = code.function in
    let self = plain (λ κs. span.the_row (named_lft 3 1 tt κs)) in
    let len = plain (λ _. usize) in
    let src = slot_at 2 T.signature.params in
    let stays : Stays T.signature.params T.kept = (stay_ref (0 ∷ []) tt self, (stay_dropped len T.kept.1.0, (stay_dropped src T.kept.1.1.0, tt))) in
    let 𝓣 = tables 𝓤 H 𝓜 𝓡 𝓡.env in
    proved 𝓛 T stays c 𝓜 𝓡 (Goes-ref 𝓛 3 0 tt self, (Goes-dropped 𝓛 3 len T.kept.1.0 (λ κs x w. refl), (Goes-dropped 𝓛 3 src T.kept.1.1.0 (λ κs x w. refl), tt)))
    f.Key.name fn (code.unfolded 𝓤 H 𝓜 𝓡 wired) (λ κs. (mut_vals, (uint_vals w64, (shr_slice_vals, tt))))
    (λ κs. (mut_Tells (named 0) κs.0 (span.the_row (named_lft 3 1 tt κs)), (uint_Tells w64, (shr_slice_Tells (named 2) κs.1.1.0 u8, tt)))) (λ κs qs bounds a _ are.
    let Row : RattleType = span.the_row (named_lft 3 1 tt κs) in
    let κ : Lft = κs.1.0 in
    let κ' : Lft = κs.1.1.0 in
    let q' : Share = qs.1.1.0 in
    let b₀ = a.0.ref_ptr.0 in
    let o₀ = a.0.ref_ptr.1 in
    let h = a.0.now in
    let i = a.1.0 in
    let s = a.1.1.0 in
    let n = h.room in
    let xs = h.bytes in
    let ys = s.now in
    let m : ℕ = length xs in
    let j : ℕ = length ys in
    let y : (walk_of 𝓛 T stays c).Ghost = ((κs, qs, bounds, a, (mut_vals a.0, (uint_vals w64 i, (shr_slice_vals s, tt)))), tt) in
    let Post : Val → SProp 𝓤 = (walk_of 𝓛 T stays c).post y in
    let Asked : Type 0 = (i ≡ m) × (i + j ≤ n) in
    qed 𝓛 ((raw (alive 𝓛 T.signature κs qs) ⊛ ‵ (owns (types_at T.signature.params κs) a y.0.4)) ∷ raw (fact 𝓤 Asked) ∷ []) ∵
    move ! (1 ∷ []) $ heard ! Asked (λ asked. split ! $ use1 𝓛 (‵ (flft κs.0 qs.0) ⊛ ‵ (flft κ qs.1.0) ⊛ ‵ (flft κ' q') ⊛ ‵ ftrue) (id⊢ 𝓤 _) $ split3 ! $ move ! (2 ∷ []) $ split ! $
    move ! (4 ∷ []) $ fsplit3 ! $ fsplit3 ! $ move ! (4 ∷ []) $ fsplit ! $ keep ! (3 ∷ 4 ∷ 8 ∷ 9 ∷ 0 ∷ 6 ∷ 7 ∷ []) $
    -- [self's loan, in two entries; the tokens of self and of the bytes; the slice and its token; no other token]
    enter ! 𝓣.C 𝓣.Λ fn (vptr b₀ o₀ ∷ vint w64 i ∷ shr_slice_vals s ++ []) Post $
    alloc_all ! (λ l. pass_all ! refl ((tt, tt), ((tt, record { fits = are.1.0.1 }), ((tt, (tt, (record { fits = are.1.1.0.0.1.0 }, tt))), tt))) $
    let En : Env 𝓤 H = env fn.locals l in
    opens ! tt Row {h = h} b₀ o₀ (λ us. move ! (1 ∷ []) $ peeks ! Row _ (shows 𝓛 Row) h us (λ told. fsplit ! $ move ! (1 ∷ []) $
    in_a_block ! h.ptr (λ p. span_owns κ h.name p n xs) (id⊢ 𝓤 (never 𝓤)) (λ b o e.
    let Cell = λ (ws : List Val). ‵ (cell_at full_share Row.mir ws b₀ o₀) in
    let word : us ≡ span_val (block_ptr b o) ∷ [] = span_told h.ptr us told.0 ∙ ap (λ (p : Ptr). span_val p ∷ []) e in
    rewrite ! 2 Cell word refl $ fsplit ! $ move ! (0 ∷ 1 ∷ 7 ∷ []) $ open_ref ! tt (Front n) {x = xs} {b = b} {o = o} $ fpick ! (λ _. fsplit ! $
    let held₁ = h.held in
    let fit : m + j ≤ n = omega (arith, asked.0, asked.1) in
    let d : ℕ = o + m in
    let to : i + o ≡ d = omega (arith, asked.0) in
    move ! (1 ∷ []) $ use1 𝓛 (‵ (rm 𝓛 b j d) ⊛ ‵ (rm 𝓛 b (n - m - j) (d + j))) (opened_behind 𝓛 b n m j o fit) $ split ! $
    -- [the room for the slice; the room behind it; the bytes; the open loan, in three; the fields; the cell; self's, in three; the slice; its token; no other token]
    first ! $ blocks ! $ sets ! (of_opd ! (load ! (through ! refl (fld ! refl (stop !))) (look_in ! 7 (sub ! 0 refl (whole !))))) refl (tt, tt) $
    sets ! (is ! (bin ! (get ! refl) (get ! refl) tt) (ap (vptr b) to)) refl (tt, tt) $
    let G = triple_of 𝓛 g.signature (g.spec 𝓛 𝓜.mem 𝓡.returns) in
    let call : G.Ghost = (((κ', tt), (q', tt), tt, (block_ptr b d, (s, tt)), (vptr b d ∷ [], (shr_slice_vals s, tt))), tt) in
    move ! (11 ∷ 12 ∷ 0 ∷ []) $ nothing ! $ move ! (1 ∷ 0 ∷ []) $ fjoin ! $ feq_i ! (List Val) (vptr b d ∷ []) (vptr b d ∷ []) refl $ fjoin ! $
    nothing ! $ move ! (2 ∷ 0 ∷ []) $ join ! $ join ! $ join ! $ use1 𝓛 (raw (G.pre call)) (id⊢ 𝓤 _) $
    calls_at_last ! (fm 𝓛 𝓜 𝓡) G (met 𝓤 𝓛 𝓜 𝓡 (code.calls-dml_arena::span::fill 𝓡.env wired)) call (and_then ! (get ! refl) (and_then ! (get ! refl) (no_more !))) (λ v.
    use1 𝓛 (later (some (λ (r : Unit {0}). ((‵ (flft κ' q') ⊛ ‵ ftrue) ⊛ ‵ (unit.own_val r (v ∷ [])))
    ⊛ some (λ (ws : Unit {0} × (Unit {0} × Unit {0})). ‵ (fsep ftrue (fsep ftrue ftrue)) ⊛ ‵ (holds_at (block_ptr b d) ys))))) (id⊢ 𝓤 _) $ await ! tt $ pick ! (λ _. split ! $ split ! $ move ! (1 ∷ []) $ feq_l ! (λ is_unit.
    move ! (1 ∷ []) $ pick ! (λ _. split ! $ drop ! $ lands_last ! refl (subst (λ (u : Val). Holds (has_ty ty_unit u) × WT u) (sym (ap only is_unit)) (tt, tt)) $
    exec ! 𝓣.C 𝓣.Λ En (after 1 fn.body) (at_ret En Post) $
    -- [the slice's copy; its token; the room behind it; the bytes; and so on]
    move ! (3 ∷ 0 ∷ 2 ∷ []) $ use3 𝓛 (‵ (front n (xs ++ ys) b o)) (two_held 𝓛 b n xs ys o (n - m - j) (omega (arith, fit))) $ move ! (0 ∷ 2 ∷ 3 ∷ 4 ∷ []) $
    close_ref ! tt (Front n) (xs ++ ys) $ fjoin ! $ rewrite ! 0 (λ (p : Ptr). ‵ (span_owns κ h.name p n (xs ++ ys))) (sym e) refl $
    let long = length-append xs ys in
    let new : Row.Denot = record { ptr = h.ptr; mark = h.mark; name = h.name; tie = h.tie; room = n; bytes = xs ++ ys; fits = h.fits; held = omega (arith, fit, long); solid = h.solid } in
    move ! (3 ∷ 0 ∷ []) $ fjoin ! $ rewrite ! 3 Cell (sym word) refl $ move ! (3 ∷ 0 ∷ 4 ∷ 5 ∷ 6 ∷ []) $ closes ! tt Row new us b₀ o₀ $
    -- [self's loan, in two; the tokens of self, of the bytes and of the slice; no other token]
    sets ! (of_opd ! (unit_lit !)) refl (tt, tt) $ returns ! (look_at ! 0 refl) $ free_all ! refl $
    let Place : Type 0 = (new.ptr ≡ h.ptr) × (new.room ≡ n) × (new.tie ≡ h.tie) in
    let Bytes : Type 0 = new.bytes ≡ xs ++ ys in
    feq_i ! (List Val) (vptr b₀ o₀ ∷ []) (vptr b₀ o₀ ∷ []) refl $ fjoin3 ! $ nothing ! $ nothing ! $ fjoin ! $ nothing ! $ fjoin ! $ move ! (1 ∷ 0 ∷ []) $ fjoin ! $
    move ! (2 ∷ 3 ∷ []) $ join ! $ move ! (2 ∷ 0 ∷ []) $ join ! $ move ! (2 ∷ []) $ drop ! $ feq_i ! (List Val) (vunit ∷ []) (vunit ∷ []) refl $
    use0 𝓛 (raw (fact 𝓤 Bytes)) (fact_i 𝓤 Bytes (emp 𝓤) refl) $ use0 𝓛 (raw (fact 𝓤 Place)) (fact_i 𝓤 Place (emp 𝓤) (refl, refl, refl)) $ join ! $ move ! (2 ∷ 3 ∷ 1 ∷ 0 ∷ []) $
    by ! (leaves 𝓛 T stays c y vunit tt (new, (tt, (tt, tt))) (tt, (tt, (tt, tt)))))))))))))))
