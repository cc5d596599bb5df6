-- `bytes` hands on the `&` to the bytes that a `&` to the span holds. Assumes `Logic`.
use Rattle.dml_arena.proofs.Steps.{◌≡◌, ℕ, ◌+◌, ◌*◌, ◌^◌, ◌<◌, List, [], ◌∷◌, refl, ap, arith, w64, length, SProp, emp, id⊢, Lft, ftrue, flft, fact, fact_i, ‵, raw, ◌⊛◌, ◌$◌, ◌∵◌, !, qed, by, move, keep, use0, use1, split, split3, join, fsplit, fsplit3, fjoin, feq_i, at_ret, RattleType, named, block_of, count_of, Fn, Val, vint, vptr, Env, tables, agg, stop, fld, load, look, of_opd, no_more, and_then, first, blocks, exec, returns, enter, alloc_all, pass_all, free_all, look_at, get, through, sets, sets_last, env, owns, types_at, named_lft, nothing, heard, u8, uint_vals, uint_Tells, alive, Stays, stay_dropped, walk_of, Goes-dropped, proved, leaves, after}
use base.Fml.{fhide}
use denote.Memory.{hidden_shr}
use denote.RawPtr.{RawPtr}
use denote.Ref.{shr_vals, shr_Tells}
use denote.Slice.{slice_val, elements_shared}
use types.Kit.{flt_i}
use Rattle.core.proofs.slots.Lent.{pointer_in, pointer_out}
use Rattle.dml_arena.proofs.Sharing.{shown}
use Rattle.dml_arena.proofs.Walks.{slot_at}
use Rattle.dml_arena.specs.contracts.span.Span as span
use Rattle.dml_arena.specs.contracts.span.Span.bytes as f
use Rattle.dml_arena.proofs.span.Span.bytes.Statement.{statement}
use Rattle.dml_arena.proofs.span.Span.bytes.Code as code

pub bytes_spec : {M : Type 1} → statement M
bytes_spec 𝓤 𝓛 𝓜 𝓡 wired =
    let H = 𝓛.H in
    let T = f.ended in
    let c = f.clauses 𝓛 𝓜.mem 𝓡.returns in
    let fn : Fn = code.function in
    let self = slot_at 0 T.signature.params in
    let len = slot_at 1 T.signature.params in
    let stays : Stays T.signature.params T.kept = (stay_dropped self T.kept.0, (stay_dropped len T.kept.1.0, tt)) in
    let 𝓣 = tables 𝓤 H 𝓜 𝓡 𝓡.env in
    proved 𝓛 T stays c 𝓜 𝓡 (Goes-dropped 𝓛 2 self T.kept.0 (λ κs x w. refl), (Goes-dropped 𝓛 2 len T.kept.1.0 (λ κs x w. refl), tt))
    f.Key.name fn (code.unfolded 𝓤 H 𝓜 𝓡 wired)
    (λ κs. (shr_vals, (uint_vals w64, tt))) (λ κs. (shr_Tells (named 0) κs.0 (span.the_row (named_lft 2 1 tt κs)), (uint_Tells w64, tt))) (λ κs qs bounds a _ are.
    let κ : Lft = κs.0 in
    let Row : RattleType = span.the_row (named_lft 2 1 tt κs) in
    let b₀ = a.0.ref_ptr.0 in
    let o₀ = a.0.ref_ptr.1 in
    let h = a.0.now in
    let n = a.1.0 in
    let xs = h.bytes in
    let small : n < 2 ^ 64 = are.1.0.1 in
    let b : ℕ = block_of h.ptr in
    let o : ℕ = count_of h.ptr in
    let y : (walk_of 𝓛 T stays c).Ghost = ((κs, qs, bounds, a, (shr_vals a.0, (uint_vals w64 n, tt))), tt) in
    let Post : Val → SProp 𝓤 = (walk_of 𝓛 T stays c).post y in
    let Asked : Type 0 = n ≡ length xs in
    qed 𝓛 ((raw (alive 𝓛 T.signature κs qs) ⊛ ‵ (owns (types_at T.signature.params κs) a y.0.4)) ∷ raw (fact 𝓤 Asked) ∷ []) ∵
    move ! (1 ∷ []) $ heard ! Asked (λ asked. split ! $ use1 𝓛 (‵ (flft κ qs.0) ⊛ ‵ (flft κs.1.0 qs.1.0) ⊛ ‵ ftrue) (id⊢ 𝓤 _) $ split3 ! $
    move ! (3 ∷ []) $ fsplit3 ! $ fsplit ! $ keep ! (1 ∷ 4 ∷ 5 ∷ 6 ∷ []) $
    use1 𝓛 (‵ (hidden_shr RawPtr κ h.ptr b₀ (o₀ + 0)) ⊛ ‵ (fhide (elements_shared u8 xs b o κ))) (shown 𝓛 (named_lft 2 1 tt κs) κ bounds.0 h b₀ o₀) $ split ! $ move ! (0 ∷ 2 ∷ []) $
    -- [the `&` to the pointer; the token; the bytes; the token of theirs; no other token]
    enter ! 𝓣.C 𝓣.Λ fn (vptr b₀ o₀ ∷ vint w64 n ∷ []) Post $ alloc_all ! (λ l. pass_all ! refl ((tt, tt), ((tt, record { fits = small }), tt)) $
    let En : Env 𝓤 H = env fn.locals l in
    first ! $ blocks ! $ pointer_in ! tt h.ptr b o h.solid b₀ (o₀ + 0) (λ q'.
    sets ! (of_opd ! (load ! (through ! refl (fld ! refl (stop !))) (look ! 0 refl))) refl (tt, tt) $ pointer_out ! tt h.ptr b o h.solid b₀ (o₀ + 0) $
    sets_last ! (agg ! (and_then ! (get ! refl) (and_then ! (get ! refl) (no_more !)))) refl (tt, (tt, (record { fits = small }, tt))) $
    exec ! 𝓣.C 𝓣.Λ En (after 1 fn.body) (at_ret En Post) $ sets ! (of_opd ! (get ! refl)) refl (tt, (tt, (record { fits = small }, tt))) $
    returns ! (look_at ! 0 refl) $ free_all ! refl $
    let place : ℕ × ℕ = (b, o) in
    let held = h.held in
    let fits = h.fits in
    let wide : length xs * 1 < 2 ^ 63 = omega (arith, held, fits) in
    let short : length xs < 2 ^ 64 = omega (arith, held, fits) in
    let Said : Type 0 = xs ≡ h.bytes in
    move ! (0 ∷ 2 ∷ 3 ∷ 1 ∷ []) $ move ! (1 ∷ 2 ∷ []) $ join ! $ move ! (1 ∷ 0 ∷ []) $ join ! $ move ! (1 ∷ []) $
    flt_i ! (length xs * 1) (2 ^ 63) wide $ flt_i ! (length xs) (2 ^ 64) short $ fjoin ! $ feq_i ! (List Val) (slice_val place n ∷ []) (slice_val place (length xs) ∷ []) (ap (λ (k : ℕ). slice_val place k ∷ []) asked) $ fjoin ! $ fjoin ! $
    nothing ! $ nothing ! $ fjoin ! $ nothing ! $ fjoin ! $ use0 𝓛 (raw (fact 𝓤 Said)) (fact_i 𝓤 Said (emp 𝓤) refl) $ move ! (3 ∷ 1 ∷ 2 ∷ 0 ∷ []) $
    by ! (leaves 𝓛 T stays c y (slice_val place n) (record { ref_ptr = place; now = xs }) (tt, (tt, tt)) (tt, (tt, tt)))))))
