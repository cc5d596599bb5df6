-- `lend` opens the arena's own loan for good, and lends its room out of that. Assumes `Logic`.
use Rattle.dml_arena.proofs.Steps.{◌≡◌, List, [], ◌∷◌, refl, ap, sym, ◌∙◌, arith, full_share, SProp, ent, sep, emp, never, id⊢, Lft, GName, Share, ftrue, fsep, flft, fact, fact_i, sem, Body, ‵, raw, ◌⊛◌, some, later, ◌$◌, ◌∵◌, !, qed, done, by, move, keep, drop, use0, use1, use2, use3, split, split3, join, pick, learn, fsplit, fsplit3, fjoin, fpack, rewrite, await, RattleType, Ptr, block_ptr, block_of, count_of, named, Fn, Val, vptr, tables, whole, sub, agg, look_in, stop, fld, load, of_opd, no_more, and_then, returns, enter, alloc_all, pass_all, free_all, look_at, get, through, sets, owns, in_a_block, types_at, plain, named_lft, nothing, mut_vals, mut_Tells, open_ref, alive, Stays, stay_dropped, walk_of, Goes-spent_ref, proved, leaves}
use base.Fml.{fauth}
use denote.Exit.{no}
use denote.Follow.{follows, follows_said}
use denote.Memory.{cell_at, mem}
use denote.RattleType.{flat}
use mir.Val.{of_list, vstruct, vcons}
use types.Tokens.{name_new, name_done}
use Rattle.dml_arena.proofs.Fronts.{rm, fresh}
use Rattle.dml_arena.proofs.Lending.{Ar, In, S, words, Around, Cell, Out, room_out, room_in}
use Rattle.dml_arena.proofs.Spans.{Loan, span_made}
use Rattle.dml_arena.proofs.Values.{memory_val, span_val, span_own, span_own_made}
use Rattle.dml_arena.proofs.Walks.{slot_at}
use Rattle.dml_arena.specs.Block.{Block}
use Rattle.dml_arena.specs.Ownership.{front, room_of}
use Rattle.dml_arena.specs.contracts.span.Span as span
use Rattle.dml_arena.specs.contracts.arena.Arena.lend as f
use Rattle.dml_arena.proofs.arena.Arena.lend.Statement.{statement}
use Rattle.dml_arena.proofs.arena.Arena.lend.Code as code

pub lend_spec : {M : Type 1} → statement M
lend_spec 𝓤 𝓛 𝓜 𝓡 wired =
    let H = 𝓛.H in
    let A = 𝓛.A in
    let T = f.ended in
    let c = f.clauses 𝓛 𝓜.mem 𝓡.returns in
    let fn : Fn = code.function in
    let self = slot_at 0 T.signature.params in
    let stays : Stays T.signature.params T.kept = (stay_dropped self no, tt) in
    let 𝓣 = tables 𝓤 H 𝓜 𝓡 𝓡.env in
    proved 𝓛 T stays c 𝓜 𝓡 (Goes-spent_ref 𝓛 1 (0 ∷ []) tt (plain (λ _. Ar)), tt) f.Key.name fn (code.unfolded 𝓤 H 𝓜 𝓡 wired)
    (λ κs. (mut_vals, tt)) (λ κs. (mut_Tells (named 0) κs.0 Ar, tt)) (λ κs qs bounds a _ are.
    let κ : Lft = κs.0 in
    let q : Share = qs.0 in
    let b₀ = a.0.ref_ptr.0 in
    let o₀ = a.0.ref_ptr.1 in
    let γ : GName = a.0.ghost_name in
    let d = a.0.now in
    let Row : RattleType = span.the_row (named_lft 1 0 tt κs) in
    let y : (walk_of 𝓛 T stays c).Ghost = ((κs, qs, bounds, a, (mut_vals a.0, tt)), tt) in
    let Post : Val → SProp 𝓤 = (walk_of 𝓛 T stays c).post y in
    qed 𝓛 ((raw (alive 𝓛 T.signature κs qs) ⊛ ‵ (owns (types_at T.signature.params κs) a y.0.4)) ∷ ‵ ftrue ∷ []) ∵
    split ! $ use1 𝓛 (‵ (flft κ q) ⊛ ‵ ftrue) (id⊢ 𝓤 _) $ split ! $ move ! (2 ∷ []) $ fsplit ! $ fsplit3 ! $ keep ! (1 ∷ 2 ∷ 4 ∷ 5 ∷ []) $
    -- [self's loan, in two entries; its token; no other token]
    enter ! 𝓣.C 𝓣.Λ fn (vptr b₀ o₀ ∷ []) Post $ alloc_all ! (λ l. pass_all ! refl ((tt, tt), tt) $
    open_ref ! tt (mem Ar) {x = d} {b = b₀} {o = o₀} $ use1 𝓛 (some (Out b₀ o₀ 𝓛 d)) (room_out b₀ o₀ 𝓛 d) $ pick ! (λ x. pick ! (λ vss. learn ! (λ told. split3 ! $
    -- [the room; the fields; the struct's cell; the open loan, in three entries; no other token]
    let m = x.0.memory in
    let n = m.size in
    in_a_block ! m.ptr (λ p. room_of p n) (id⊢ 𝓤 (never 𝓤)) (λ b o e.
    let word : words vss ≡ vstruct (vcons (memory_val (block_ptr b o) n) (of_list (flat S.fields ([], vss.1)))) ∷ [] = (λ i. vstruct (of_list (flat S.fields (told i, vss.1))) ∷ []) ∙ ap (λ (p : Ptr). vstruct (vcons (memory_val p n) (of_list (flat S.fields ([], vss.1)))) ∷ []) e in
    let Held = λ (ws : List Val). ‵ (cell_at full_share In.mir ws b₀ o₀) in
    rewrite ! 2 Held word refl $
    sets ! (of_opd ! (load ! (through ! refl (fld ! refl (fld ! refl (stop !)))) (look_in ! 2 (sub ! 0 refl (sub ! 0 refl (whole !)))))) refl (tt, tt) $ rewrite ! 2 Held (sym word) refl $
    move ! (4 ∷ []) $ name_done ! tt $ name_new ! tt (Ar.coded.code d) (λ δ. drop ! $ move ! (1 ∷ 0 ∷ []) $
    use2 𝓛 (‵ (follows Ar Ar γ δ (λ _. d))) (follows_said 𝓛 Ar γ δ d d) $
    -- [what follows; the room; the fields; the cell; the open loan; the name's half; no other token]
    move ! (1 ∷ []) $ use1 𝓛 (‵ (front n [] b o)) (fresh 𝓛 b n o) $ move ! (3 ∷ 5 ∷ []) $ join ! $ move ! (3 ∷ 0 ∷ []) $ join ! $ move ! (3 ∷ 1 ∷ 0 ∷ []) $
    -- [the open loan; the bytes to be lent; all that stays behind; what follows; no other token]
    let Kept : SProp 𝓤 = sep 𝓤 (sem 𝓛 (Around b₀ o₀ x.0 vss)) (sep 𝓤 (sem 𝓛 (Cell b₀ o₀ vss)) (A.auth γ (Ar.coded.code d))) in
    let back : ent 𝓤 (sep 𝓤 (sem 𝓛 (rm 𝓛 b n o)) Kept) (sem 𝓛 (Body (mem Ar) b₀ o₀ γ)) =
    qed 𝓛 (‵ (rm 𝓛 b n o) ∷ (‵ (Around b₀ o₀ x.0 vss) ⊛ ‵ (Cell b₀ o₀ vss) ⊛ ‵ (fauth γ (Ar.coded.code d))) ∷ []) {P = sem 𝓛 (Body (mem Ar) b₀ o₀ γ)} (
    rewrite ! 0 (λ (p : Ptr). ‵ (room_of p n)) (sym e) refl $ move ! (1 ∷ []) $ split3 ! $ move ! (3 ∷ 0 ∷ 1 ∷ []) $
    use3 𝓛 (‵ ((mem Ar).own_at d b₀ o₀)) (room_in b₀ o₀ 𝓛 d x vss) $ fjoin ! $ fpack ! Block (λ z. fsep ((mem Ar).own_at z b₀ o₀) (fauth γ (Ar.coded.code z))) d $ done !) in
    use3 𝓛 (later (some (λ (ν : GName). ‵ (Loan 𝓛 κ q b n o [] ν) ⊛ ‵ (flft κ q)))) (span_made 𝓛 κ q b n o (Body (mem Ar) b₀ o₀ γ) Kept back []) $ await ! tt $ pick ! (λ ν. split ! $
    sets ! (agg ! (no_more !)) refl (tt, tt) $ sets ! (agg ! (and_then ! (get ! refl) (and_then ! (get ! refl) (no_more !)))) refl (tt, (tt, (tt, tt))) $
    returns ! (look_at ! 0 refl) $ free_all ! refl $
    let p : Ptr = block_ptr b o in
    let first : o ≡ 0 = ap count_of (sym e) ∙ x.1.1.start in
    let small = m.fits in
    let r : Row.Denot = record { ptr = p; mark = record {}; name = ν; tie = δ; room = n; bytes = []; fits = omega (arith, first, small); held = omega arith; solid = refl } in
    let Whole : Type 0 = (block_of r.ptr ≡ d.block) × (count_of r.ptr ≡ 0) × (r.room ≡ d.size) × (r.bytes ≡ []) in
    let whole : Whole = (ap block_of (sym e) ∙ ap (λ (z : Block). z.block) x.1.0, first, x.1.1.size ∙ ap (λ (z : Block). z.size) x.1.0, refl) in
    use0 𝓛 (‵ (span_own p (span_val p ∷ []))) (span_own_made 𝓛 p) $ fjoin ! $ move ! (1 ∷ 3 ∷ []) $ join ! $
    use0 𝓛 (raw (fact 𝓤 Whole)) (fact_i 𝓤 Whole (emp 𝓤) whole) $ move ! (3 ∷ 0 ∷ []) $ join ! $ nothing ! $ nothing ! $ fjoin ! $ move ! (2 ∷ 0 ∷ 3 ∷ 1 ∷ []) $
    by ! (leaves 𝓛 T stays c y (span_val p) r (tt, tt) (tt, tt))))))))))
