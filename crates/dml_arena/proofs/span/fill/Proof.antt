-- `fill` copies all of a slice into room, by one call. Assumes `Logic`.
use Rattle.dml_arena.proofs.Steps.{◌≡◌, ℕ, ◌*◌, ◌^◌, ◌<◌, List, [], ◌∷◌, refl, sym, arith, length, SProp, never, id⊢, Lft, Share, ftrue, flft, ‵, raw, ◌⊛◌, some, given, later, ◌$◌, ◌∵◌, !, qed, by, move, keep, use1, use2, use3, split, join, pick, learn, regoal, rewrite, fsplit3, fjoin, feq_i, await, prop, at_ret, RattleType, Ptr, ptr_val, named, Fn, Val, vunit, Env, WpFn, tables, whole, sub, stop, fld, unit_lit, of_opd, no_more, and_then, first, blocks, exec, returns, enter, alloc_all, pass_all, free_all, look_at, get, get_in, sets, lands_as, lands_last, env, owns, in_a_block, types_at, type_at, nothing, u8, alive, calls_at, calls_at_last, Stays, stay_dropped, walk_of, Goes-dropped, proved, leaves, after, fm}
use denote.RawPtr.{rawptr_vals, rawptr_Tells}
use denote.Slice.{shr_slice_vals, shr_slice_Tells}
use Rattle.core.proofs.slots.Opens.{row_val}
use Rattle.core.proofs.slots.Slots.from_raw_parts.Met as from
use Rattle.core.proofs.slots.Slots.into_raw_parts.Met as into
use Rattle.dml_arena.proofs.span.filled_with.Met as fills
use Rattle.dml_arena.proofs.Walks.{slot_at}
use Rattle.dml_arena.proofs.Fronts.{held}
use Rattle.dml_arena.proofs.Moves.{byte_laws}
use Rattle.dml_arena.proofs.Filling.{Row, parts_typed, From, at_from, from_goes, from_gives, Lies, Fills, at_fills, Full, fills_goes, fills_gives, Into, at_into, into_goes, into_gives}
use Rattle.dml_arena.specs.Ownership.{room_of, holds_at}
use Rattle.dml_arena.specs.contracts.span.fill as f
use Rattle.dml_arena.proofs.span.fill.Statement.{statement}
use Rattle.dml_arena.proofs.span.fill.Code as code

pub fill_spec : {M : Type 1} → statement M
fill_spec 𝓤 𝓛 𝓜 𝓡 wired =
    let H = 𝓛.H in
    let T = f.ended in
    let c = f.clauses 𝓛 𝓜.mem 𝓡.returns in
    let fn : Fn = code.function in
    let dst = slot_at 0 T.signature.params in
    let src = slot_at 1 T.signature.params in
    let stays : Stays T.signature.params T.kept = (stay_dropped dst T.kept.0, (stay_dropped src T.kept.1.0, tt)) in
    let 𝓣 = tables 𝓤 H 𝓜 𝓡 𝓡.env in
    proved 𝓛 T stays c 𝓜 𝓡 (Goes-dropped 𝓛 1 dst T.kept.0 (λ κs x w. refl), (Goes-dropped 𝓛 1 src T.kept.1.0 (λ κs x w. refl), tt))
    f.Key.name fn (code.unfolded 𝓤 H 𝓜 𝓡 wired)
    (λ κs. (rawptr_vals, (shr_slice_vals, tt))) (λ κs. (rawptr_Tells, (shr_slice_Tells (named 0) κs.0 u8, tt))) (λ κs qs bounds a _ are.
    let κ : Lft = κs.0 in
    let q : Share = qs.0 in
    let s = a.1.0 in
    let xs = s.now in
    let n : ℕ = length xs in
    let small : n < 2 ^ 64 = are.1.0.0.1.0 in
    let wide : n * 1 < 2 ^ 63 = are.1.0.0.1.1 in
    let fits : n < 2 ^ 63 = omega (arith, wide) in
    let Src : RattleType = type_at src κs in
    let y : (walk_of 𝓛 T stays c).Ghost = ((κs, qs, bounds, a, (rawptr_vals a.0, (shr_slice_vals s, tt))), tt) in
    let Post : Val → SProp 𝓤 = (walk_of 𝓛 T stays c).post y in
    qed 𝓛 ((raw (alive 𝓛 T.signature κs qs) ⊛ ‵ (owns (types_at T.signature.params κs) a y.0.4)) ∷ ‵ (room_of a.0 n) ∷ []) ∵
    move ! (1 ∷ []) $ in_a_block ! a.0 (λ p. room_of p n) (id⊢ 𝓤 (never 𝓤)) (λ b o e. move ! (1 ∷ []) $ split ! $ use1 𝓛 (‵ (flft κ q) ⊛ ‵ ftrue) (id⊢ 𝓤 _) $ split ! $
    move ! (2 ∷ []) $ fsplit3 ! $ keep ! (1 ∷ 5 ∷ 3 ∷ 4 ∷ []) $
    -- [the slice; the room; the token; no other token]
    regoal ! (λ (p : Ptr). prop (WpFn 𝓤 H 𝓣.C 𝓣.Λ fn (ptr_val p ∷ shr_slice_vals s) Post)) e refl $
    enter ! _ _ _ _ _ $ alloc_all ! (λ l. pass_all ! refl ((tt, tt), ((tt, (tt, (record { fits = small }, tt))), tt)) $
    let En : Env 𝓤 H = env fn.locals l in
    first ! $ blocks ! $ sets ! (of_opd ! (get_in ! (fld ! refl (stop !)) (sub ! 1 refl (whole !)))) refl (tt, record { fits = small }) $
    let y₁ = at_from 𝓛 𝓜.mem 𝓡.returns κ q b o xs in
    move ! (1 ∷ 2 ∷ []) $ use2 𝓛 (raw ((From 𝓛 𝓜.mem 𝓡.returns).pre y₁)) (from_goes 𝓛 𝓜.mem 𝓡.returns κ q b o xs fits) $
    calls_at ! (fm 𝓛 𝓜 𝓡) (From 𝓛 𝓜.mem 𝓡.returns) (from.met 𝓤 𝓛 𝓜 𝓡 (code.calls-core::slots::Slots::from_raw_parts 𝓡.env wired) u8 byte_laws) y₁ (and_then ! (get ! refl) (and_then ! (get ! refl) (no_more !))) (λ v.
    use1 𝓛 (later (some (λ (r : Row.Denot). given ((v ≡ row_val b o n) × Lies 𝓛 𝓜.mem 𝓡.returns κ q b o xs r) (‵ (Row.own_val r (row_val b o n ∷ [])) ⊛ ‵ (flft κ q))))) (from_gives 𝓛 𝓜.mem 𝓡.returns κ q b o xs v) $
    await ! tt $ pick ! (λ r. learn ! (λ got. split ! $ lands_as ! got.0 refl (tt, (tt, (record { fits = small }, tt))) $
    -- [the row; the token; the slice; no other token]
    let y₂ = at_fills 𝓛 𝓜.mem 𝓡.returns κ q b o xs s refl r in
    move ! (0 ∷ 2 ∷ 1 ∷ []) $ use3 𝓛 (raw ((Fills 𝓛 𝓜.mem 𝓡.returns).pre y₂)) (fills_goes 𝓛 𝓜.mem 𝓡.returns κ q b o xs s refl r got.1) $
    calls_at ! (fm 𝓛 𝓜 𝓡) (Fills 𝓛 𝓜.mem 𝓡.returns) (fills.met 𝓤 𝓛 𝓜 𝓡 (code.calls-dml_arena::span::filled_with 𝓡.env wired)) y₂ (and_then ! (get ! refl) (and_then ! (get ! refl) (no_more !))) (λ v'.
    use1 𝓛 (later (some (λ (r' : Row.Denot). given (Full 𝓛 𝓜.mem 𝓡.returns κ q b o xs s refl r r') (given ((v' ≡ row_val b o n) × Lies 𝓛 𝓜.mem 𝓡.returns κ q b o xs r') (‵ (Row.own_val r' (row_val b o n ∷ [])) ⊛ ‵ (flft κ q))))))
    (fills_gives 𝓛 𝓜.mem 𝓡.returns κ q b o xs s refl r got.1 v') $ await ! tt $ pick ! (λ r'. learn ! (λ full. learn ! (λ got'. split ! $ lands_as ! got'.0 refl (tt, (tt, (record { fits = small }, tt))) $
    sets ! (of_opd ! (get ! refl)) refl (tt, (tt, (record { fits = small }, tt))) $
    let y₃ = at_into 𝓛 𝓜.mem 𝓡.returns κ q b o xs r' in
    use2 𝓛 (raw ((Into 𝓛 𝓜.mem 𝓡.returns).pre y₃)) (into_goes 𝓛 𝓜.mem 𝓡.returns κ q b o xs r') $
    calls_at_last ! (fm 𝓛 𝓜 𝓡) (Into 𝓛 𝓜.mem 𝓡.returns) (into.met 𝓤 𝓛 𝓜 𝓡 (code.calls-core::slots::Slots::into_raw_parts 𝓡.env wired) u8 byte_laws) y₃ (and_then ! (get ! refl) (no_more !)) (λ w.
    use1 𝓛 (later (given (w ≡ row_val b o n) (‵ (held 𝓛 b xs o) ⊛ ‵ (flft κ q)))) (into_gives 𝓛 𝓜.mem 𝓡.returns κ q b o xs r' got'.1 full w) $ await ! tt $ learn ! (λ ew. split ! $
    lands_last ! refl (parts_typed w b o n ew small) $ exec ! 𝓣.C 𝓣.Λ En (after 1 fn.body) (at_ret En Post) $
    sets ! (of_opd ! (unit_lit !)) refl (tt, tt) $ returns ! (look_at ! 0 refl) $ free_all ! refl $
    rewrite ! 0 (λ (p : Ptr). ‵ (holds_at p xs)) (sym e) refl $ move ! (1 ∷ 2 ∷ []) $ join ! $ feq_i ! (List Val) (vunit ∷ []) (vunit ∷ []) refl $
    nothing ! $ nothing ! $ fjoin ! $ nothing ! $ fjoin ! $ move ! (2 ∷ 0 ∷ 1 ∷ 3 ∷ []) $ by ! (leaves 𝓛 T stays c y vunit tt (tt, (tt, tt)) (tt, (tt, tt)))))))))))))))
