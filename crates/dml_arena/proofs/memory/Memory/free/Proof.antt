-- `free` gives the allocator its room and the right to free it. Assumes `Logic`.
use Rattle.dml_arena.proofs.Steps.{◌≡◌, ℕ, ◌*◌, List, [], ◌∷◌, ◌++◌, refl, ap, sym, subst, ◌∙◌, arith, lit<, SProp, never, id⊢, Lft, Share, ftrue, flft, fact, ‵, raw, ◌⊛◌, given, later, ◌$◌, ◌∵◌, !, qed, by, move, drop, use1, use3, split, join, learn, rewrite, regoal, fsplit, fsplit3, fjoin, feq_i, await, prop, at_ret, Ptr, block_ptr, Ty, Fn, Args, a_type, dcons, dnil, ty_unit, Val, vptr, vunit, has_ty, WT, inst_fn, capped_is, Env, WpFn, ◌⊑◌, ⊑_trans, tables, whole, sub, stop, fld, lit, unit_lit, of_opd, no_more, and_then, first, blocks, exec, returns, enter, alloc_all, pass_all, free_all, look_at, get, get_in, sets, lands_last, env, owns, in_a_block, bounded, types_at, nothing, heard, alive, calls_at_last, Stays, stay_dropped, walk_of, Goes-dropped, proved_at, leaves, Goes-blank, after, fm}
use lib.Dec.{T as Holds}
use Rattle.core.proofs.alloc.Calls.{Al, seen, Gives, at_gives, Gives-goes, Gives-Gives}
use Rattle.dml_arena.proofs.Walks.{slot_at}
use Rattle.dml_arena.proofs.Values.{memory_val, memory_told, lease_val, lease_told}
use Rattle.dml_arena.specs.Ownership.{bytes_type, room_of}
use Rattle.dml_arena.specs.contracts.memory.Memory.free as f
use Rattle.dml_arena.proofs.memory.Memory.free.Statement.{statement}
use Rattle.dml_arena.proofs.memory.Memory.free.Code as code

pub free_spec : {M : Type 1} → statement M
free_spec 𝓤 𝓛 𝓜 𝓡 wired A L g d dd met md =
    let H = 𝓛.H in
    let T = f.ended A g d dd in
    let c = f.clauses A g d dd 𝓛 𝓜.mem 𝓡.returns in
    let args : Args = bounded (a_type ∷ []) (A, tt) (dcons d (dcons dd dnil)) in
    let fn : Fn = inst_fn args code.function in
    let self = slot_at 0 T.signature.params in
    let lease = slot_at 1 T.signature.params in
    let alloc = slot_at 2 T.signature.params in
    let stays : Stays T.signature.params T.kept = (stay_dropped self T.kept.0, (stay_dropped lease T.kept.1.0, (stay_dropped alloc T.kept.1.1.0, tt))) in
    let 𝓣 = tables 𝓤 H 𝓜 𝓡 𝓡.env in
    proved_at 𝓛 T stays c 𝓜 𝓡 (Goes-blank 𝓛 2 self T.kept.0 (λ κs x w. tt), (Goes-blank 𝓛 2 lease T.kept.1.0 (λ κs x w. tt), (Goes-dropped 𝓛 2 alloc T.kept.1.1.0 (λ κs x w. refl), tt)))
    (f.Key.name args) fn (code.unfolded 𝓤 H 𝓜 𝓡 wired (A, tt) d dd) (λ y are.
    let Post : Val → SProp 𝓤 = (walk_of 𝓛 T stays c).post y in
    let a = y.0.3 in
    let vss = y.0.4 in
    let Y : Al = record { row = A; laws = L; g = g; d = d; drops = dd } in
    let κ : Lft = y.0.0.0 in
    let q : Share = y.0.1.0 in
    let x = a.0 in
    let n = x.size in
    let told = memory_told x.ptr n vss.0 are.0.0 in
    let k = a.1.0 in
    let h = a.1.1.0.now in
    let handle = a.1.1.0.ref_ptr in
    let τ : Ty = bytes_type n in
    let small = x.fits in
    let sized = capped_is (n * 1) (omega arith) ∙ omega arith in
    let Asked : Type 0 = (k.alloc ≡ h) × (k.ptr ≡ x.ptr) × (k.size ≡ n) in
    qed 𝓛 ((raw (alive 𝓛 T.signature y.0.0 y.0.1) ⊛ ‵ (owns (types_at T.signature.params y.0.0) a vss)) ∷ (raw (fact 𝓤 (y.0.0.1.0 ⊑ A.lives)) ⊛ raw (fact 𝓤 Asked)) ∷ []) ∵
    move ! (1 ∷ []) $ split ! $ heard ! (y.0.0.1.0 ⊑ A.lives) (λ lives. heard ! Asked (λ asked. split ! $ move ! (1 ∷ []) $
    fsplit3 ! $ fsplit ! $ drop ! $ in_a_block ! x.ptr (λ p. room_of p n) (id⊢ 𝓤 (never 𝓤)) (λ b o e. move ! (1 ∷ []) $ fsplit ! $ drop ! $
    rewrite ! 0 (λ (u : A.Denot × ℕ × Ptr). ‵ (g.dealloc_token u.0 (bytes_type u.1) u.2)) (λ i. (asked.0 i, asked.2 i, (asked.1 ∙ e) i)) refl $
    move ! (2 ∷ []) $ fsplit ! $ fsplit ! $ drop ! $ move ! (1 ∷ []) $ drop ! $ use1 𝓛 (‵ (seen Y κ handle h)) (id⊢ 𝓤 _) $
    move ! (3 ∷ []) $ use1 𝓛 (‵ (flft κ q) ⊛ ‵ (flft y.0.0.1.0 y.0.1.1.0) ⊛ ‵ ftrue) (id⊢ 𝓤 _) $ split ! $ move ! (2 ∷ 0 ∷ []) $ join ! $ move ! (3 ∷ 2 ∷ []) $
    let gives = at_gives Y 𝓛 𝓜.mem 𝓡.returns κ q handle h b o n 1 τ in
    regoal ! (λ (us : List Val). prop (WpFn 𝓤 H 𝓣.C 𝓣.Λ fn us Post)) (λ i. (told.0 ∙ ap (λ (p : Ptr). memory_val p n ∷ []) e) i ++ (lease_told vss.1.0 are.1.0.0 i ++ (are.1.1.0.0 i ++ []))) refl $
    enter ! 𝓣.C 𝓣.Λ fn (memory_val (block_ptr b o) n ∷ lease_val ∷ vptr handle.0 handle.1 ∷ []) Post $
    alloc_all ! (λ l. pass_all ! refl ((tt, (tt, (record { fits = told.1 }, tt))), ((tt, (tt, tt)), ((tt, tt), tt))) $
    let En : Env 𝓤 H = env fn.locals l in
    sets ! (of_opd ! (get_in ! (fld ! refl (stop !)) (sub ! 0 refl (whole !)))) refl (tt, tt) $
    sets ! (of_opd ! (get_in ! (fld ! refl (stop !)) (sub ! 1 refl (whole !)))) refl (tt, record { fits = told.1 }) $
    first ! $ blocks ! $
    use3 𝓛 (raw ((Gives Y 𝓛 𝓜.mem 𝓡.returns).pre gives)) (Gives-goes Y 𝓛 𝓜.mem 𝓡.returns κ q handle h (⊑_trans κ y.0.0.1.0 A.lives y.0.2.0 lives) b o n 1 τ sized refl told.1 (lit< tt)) $
    calls_at_last ! (fm 𝓛 𝓜 𝓡) (Gives Y 𝓛 𝓜.mem 𝓡.returns) (met.deallocate dd) gives (and_then ! (get ! refl) (and_then ! (get ! refl) (and_then ! (get ! refl) (and_then ! (lit ! tt) (no_more !))))) (λ v.
    use1 𝓛 (later (given (v ≡ vunit) (‵ (flft κ q)))) (Gives-Gives Y 𝓛 𝓜.mem 𝓡.returns κ q handle h b o n 1 τ v) $ await ! tt $ learn ! (λ is_unit. join ! $
    lands_last ! refl (subst (λ (u : Val). Holds (has_ty ty_unit u) × WT u) (sym is_unit) (tt, tt)) $
    exec ! 𝓣.C 𝓣.Λ En (after 3 fn.body) (at_ret En Post) $
    sets ! (of_opd ! (unit_lit !)) refl (tt, tt) $ returns ! (look_at ! 0 refl) $ free_all ! refl $
    feq_i ! (List Val) (vunit ∷ []) (vunit ∷ []) refl $ nothing ! $ nothing ! $ nothing ! $ fjoin ! $ nothing ! $ fjoin ! $ nothing ! $ fjoin ! $ move ! (3 ∷ 0 ∷ 2 ∷ 1 ∷ []) $
    by ! (leaves 𝓛 T stays c y vunit tt (tt, (tt, (tt, tt))) (tt, (tt, (tt, tt)))))))))))
