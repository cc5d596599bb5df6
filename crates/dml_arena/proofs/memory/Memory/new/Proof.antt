-- `new` asks the allocator for bytes, and writes none. Assumes `Logic`.
use Rattle.dml_arena.proofs.Steps.{◌≡◌, ◌*◌, ◌^◌, ◌<◌, List, [], ◌∷◌, ◌++◌, refl, ◌∙◌, arith, lit<, w64, Some, None, SProp, emp, id⊢, Lft, Share, ftrue, flft, fact, fact_i, ‵, raw, ◌⊛◌, later, ◌$◌, ◌∵◌, !, qed, by, move, drop, use0, use1, use2, split, join, regoal, fsplit, fjoin, await, prop, at_ret, RattleType, Ptr, block_ptr, Ty, Fn, Args, a_type, dcons, dnil, Val, vint, vptr, vcons, vnil, inst_fn, capped_is, Env, WpFn, ◌⊑◌, ⊑_trans, tables, whole, agg, live, vrt, in_variant, stop, fld, lit, of_opd, no_more, and_then, first, switches_on, exec, returns, enter, alloc_all, pass_all, free_all, look_at, get, get_in, get_tag, sets, sets_last, lands_as, env, owns, param, bounded, types_at, type_at, nothing, heard, Tuple, alive, calls_at, Stays, stay_dropped, walk_of, Goes-dropped, proved_at, leaves, after, head, arm_body, fm}
use Rattle.core.proofs.alloc.Calls.{Al, seen, Takes, at_takes, Answered, Takes-goes, Takes-gives, answers}
use Rattle.core.proofs.option.Made.{Some-of, none_of}
use Rattle.std_alloc.proofs.Pairs.{pair_of, pair_val}
use Rattle.dml_arena.proofs.Walks.{slot_at, then_runs}
use Rattle.dml_arena.proofs.Values.{memory_val, memory_own, memory_made, lease_val, lease_own, lease_made}
use Rattle.dml_arena.specs.Ownership.{bytes_type}
use Rattle.dml_arena.specs.contracts.memory.Memory as memory
use Rattle.dml_arena.specs.contracts.memory.Lease as lease
use Rattle.dml_arena.specs.contracts.memory.Memory.new as f
use Rattle.dml_arena.proofs.memory.Memory.new.Statement.{statement}
use Rattle.dml_arena.proofs.memory.Memory.new.Code as code

pub new_spec : {M : Type 1} → statement M
new_spec 𝓤 𝓛 𝓜 𝓡 wired A L g d dd met md =
    let H = 𝓛.H in
    let T = f.ended A g d dd in
    let c = f.clauses A g d dd 𝓛 𝓜.mem 𝓡.returns in
    let args : Args = bounded (a_type ∷ []) (A, tt) (dcons d (dcons dd dnil)) in
    let fn : Fn = inst_fn args code.function in
    let alloc = slot_at 0 T.signature.params in
    let size = slot_at 1 T.signature.params in
    let stays : Stays T.signature.params T.kept = (stay_dropped alloc T.kept.0, (stay_dropped size T.kept.1.0, tt)) in
    let 𝓣 = tables 𝓤 H 𝓜 𝓡 𝓡.env in
    proved_at 𝓛 T stays c 𝓜 𝓡 (Goes-dropped 𝓛 2 alloc T.kept.0 (λ κs x w. refl), (Goes-dropped 𝓛 2 size T.kept.1.0 (λ κs x w. refl), tt))
    (f.Key.name args) fn (code.unfolded 𝓤 H 𝓜 𝓡 wired (A, tt) d dd) (λ y are.
    let Post : Val → SProp 𝓤 = (walk_of 𝓛 T stays c).post y in
    let a = y.0.3 in
    let vss = y.0.4 in
    let Y : Al = record { row = A; laws = L; g = g; d = d; drops = dd } in
    let κ : Lft = y.0.0.0 in
    let q : Share = y.0.1.0 in
    let h = a.0.now in
    let at = a.0.ref_ptr in
    let n = a.1.0 in
    let small = are.1.0.1 in
    let τ : Ty = bytes_type n in
    let asks = at_takes Y 𝓛 𝓜.mem 𝓡.returns κ q at h n 1 τ in
    let Out : RattleType = type_at T.signature.result y.0.0 in
    let Leased : RattleType = lease.the_row (param 0 A) g in
    let Pair : RattleType = Tuple (memory.the_row ∷ Leased ∷ []) in
    let sized = capped_is (n * 1) (omega arith) ∙ omega arith in
    qed 𝓛 ((raw (alive 𝓛 T.signature y.0.0 y.0.1) ⊛ ‵ (owns (types_at T.signature.params y.0.0) a vss)) ∷ (raw (fact 𝓤 (y.0.0.1.0 ⊑ A.lives)) ⊛ raw (fact 𝓤 (n < 2 ^ 63))) ∷ []) ∵
    move ! (1 ∷ []) $ split ! $ heard ! (y.0.0.1.0 ⊑ A.lives) (λ lives. heard ! (n < 2 ^ 63) (λ fits. split ! $ move ! (1 ∷ []) $
    fsplit ! $ fsplit ! $ drop ! $ move ! (1 ∷ []) $ drop ! $ use1 𝓛 (‵ (seen Y κ at h)) (id⊢ 𝓤 _) $
    move ! (1 ∷ []) $ use1 𝓛 (‵ (flft κ q) ⊛ ‵ (flft y.0.0.1.0 y.0.1.1.0) ⊛ ‵ ftrue) (id⊢ 𝓤 _) $ split ! $ move ! (2 ∷ 0 ∷ []) $
    regoal ! (λ (us : List Val). prop (WpFn 𝓤 H 𝓣.C 𝓣.Λ fn us Post)) (λ i. are.0.0 i ++ (are.1.0.0 i ++ [])) refl $
    enter ! 𝓣.C 𝓣.Λ fn (vptr at.0 at.1 ∷ vint w64 n ∷ []) Post $ alloc_all ! (λ l. pass_all ! refl ((tt, tt), ((tt, record { fits = small }), tt)) $
    let En : Env 𝓤 H = env fn.locals l in
    -- [the `&` to the allocator; the token of κ; the other tokens]
    use2 𝓛 (raw ((Takes Y 𝓛 𝓜.mem 𝓡.returns).pre asks)) (Takes-goes Y 𝓛 𝓜.mem 𝓡.returns κ q at h (⊑_trans κ y.0.0.1.0 A.lives y.0.2.0 lives) n 1 τ sized refl small (lit< tt)) $
    calls_at ! (fm 𝓛 𝓜 𝓡) (Takes Y 𝓛 𝓜.mem 𝓡.returns) (met.allocate dd) asks (and_then ! (get ! refl) (and_then ! (get ! refl) (and_then ! (lit ! tt) (no_more !)))) (λ v.
    use1 𝓛 (later (raw (Answered Y 𝓛 𝓜.mem 𝓡.returns h τ v) ⊛ ‵ (flft κ q))) (Takes-gives Y 𝓛 𝓜.mem 𝓡.returns κ q at h n 1 τ v) $ await ! tt $ split ! $
    answers Y ! 𝓜.mem 𝓡.returns h τ v
    (λ b o e. move ! (2 ∷ 3 ∷ []) $ join ! $ move ! (1 ∷ 2 ∷ []) $ lands_as ! e refl (tt, (record { fits = lit< tt }, (tt, tt))) $
    first ! $ switches_on ! (get_tag ! (vrt ! refl (fld ! refl (stop !))) (whole !)) $ exec ! 𝓣.C 𝓣.Λ En (arm_body 0 (head (after 1 fn.body))) (then_runs 𝓛 𝓣.C 𝓣.Λ En (after 2 fn.body) (at_ret En Post)) $
    sets ! (of_opd ! (get_in ! (vrt ! refl (fld ! refl (stop !))) (in_variant ! 0 0 refl refl (whole !)))) refl (tt, tt) $
    sets ! (agg ! (no_more !)) refl (tt, tt) $
    sets ! (agg ! (and_then ! (get ! refl) (and_then ! (get ! refl) (no_more !)))) refl (tt, (tt, (record { fits = small }, tt))) $
    sets ! (agg ! (and_then ! (get ! refl) (no_more !))) refl (tt, (tt, tt)) $
    sets ! (agg ! (and_then ! (get ! refl) (and_then ! (get ! refl) (no_more !)))) refl (tt, ((tt, (record { fits = small }, tt)), ((tt, tt), tt))) $
    sets_last ! (agg ! (and_then ! (lit ! tt) (and_then ! (get ! refl) (no_more !)))) refl (tt, (record { fits = lit< tt }, (((tt, (record { fits = small }, tt)), ((tt, tt), tt)), tt))) $
    exec ! 𝓣.C 𝓣.Λ En (after 2 fn.body) (at_ret En Post) $
    sets ! (of_opd ! (get ! refl)) refl (tt, (record { fits = lit< tt }, (((tt, (record { fits = small }, tt)), ((tt, tt), tt)), tt))) $
    returns ! (look_at ! 0 refl) $ free_all ! refl $
    let p : Ptr = block_ptr b o in
    let block : (memory.the_row).Denot = record { ptr = p; size = n; fits = fits } in
    let right : Leased.Denot = record { marker = record {}; alloc = h; ptr = p; size = n } in
    let v : Val = pair_val (memory_val p n) lease_val in
    let Said : Type 0 = (n ≡ n) × (h ≡ h) × (p ≡ p) × (n ≡ n) in
    use0 𝓛 (‵ (memory_own p n (memory_val p n ∷ []))) (memory_made 𝓛 p n small) $ fjoin ! $ move ! (1 ∷ []) $
    use0 𝓛 (‵ (lease_own (lease_val ∷ []))) (lease_made 𝓛) $ fjoin ! $ move ! (1 ∷ 0 ∷ []) $
    use2 𝓛 (‵ (Pair.own_val (block, right) (v ∷ []))) (pair_of 𝓛 memory.the_row Leased block right (memory_val p n) lease_val) $
    use1 𝓛 (‵ (Out.own_val (Some (block, right)) (live 1 (vcons v vnil) ∷ []))) (Some-of 𝓛 Pair (block, right) v) $
    use0 𝓛 (raw (fact 𝓤 Said)) (fact_i 𝓤 Said (emp 𝓤) (refl, refl, refl, refl)) $
    nothing ! $ nothing ! $ fjoin ! $ nothing ! $ fjoin ! $ move ! (3 ∷ 0 ∷ 2 ∷ 1 ∷ []) $
    by ! (leaves 𝓛 T stays c y (live 1 (vcons v vnil)) (Some (block, right)) (tt, (tt, tt)) (tt, (tt, tt))))
    (λ e. join ! $ lands_as ! e refl (tt, (record { fits = lit< tt }, (tt, tt))) $
    first ! $ switches_on ! (get_tag ! (vrt ! refl (fld ! refl (stop !))) (whole !)) $ exec ! 𝓣.C 𝓣.Λ En (arm_body 1 (head (after 1 fn.body))) (then_runs 𝓛 𝓣.C 𝓣.Λ En (after 2 fn.body) (at_ret En Post)) $
    sets_last ! (agg ! (and_then ! (lit ! tt) (no_more !))) refl (tt, (record { fits = lit< tt }, tt)) $
    exec ! 𝓣.C 𝓣.Λ En (after 2 fn.body) (at_ret En Post) $
    sets ! (of_opd ! (get ! refl)) refl (tt, (record { fits = lit< tt }, tt)) $
    returns ! (look_at ! 0 refl) $ free_all ! refl $
    use0 𝓛 (‵ (Out.own_val None (live 0 vnil ∷ []))) (none_of 𝓛 Pair) $ use0 𝓛 (raw (fact 𝓤 (Unit {0}))) (fact_i 𝓤 (Unit {0}) (emp 𝓤) tt) $
    nothing ! $ nothing ! $ fjoin ! $ nothing ! $ fjoin ! $ move ! (3 ∷ 0 ∷ 2 ∷ 1 ∷ []) $
    by ! (leaves 𝓛 T stays c y (live 0 vnil) None (tt, (tt, tt)) (tt, (tt, tt)))))))))
