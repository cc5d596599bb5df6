-- `located` reads the block's first place off the right to free it. Assumes `Logic`.
use Rattle.dml_arena.proofs.Steps.{◌≡◌, List, [], ◌∷◌, ◌++◌, refl, SProp, emp, fact, fact_i, ‵, raw, ◌⊛◌, ◌$◌, ◌∵◌, !, qed, by, move, drop, use0, split, fsplit, fjoin, regoal, prop, count_of, ftrue, Fn, Val, WpFn, tables, whole, sub, agg, stop, fld, of_opd, no_more, and_then, returns, enter, alloc_all, pass_all, free_all, look_at, get, get_in, sets, owns, types_at, nothing, alive, Stays, stay_dropped, walk_of, proved_at, leaves, Goes-blank}
use Rattle.std.proofs.GlobalToken.{dealloc_token_start}
use Rattle.dml_arena.proofs.Walks.{slot_at, learns}
use Rattle.dml_arena.proofs.Values.{lease_val, lease_own, lease_told, lease_made}
use Rattle.dml_arena.specs.Ownership.{bytes_type}
use Rattle.dml_arena.specs.contracts.memory.Lease+Global.located as f
use Rattle.dml_arena.proofs.memory.Lease+Global.located.Statement.{statement}
use Rattle.dml_arena.proofs.memory.Lease+Global.located.Code as code

pub located_spec : {M : Type 1} → statement M
located_spec 𝓤 𝓛 𝓜 𝓡 wired =
    let H = 𝓛.H in
    let T = f.ended in
    let c = f.clauses 𝓛 𝓜.mem 𝓡.returns in
    let fn : Fn = code.function in
    let self = slot_at 0 T.signature.params in
    let stays : Stays T.signature.params T.kept = (stay_dropped self T.kept.0, tt) in
    let 𝓣 = tables 𝓤 H 𝓜 𝓡 𝓡.env in
    proved_at 𝓛 T stays c 𝓜 𝓡 (Goes-blank 𝓛 0 self T.kept.0 (λ κs x w. tt), tt) f.Key.name fn (code.unfolded 𝓤 H 𝓜 𝓡 wired) (λ y are.
    let Post : Val → SProp 𝓤 = (walk_of 𝓛 T stays c).post y in
    let a = y.0.3 in
    let vss = y.0.4 in
    let x = a.0 in
    let Said : Type 0 = (x ≡ x) × (count_of x.ptr ≡ 0) in
    qed 𝓛 ((raw (alive 𝓛 T.signature y.0.0 y.0.1) ⊛ ‵ (owns (types_at T.signature.params y.0.0) a vss)) ∷ ‵ ftrue ∷ []) ∵
    move ! (1 ∷ []) $ drop ! $ split ! $ move ! (1 ∷ []) $ fsplit ! $ fsplit ! $ drop ! $ move ! (1 ∷ []) $ drop ! $
    -- [the right to free; the tokens]
    learns ! 1 (count_of x.ptr ≡ 0) (dealloc_token_start 𝓛 x.alloc (bytes_type x.size) x.ptr) (λ start.
    regoal ! (λ (us : List Val). prop (WpFn 𝓤 H 𝓣.C 𝓣.Λ fn us Post)) (λ i. lease_told vss.0 are.0.0 i ++ []) refl $
    enter ! 𝓣.C 𝓣.Λ fn (lease_val ∷ []) Post $ alloc_all ! (λ l. pass_all ! refl ((tt, (tt, tt)), tt) $
    sets ! (of_opd ! (get_in ! (fld ! refl (stop !)) (sub ! 0 refl (whole !)))) refl (tt, tt) $
    sets ! (agg ! (and_then ! (get ! refl) (no_more !))) refl (tt, (tt, tt)) $
    returns ! (look_at ! 0 refl) $ free_all ! refl $
    use0 𝓛 (‵ (lease_own (lease_val ∷ []))) (lease_made 𝓛) $ fjoin ! $ use0 𝓛 (raw (fact 𝓤 Said)) (fact_i 𝓤 Said (emp 𝓤) (refl, start)) $
    nothing ! $ nothing ! $ fjoin ! $ move ! (3 ∷ 0 ∷ 2 ∷ 1 ∷ []) $ by ! (leaves 𝓛 T stays c y lease_val x (tt, tt) (tt, tt)))))
