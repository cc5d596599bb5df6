-- `none` makes a handle of a pointer that nothing lies at. Assumes `Logic`.
use Rattle.dml_c.proofs.Steps.{◌≡◌, List, [], ◌∷◌, refl, lit<, Goes-blank, handle_tells, proved_at, leaves, P, owning, SProp, id⊢, layout, fact, fact_i, emp, tables, RattleType, RawPtr, owns, types_at, null_ptr, ptr_val, plain, nothing, Stays, stay_dropped, walk_of, Fn, Val, vstruct, of_list, WpFn, alloc_all, pass_all, free_all, look_at, get, sets, ‵, raw, ◌⊛◌, ◌$◌, ◌∵◌, !, qed, by, move, keep, split, fsplit, fjoin, fpack, feq_i, suffices, use0, use1, agg, lit, of_opd, no_more, and_then, returns, enter, alive, Valss, within, shape}
use mir.Val.{has_ty}
use Rattle.std.specs.Prelude.{None}
use Rattle.std_alloc.proofs.ResultValues.{and_tt}
use Rattle.std.specs.contracts.alloc.Global as heap
use Rattle.dml_c.proofs.AsBox.{E}
use Rattle.dml_c.proofs.Walks.{at_told}
use Rattle.dml_c.specs.contracts.handles.Handle as handle
use Rattle.dml_c.specs.contracts.handles.Handle.none as f
use Rattle.dml_c.proofs.handles.Handle.none.Statement.{statement}
use Rattle.dml_c.proofs.handles.Handle.none.Code as code

pub none_spec : {M : Type 1} → statement M
none_spec 𝓤 𝓛 𝓜 𝓡 wired =
    let H = 𝓛.H in
    let 𝓣 = tables 𝓤 H 𝓜 𝓡 𝓡.env in
    let fn : Fn = code.function in
    let ended = f.ended in
    let c = f.clauses 𝓛 𝓜.mem 𝓡.returns in
    let To : RattleType = handle.the_row in
    let slot = plain (λ _. heap.the_row) in
    let stays : Stays ended.signature.params ended.kept = (stay_dropped slot ended.kept.0, tt) in
    proved_at 𝓛 ended stays c 𝓜 𝓡 (Goes-blank 𝓛 0 slot ended.kept.0 (λ κs x w. tt), tt) f.Key.name fn (code.unfolded 𝓤 H 𝓜 𝓡 wired) (λ z are.
    let κs = z.0.0 in
    let a = z.0.3.0 in
    let made : To.Denot = record { at = null_ptr; alloc = a; state = None } in
    let Post : Val → SProp 𝓤 = (walk_of 𝓛 ended stays c).post z in
    let Run : List Val → SProp 𝓤 = λ ws. WpFn 𝓤 H 𝓣.C 𝓣.Λ fn ws Post in
    qed 𝓛 ((raw (alive 𝓛 ended.signature κs z.0.1) ⊛ ‵ (owns (types_at ended.signature.params κs) z.0.3 z.0.4)) ∷ raw ((c κs z.0.3).requires z.1) ∷ []) ∵
    split ! $ move ! (1 ∷ []) $ fsplit ! $ handle_tells E.al ! a z.0.4.0 (λ h told fits.
    let w : Val = vstruct (of_list (ptr_val null_ptr ∷ h ∷ [])) in
    suffices ! (Run (h ∷ [])) (at_told 𝓤 Run z.0.4.0 h told) $
    -- [the allocator; nothing; the tokens; what is asked]
    enter ! 𝓣.C 𝓣.Λ fn (h ∷ []) Post $ alloc_all ! (λ l. pass_all ! refl (fits, tt) $
    sets ! (of_opd ! (lit ! tt)) refl (tt, record { fits = lit< tt }) $
    sets ! (agg ! (and_then ! (get ! refl) (and_then ! (get ! refl) (no_more !)))) refl (and_tt (has_ty (layout heap.the_row) h) fits.0, (record { fits = lit< tt }, (fits.1, tt))) $
    -- [the allocator; nothing; the tokens; what is asked]
    nothing ! $ move ! (1 ∷ 0 ∷ []) $ fjoin ! $ feq_i ! (List Val) (ptr_val null_ptr ∷ []) (ptr_val null_ptr ∷ []) refl $ fjoin ! $ feq_i ! (List Val) (w ∷ []) (w ∷ []) refl $ fjoin ! $
    fpack ! (Valss (RawPtr ∷ P E ∷ [])) (within (shape (owning E)) (null_ptr, (a, tt)) (w ∷ [])) (ptr_val null_ptr ∷ [], (h ∷ [], tt)) $
    nothing ! $ move ! (1 ∷ 0 ∷ []) $ fjoin ! $ use1 𝓛 (‵ (To.own_val made (w ∷ []))) (id⊢ 𝓤 _) $
    use0 𝓛 (raw (fact 𝓤 ((made.state ≡ None) × (made.at ≡ null_ptr)))) (fact_i 𝓤 ((made.state ≡ None) × (made.at ≡ null_ptr)) (emp 𝓤) (refl, refl)) $ nothing ! $ nothing ! $ fjoin ! $
    returns ! (look_at ! 0 refl) $ free_all ! refl $ keep ! (3 ∷ 0 ∷ 2 ∷ 1 ∷ []) $ by ! (leaves 𝓛 ended stays c z w made (tt, tt) (tt, tt)))))
