-- `lower` moves two fields, and what they own goes with them. Assumes `Logic`.
use Rattle.dml_c.proofs.Steps.{◌≡◌, List, [], ◌∷◌, refl, Goes-blank, proved_at, leaves, B, word, box_typed, box_out, box_in, SProp, id⊢, fact, fact_i, emp, tables, RattleType, owns, types_at, nothing, Stays, stay_dropped, walk_of, Fn, Val, WpFn, alloc_all, pass_all, free_all, look_at, get, get_in, sets, ‵, raw, ◌⊛◌, ◌$◌, ◌∵◌, !, qed, by, move, keep, split, fsplit, fjoin, suffices, use0, use1, agg, sub, whole, stop, fld, of_opd, no_more, and_then, returns, enter, alive}
use Rattle.std.specs.Prelude.{Some}
use Rattle.dml_c.proofs.AsBox.{E, of_parts}
use Rattle.dml_c.proofs.Walks.{at_told}
use Rattle.dml_c.specs.contracts.handles.Handle as handle
use Rattle.dml_c.specs.contracts.handles.Handle.lower as f
use Rattle.dml_c.proofs.handles.Handle.lower.Statement.{statement}
use Rattle.dml_c.proofs.handles.Handle.lower.Code as code

pub lower_spec : {M : Type 1} → statement M
lower_spec 𝓤 𝓛 𝓜 𝓡 wired =
    let H = 𝓛.H in
    let 𝓣 = tables 𝓤 H 𝓜 𝓡 𝓡.env in
    let fn : Fn = code.function in
    let ended = f.ended in
    let c = f.clauses 𝓛 𝓜.mem 𝓡.returns in
    let To : RattleType = handle.the_row in
    let stays : Stays ended.signature.params ended.kept = (stay_dropped of_parts ended.kept.0, tt) in
    proved_at 𝓛 ended stays c 𝓜 𝓡 (Goes-blank 𝓛 0 of_parts ended.kept.0 (λ κs x w. tt), tt) f.Key.name fn (code.unfolded 𝓤 H 𝓜 𝓡 wired) (λ z are.
    let κs = z.0.0 in
    let v = z.0.3.0 in
    let boxed : (B E).Denot = record { ptr = v.at; alloc = v.alloc; value = v.value } in
    let made : To.Denot = record { at = v.at; alloc = v.alloc; state = Some v.value } in
    let Post : Val → SProp 𝓤 = (walk_of 𝓛 ended stays c).post z in
    let Run : List Val → SProp 𝓤 = λ ws. WpFn 𝓤 H 𝓣.C 𝓣.Λ fn ws Post in
    qed 𝓛 ((raw (alive 𝓛 ended.signature κs z.0.1) ⊛ ‵ (owns (types_at ended.signature.params κs) z.0.3 z.0.4)) ∷ raw ((c κs z.0.3).requires z.1) ∷ []) ∵
    split ! $ move ! (1 ∷ []) $ fsplit ! $ use1 𝓛 (‵ ((B E).own_val boxed z.0.4.0)) (id⊢ 𝓤 _) $ box_out E ! boxed z.0.4.0 (λ b o h e told fits. box_in E ! boxed b o v.value e refl $
    let w : Val = word E h b o in
    use1 𝓛 (‵ (To.own_val made (w ∷ []))) (id⊢ 𝓤 _) $ suffices ! (Run (w ∷ [])) (at_told 𝓤 Run z.0.4.0 w told) $
    -- [the handle; nothing; the tokens; what is asked]
    enter ! 𝓣.C 𝓣.Λ fn (w ∷ []) Post $ alloc_all ! (λ l. pass_all ! refl (box_typed E h b o fits, tt) $
    sets ! (of_opd ! (get_in ! (fld ! refl (stop !)) (sub ! 0 refl (whole !)))) refl (tt, tt) $
    sets ! (of_opd ! (get_in ! (fld ! refl (stop !)) (sub ! 1 refl (whole !)))) refl fits $
    sets ! (of_opd ! (get ! refl)) refl (tt, tt) $
    sets ! (agg ! (and_then ! (get ! refl) (and_then ! (get ! refl) (no_more !)))) refl (box_typed E h b o fits) $
    returns ! (look_at ! 0 refl) $ free_all ! refl $
    use0 𝓛 (raw (fact 𝓤 (made.state ≡ Some v.value))) (fact_i 𝓤 (made.state ≡ Some v.value) (emp 𝓤) refl) $ nothing ! $ nothing ! $ fjoin ! $
    keep ! (4 ∷ 0 ∷ 2 ∷ 1 ∷ []) $ by ! (leaves 𝓛 ended stays c z w made (tt, tt) (tt, tt)))))
