-- `aged` moves two fields, and the empty list in the block is one at another lifetime. Assumes `Logic`.
use Rattle.dml_c.proofs.Steps.{◌≡◌, List, [], ◌∷◌, refl, Goes-blank, proved_at, leaves, Bx, B, R, word, box_typed, box_out, box_in, SProp, id⊢, fact, fact_i, emp, tables, RattleType, owns, types_at, plain, Slot, nothing, heard, Stays, stay_dropped, walk_of, Fn, Val, WpFn, alloc_all, pass_all, free_all, look_at, get, get_in, sets, ‵, raw, ◌⊛◌, ◌$◌, ◌∵◌, !, qed, by, move, keep, split, fsplit, fjoin, suffices, use0, use1, agg, sub, whole, stop, fld, of_opd, no_more, and_then, returns, enter, alive}
use mir.Syntax.{impl, tnil, dnil}
use base.Fraction.{full_share}
use denote.Memory.{part_at}
use denote.Signature.{named_lft}
use denote.Ref.{NamedLft}
use Rattle.dml_c.proofs.EmptyList.{empty_part}
use Rattle.dml_c.proofs.Walks.{at_told}
use Rattle.dml_segments.specs.declared.segments.Segment.{Segment}
use Rattle.std_alloc.specs.Vec.Covariant.{in_vec}
use Rattle.std.proofs.Common.{ap, map}
use Rattle.std.specs.contracts.alloc.Global as heap
use Rattle.std.specs.contracts.impls.GlobalAllocator.TheImpl.{ghosts}
use Rattle.std.proofs.alloc.Global.TheLaws as heap_laws
use Rattle.std_alloc.specs.contracts.vec.Vec as vec
use Rattle.std_alloc.proofs.vec.Vec.TheLaws as vec_laws
use Rattle.dml_segments.specs.contracts.segments.Segment as segment
use Rattle.dml_segments.proofs.segments.Segment.TheLaws as segment_laws
use Rattle.dml_c.specs.contracts.parts.Parts as parts
use Rattle.dml_c.specs.contracts.room.aged as f
use Rattle.dml_c.proofs.room.aged.Statement.{statement}
use Rattle.dml_c.proofs.room.aged.Code as code

abbrev list_at : NamedLft → RattleType
list_at κ = vec.the_row (segment.the_row κ) heap.the_row ghosts

abbrev E : NamedLft → Bx
E κ = record {
  row = list_at κ;
  laws = vec_laws.the_row_laws (segment.the_row κ) heap.the_row ghosts (segment_laws.the_row_laws κ) heap_laws.the_row_laws;
  al = record { row = heap.the_row; laws = heap_laws.the_row_laws; g = ghosts; d = impl [] tnil dnil; drops = impl [] tnil dnil };
}

pub aged_spec : {M : Type 1} → statement M
aged_spec 𝓤 𝓛 𝓜 𝓡 wired =
    let H = 𝓛.H in
    let 𝓣 = tables 𝓤 H 𝓜 𝓡 𝓡.env in
    let fn : Fn = code.function in
    let ended = f.ended in
    let c = f.clauses 𝓛 𝓜.mem 𝓡.returns in
    let slot : Slot 2 = plain (λ κs. parts.the_row (list_at (named_lft 2 0 tt κs)) heap.the_row ghosts) in
    let stays : Stays ended.signature.params ended.kept = (stay_dropped slot ended.kept.0, tt) in
    proved_at 𝓛 ended stays c 𝓜 𝓡 (Goes-blank 𝓛 2 slot ended.kept.0 (λ κs x w. tt), tt) f.Key.name fn (code.unfolded 𝓤 H 𝓜 𝓡 wired) (λ z are.
    let κs = z.0.0 in
    let κ = named_lft 2 0 tt κs in
    let ν = named_lft 2 1 tt κs in
    let To : RattleType = parts.the_row (list_at ν) heap.the_row ghosts in
    let v = z.0.3.0 in
    let Post : Val → SProp 𝓤 = (walk_of 𝓛 ended stays c).post z in
    let Run : List Val → SProp 𝓤 = λ ws. WpFn 𝓤 H 𝓣.C 𝓣.Λ fn ws Post in
    qed 𝓛 ((raw (alive 𝓛 ended.signature κs z.0.1) ⊛ ‵ (owns (types_at ended.signature.params κs) z.0.3 z.0.4)) ∷ raw (fact 𝓤 (v.value.items ≡ [])) ∷ []) ∵
    move ! (1 ∷ []) $ heard ! (v.value.items ≡ []) (λ none.
    let boxed : (B (E κ)).Denot = record { ptr = v.at; alloc = v.alloc; value = v.value } in
    let moved = in_vec (λ (s : Segment). s) v.value in
    let put : (B (E ν)).Denot = record { ptr = v.at; alloc = v.alloc; value = moved } in
    let made : To.Denot = record { at = v.at; alloc = v.alloc; value = moved } in
    split ! $ move ! (1 ∷ []) $ fsplit !
    $ use1 𝓛 (‵ ((B (E κ)).own_val boxed z.0.4.0)) (id⊢ 𝓤 _) $ box_out (E κ) ! boxed z.0.4.0 (λ b o h e told fits.
    use1 𝓛 (‵ (part_at (R (E ν)) full_share moved b o)) (empty_part 𝓛 (segment.the_row κ) (segment.the_row ν) (λ s. s) refl heap.the_row ghosts v.value b o none) $
    box_in (E ν) ! put b o moved e refl $
    let w : Val = word (E ν) h b o in
    use1 𝓛 (‵ (To.own_val made (w ∷ []))) (id⊢ 𝓤 _) $ suffices ! (Run (w ∷ [])) (at_told 𝓤 Run z.0.4.0 w told) $
    -- [the parts; nothing; the tokens]
    enter ! 𝓣.C 𝓣.Λ fn (w ∷ []) Post $ alloc_all ! (λ l. pass_all ! refl (box_typed (E ν) h b o fits, tt) $
    sets ! (of_opd ! (get_in ! (fld ! refl (stop !)) (sub ! 0 refl (whole !)))) refl (tt, tt) $
    sets ! (of_opd ! (get_in ! (fld ! refl (stop !)) (sub ! 1 refl (whole !)))) refl fits $
    sets ! (of_opd ! (get ! refl)) refl (tt, tt) $
    sets ! (agg ! (and_then ! (get ! refl) (and_then ! (get ! refl) (no_more !)))) refl (box_typed (E ν) h b o fits) $
    returns ! (look_at ! 0 refl) $ free_all ! refl $
    let ensured : (moved.items ≡ []) × (moved.cap ≡ v.value.cap) = (ap (map (λ (s : Segment). s)) none, refl) in
    use0 𝓛 (raw (fact 𝓤 ((moved.items ≡ []) × (moved.cap ≡ v.value.cap)))) (fact_i 𝓤 ((moved.items ≡ []) × (moved.cap ≡ v.value.cap)) (emp 𝓤) ensured) $ nothing ! $ nothing ! $ fjoin ! $
    keep ! (4 ∷ 0 ∷ 2 ∷ 1 ∷ []) $ by ! (leaves 𝓛 ended stays c z w made (tt, tt) (tt, tt))))))
