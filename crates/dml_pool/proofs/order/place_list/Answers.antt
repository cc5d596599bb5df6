use Rattle.std.proofs.Common.{◌≡◌, ◌<◌, ◌++◌, ◌∷◌, [], Option, MutBor, length, map, sym, ap, ◌∙◌, subst, arith, append_assoc, length-set}
use Rattle.std.specs.List.{All}
use Rattle.std.specs.Slice.Iter.{iter_mut_rest}
use Rattle.std.proofs.lemmas.List.{append-nil, length-map, map-append, nil_from_length}
use Rattle.dml_pool.specs.declared.tasks.Outcome.{Outcome}
use Rattle.dml_pool.specs.Slots.{AreSlots, behind, held, number_in}
use Rattle.dml_pool.proofs.Placed.{first_within, rest_within, placed_more, placed_same}
use Rattle.dml_pool.proofs.order.place_list.Goals as goal

pub refer-requires : goal.refer-requires
refer-requires c =
    let count = length c.args.slots.now in
    let rest = iter_mut_rest c.next.new.self in
    let inside : All (λ (o : Outcome). o.task < count) (held (c.in-Some.place.now ∷ rest)) =
    subst (λ l. All (λ (o : Outcome). o.task < count) (held l)) c.in-Some.ensures.steps c.loop-place.invariant.within in
    omega (arith, first_within count c.in-Some.place.now rest c.in-Some-number_in.task (sym c.number_in.ensures ∙ c.in-Some-number_in.is) inside, c.loop-place.invariant.count)

pub loop-place-preserved-in-Some-number_in : goal.loop-place-preserved-in-Some-number_in
loop-place-preserved-in-Some-number_in c =
    let now : MutBor (Option Outcome) → Option Outcome = λ place. place.now in
    let count = length c.args.slots.now in
    let yielded = c.loop-place.yielded in
    let place = c.in-Some.place in
    let task = c.in-Some-number_in.task in
    let slots = c.loop-place.slots in
    let rest = iter_mut_rest c.next.new.self in
    let number : number_in place.now ≡ _ = sym c.number_in.ensures ∙ c.in-Some-number_in.is in
    let inside : All (λ (o : Outcome). o.task < count) (held (place.now ∷ rest)) =
    subst (λ l. All (λ (o : Outcome). o.task < count) (held l)) c.in-Some.ensures.steps c.loop-place.invariant.within in
    let here : task < length slots =
    omega (arith, first_within count place.now rest task number inside, c.loop-place.invariant.count) in record {
      can = tt;
      ends = tt;
      split =
          c.loop-place.invariant.split
          ∙ (ap (λ l. map now yielded ++ l) c.in-Some.ensures.steps
          ∙ (sym (append_assoc (map now yielded) (place.now ∷ []) rest) ∙ ap (λ l. l ++ rest) (sym (map-append now yielded (place ∷ [])))));
      within = rest_within count place.now rest inside;
      count = sym (length-map c.refer.new.slots behind) ∙ (ap length c.refer.ensures ∙ (length-set (map behind slots) task place.now ∙ (length-map slots behind ∙ c.loop-place.invariant.count)));
      slots =
          λ before are.
          subst (AreSlots (before ++ held (map now (yielded ++ place ∷ [])))) (sym c.refer.ensures)
          (placed_more before yielded (map behind slots) place task number (subst (λ n. task < n) (sym (length-map slots behind)) here) (c.loop-place.invariant.slots before are));
    }

pub loop-place-preserved : goal.loop-place-preserved
loop-place-preserved c =
    let now : MutBor (Option Outcome) → Option Outcome = λ place. place.now in
    let count = length c.args.slots.now in
    let yielded = c.loop-place.yielded in
    let place = c.in-Some.place in
    let rest = iter_mut_rest c.next.new.self in
    let number : number_in place.now ≡ _ = sym c.number_in.ensures ∙ c.in_default.is in
    let inside : All (λ (o : Outcome). o.task < count) (held (place.now ∷ rest)) =
    subst (λ l. All (λ (o : Outcome). o.task < count) (held l)) c.in-Some.ensures.steps c.loop-place.invariant.within in record {
      can = tt;
      ends = tt;
      split =
          c.loop-place.invariant.split
          ∙ (ap (λ l. map now yielded ++ l) c.in-Some.ensures.steps
          ∙ (sym (append_assoc (map now yielded) (place.now ∷ []) rest) ∙ ap (λ l. l ++ rest) (sym (map-append now yielded (place ∷ [])))));
      within = rest_within count place.now rest inside;
      count = c.loop-place.invariant.count;
      slots = λ before are. placed_same before yielded (map behind c.loop-place.slots) place number (c.loop-place.invariant.slots before are);
    }

pub returns-clause-slots : goal.returns-clause-slots
returns-clause-slots c before are =
    let now : MutBor (Option Outcome) → Option Outcome = λ place. place.now in
    let yielded = c.loop-place.yielded in
    let rest = iter_mut_rest c.loop-place.place-iterator in
    let all : c.args.list.now.items ≡ map now yielded =
    c.loop-place.invariant.split ∙ (ap (λ l. map now yielded ++ l) (nil_from_length rest c.in-None.ensures.steps.0) ∙ append-nil (map now yielded)) in
    subst (λ l. AreSlots (before ++ held l) (map behind c.loop-place.slots)) (sym all) (c.loop-place.invariant.slots before are)
