use Rattle.std.proofs.Common.{◌≡◌, ◌<◌, ◌++◌, ◌∷◌, [], List, Option, MutBor, length, map, sym, ap, ◌∙◌, subst, append_assoc}
use Rattle.std.specs.Global.{Vec as Outcomes}
use Rattle.std.specs.List.{All}
use Rattle.std.specs.Slice.Iter.{iter_mut_rest}
use Rattle.std.proofs.lemmas.List.{append-nil, length-map, map-append, nil_from_length}
use Rattle.dml_pool.specs.declared.tasks.Outcome.{Outcome}
use Rattle.dml_pool.specs.Slots.{AreSlots, all_held, behind, held}
use Rattle.dml_pool.proofs.Orders.{filled}
use Rattle.dml_pool.proofs.Keeps.{all_back, all_front}
use Rattle.dml_pool.proofs.Placed.{all_held_next}
use Rattle.dml_pool.proofs.order.in_order.Goals as goal

pub place_list-requires : goal.place_list-requires
place_list-requires c =
    let within : List Outcome → Type 0 = All (λ (o : Outcome). o.task < length c.args.slots.now) in
    let mine = held c.in-Some.list.now.items in
    let inside : within (mine ++ all_held (iter_mut_rest c.next.new.self)) =
    subst (λ l. within (all_held l)) c.in-Some.ensures.steps c.loop-list.invariant.within in
    record {
      within =
          subst (λ n. All (λ (o : Outcome). o.task < n) mine) (sym c.loop-list.invariant.count)
          (all_front (λ (o : Outcome). o.task < length c.args.slots.now) mine (all_held (iter_mut_rest c.next.new.self)) inside);
    }

pub loop-list-preserved : goal.loop-list-preserved
loop-list-preserved c =
    let now : MutBor (Outcomes (Option Outcome)) → Outcomes (Option Outcome) = λ list. list.now in
    let within : List Outcome → Type 0 = All (λ (o : Outcome). o.task < length c.args.slots.now) in
    let yielded = c.loop-list.yielded in
    let list = c.in-Some.list in
    let mine = held list.now.items in
    let rest = iter_mut_rest c.next.new.self in
    let inside : within (mine ++ all_held rest) = subst (λ l. within (all_held l)) c.in-Some.ensures.steps c.loop-list.invariant.within in
    record {
      can = tt;
      ends = tt;
      split =
          c.loop-list.invariant.split
          ∙ (ap (λ l. map now yielded ++ l) c.in-Some.ensures.steps
          ∙ (sym (append_assoc (map now yielded) (list.now ∷ []) rest) ∙ ap (λ l. l ++ rest) (sym (map-append now yielded (list ∷ [])))));
      within = all_back (λ (o : Outcome). o.task < length c.args.slots.now) mine (all_held rest) inside;
      count = c.place_list.ensures.count ∙ c.loop-list.invariant.count;
      slots =
          subst (λ l. AreSlots l (map behind c.place_list.new.slots)) (sym (all_held_next yielded list))
          (c.place_list.ensures.slots (all_held (map now yielded)) c.loop-list.invariant.slots);
    }

pub returns-clause-filled : goal.returns-clause-filled
returns-clause-filled c memory tasks hold same =
    let now : MutBor (Outcomes (Option Outcome)) → Outcomes (Option Outcome) = λ list. list.now in
    let yielded = c.loop-list.yielded in
    let slots = c.loop-list.slots in
    let rest = iter_mut_rest c.loop-list.list-iterator in
    let all : c.args.lists.now ≡ map now yielded =
    c.loop-list.invariant.split ∙ (ap (λ l. map now yielded ++ l) (nil_from_length rest c.in-None.ensures.steps.0) ∙ append-nil (map now yielded)) in
    filled memory tasks c.args.lists.now (map behind slots) hold
    (length-map slots behind ∙ (c.loop-list.invariant.count ∙ same))
    (subst (λ l. AreSlots (all_held l) (map behind slots)) (sym all) c.loop-list.invariant.slots)
