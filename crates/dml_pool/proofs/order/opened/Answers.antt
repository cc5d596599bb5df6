use Rattle.std.proofs.Common.{◌≡◌, ◌++◌, ◌∷◌, [], None, Option, Some, MutBor, length, map, sym, ap, ◌∙◌, arith, append_assoc, length-append}
use Rattle.std.specs.Slice.Iter.{iter_mut_rest}
use Rattle.std.proofs.lemmas.List.{append-nil, map-append}
use Rattle.dml_pool.specs.declared.tasks.Outcome.{Outcome}
use Rattle.dml_pool.specs.Slots.{behind, held}
use Rattle.dml_pool.proofs.Placed.{held_behind_next}
use Rattle.dml_pool.proofs.order.opened.Goals as goal

pub loop-slot-preserved-in-Some-taken : goal.loop-slot-preserved-in-Some-taken
loop-slot-preserved-in-Some-taken c =
    let now : MutBor (Option (MutBor (Option Outcome))) → Option (MutBor (Option Outcome)) = λ slot. slot.now in
    let yielded = c.loop-slot.yielded in
    let slot = c.in-Some.slot in
    let rest = iter_mut_rest c.next.new.self in
    let outcome = c.in-Some-taken.outcome in
    let is : behind slot.now ≡ Some outcome = sym c.taken.ensures ∙ c.in-Some-taken.is in record {
      can = tt;
      ends = tt;
      split =
          c.loop-slot.invariant.split
          ∙ (ap (λ l. map now yielded ++ l) c.in-Some.ensures.steps
          ∙ (sym (append_assoc (map now yielded) (slot.now ∷ []) rest) ∙ ap (λ l. l ++ rest) (sym (map-append now yielded (slot ∷ [])))));
      opened =
          c.push_reserved.ensures.items
          ∙ (ap (λ l. l ++ outcome ∷ []) c.loop-slot.invariant.opened
          ∙ (ap (λ (o : Option Outcome). held (map behind (map now yielded)) ++ held (o ∷ [])) (sym is) ∙ sym (held_behind_next yielded slot)));
      few =
          let more = ap length c.push_reserved.ensures.items ∙ length-append c.loop-slot.all.items (outcome ∷ []) in
          omega (arith, more, c.loop-slot.invariant.few, length-append yielded (slot ∷ []));
      room = omega (arith, c.push_reserved.ensures.capacity, c.loop-slot.invariant.room);
    }

pub loop-slot-preserved : goal.loop-slot-preserved
loop-slot-preserved c =
    let now : MutBor (Option (MutBor (Option Outcome))) → Option (MutBor (Option Outcome)) = λ slot. slot.now in
    let yielded = c.loop-slot.yielded in
    let slot = c.in-Some.slot in
    let rest = iter_mut_rest c.next.new.self in
    let is : behind slot.now ≡ None = sym c.taken.ensures ∙ c.in_default.is in record {
      can = tt;
      ends = tt;
      split =
          c.loop-slot.invariant.split
          ∙ (ap (λ l. map now yielded ++ l) c.in-Some.ensures.steps
          ∙ (sym (append_assoc (map now yielded) (slot.now ∷ []) rest) ∙ ap (λ l. l ++ rest) (sym (map-append now yielded (slot ∷ [])))));
      opened =
          c.loop-slot.invariant.opened
          ∙ (sym (append-nil (held (map behind (map now yielded))))
          ∙ (ap (λ (o : Option Outcome). held (map behind (map now yielded)) ++ held (o ∷ [])) (sym is) ∙ sym (held_behind_next yielded slot)));
      few = omega (arith, c.loop-slot.invariant.few, length-append yielded (slot ∷ []));
      room = c.loop-slot.invariant.room;
    }
