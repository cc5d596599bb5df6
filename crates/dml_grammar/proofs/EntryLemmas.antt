-- Laws of faults in a list.
use Rattle.std.proofs.Common.{◌≡◌, ℕ, ◌<◌, ◌+◌, List, [], ◌∷◌, length, get_or, drop, Bool, true, false, Option, Some, None, sym, ◌∙◌, ap, subst}
use Rattle.std.specs.Borrow.{Bor}
use Rattle.std.proofs.lemmas.List.{at_drop_more}
use Rattle.dml_grammar.specs.declared.faults.Kind.{Kind}
use Rattle.dml_grammar.specs.declared.faults.ReadError.{ReadError}
use Rattle.dml_grammar.specs.declared.faults.ReadError.TheVariants as errors
use Rattle.dml_grammar.specs.declared.table.Slot.{Slot}
use Rattle.dml_grammar.specs.Grammar.{first_of, slot_fault}
use Rattle.dml_grammar.specs.Reads.{Fails, slot_faults, word_seen}

none_is_some : {kind : Kind} → None ≡ Some kind → ⊥
none_is_some e = cc

-- an error that one fault gives is that of each list which begins with it
pub fails_first : (e : ReadError) (fault : Bool × Kind) (others : List (Bool × Kind))
    → Fails e (first_of (fault ∷ [])) → Fails e (first_of (fault ∷ others))
fails_first errors.NoMemory fault others fails = tt
fails_first (errors.Fault found) (true, kind) others fails = fails
fails_first (errors.Fault found) (false, kind) others fails = absurd (none_is_some fails)

-- an error at an entry, where those before it have no fault
pub fails_at : (e : ReadError) (entries : List (Slot × Option (Bor (List ℕ)))) (i : ℕ) (d : Slot × Option (Bor (List ℕ))) (word : Bor (List ℕ))
    → i < length entries → (get_or entries i d).1 ≡ Some word
    → Fails e (first_of (slot_fault (get_or entries i d).0 (Some word.now) ∷ []))
    → first_of (slot_faults (drop i entries)) ≡ first_of (slot_faults entries) → Fails e (first_of (slot_faults entries))
fails_at e entries i d word low is fails rest =
    let here : slot_faults (drop i entries) ≡ slot_fault (get_or entries i d).0 (word_seen (get_or entries i d).1) ∷ slot_faults (drop (i + 1) entries) =
    at_drop_more slot_faults entries i d low in
    let there : Fails e (first_of (slot_fault (get_or entries i d).0 (word_seen (get_or entries i d).1) ∷ slot_faults (drop (i + 1) entries))) =
    fails_first e _ (slot_faults (drop (i + 1) entries)) (subst (λ (o : Option (Bor (List ℕ))). Fails e (first_of (slot_fault (get_or entries i d).0 (word_seen o) ∷ []))) (sym is) fails) in
    subst (λ (found : Option Kind). Fails e found) (ap first_of (sym here) ∙ rest) there
