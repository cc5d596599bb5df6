-- Lines all of whose slots are numbers.
use Rattle.std.specs.Prelude.{◌≡◌, ℕ, Bool, true, false, List, map, Option, Some, None}
use Rattle.std.specs.List.{list_all}
use Rattle.std.specs.Option.{option_map}
use Rattle.dml_grammar.specs.declared.faults.Kind.{Kind}
use Rattle.dml_grammar.specs.declared.faults.Kind.TheVariants.{BadNumber, WrongWords}
use Rattle.dml_grammar.specs.declared.table.Part.{Part}
use Rattle.dml_grammar.specs.declared.table.Slot.{Slot}
use Rattle.dml_grammar.specs.declared.table.Slot.TheVariants.{Number, Digits}
use Rattle.dml_grammar.specs.declared.table.Word.{Word}
use Rattle.dml_grammar.specs.declared.table.Word.TheVariants as word
use Rattle.dml_grammar.specs.Grammar as grammar

abbrev pub is_number : Slot → Bool
is_number (Number largest) = true
is_number (Digits least most) = false

abbrev pub are_numbers : List Part → Bool
are_numbers parts = list_all (λ part. is_number (grammar.slot_of part)) parts

-- whether a line with this first word may have hexadecimal digits
abbrev pub has_digits : Word → Bool
has_digits word.Page = true
has_digits word.Poke = true
has_digits word.Raw = true
has_digits other = false

-- the first fault of a line's entries, which may not fit its parts
abbrev pub entries_fault : Option (List grammar.Entry) → Option Kind
entries_fault None = Some WrongWords
entries_fault (Some entries) = grammar.first_of (map (λ e. grammar.slot_fault e.0 e.1) entries)

-- the numbers of a line's entries
abbrev pub entries_numbers : Option (List grammar.Entry) → Option (List (Option ℕ))
entries_numbers entries = option_map (λ es. map (λ e. grammar.slot_number e.0 e.1) es) entries

-- a part takes a word of these, or none, which gives this number and is a fault or not, and leaves the others
abbrev pub Takes : Part → List (List ℕ) → Option ℕ → Bool → List (List ℕ) → Type 0
Takes part ws number is_fault others =
    (word : Option (List ℕ)) × (grammar.taken part ws ≡ Some (word, others))
    × (number ≡ grammar.slot_number (grammar.slot_of part) word)
    × (grammar.slot_fault (grammar.slot_of part) word ≡ (is_fault, BadNumber))
