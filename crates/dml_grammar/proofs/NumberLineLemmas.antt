-- Laws of lines all of whose slots are numbers.
use Rattle.std.proofs.Common.{◌≡◌, ℕ, List, [], ◌∷◌, map, refl, sym, ◌∙◌, ap, ap₂, Bool, true, false, Option, Some, None, is_none, is_some, not}
use Rattle.std.specs.List.{flat_map, list_all}
use Rattle.std.proofs.lemmas.List.Folds.{list_all-map}
use Rattle.dml_grammar.specs.declared.faults.Kind.{Kind}
use Rattle.dml_grammar.specs.declared.faults.Kind.TheVariants.{BadNumber, BadRange}
use Rattle.dml_grammar.specs.declared.lines.Line.{Line}
use Rattle.dml_grammar.specs.declared.table.Part.{Part}
use Rattle.dml_grammar.specs.declared.table.Part.TheVariants.{One}
use Rattle.dml_grammar.specs.declared.table.Slot.TheVariants.{Number, Digits}
use Rattle.dml_grammar.specs.declared.table.Word.{Word}
use Rattle.dml_grammar.specs.declared.table.Word.TheVariants as word
use Rattle.dml_types.specs.declared.operations.Op.{Op}
use Rattle.dml_types.specs.declared.operations.Op.TheVariants.{NoOp, Move, Fill, Compare, ComparePattern, CreateDelta, ApplyDelta, Dualcast}
use Rattle.dml_grammar.specs.Grammar as grammar
use Rattle.dml_grammar.specs.Leading.{BeginsWith}
use Rattle.dml_grammar.specs.Number.{at_most, word_number}
use Rattle.dml_grammar.specs.NumberLines.{Takes, are_numbers, entries_fault, entries_numbers, has_digits, is_number}
use Rattle.dml_grammar.specs.Table.{parts_of}
use Rattle.dml_grammar.specs.Text.{words}
use Rattle.dml_grammar.proofs.LineLemmas.{Entries, first_of_front, first_of_more, fitted_slots, slots_of}

abbrev numbers_in : Entries → List (Option ℕ)
numbers_in entries = map (λ e. grammar.slot_number e.0 e.1) entries

abbrev faults_in : Entries → List (Bool × Kind)
faults_in entries = map (λ e. grammar.slot_fault e.0 e.1) entries

-- the first fault of a line

pub fault_first : (first : Word) (fitted : Option Entries) (before : List Line) (kind : Kind) → Some kind ≡ entries_fault fitted
    → grammar.first_of (grammar.entry_faults first fitted before) ≡ Some kind
fault_first first None before kind is = sym is
fault_first first (Some entries) before kind is = first_of_front (faults_in entries) _ kind (sym is)

pub no_fault_found : (fitted : Option Entries) → None ≡ entries_fault fitted
    → (entries : Entries) × (fitted ≡ Some entries) × (grammar.first_of (faults_in entries) ≡ None)
no_fault_found None is = cc
no_fault_found (Some entries) is = (entries, refl, sym is)

pub none_behind : (first : Word) (fitted : Option Entries) (entries : Entries) (before : List Line) → fitted ≡ Some entries
    → grammar.first_of (faults_in entries) ≡ None → grammar.is_out_of_range first (grammar.values_of entries) before ≡ false
    → grammar.first_of (grammar.entry_faults first fitted before) ≡ None
none_behind first fitted entries before is none within =
    let last : grammar.first_of ((grammar.is_out_of_range first (grammar.values_of entries) before, BadRange) ∷ []) ≡ None = rw within refl in
    ap (λ (o : Option Entries). grammar.first_of (grammar.entry_faults first o before)) is
    ∙ first_of_more (faults_in entries) ((grammar.is_out_of_range first (grammar.values_of entries) before, BadRange) ∷ []) none ∙ last

-- the values of a line

plain_job : (op : Op) → are_numbers (parts_of (word.Job op)) ≡ true
plain_job NoOp = refl
plain_job Move = refl
plain_job Fill = refl
plain_job Compare = refl
plain_job ComparePattern = refl
plain_job CreateDelta = refl
plain_job ApplyDelta = refl
plain_job Dualcast = refl

plain_parts : (first : Word) → has_digits first ≡ false → are_numbers (parts_of first) ≡ true
plain_parts word.Image plain = refl
plain_parts word.Page plain = cc
plain_parts word.Poke plain = cc
plain_parts (word.Job op) plain = plain_job op
plain_parts word.Raw plain = cc
plain_parts word.Batch plain = refl
plain_parts word.End plain = refl
plain_parts word.Show plain = refl

no_bytes : (entries : Entries) → list_all is_number (slots_of entries) ≡ true → flat_map (λ e. grammar.slot_bytes e.0 e.1) entries ≡ []
no_bytes [] all = refl
no_bytes ((Number largest, None) ∷ entries) all = no_bytes entries all
no_bytes ((Number largest, Some w) ∷ entries) all = no_bytes entries all
no_bytes ((Digits least most, w) ∷ entries) all = cc

plain_values : (first : Word) (ws : List (List ℕ)) (entries : Entries) (numbers : List (Option ℕ)) (bytes : List ℕ) → has_digits first ≡ false
    → grammar.fitted (parts_of first) ws ≡ Some entries → Some numbers ≡ entries_numbers (grammar.fitted (parts_of first) ws) → bytes ≡ []
    → (numbers ≡ (grammar.values_of entries).numbers) × (bytes ≡ (grammar.values_of entries).bytes)
plain_values first ws entries numbers bytes plain is read none =
    let slots : slots_of entries ≡ map grammar.slot_of (parts_of first) = fitted_slots (parts_of first) ws entries is in
    let all : list_all is_number (slots_of entries) ≡ true =
    ap (list_all is_number) slots ∙ list_all-map is_number grammar.slot_of (parts_of first) ∙ plain_parts first plain in
    let same : Some numbers ≡ Some (numbers_in entries) = read ∙ ap entries_numbers is in
    (cc, none ∙ sym (no_bytes entries all))

pub values_are_plain : (first : Word) (ws : List (List ℕ)) (entries : Entries) (numbers : List (Option ℕ)) (bytes : List ℕ) → has_digits first ≡ false
    → grammar.fitted (parts_of first) ws ≡ Some entries → Some numbers ≡ entries_numbers (grammar.fitted (parts_of first) ws) → bytes ≡ []
    → (let v : grammar.Values = record { numbers = numbers; bytes = bytes } in v) ≡ grammar.values_of entries
values_are_plain first ws entries numbers bytes plain is read none =
    let same = plain_values first ws entries numbers bytes plain is read none in
    ap₂ (λ (ns : List (Option ℕ)) (bs : List ℕ). let v : grammar.Values = record { numbers = ns; bytes = bs } in v) same.0 same.1

-- a word that was read at the head of a line

fault_seen : (number : Option ℕ) (bad : Bool) → is_some number ≡ not bad → is_none number ≡ bad
fault_seen None true seen = refl
fault_seen None false seen = cc
fault_seen (Some n) true seen = cc
fault_seen (Some n) false seen = refl

pub number_taken : (part : Part) (largest : ℕ) (line rest : List ℕ) (n : ℕ) (number : Option ℕ) (bad : Bool) → part ≡ One (Number largest)
    → BeginsWith n rest line → number ≡ at_most largest (Some n) → is_some number ≡ not bad → Takes part (words line) number bad (words rest)
number_taken part largest line rest n number bad is begins read fault =
    let same : number ≡ at_most largest (word_number begins.0) = read ∙ ap (at_most largest) (sym begins.2) in
    rw is (Some begins.0, ap grammar.word_after begins.1, same, ap (λ (b : Bool). (b, BadNumber)) (ap is_none (sym same) ∙ fault_seen number bad fault))
