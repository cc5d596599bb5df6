-- Laws of lines: the sizes of their values, the order of their faults, and what may come next.
use Rattle.std.proofs.Common.{◌≡◌, ℕ, zero, suc, ◌+◌, ◌*◌, ◌/◌, ◌^◌, ◌<◌, ◌≤◌, List, [], ◌∷◌, ◌++◌, length, map, get_or, take, drop, refl, sym, ◌∙◌, ap, subst, arith, Bool, true, false, ◌&&◌, Option, Some, None, unwrap_or, is_none, Ok, Err, inl, inr, nat_eq, nat_le}
use Rattle.std.specs.List.{list_all, position_or_len}
use Rattle.std.specs.Option.{option_and_then}
use Rattle.std.specs.Result.{result_ok}
use Rattle.std.proofs.lemmas.Bool.{cases_Bool, le-ltb, leb-true, ltb-true, and_parts, not-false}
use Rattle.std.proofs.lemmas.List.{length-append, append-nil}
use Rattle.hex.specs.Hex.{decode_of}
use Rattle.hex.proofs.HexLemmas.{decode_of-ok}
use Rattle.dml_grammar.specs.declared.faults.Kind.{Kind}
use Rattle.dml_grammar.specs.declared.faults.ReadError.{ReadError}
use Rattle.dml_grammar.specs.declared.faults.ReadError.TheVariants as errors
use Rattle.dml_grammar.specs.declared.lines.Line.{Line}
use Rattle.dml_grammar.specs.declared.table.Word.{Word}
use Rattle.dml_grammar.specs.declared.table.Word.TheVariants as word
use Rattle.dml_types.specs.declared.operations.Op.{Op}
use Rattle.dml_types.specs.declared.operations.Op.TheVariants.{NoOp, Move, Fill, Compare, ComparePattern, CreateDelta, ApplyDelta, Dualcast}
use Rattle.dml_grammar.specs.declared.table.Slot.{Slot}
use Rattle.dml_grammar.specs.declared.table.Slot.TheVariants.{Number, Digits}
use Rattle.dml_grammar.specs.declared.table.Part.{Part}
use Rattle.dml_grammar.specs.Grammar as grammar
use Rattle.dml_grammar.specs.Number.{word_number, at_most, word_bytes}
use Rattle.dml_grammar.specs.Reads.{Fails, FitsAt, FitsJob, HasSizes, IsNext}
use Rattle.dml_grammar.specs.Table.{parts_of, descriptor_digits, word_named}
use Rattle.dml_grammar.specs.Text.{is_blank, is_text, words}
use Rattle.dml_grammar.proofs.WordLemmas.{first_of_word, words_at_word}

abbrev pub Entries : Type 0
Entries = List grammar.Entry

-- The first fault of a list, and of another after it.

pub first_of_more : (faults more : List (Bool × Kind)) → grammar.first_of faults ≡ None → grammar.first_of (faults ++ more) ≡ grammar.first_of more
first_of_more [] more none = refl
first_of_more ((true, kind) ∷ faults) more none = cc
first_of_more ((false, kind) ∷ faults) more none = first_of_more faults more none

pub first_of_front : (faults more : List (Bool × Kind)) (kind : Kind) → grammar.first_of faults ≡ Some kind → grammar.first_of (faults ++ more) ≡ Some kind
first_of_front [] more kind found = cc
first_of_front ((true, other) ∷ faults) more kind found = found
first_of_front ((false, other) ∷ faults) more kind found = first_of_front faults more kind found

pub fails_front : (e : ReadError) (faults more : List (Bool × Kind)) → Fails e (grammar.first_of faults) → Fails e (grammar.first_of (faults ++ more))
fails_front errors.NoMemory faults more fails = tt
fails_front (errors.Fault kind) faults more fails = first_of_front faults more kind fails

-- the faults of a line of text with a known first word

pub misplaced_first : (text first : List ℕ) (after : List (List ℕ)) (before : List Line) (named : Word) (kind : Kind) → length text ≤ grammar.longest_line
    → list_all is_text text ≡ true → word_named first ≡ Some named → grammar.first_of (grammar.place_faults named before) ≡ Some kind
    → grammar.first_of (grammar.faults_of text first after before) ≡ Some kind
misplaced_first text first after before named kind short ascii is found =
    rw (le-ltb grammar.longest_line (length text) short, ascii, is) (first_of_front (grammar.place_faults named before) (grammar.rest_faults named after before) kind found)

pub placed_rest : (text first : List ℕ) (after : List (List ℕ)) (before : List Line) (named : Word) → length text ≤ grammar.longest_line
    → list_all is_text text ≡ true → word_named first ≡ Some named → grammar.first_of (grammar.place_faults named before) ≡ None
    → grammar.first_of (grammar.faults_of text first after before) ≡ grammar.first_of (grammar.rest_faults named after before)
placed_rest text first after before named short ascii is none =
    rw (le-ltb grammar.longest_line (length text) short, ascii, is) (first_of_more (grammar.place_faults named before) (grammar.rest_faults named after before) none)

-- a line whose first word begins with `#`, and one whose first word does not

comment_some : (text : List ℕ) → grammar.is_comment text ≡ true → 0 < length text
comment_some [] is = cc
comment_some (c ∷ cs) is = omega arith

pub comment_skipped : (line text : List ℕ) (before : List Line) → words text ≡ words line
    → (0 < length text → is_blank (get_or text 0 0) ≡ false) → grammar.is_comment text ≡ true → grammar.Skipped ≡ grammar.verdict line before
comment_skipped line text before same begins is =
    let some : 0 < length text = comment_some text is in
    let n : ℕ = position_or_len is_blank text in
    let split : words text ≡ take n text ∷ words (drop n text) = words_at_word text n refl some (begins some) in
    let first : grammar.is_comment (take n text) ≡ true = ap (λ c. nat_eq c 35) (first_of_word text n refl some (begins some)) ∙ is in
    rw (sym same ∙ split, first) refl

pub judged_words : (line text first : List ℕ) (after : List (List ℕ)) (before : List Line) → words text ≡ words line → words text ≡ first ∷ after
    → get_or first 0 0 ≡ get_or text 0 0 → grammar.is_comment text ≡ false
    → grammar.verdict line before ≡ grammar.judged (grammar.first_of (grammar.faults_of line first after before)) (word_named first) after
judged_words line text first after before same split begins read =
    let other : grammar.is_comment first ≡ false = ap (λ c. nat_eq c 35) begins ∙ read in
    rw (sym same ∙ split, other) refl

-- Sizes. The entries of a line have the slots of its parts.

abbrev pub slots_of : Entries → List Slot
slots_of entries = map (λ e. e.0) entries

with_first_slots : (entry : Slot × Option (List ℕ)) (some : Option Entries) (entries : Entries) (slots : List Slot)
    → grammar.with_first entry some ≡ Some entries → ((more : Entries) → some ≡ Some more → slots_of more ≡ slots) → slots_of entries ≡ entry.0 ∷ slots
with_first_slots entry None entries slots is after = cc
with_first_slots entry (Some more) entries slots is after =
    let here : entry ∷ more ≡ entries = cc in
    ap slots_of (sym here) ∙ ap (λ rest. entry.0 ∷ rest) (after more refl)

part_slots : (part : Part) (parts : List Part) (taken : Option (Option (List ℕ) × List (List ℕ))) (entries : Entries)
    → option_and_then (λ t. grammar.with_first (grammar.slot_of part, t.0) (grammar.fitted parts t.1)) taken ≡ Some entries
    → ((ws : List (List ℕ)) (more : Entries) → grammar.fitted parts ws ≡ Some more → slots_of more ≡ map grammar.slot_of parts)
    → slots_of entries ≡ grammar.slot_of part ∷ map grammar.slot_of parts
part_slots part parts None entries is after = cc
part_slots part parts (Some t) entries is after =
    with_first_slots (grammar.slot_of part, t.0) (grammar.fitted parts t.1) entries (map grammar.slot_of parts) is (after t.1)

pub fitted_slots : (parts : List Part) (ws : List (List ℕ)) (entries : Entries) → grammar.fitted parts ws ≡ Some entries → slots_of entries ≡ map grammar.slot_of parts
fitted_slots [] [] entries is = let none : [] ≡ entries = cc in ap slots_of (sym none)
fitted_slots [] (w ∷ ws) entries is = cc
fitted_slots (part ∷ parts) ws entries is =
    part_slots part parts (grammar.taken part ws) entries is (fitted_slots parts)

-- the largest number of a slot, and the most bytes
abbrev limit_of : Slot → ℕ
limit_of (Number largest) = largest
limit_of (Digits least most) = 0

abbrev pub most_bytes : Slot → ℕ
most_bytes (Number largest) = 0
most_bytes (Digits least most) = most / 2

abbrev pub bytes_of_slots : List Slot → ℕ
bytes_of_slots [] = 0
bytes_of_slots (slot ∷ slots) = most_bytes slot + bytes_of_slots slots

at_most_fits : (largest : ℕ) (number : Option ℕ) → unwrap_or (at_most largest number) 0 ≤ largest
at_most_fits largest None = omega arith
at_most_fits largest (Some n) =
    elim (cases_Bool (nat_le n largest)) as (λ _. unwrap_or (at_most largest (Some n)) 0 ≤ largest) [
      | inl within ↦ rw within (leb-true n largest within)
      | inr above ↦ rw above (omega arith)
    ]

number_fits : (slot : Slot) (w : Option (List ℕ)) → unwrap_or (grammar.slot_number slot w) 0 ≤ limit_of slot
number_fits slot None = omega arith
number_fits (Number largest) (Some w) = at_most_fits largest (word_number w)
number_fits (Digits least most) (Some w) = omega arith

number_at_fits : (entries : Entries) (place : ℕ)
    → grammar.number_at (grammar.values_of entries) place ≤ limit_of (get_or (slots_of entries) place (Number 0))
number_at_fits [] place = omega arith
number_at_fits (entry ∷ entries) zero = number_fits entry.0 entry.1
number_at_fits (entry ∷ entries) (suc place) = number_at_fits entries place

decoded_fits : (w : List ℕ) (most : ℕ) → length w ≤ most → length (unwrap_or (result_ok (decode_of w)) []) ≤ most / 2
decoded_fits w most within =
    elim (decode_of w) as (λ r. decode_of w ≡ r → length (unwrap_or (result_ok r) []) ≤ most / 2) [
      | Ok bytes ↦ λ is. let twice : length w ≡ 2 * length bytes = (decode_of-ok w bytes is).2 in omega arith
      | Err e ↦ λ _. omega arith
    ] refl

digits_fit : (least most : ℕ) (w : List ℕ) → length (unwrap_or (word_bytes least most w) []) ≤ most / 2
digits_fit least most w =
    elim (cases_Bool (nat_le least (length w) && nat_le (length w) most)) as (λ _. length (unwrap_or (word_bytes least most w) []) ≤ most / 2) [
      | inl within ↦ rw within (decoded_fits w most (leb-true _ _ (and_parts _ _ within).1))
      | inr outside ↦ rw outside (omega arith)
    ]

bytes_fit : (slot : Slot) (w : Option (List ℕ)) → length (grammar.slot_bytes slot w) ≤ most_bytes slot
bytes_fit slot None = omega arith
bytes_fit (Number largest) (Some w) = omega arith
bytes_fit (Digits least most) (Some w) = digits_fit least most w

pub all_bytes_fit : (entries : Entries) → length (grammar.values_of entries).bytes ≤ bytes_of_slots (slots_of entries)
all_bytes_fit [] = omega arith
all_bytes_fit (entry ∷ entries) =
    let here = bytes_fit entry.0 entry.1 in
    let after = all_bytes_fit entries in
    omega (arith, here, after, length-append (grammar.slot_bytes entry.0 entry.1) (grammar.values_of entries).bytes)

-- the one word of a descriptor has 128 digits, if it has no fault
raw_fitted : (ws : List (List ℕ)) (entries : Entries) → grammar.fitted (parts_of word.Raw) ws ≡ Some entries
    → (w : List ℕ) × (entries ≡ (descriptor_digits, Some w) ∷ [])
raw_fitted [] entries is = cc
raw_fitted (w ∷ []) entries is = (w, cc)
raw_fitted (w ∷ v ∷ ws) entries is = cc

decoded_twice : (w : List ℕ) → length w ≡ 128 → is_none (result_ok (decode_of w)) ≡ false → length (unwrap_or (result_ok (decode_of w)) []) ≡ 64
decoded_twice w long =
    elim (decode_of w) as (λ r. decode_of w ≡ r → is_none (result_ok r) ≡ false → length (unwrap_or (result_ok r) []) ≡ 64) [
      | Ok bytes ↦ λ is fine. let twice : length w ≡ 2 * length bytes = (decode_of-ok w bytes is).2 in omega arith
      | Err e ↦ λ is fine. cc
    ] refl

descriptor_size : (w : List ℕ) → is_none (word_bytes 128 128 w) ≡ false → length (unwrap_or (word_bytes 128 128 w) []) ≡ 64
descriptor_size w =
    elim (cases_Bool (nat_le 128 (length w) && nat_le (length w) 128)) as (λ _. is_none (word_bytes 128 128 w) ≡ false → length (unwrap_or (word_bytes 128 128 w) []) ≡ 64) [
      | inl within ↦
          let both = and_parts (nat_le 128 (length w)) (nat_le (length w) 128) within in
          let least : 128 ≤ length w = leb-true 128 (length w) both.0 in
          let most : length w ≤ 128 = leb-true (length w) 128 both.1 in
          rw within (decoded_twice w (omega arith))
      | inr outside ↦ rw outside (λ fine. cc)
    ]

no_fault : (is_there : Bool) (kind : Kind) → grammar.first_of ((is_there, kind) ∷ []) ≡ None → is_there ≡ false
no_fault true kind none = cc
no_fault false kind none = refl

raw_size : (ws : List (List ℕ)) (entries : Entries) → grammar.fitted (parts_of word.Raw) ws ≡ Some entries
    → grammar.first_of (map (λ e. grammar.slot_fault e.0 e.1) entries) ≡ None → length (grammar.values_of entries).bytes ≡ 64
raw_size ws entries is none =
    let one = raw_fitted ws entries is in
    let w : List ℕ = one.0 in
    let fine : is_none (word_bytes 128 128 w) ≡ false =
    no_fault _ _ (subst (λ (es : Entries). grammar.first_of (map (λ e. grammar.slot_fault e.0 e.1) es) ≡ None) one.1 none) in
    let long : length (unwrap_or (word_bytes 128 128 w) [] ++ []) ≡ 64 = rw append-nil (descriptor_size w fine) in
    subst (λ (es : Entries). length (grammar.values_of es).bytes ≡ 64) (sym one.1) long

-- an entry's number fits a field that its slot fits
fits_at : (first : Word) (ws : List (List ℕ)) (entries : Entries) → grammar.fitted (parts_of first) ws ≡ Some entries → (place bits : ℕ)
    → limit_of (get_or (map grammar.slot_of (parts_of first)) place (Number 0)) < 2 ^ bits → FitsAt (grammar.values_of entries) place bits
fits_at first ws entries is place bits below =
    let within : grammar.number_at (grammar.values_of entries) place ≤ limit_of (get_or (map grammar.slot_of (parts_of first)) place (Number 0)) =
    subst (λ (slots : List Slot). grammar.number_at (grammar.values_of entries) place ≤ limit_of (get_or slots place (Number 0)))
    (fitted_slots (parts_of first) ws entries is) (number_at_fits entries place) in
    omega arith

job_sizes : (op : Op) (ws : List (List ℕ)) (entries : Entries) → grammar.fitted (parts_of (word.Job op)) ws ≡ Some entries → FitsJob op (grammar.values_of entries)
job_sizes NoOp ws entries is = fits_at (word.Job NoOp) ws entries is 0 32 (omega arith)
job_sizes Move ws entries is =
    let fits = fits_at (word.Job Move) ws entries is in (fits 2 32 (omega arith), fits 3 32 (omega arith))
job_sizes Fill ws entries is =
    let fits = fits_at (word.Job Fill) ws entries is in (fits 2 32 (omega arith), fits 3 32 (omega arith))
job_sizes Compare ws entries is =
    let fits = fits_at (word.Job Compare) ws entries is in (fits 2 32 (omega arith), fits 3 8 (omega arith), fits 4 32 (omega arith))
job_sizes ComparePattern ws entries is =
    let fits = fits_at (word.Job ComparePattern) ws entries is in (fits 2 32 (omega arith), fits 3 8 (omega arith), fits 4 32 (omega arith))
job_sizes CreateDelta ws entries is =
    let fits = fits_at (word.Job CreateDelta) ws entries is in (fits 2 32 (omega arith), fits 4 32 (omega arith), fits 5 8 (omega arith), fits 6 32 (omega arith))
job_sizes ApplyDelta ws entries is =
    let fits = fits_at (word.Job ApplyDelta) ws entries is in (fits 1 32 (omega arith), fits 3 32 (omega arith), fits 4 32 (omega arith))
job_sizes Dualcast ws entries is =
    let fits = fits_at (word.Job Dualcast) ws entries is in (fits 3 32 (omega arith), fits 4 32 (omega arith))

pub sizes_of_fitted : (first : Word) (ws : List (List ℕ)) (entries : Entries) → grammar.fitted (parts_of first) ws ≡ Some entries
    → grammar.first_of (map (λ e. grammar.slot_fault e.0 e.1) entries) ≡ None
    → HasSizes first (grammar.values_of entries)
sizes_of_fitted word.Image ws entries is fine = tt
sizes_of_fitted word.Page ws entries is fine = tt
sizes_of_fitted word.Poke ws entries is fine =
    let slots = fitted_slots (parts_of word.Poke) ws entries is in
    subst (λ (slots : List Slot). length (grammar.values_of entries).bytes ≤ bytes_of_slots slots) slots (all_bytes_fit entries)
sizes_of_fitted (word.Job op) ws entries is fine = job_sizes op ws entries is
sizes_of_fitted word.Raw ws entries is fine = raw_size ws entries is fine
sizes_of_fitted word.Batch ws entries is fine = tt
sizes_of_fitted word.End ws entries is fine = tt
sizes_of_fitted word.Show ws entries is fine = tt

-- What may come next.

pub next_in_range : (first : Word) (v : grammar.Values) (before : List Line) → (grammar.is_image first ≡ true → before ≡ [])
    → (grammar.is_image first ≡ false → 0 < length before)
    → (grammar.is_job first ≡ true → unwrap_or (grammar.open_jobs before) 0 < grammar.most_jobs)
    → grammar.is_out_of_range first v before ≡ false → IsNext before (grammar.line_of first v)
next_in_range word.Image v before start behind room within =
    let range = and_parts _ _ (not-false _ within) in (start refl, leb-true _ _ range.0, leb-true _ _ range.1)
next_in_range word.Page v before start behind room within = ltb-true _ _ (not-false _ within)
next_in_range word.Poke v before start behind room within = behind refl
next_in_range (word.Job op) v before start behind room within = (behind refl, room refl)
next_in_range word.Raw v before start behind room within = (behind refl, room refl)
next_in_range word.Batch v before start behind room within = behind refl
next_in_range word.End v before start behind room within = behind refl
next_in_range word.Show v before start behind room within = behind refl
