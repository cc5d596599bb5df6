-- What the grammar gives of each line, after the lines before it.
use Rattle.std.proofs.Common.{◌≡◌, ℕ, ◌+◌, ◌^◌, ◌<◌, ◌≤◌, List, [], ◌∷◌, ◌++◌, length, map, refl, subst, arith, Bool, true, false, not, ◌&&◌, Option, Some, None, IfSome, IsSome, unwrap_or, inl, inr, nat_le, nat_lt, nat_eq}
use Rattle.std.specs.List.{list_all}
use Rattle.std.proofs.lemmas.Bool.{cases_Bool, leb-false, leb-true, ltb-true, ltb-false, and_parts, not-false, or_parts}
use Rattle.std.proofs.lemmas.List.{nil_from_length}
use Rattle.dml_grammar.specs.declared.faults.Kind.{Kind}
use Rattle.dml_grammar.specs.declared.faults.Kind.TheVariants.{BadRange, LongLine, MissingImage, NotAscii, SecondImage, TooManyJobs, WrongWords}
use Rattle.dml_grammar.specs.declared.lines.Line.{Line}
use Rattle.dml_grammar.specs.declared.lines.Line.TheVariants as line
use Rattle.dml_grammar.specs.declared.table.Word.{Word}
use Rattle.dml_grammar.specs.declared.table.Word.TheVariants as word
use Rattle.dml_types.specs.declared.operations.Op.TheVariants.{NoOp}
use Rattle.dml_grammar.specs.declared.table.Slot.{Slot}
use Rattle.dml_grammar.specs.Grammar as grammar
use Rattle.dml_grammar.specs.Grammar.{Verdict, Skipped, Faulty, Fine, verdict, words_verdict, judged, longest_line, batch_faults, first_of, image_faults, place_faults, entry_faults, faults_of, word_faults}
use Rattle.dml_grammar.specs.Table.{word_named, parts_of}
use Rattle.dml_grammar.specs.Text.{is_text, words}
use Rattle.dml_grammar.proofs.LineLemmas.{Entries, fitted_slots, bytes_of_slots, all_bytes_fit}

-- whether a line may follow others: the image line alone is the first, its pages are 1 to 4,096, a brought page is one
-- of them and its bytes are no more than it has, poked bytes are present, and a shown range ends at or below 2^64; in a
-- batch there are at most 1,024 jobs, and no other line but its end
abbrev pub MayFollow : List Line → Line → Type 0
MayFollow before (line.Image pages) = (before ≡ []) × (1 ≤ pages) × (pages ≤ 4096)
MayFollow before (line.Page page bytes) =
    (0 < length before) × (page < grammar.pages_of before) × (length bytes ≤ 4096) × (grammar.open_jobs before ≡ None)
MayFollow before (line.Poke address bytes) =
    (0 < length before) × (grammar.has_bytes before address (length bytes) ≡ true) × (grammar.open_jobs before ≡ None)
MayFollow before (line.Job job) = (0 < length before) × IfSome (grammar.open_jobs before) (λ n. n < 1024)
MayFollow before line.Batch = (0 < length before) × (grammar.open_jobs before ≡ None)
MayFollow before line.End = (0 < length before) × IsSome (grammar.open_jobs before)
MayFollow before (line.Show address len) = (0 < length before) × (address + len ≤ 2 ^ 64) × (grammar.open_jobs before ≡ None)

-- where no fault is found, no test passes
none_first : (test : Bool) (kind : Kind) (faults : List (Bool × Kind)) → first_of ((test, kind) ∷ faults) ≡ None → (test ≡ false) × (first_of faults ≡ None)
none_first true kind faults none = cc
none_first false kind faults none = (refl, none)

none_of_two : (these those : List (Bool × Kind)) → first_of (these ++ those) ≡ None → (first_of these ≡ None) × (first_of those ≡ None)
none_of_two [] those none = (refl, none)
none_of_two ((true, kind) ∷ these) those none = cc
none_of_two ((false, kind) ∷ these) those none = none_of_two these those none

-- a line that is not the image line has lines before it
some_before : (before : List Line) → (nat_eq (length before) 0 && not false) ≡ false → 0 < length before
some_before [] first = cc
some_before (l ∷ before) first = omega arith

none_before : (before : List Line) → (nat_lt 0 (length before) && true) ≡ false → before ≡ []
none_before before second =
    elim (cases_Bool (nat_lt 0 (length before))) [
      | inl some ↦ let both : true ≡ false = rw some at second in cc
      | inr none ↦ nil_from_length before (omega (arith, ltb-false 0 (length before) none))
    ]

page_bytes : (ws : List (List ℕ)) (entries : Entries) → grammar.fitted (parts_of word.Page) ws ≡ Some entries → length (grammar.values_of entries).bytes ≤ 4096
page_bytes ws entries is =
    subst (λ (slots : List Slot). length (grammar.values_of entries).bytes ≤ bytes_of_slots slots) (fitted_slots (parts_of word.Page) ws entries is) (all_bytes_fit entries)

-- what is known of the batch that is open, where no test on it passes; of all lines that may not stand in it alike
none_open : (jobs : Option ℕ) → first_of (grammar.batch_faults word.Batch jobs) ≡ None → jobs ≡ None
none_open None none = refl
none_open (Some n) none = cc

one_open : (jobs : Option ℕ) → first_of (grammar.batch_faults word.End jobs) ≡ None → IsSome jobs
one_open None none = cc
one_open (Some n) none = refl

few_open : (jobs : Option ℕ) → first_of (grammar.batch_faults (word.Job NoOp) jobs) ≡ None → IfSome jobs (λ n. n < 1024)
few_open None none = tt
few_open (Some n) none = leb-false 1024 n (none_first (nat_le 1024 n) TooManyJobs [] none).0

word_follows : (first : Word) (ws : List (List ℕ)) (entries : Entries) (before : List Line) → grammar.fitted (parts_of first) ws ≡ Some entries
    → (nat_eq (length before) 0 && not (grammar.is_image first)) ≡ false → (nat_lt 0 (length before) && grammar.is_image first) ≡ false
    → first_of (grammar.batch_faults first (grammar.open_jobs before)) ≡ None → grammar.is_out_of_range first (grammar.values_of entries) before ≡ false
    → MayFollow before (grammar.line_of first (grammar.values_of entries))
word_follows word.Image ws entries before is missing second batch range =
    let within = and_parts _ _ (not-false _ range) in (none_before before second, leb-true _ _ within.0, leb-true _ _ within.1)
word_follows word.Page ws entries before is missing second batch range =
    (some_before before missing, ltb-true _ _ (not-false _ range), page_bytes ws entries is, none_open (grammar.open_jobs before) batch)
word_follows word.Poke ws entries before is missing second batch range =
    (some_before before missing, not-false _ range, none_open (grammar.open_jobs before) batch)
word_follows (word.Job op) ws entries before is missing second batch range = (some_before before missing, few_open (grammar.open_jobs before) batch)
word_follows word.Raw ws entries before is missing second batch range = (some_before before missing, few_open (grammar.open_jobs before) batch)
word_follows word.Batch ws entries before is missing second batch range =
    (some_before before missing, none_open (grammar.open_jobs before) batch)
word_follows word.End ws entries before is missing second batch range = (some_before before missing, one_open (grammar.open_jobs before) batch)
word_follows word.Show ws entries before is missing second batch range =
    (some_before before missing, ltb-false _ _ (or_parts _ _ range).1, none_open (grammar.open_jobs before) batch)

entries_follow : (first : Word) (ws : List (List ℕ)) (fitted : Option Entries) (before : List Line) → grammar.fitted (parts_of first) ws ≡ fitted
    → first_of (place_faults first before ++ entry_faults first fitted before) ≡ None
    → MayFollow before (grammar.line_of first (grammar.values_of (unwrap_or fitted [])))
entries_follow first ws None before is none = cc (none_of_two (place_faults first before) ((true, WrongWords) ∷ []) none).1
entries_follow first ws (Some entries) before is none =
    let parts = none_of_two (place_faults first before) (entry_faults first (Some entries) before) none in
    let second_place = (nat_lt 0 (length before) && grammar.is_image first, SecondImage) ∷ [] in
    let image = none_of_two (image_faults first before) (batch_faults first (grammar.open_jobs before)) parts.0 in
    let missing = none_first (nat_eq (length before) 0 && not (grammar.is_image first)) MissingImage second_place image.0 in
    let second = none_first (nat_lt 0 (length before) && grammar.is_image first) SecondImage [] missing.1 in
    let values = none_of_two (map (λ e. grammar.slot_fault e.0 e.1) entries)
    ((grammar.is_out_of_range first (grammar.values_of entries) before, BadRange) ∷ []) parts.1 in
    word_follows first ws entries before is missing.0 second.0 image.1 (none_first _ BadRange [] values.1).0

judged_follows : (found : Option Word) (kind : Option Kind) (after : List (List ℕ)) (before : List Line) (l : Line) → judged kind found after ≡ Fine l
    → (kind ≡ None → first_of (word_faults found after before) ≡ None) → MayFollow before l
judged_follows found (Some kind) after before l is none = cc
judged_follows None None after before l is none = cc
judged_follows (Some first) None after before l is none =
    let same : grammar.line_of first (grammar.values_of (unwrap_or (grammar.fitted (parts_of first) after) [])) ≡ l = cc in
    subst (λ (l : Line). MayFollow before l) same (entries_follow first after (grammar.fitted (parts_of first) after) before refl (none refl))

words_follow : (ws : List (List ℕ)) (text : List ℕ) (before : List Line) (l : Line) → words_verdict ws text before ≡ Fine l → MayFollow before l
words_follow [] text before l is = cc
words_follow (first ∷ after) text before l is =
    elim (cases_Bool (grammar.is_comment first)) [
      | inl comment ↦ let skipped : Skipped ≡ Fine l = rw comment at is in cc
      | inr other ↦
          let fine : judged (first_of (faults_of text first after before)) (word_named first) after ≡ Fine l = rw other at is in
          let text_faults = (nat_lt longest_line (length text), LongLine) ∷ (not (list_all is_text text), NotAscii) ∷ [] in
          judged_follows (word_named first) _ after before l fine (λ none. (none_of_two text_faults (word_faults (word_named first) after before) none).1)
    ]

pub follows : (text : List ℕ) (before : List Line) (l : Line) → verdict text before ≡ Fine l → MayFollow before l
follows text before l is = words_follow (words text) text before l is
