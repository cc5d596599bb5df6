-- What a text has still to give: it depends on the pages of the lines before it alone, and of a whole text it is `parse`.
use Rattle.std.proofs.Common.{◌≡◌, ℕ, zero, suc, ◌+◌, ◌/◌, List, [], ◌∷◌, ◌++◌, length, map, refl, sym, ◌∙◌, ap, ap₂, arith, Bool, not, ◌&&◌, Option, Some, None, is_some, Result, Ok, Err, nat_eq, nat_lt, append_assoc, cond}
use Rattle.std.specs.List.{list_all, range_with_len}
use Rattle.std.specs.Str.Lines.{lines}
use Rattle.std.proofs.lemmas.Bool.{lt-ltb, ne_eqb}
use Rattle.std.proofs.lemmas.List.{append-nil}
use Rattle.dml_grammar.specs.declared.faults.Kind.{Kind}
use Rattle.dml_grammar.specs.declared.faults.Kind.TheVariants.{LongLine, NotAscii, MissingImage, SecondImage, BadRange, OpenBatch}
use Rattle.dml_grammar.specs.declared.faults.ScriptFault.{ScriptFault}
use Rattle.dml_grammar.specs.declared.lines.Line.{Line}
use Rattle.dml_grammar.specs.declared.table.Word.{Word}
use Rattle.dml_grammar.specs.declared.table.Word.TheVariants as word
use Rattle.dml_grammar.specs.Grammar as grammar
use Rattle.dml_grammar.specs.Grammar.{Verdict, Skipped, Faulty, Fine, end_fault, fault_at, judged, opening_number, parse, parse_from, verdict, words_verdict}
use Rattle.dml_grammar.specs.Left.{Left, left_from, all_left, with_line, nothing_but}
use Rattle.dml_grammar.specs.Pages.{Alike}
use Rattle.dml_grammar.specs.Table.{word_named, parts_of}
use Rattle.dml_grammar.specs.Text.{is_text, words}
use Rattle.dml_grammar.proofs.LineLemmas.{Entries}
use Rattle.dml_grammar.proofs.PageLemmas.{alike_more}

-- A line's verdict after lines that are alike.

all_alike : (p q : ℕ → Bool) (xs : List ℕ) → ((x : ℕ) → p x ≡ q x) → list_all p xs ≡ list_all q xs
all_alike p q [] same = refl
all_alike p q (x ∷ xs) same = ap₂ (λ a b. a && b) (same x) (all_alike p q xs same)

range_alike : (first : Word) (v : grammar.Values) (a b : List Line) → Alike a b → grammar.is_out_of_range first v a ≡ grammar.is_out_of_range first v b
range_alike word.Image v a b alike = refl
range_alike word.Page v a b alike = ap (λ pages. not (nat_lt (grammar.number_at v 0) pages)) alike.pages
range_alike word.Poke v a b alike =
    ap not (all_alike _ _ (range_with_len 0 (length v.bytes)) (λ i. alike.marks ((grammar.number_at v 0 + i) / 4096)))
range_alike (word.Job op) v a b alike = refl
range_alike word.Raw v a b alike = refl
range_alike word.Batch v a b alike = refl
range_alike word.End v a b alike = refl
range_alike word.Show v a b alike = refl

entries_alike : (first : Word) (fitted : Option Entries) (a b : List Line) → Alike a b → grammar.entry_faults first fitted a ≡ grammar.entry_faults first fitted b
entries_alike first None a b alike = refl
entries_alike first (Some entries) a b alike =
    ap (λ (past : Bool). map (λ e. grammar.slot_fault e.0 e.1) entries
    ++ (past, BadRange) ∷ [])
    (range_alike first (grammar.values_of entries) a b alike)

later : (n : ℕ) → nat_lt 0 n ≡ not (nat_eq n 0)
later zero = refl
later (suc n) = lt-ltb 0 (suc n) (omega arith) ∙ sym (ap not (ne_eqb (suc n) 0 (λ same. omega arith)))

place_alike : (first : Word) (a b : List Line) → Alike a b → grammar.place_faults first a ≡ grammar.place_faults first b
place_alike first a b alike =
    let some : nat_lt 0 (length a) ≡ nat_lt 0 (length b) = later (length a) ∙ ap not alike.none ∙ sym (later (length b)) in
    let image : grammar.image_faults first a ≡ grammar.image_faults first b =
    ap₂ (λ (none some : Bool). (none && not (grammar.is_image first), MissingImage) ∷ (some && grammar.is_image first, SecondImage) ∷ []) alike.none some in
    ap₂ (λ (these : List (Bool × Kind)) (jobs : Option ℕ). these ++ grammar.batch_faults first jobs) image alike.jobs

word_alike : (first : Option Word) (after : List (List ℕ)) (a b : List Line) → Alike a b → grammar.word_faults first after a ≡ grammar.word_faults first after b
word_alike None after a b alike = refl
word_alike (Some first) after a b alike =
    ap₂ (λ (these those : List (Bool × Kind)). these ++ those) (place_alike first a b alike)
    (entries_alike first (grammar.fitted (parts_of first) after) a b alike)

words_alike : (ws : List (List ℕ)) (text : List ℕ) (a b : List Line) → Alike a b → words_verdict ws text a ≡ words_verdict ws text b
words_alike [] text a b alike = refl
words_alike (first ∷ after) text a b alike =
    ap (λ (faults : List (Bool × Kind)). cond (grammar.is_comment first) Skipped (judged (grammar.first_of
    ((nat_lt grammar.longest_line (length text), LongLine) ∷ (not (list_all is_text text), NotAscii) ∷ faults)) (word_named first) after))
    (word_alike (word_named first) after a b alike)

verdict_alike : (text : List ℕ) (a b : List Line) → Alike a b → verdict text a ≡ verdict text b
verdict_alike text a b alike = words_alike (words text) text a b alike

-- What is left after lines that are alike.

end_alike : (number opened : ℕ) (a b : List Line) → Alike a b → end_fault number opened a ≡ end_fault number opened b
end_alike number opened a b alike =
    ap₂ (λ (none : Bool) (jobs : Option ℕ). cond none (Some (fault_at number MissingImage)) (cond (is_some jobs) (Some (fault_at opened OpenBatch)) None))
    alike.none alike.jobs

abbrev next_left : ℕ → ℕ → List Line → List (List ℕ) → Verdict → Left
next_left number opened before texts Skipped = left_from (number + 1) opened before texts
next_left number opened before texts (Faulty kind) = nothing_but (Some (fault_at number kind))
next_left number opened before texts (Fine l) = with_line l (left_from (number + 1) (opening_number number l opened) (before ++ l ∷ []) texts)

pub left_alike : (texts : List (List ℕ)) (number opened : ℕ) (a b : List Line) → Alike a b → left_from number opened a texts ≡ left_from number opened b texts
unfolding left_from
left_alike [] number opened a b alike = ap nothing_but (end_alike number opened a b alike)
left_alike (text ∷ texts) number opened a b alike =
    ap (next_left number opened a texts) (verdict_alike text a b alike)
    ∙ (elim (verdict text b) as (λ v. next_left number opened a texts v ≡ next_left number opened b texts v) [
      | Skipped ↦ left_alike texts (number + 1) opened a b alike
      | Faulty kind ↦ refl
      | Fine l ↦ ap (with_line l) (left_alike texts (number + 1) (opening_number number l opened) (a ++ l ∷ []) (b ++ l ∷ []) (alike_more a b l alike))
    ])

-- A whole text.

abbrev read_by : List Line → Left → Result (List Line) ScriptFault
read_by before left = elim left.fault [ None ↦ Ok (before ++ left.lines) | Some fault ↦ Err fault ]

regrouped : (before : List Line) (l : Line) (left : Left) → read_by (before ++ l ∷ []) left ≡ read_by before (with_line l left)
regrouped before l left =
    elim left.fault as (λ fault. (elim fault [ None ↦ Ok ((before ++ l ∷ []) ++ left.lines) | Some fault ↦ Err fault ])
    ≡ (elim fault [ None ↦ Ok (before ++ (l ∷ left.lines)) | Some fault ↦ Err fault ])) [
      | None ↦ ap (λ (ls : List Line). Ok ls) (append_assoc before (l ∷ []) left.lines)
      | Some fault ↦ refl
    ]

read_end : (before : List Line) (fault : Option ScriptFault) → (elim fault [ None ↦ Ok before | Some f ↦ Err f ]) ≡ read_by before (nothing_but fault)
read_end before None = ap (λ (ls : List Line). Ok ls) (sym (append-nil before))
read_end before (Some fault) = refl

parse_left : (texts : List (List ℕ)) (number opened : ℕ) (before : List Line)
    → parse_from number opened before texts ≡ read_by before (left_from number opened before texts)
unfolding parse_from left_from
parse_left [] number opened before = read_end before (end_fault number opened before)
parse_left (text ∷ texts) number opened before =
    elim (verdict text before) as (λ v. (elim v [
      | Skipped ↦ parse_from (number + 1) opened before texts
      | Faulty kind ↦ Err (fault_at number kind)
      | Fine l ↦ parse_from (number + 1) (opening_number number l opened) (before ++ l ∷ []) texts
    ]) ≡ read_by before (next_left number opened before texts v)) [
      | Skipped ↦ parse_left texts (number + 1) opened before
      | Faulty kind ↦ refl
      | Fine l ↦ parse_left texts (number + 1) (opening_number number l opened) (before ++ l ∷ [])
          ∙ regrouped before l (left_from (number + 1) (opening_number number l opened) (before ++ l ∷ []) texts)
    ]

pub parse_is : (bytes : List ℕ) → parse bytes ≡ read_by [] (all_left bytes)
unfolding parse
parse_is bytes = parse_left (lines bytes) 1 0 []
