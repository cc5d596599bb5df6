-- Laws of lines and words: how a text is cut at its first line feed, and a line at its first word.
use Rattle.std.proofs.Common.{◌≡◌, ℕ, ◌+◌, ◌<◌, ◌≤◌, suc, List, [], ◌∷◌, length, get_or, take, drop, refl, sym, ◌∙◌, ap, arith, Bool, true, false, not, cond, Option, Some, None, filter, unwrap_or, inl, inr}
use Rattle.std.specs.List.{slice_split, position_or_len, prefix_len, before_first, after_first, All}
use Rattle.std.specs.Str.Lines.{lines, lines_of_parts, strip_carriage_return}
use Rattle.std.specs.Bool.{nat_eq}
use Rattle.std.proofs.lemmas.List.Splits.{slice_split_first, slice_split_none, length-slice_split, slice_split-cons_yes}
use Rattle.std.proofs.lemmas.List.Sums.{position_or_len_is, prefix_len_is, fails_before_first, passes_at_first, prefix_len_stops, prefix_len-le-length}
use Rattle.std.proofs.lemmas.List.{take_all, drop_all, drop-drop, drop_more, length-take, length-drop, get_or-drop, get_or-take, nil_from_length}
use Rattle.std.proofs.lemmas.Bool.{cases_lt, cond-true, cond-false, ne_eqb, not_from_false, false_from_ne_true, both_ways}
use Rattle.memchr.specs.Find.{IsFirstByte, is_byte, is_byte2}
use Rattle.dml_grammar.specs.Text.{is_blank, words}

abbrev is_feed : ℕ → Bool
is_feed b = nat_eq b 10

pub position_or_len_at : (p : ℕ → Bool) (xs : List ℕ) (i : ℕ) → i ≤ length xs → ((k : ℕ) → k < i → p (get_or xs k 0) ≡ false)
    → (i < length xs → p (get_or xs i 0) ≡ true) → i ≡ position_or_len p xs
position_or_len_at p xs i within before here = sym (position_or_len_is p xs i 0 within before here)

pub prefix_len_at : (p : ℕ → Bool) (xs : List ℕ) (i : ℕ) → i ≤ length xs → ((k : ℕ) → k < i → p (get_or xs k 0) ≡ true)
    → (i < length xs → p (get_or xs i 0) ≡ false) → i ≡ prefix_len p xs
prefix_len_at p xs i within before here = sym (prefix_len_is p xs i 0 within before here)

pub first_byte_at : (xs : List ℕ) (found : Option ℕ) → IsFirstByte (is_byte 10) xs found
    → unwrap_or found (length xs) ≡ position_or_len is_feed xs
first_byte_at xs None nowhere =
    position_or_len_at is_feed xs (length xs) (omega arith) (λ k low. false_from_ne_true _ (nowhere k (omega arith) low)) (λ low. absurd (omega arith))
first_byte_at xs (Some k) first =
    position_or_len_at is_feed xs k (let h : k < length xs = first.0.high in omega arith)
    (λ i low. false_from_ne_true _ (first.0.before i (omega arith) low)) (λ _. first.1)

-- the same of the first blank
pub first_blank_at : (xs : List ℕ) (found : Option ℕ) → IsFirstByte (is_byte2 32 9) xs found
    → unwrap_or found (length xs) ≡ position_or_len is_blank xs
first_blank_at xs None nowhere =
    position_or_len_at is_blank xs (length xs) (omega arith) (λ k low. false_from_ne_true _ (nowhere k (omega arith) low)) (λ low. absurd (omega arith))
first_blank_at xs (Some k) first =
    position_or_len_at is_blank xs k (let h : k < length xs = first.0.high in omega arith)
    (λ i low. false_from_ne_true _ (first.0.before i (omega arith) low)) (λ _. first.1)

-- a part before others is a line that has lost its carriage return
parts_more : (x : List ℕ) (parts : List (List ℕ)) → 0 < length parts → lines_of_parts (x ∷ parts) ≡ strip_carriage_return x ∷ lines_of_parts parts
parts_more x [] none = absurd (omega arith)
parts_more x (y ∷ more) some = refl

pub lines_split : (text : List ℕ) (n : ℕ) → n ≡ position_or_len is_feed text → n < length text
    → lines text ≡ strip_carriage_return (take n text) ∷ lines (drop 1 (drop n text))
lines_split text n at within =
    let inside : position_or_len is_feed text < length text = omega arith in
    let cut : slice_split is_feed text ≡ before_first is_feed text ∷ slice_split is_feed (after_first is_feed text) =
    slice_split_first is_feed text 0 inside in
    let some : 0 < length (slice_split is_feed (after_first is_feed text)) = omega (arith, length-slice_split is_feed (after_first is_feed text)) in
    let first : lines text ≡ strip_carriage_return (before_first is_feed text) ∷ lines (after_first is_feed text) =
    ap lines_of_parts cut ∙ parts_more _ _ some in
    let same : drop 1 (drop n text) ≡ drop (n + 1) text = drop-drop 1 n text in
    rw (same, at) first

one_part : (x : List ℕ) → 0 < length x → lines_of_parts (x ∷ []) ≡ x ∷ []
one_part [] some = absurd (omega arith)
one_part (b ∷ bytes) some = cond-false (nat_eq (suc (length bytes)) 0) [] ((b ∷ bytes) ∷ []) (ne_eqb _ _ (λ e. omega arith))

-- no element passes where the first that does is past the end
all_fail : (p : ℕ → Bool) (xs : List ℕ) → length xs ≤ position_or_len p xs → All (λ x. p x ≡ false) xs
all_fail p xs past = λ k d low. fails_before_first p xs k d (omega arith)

pub lines_last : (text : List ℕ) (n : ℕ) → n ≡ position_or_len is_feed text → length text ≤ n → 0 < length text
    → lines text ≡ take n text ∷ lines (drop n text)
lines_last text n at past some =
    let none : All (λ b. is_feed b ≡ false) text = all_fail is_feed text (omega arith) in
    let cut : slice_split is_feed text ≡ text ∷ [] = slice_split_none is_feed text none in
    let all : take n text ≡ text = take_all n text past in
    let one : lines_of_parts (text ∷ []) ≡ text ∷ [] = one_part text some in
    let rest : drop n text ≡ [] = drop_all n text past in
    rw (all, rest) (ap lines_of_parts cut ∙ one)

-- Words.

words_after_blank : (c : ℕ) (line : List ℕ) → is_blank c ≡ true → words (c ∷ line) ≡ words line
words_after_blank c line blank =
    ap (filter (λ word. not (nat_eq (length word) 0))) (slice_split-cons_yes is_blank c line blank)

pub blanks_skipped : (line : List ℕ) (n : ℕ) → n ≡ prefix_len is_blank line → words line ≡ words (drop n line)
blanks_skipped [] n at = rw at refl
blanks_skipped (c ∷ line) n at =
    elim (is_blank c) as (λ b. is_blank c ≡ b → n ≡ cond b (1 + prefix_len is_blank line) 0 → words (c ∷ line) ≡ words (drop n (c ∷ line))) [
      | true ↦ λ blank at.
          let next : n ≡ suc (prefix_len is_blank line) = omega arith in
          let same : drop n (c ∷ line) ≡ drop (prefix_len is_blank line) line = ap (λ k. drop k (c ∷ line)) next in
          words_after_blank c line blank ∙ blanks_skipped line (prefix_len is_blank line) refl ∙ ap words (sym same)
      | false ↦ λ _ at. rw at refl
    ] refl at

pub no_words : (line text : List ℕ) → words text ≡ words line → length text ≡ 0 → [] ≡ words line
no_words line text same none = ap words (sym (nil_from_length text none)) ∙ same

abbrev some_word : List ℕ → Bool
some_word word = not (nat_eq (length word) 0)

filter_keeps : (word : List ℕ) (others : List (List ℕ)) → 0 < length word → filter some_word (word ∷ others) ≡ word ∷ filter some_word others
filter_keeps [] others some = absurd (omega arith)
filter_keeps (c ∷ cs) others some =
    cond-true (some_word (c ∷ cs)) ((c ∷ cs) ∷ filter some_word others) (filter some_word others) (not_from_false _ (ne_eqb _ _ (λ e. omega arith)))

-- the words of a line from its first word on
words_from_word : (line : List ℕ) (n : ℕ) → n ≡ position_or_len is_blank line → 0 < n → words line ≡ take n line ∷ words (drop n line)
words_from_word line n at some =
    elim (cases_lt n (length line)) as (λ _. words line ≡ take n line ∷ words (drop n line)) [
      | inl low ↦
          let inside : position_or_len is_blank line < length line = omega arith in
          let cut : slice_split is_blank line ≡ before_first is_blank line ∷ slice_split is_blank (after_first is_blank line) =
          slice_split_first is_blank line 0 inside in
          let long : 0 < length (before_first is_blank line) = omega (arith, length-take (position_or_len is_blank line) line) in
          let after : words (drop (position_or_len is_blank line) line) ≡ words (drop (position_or_len is_blank line + 1) line) =
          ap words (drop_more line (position_or_len is_blank line) 0 inside)
          ∙ words_after_blank (get_or line (position_or_len is_blank line) 0) (drop (position_or_len is_blank line + 1) line) (passes_at_first is_blank line 0 inside) in
          rw at (ap (filter some_word) cut ∙ filter_keeps (before_first is_blank line) (slice_split is_blank (after_first is_blank line)) long ∙ ap (λ ws. before_first is_blank line ∷ ws) (sym after))
      | inr past ↦
          let cut : slice_split is_blank line ≡ line ∷ [] = slice_split_none is_blank line (all_fail is_blank line (omega arith)) in
          let long : 0 < length line = omega (arith, prefix_len-le-length (λ x. not (is_blank x)) line) in
          let all : take n line ≡ line = take_all n line past in
          let none : drop n line ≡ [] = drop_all n line past in
          rw (all, none) (ap (filter some_word) cut ∙ filter_keeps line [] long)
    ]

-- no blank stands where the blanks that a line begins with end
pub no_blank_behind : (line : List ℕ) (skip : ℕ) → skip ≡ prefix_len is_blank line → 0 < length (drop skip line)
    → is_blank (get_or (drop skip line) 0 0) ≡ false
no_blank_behind line skip at some =
    let low : prefix_len is_blank line < length line = omega (arith, length-drop skip line) in
    let no : is_blank (get_or line (prefix_len is_blank line) 0) ≡ false = prefix_len_stops is_blank line 0 low in
    let place : get_or (drop skip line) 0 0 ≡ get_or line (prefix_len is_blank line) 0 =
    get_or-drop skip line 0 0 ∙ ap (λ k. get_or line k 0) (let k : skip + 0 ≡ prefix_len is_blank line = omega arith in k) in
    rw place no

-- a word has at least one byte
word_is_long : (text : List ℕ) (n : ℕ) → n ≡ position_or_len is_blank text → 0 < length text → is_blank (get_or text 0 0) ≡ false → 0 < n
word_is_long text n word some begins =
    elim (cases_lt 0 n) as (λ _. 0 < n) [
      | inl low ↦ low
      | inr zero_n ↦
          let inside : position_or_len is_blank text < length text = omega arith in
          let e : position_or_len is_blank text ≡ 0 = omega arith in
          let yes : is_blank (get_or text (position_or_len is_blank text) 0) ≡ true = passes_at_first is_blank text 0 inside in
          absurd (both_ways _ begins (rw e at yes))
    ]

pub words_at_word : (text : List ℕ) (n : ℕ) → n ≡ position_or_len is_blank text → 0 < length text → is_blank (get_or text 0 0) ≡ false
    → words text ≡ take n text ∷ words (drop n text)
words_at_word text n word some begins = words_from_word text n word (word_is_long text n word some begins)

pub first_of_word : (text : List ℕ) (n : ℕ) → n ≡ position_or_len is_blank text → 0 < length text → is_blank (get_or text 0 0) ≡ false
    → get_or (take n text) 0 0 ≡ get_or text 0 0
first_of_word text n word some begins = get_or-take n text 0 0 (word_is_long text n word some begins)

pub words_split : (line : List ℕ) (skip n : ℕ) → skip ≡ prefix_len is_blank line → 0 < length (drop skip line) → n ≡ position_or_len is_blank (drop skip line)
    → words line ≡ take n (drop skip line) ∷ words (drop n (drop skip line))
words_split line skip n at some word =
    blanks_skipped line skip at ∙ words_at_word (drop skip line) n word some (no_blank_behind line skip at some)
