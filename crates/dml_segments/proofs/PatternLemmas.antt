-- A pattern repeated by words of 8 bytes.
use Rattle.std.proofs.Common.{◌≡◌, ℕ, ◌+◌, ◌-◌, ◌*◌, ◌/◌, ◌%◌, ◌<◌, ◌≤◌, List, [], ◌∷◌, ◌++◌, length, get_or, take, drop, refl, ap, sym, ◌∙◌, arith, ⊎_elim}
use Rattle.std.proofs.lemmas.Bool.{cases_lt}
use Rattle.std.proofs.lemmas.List.{drop_all, length-append, length-drop, append-nil, get_or_append_left, get_or-append_right, same_lists}
use Rattle.std.proofs.lemmas.Slice.{overwrites}
use Rattle.std.proofs.lemmas.List.FromFn.{length-map-range_with_len, get_or-map-range_with_len, take-map-range_with_len}
use Rattle.std.specs.Int.{to_le_bytes, w64}
use borrow.Rule.Slice.PartMut.{put_mid}
use Rattle.dml_types.specs.Bytewise.{pattern_bytes, pattern_byte}

pub length_pattern_bytes : (pattern n : ℕ) → length (pattern_bytes pattern n) ≡ n
unfolding pattern_bytes
length_pattern_bytes pattern n = length-map-range_with_len (pattern_byte pattern) 0 n

pub pattern_bytes_none : (pattern : ℕ) → [] ≡ pattern_bytes pattern 0
unfolding pattern_bytes
pattern_bytes_none pattern = refl

pub none_to_fill : (pattern : ℕ) (bytes : List ℕ) → length bytes ≤ 0 → bytes ≡ pattern_bytes pattern (length bytes)
unfolding pattern_bytes
none_to_fill pattern [] none = refl
none_to_fill pattern (byte ∷ bytes) none = absurd (omega arith)

pub get_or_pattern_bytes : (pattern n i d : ℕ) → i < n → get_or (pattern_bytes pattern n) i d ≡ pattern_byte pattern i
unfolding pattern_bytes
get_or_pattern_bytes pattern n i d h = get_or-map-range_with_len (pattern_byte pattern) 0 n i i d h (omega arith)

-- after whole words the pattern begins anew
pub pattern_bytes_append : (pattern a b : ℕ) → a % 8 ≡ 0 → pattern_bytes pattern a ++ pattern_bytes pattern b ≡ pattern_bytes pattern (a + b)
pattern_bytes_append pattern a b words =
    let long : length (pattern_bytes pattern a) ≡ a = length_pattern_bytes pattern a in
    let all : length (pattern_bytes pattern a ++ pattern_bytes pattern b) ≡ a + b = omega (arith, length-append (pattern_bytes pattern a) (pattern_bytes pattern b), long, length_pattern_bytes pattern b) in
    same_lists _ _ (all ∙ sym (length_pattern_bytes pattern (a + b))) (λ i d h.
    ⊎_elim (λ low.
    get_or_append_left (pattern_bytes pattern a) (pattern_bytes pattern b) d i (omega arith)
    ∙ (get_or_pattern_bytes pattern a i d low ∙ sym (get_or_pattern_bytes pattern (a + b) i d (omega arith)))) (λ high.
    let turned : (i - a) % 8 ≡ i % 8 = omega arith in
    get_or-append_right (pattern_bytes pattern a) (pattern_bytes pattern b) a i d long high
    ∙ (get_or_pattern_bytes pattern b (i - a) d (omega arith)
    ∙ (ap (λ n. get_or (to_le_bytes w64 pattern) n 0) turned ∙ sym (get_or_pattern_bytes pattern (a + b) i d (omega arith)))))
    (cases_lt i a))

-- one word more
pub pattern_words_more : (pattern k : ℕ) → pattern_bytes pattern (8 * k) ++ to_le_bytes w64 pattern ≡ pattern_bytes pattern (8 * k + 8)
unfolding pattern_bytes
pattern_words_more pattern k = pattern_bytes_append pattern (8 * k) 8 (omega arith)

take_pattern_bytes : (pattern n k : ℕ) → k ≤ n → take k (pattern_bytes pattern n) ≡ pattern_bytes pattern k
unfolding pattern_bytes
take_pattern_bytes pattern n k within = take-map-range_with_len (pattern_byte pattern) 0 n k within

-- a front of the word
pub word_front : (pattern n : ℕ) (word : List ℕ) → word ≡ to_le_bytes w64 pattern → n ≤ 8 → take n word ≡ pattern_bytes pattern n
word_front pattern n word is within =
    ap (take n) (is ∙ (ap (λ (front : List ℕ). front ++ to_le_bytes w64 pattern) (pattern_bytes_none pattern) ∙ pattern_words_more pattern 0)) ∙ take_pattern_bytes pattern 8 n within

-- what whole words and then less than a word leave
pub repeated : (target part : List ℕ) (pattern k n rest : ℕ) → take (8 * k) target ≡ pattern_bytes pattern (8 * k) → length target ≡ n → k ≡ n / 8 → part ≡ pattern_bytes pattern rest → rest ≡ length target - 8 * (n / 8) → put_mid (8 * (n / 8)) (length target - 8 * (n / 8)) target part ≡ pattern_bytes pattern n
repeated target part pattern k n rest front long whole done is =
    let none : drop (length target - 8 * (n / 8)) (drop (8 * (n / 8)) target) ≡ [] = drop_all (length target - 8 * (n / 8)) (drop (8 * (n / 8)) target) (omega (arith, length-drop (8 * (n / 8)) target)) in
    let before : take (8 * (n / 8)) target ≡ pattern_bytes pattern (8 * (n / 8)) = ap (λ k. take (8 * k) target) (sym whole) ∙ (front ∙ ap (λ k. pattern_bytes pattern (8 * k)) whole) in
    let end : 8 * (n / 8) + rest ≡ n = omega arith in
    rw (none, append-nil, before, done) (pattern_bytes_append pattern (8 * (n / 8)) rest (omega arith) ∙ ap (pattern_bytes pattern) end)

-- what decides the repeated words of a pattern
pub ruleset repeat_steps = (pattern_bytes_none, pattern_words_more, overwrites)
