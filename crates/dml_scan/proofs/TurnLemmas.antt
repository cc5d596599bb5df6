-- A pattern whose bytes are turned, so that another one comes first, and that is repeated.
use Rattle.std.proofs.Common.{◌≡◌, ℕ, zero, suc, ◌+◌, ◌-◌, ◌*◌, ◌/◌, ◌%◌, ◌^◌, ◌<◌, List, [], ◌∷◌, ◌++◌, length, get_or, take, drop, bit_or, refl, sym, ◌∙◌, ap, arith, ⊎_elim}
use Rattle.std.proofs.lemmas.Bool.{cases_lt}
use Rattle.std.proofs.lemmas.List.{get_or_append_left, get_or-append_right, get_or-drop, get_or-take, length-drop}
use Rattle.std.proofs.lemmas.Nat.{le_bytes_8, or_comm, or_shifted}
use Rattle.std.proofs.lemmas.Simd.{get_or_narrower}
use Rattle.std.specs.Int.{rotate_right, to_le_bytes, w64}
use Rattle.std.specs.Int.Bits.{or_add_and, xor_add_and, xor_self}
use lib.Lanes.{digits_l, number_l}
use Rattle.dml_types.specs.Bytewise.{pattern_byte}

-- a number is below 2 ^ 64
abbrev pub IsWord : ℕ → Type 0
IsWord n = n < 18446744073709551616

bytes_below : (a b c d e f g h : ℕ) (i : ℕ) → get_or (a % 256 ∷ b % 256 ∷ c % 256 ∷ d % 256 ∷ e % 256 ∷ f % 256 ∷ g % 256 ∷ h % 256 ∷ []) i 0 < 256
bytes_below a b c d e f g h zero = omega arith
bytes_below a b c d e f g h (suc zero) = omega arith
bytes_below a b c d e f g h (suc (suc zero)) = omega arith
bytes_below a b c d e f g h (suc (suc (suc zero))) = omega arith
bytes_below a b c d e f g h (suc (suc (suc (suc zero)))) = omega arith
bytes_below a b c d e f g h (suc (suc (suc (suc (suc zero))))) = omega arith
bytes_below a b c d e f g h (suc (suc (suc (suc (suc (suc zero)))))) = omega arith
bytes_below a b c d e f g h (suc (suc (suc (suc (suc (suc (suc zero))))))) = omega arith
bytes_below a b c d e f g h (suc (suc (suc (suc (suc (suc (suc (suc i)))))))) = omega arith

-- the parts of a word that is turned to the right by whole bytes
turn_0 : (n : ℕ) → IsWord n → rotate_right w64 n 0 ≡ n
turn_0 n small =
    let one : n / 1 ≡ n = omega arith in
    let all : (n * 1) % 18446744073709551616 ≡ n = omega (arith, small) in
    ap (λ a. bit_or a ((n * 1) % 18446744073709551616)) one
    ∙ (ap (bit_or n) all ∙ omega (arith, or_add_and n n, xor_add_and n n, xor_self n))

turn_1 : (n : ℕ) → IsWord n → rotate_right w64 n 8 ≡ (n % 256) * 72057594037927936 + n / 256
turn_1 n small =
    let low : (n * 72057594037927936) % 18446744073709551616 ≡ (n % 256) * 2 ^ 56 = omega arith in
    let fits : n / 256 < 2 ^ 56 = omega (arith, small) in
    ap (bit_or (n / 256)) low ∙ (or_comm (n / 256) ((n % 256) * 2 ^ 56) ∙ or_shifted (n % 256) 56 (n / 256) fits)

turn_2 : (n : ℕ) → IsWord n → rotate_right w64 n 16 ≡ (n % 65536) * 281474976710656 + n / 65536
turn_2 n small =
    let low : (n * 281474976710656) % 18446744073709551616 ≡ (n % 65536) * 2 ^ 48 = omega arith in
    let fits : n / 65536 < 2 ^ 48 = omega (arith, small) in
    ap (bit_or (n / 65536)) low ∙ (or_comm (n / 65536) ((n % 65536) * 2 ^ 48) ∙ or_shifted (n % 65536) 48 (n / 65536) fits)

turn_3 : (n : ℕ) → IsWord n → rotate_right w64 n 24 ≡ (n % 16777216) * 1099511627776 + n / 16777216
turn_3 n small =
    let low : (n * 1099511627776) % 18446744073709551616 ≡ (n % 16777216) * 2 ^ 40 = omega arith in
    let fits : n / 16777216 < 2 ^ 40 = omega (arith, small) in
    ap (bit_or (n / 16777216)) low ∙ (or_comm (n / 16777216) ((n % 16777216) * 2 ^ 40) ∙ or_shifted (n % 16777216) 40 (n / 16777216) fits)

turn_4 : (n : ℕ) → IsWord n → rotate_right w64 n 32 ≡ (n % 4294967296) * 4294967296 + n / 4294967296
turn_4 n small =
    let low : (n * 4294967296) % 18446744073709551616 ≡ (n % 4294967296) * 2 ^ 32 = omega arith in
    let fits : n / 4294967296 < 2 ^ 32 = omega (arith, small) in
    ap (bit_or (n / 4294967296)) low ∙ (or_comm (n / 4294967296) ((n % 4294967296) * 2 ^ 32) ∙ or_shifted (n % 4294967296) 32 (n / 4294967296) fits)

turn_5 : (n : ℕ) → IsWord n → rotate_right w64 n 40 ≡ (n % 1099511627776) * 16777216 + n / 1099511627776
turn_5 n small =
    let low : (n * 16777216) % 18446744073709551616 ≡ (n % 1099511627776) * 2 ^ 24 = omega arith in
    let fits : n / 1099511627776 < 2 ^ 24 = omega (arith, small) in
    ap (bit_or (n / 1099511627776)) low ∙ (or_comm (n / 1099511627776) ((n % 1099511627776) * 2 ^ 24) ∙ or_shifted (n % 1099511627776) 24 (n / 1099511627776) fits)

turn_6 : (n : ℕ) → IsWord n → rotate_right w64 n 48 ≡ (n % 281474976710656) * 65536 + n / 281474976710656
turn_6 n small =
    let low : (n * 65536) % 18446744073709551616 ≡ (n % 281474976710656) * 2 ^ 16 = omega arith in
    let fits : n / 281474976710656 < 2 ^ 16 = omega (arith, small) in
    ap (bit_or (n / 281474976710656)) low ∙ (or_comm (n / 281474976710656) ((n % 281474976710656) * 2 ^ 16) ∙ or_shifted (n % 281474976710656) 16 (n / 281474976710656) fits)

turn_7 : (n : ℕ) → IsWord n → rotate_right w64 n 56 ≡ (n % 72057594037927936) * 256 + n / 72057594037927936
turn_7 n small =
    let low : (n * 256) % 18446744073709551616 ≡ (n % 72057594037927936) * 2 ^ 8 = omega arith in
    let fits : n / 72057594037927936 < 2 ^ 8 = omega (arith, small) in
    ap (bit_or (n / 72057594037927936)) low ∙ (or_comm (n / 72057594037927936) ((n % 72057594037927936) * 2 ^ 8) ∙ or_shifted (n % 72057594037927936) 8 (n / 72057594037927936) fits)

abbrev turned_list : ℕ → ℕ → List ℕ
turned_list n j = drop j (to_le_bytes w64 n) ++ take j (to_le_bytes w64 n)

-- its bytes
bytes_turned : (n j : ℕ) → IsWord n → j < 8 → to_le_bytes w64 (rotate_right w64 n (8 * j)) ≡ turned_list n j
bytes_turned n zero small below =
    le_bytes_8 (turned_list n 0) (rotate_right w64 n 0) refl (bytes_below n (n / 256) (n / 65536) (n / 16777216) (n / 4294967296) (n / 1099511627776) (n / 281474976710656) (n / 72057594037927936)) (turn_0 n small ∙ omega (arith, small))
bytes_turned n (suc zero) small below =
    le_bytes_8 (turned_list n 1) (rotate_right w64 n 8) refl (bytes_below (n / 256) (n / 65536) (n / 16777216) (n / 4294967296) (n / 1099511627776) (n / 281474976710656) (n / 72057594037927936) n) (turn_1 n small ∙ omega (arith, small))
bytes_turned n (suc (suc zero)) small below =
    le_bytes_8 (turned_list n 2) (rotate_right w64 n 16) refl (bytes_below (n / 65536) (n / 16777216) (n / 4294967296) (n / 1099511627776) (n / 281474976710656) (n / 72057594037927936) n (n / 256)) (turn_2 n small ∙ omega (arith, small))
bytes_turned n (suc (suc (suc zero))) small below =
    le_bytes_8 (turned_list n 3) (rotate_right w64 n 24) refl (bytes_below (n / 16777216) (n / 4294967296) (n / 1099511627776) (n / 281474976710656) (n / 72057594037927936) n (n / 256) (n / 65536)) (turn_3 n small ∙ omega (arith, small))
bytes_turned n (suc (suc (suc (suc zero)))) small below =
    le_bytes_8 (turned_list n 4) (rotate_right w64 n 32) refl (bytes_below (n / 4294967296) (n / 1099511627776) (n / 281474976710656) (n / 72057594037927936) n (n / 256) (n / 65536) (n / 16777216)) (turn_4 n small ∙ omega (arith, small))
bytes_turned n (suc (suc (suc (suc (suc zero))))) small below =
    le_bytes_8 (turned_list n 5) (rotate_right w64 n 40) refl (bytes_below (n / 1099511627776) (n / 281474976710656) (n / 72057594037927936) n (n / 256) (n / 65536) (n / 16777216) (n / 4294967296)) (turn_5 n small ∙ omega (arith, small))
bytes_turned n (suc (suc (suc (suc (suc (suc zero)))))) small below =
    le_bytes_8 (turned_list n 6) (rotate_right w64 n 48) refl (bytes_below (n / 281474976710656) (n / 72057594037927936) n (n / 256) (n / 65536) (n / 16777216) (n / 4294967296) (n / 1099511627776)) (turn_6 n small ∙ omega (arith, small))
bytes_turned n (suc (suc (suc (suc (suc (suc (suc zero))))))) small below =
    le_bytes_8 (turned_list n 7) (rotate_right w64 n 56) refl (bytes_below (n / 72057594037927936) n (n / 256) (n / 65536) (n / 16777216) (n / 4294967296) (n / 1099511627776) (n / 281474976710656)) (turn_7 n small ∙ omega (arith, small))
bytes_turned n (suc (suc (suc (suc (suc (suc (suc (suc j)))))))) small below = absurd (omega (arith, below))

byte_of : (n i : ℕ) → i < 8 → n / 256 ^ i % 256 ≡ get_or (to_le_bytes w64 n) i 0
byte_of n zero below = omega arith
byte_of n (suc zero) below = refl
byte_of n (suc (suc zero)) below = refl
byte_of n (suc (suc (suc zero))) below = refl
byte_of n (suc (suc (suc (suc zero)))) below = refl
byte_of n (suc (suc (suc (suc (suc zero))))) below = refl
byte_of n (suc (suc (suc (suc (suc (suc zero)))))) below = refl
byte_of n (suc (suc (suc (suc (suc (suc (suc zero))))))) below = refl
byte_of n (suc (suc (suc (suc (suc (suc (suc (suc i)))))))) below = absurd (omega (arith, below))

turned_get : (xs : List ℕ) (j i : ℕ) → length xs ≡ 8 → j < 8 → i < 8 → get_or (drop j xs ++ take j xs) i 0 ≡ get_or xs ((j + i) % 8) 0
turned_get xs j i long first below =
    let behind : length (drop j xs) ≡ 8 - j = omega (arith, length-drop j xs, long) in
    ⊎_elim (λ low.
    let place : j + i ≡ (j + i) % 8 = omega (arith, low) in
    get_or_append_left (drop j xs) (take j xs) 0 i (omega (arith, behind, low)) ∙ (get_or-drop j xs i 0 ∙ ap (λ k. get_or xs k 0) place))
    (λ high.
    let place : i - (8 - j) ≡ (j + i) % 8 = omega (arith, high, first, below) in
    get_or-append_right (drop j xs) (take j xs) (8 - j) i 0 behind high
    ∙ (get_or-take j xs (i - (8 - j)) 0 (omega (arith, high, below, first)) ∙ ap (λ k. get_or xs k 0) place))
    (cases_lt i (8 - j))

-- a byte of the turned pattern is one of the pattern
pub turned_byte : (pattern from i : ℕ) → IsWord pattern → rotate_right w64 pattern (8 * (from % 8)) / 256 ^ (i % 8) % 256 ≡ pattern_byte pattern (from + i)
turned_byte pattern from i small =
    let first : from % 8 < 8 = omega arith in
    let below : i % 8 < 8 = omega arith in
    let place : (from % 8 + i % 8) % 8 ≡ (from + i) % 8 = omega arith in
    byte_of (rotate_right w64 pattern (8 * (from % 8))) (i % 8) below
    ∙ (ap (λ xs. get_or xs (i % 8) 0) (bytes_turned pattern (from % 8) small first)
    ∙ (turned_get (to_le_bytes w64 pattern) (from % 8) (i % 8) refl first below ∙ ap (λ k. get_or (to_le_bytes w64 pattern) k 0) place))

-- four words side by side, byte by byte
pub four_words : (n i : ℕ) → IsWord n → i < 32 → get_or (digits_l 256 32 (number_l 18446744073709551616 (n ∷ n ∷ n ∷ n ∷ []))) i 0 ≡ n / 256 ^ (i % 8) % 256
four_words n i small below =
    let place : 8 * (i / 8) + i % 8 ≡ i = omega arith in
    let words : List ℕ = n ∷ n ∷ n ∷ n ∷ [] in
    sym (ap (λ k. get_or (digits_l 256 32 (number_l 18446744073709551616 words)) k 0) place)
    ∙ (get_or_narrower 18446744073709551616 8 256 32 words (i / 8) (i % 8) refl (small, (small, (small, (small, tt)))) (omega arith) (omega (arith, below))
    ∙ ap (λ w. w / 256 ^ (i % 8) % 256) (each (i / 8) (omega (arith, below))))
  where
    each : (j : ℕ) → j < 4 → get_or (n ∷ n ∷ n ∷ n ∷ []) j 0 ≡ n
    each zero h = refl
    each (suc zero) h = refl
    each (suc (suc zero)) h = refl
    each (suc (suc (suc zero))) h = refl
    each (suc (suc (suc (suc j)))) h = absurd (omega (arith, h))
