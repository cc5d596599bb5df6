-- A pattern that is turned: its byte i is the pattern's byte k + i.
use Rattle.std.proofs.Common.{◌≡◌, ℕ, zero, suc, ◌+◌, ◌-◌, ◌*◌, ◌/◌, ◌%◌, ◌^◌, ◌<◌, List, [], ◌∷◌, ◌++◌, length, get_or, take, drop, refl, ◌∙◌, ap, ap₂, arith, ⊎_elim, bit_or, length-drop}
use Rattle.std.specs.Int.{to_le_bytes, rotate_right, w64}
use Rattle.std.specs.Int.Bits.{or_self}
use Rattle.std.proofs.lemmas.Bool.{cases_lt}
use Rattle.std.proofs.lemmas.List.{get_or_append_left, get_or-append_right, get_or-drop, get_or-take}
use Rattle.std.proofs.lemmas.Nat.{le_bytes_8, or_shifted, or_comm}
use Rattle.dml_types.specs.Bytewise.{pattern_byte}
use Rattle.dml_types.specs.Step.{turned}

-- a low part and a high part that share no bit
joined : (low high k : ℕ) → low < 2 ^ k → bit_or low (high * 2 ^ k) ≡ low + high * 2 ^ k
joined low high k below = or_comm low (high * 2 ^ k) ∙ (or_shifted high k low below ∙ omega arith)

-- a number cut in two, and turned there
cut_0 : (n : ℕ) → n < 2 ^ 64 → rotate_right w64 n 0 ≡ n
cut_0 n below =
    let low : n / 2 ^ 0 ≡ n = omega arith in
    let high : (n * 2 ^ 0) % 2 ^ 64 ≡ n = omega arith in
    ap₂ bit_or low high ∙ or_self n

cut_1 : (n x y : ℕ) → x < 2 ^ 8 → y < 2 ^ 56 → n ≡ x + 2 ^ 8 * y → rotate_right w64 n 8 ≡ y + x * 2 ^ 56
cut_1 n x y low high is =
    let down : n / 2 ^ 8 ≡ y = omega arith in
    let up : (n * 2 ^ 56) % 2 ^ 64 ≡ x * 2 ^ 56 = omega arith in
    ap₂ bit_or down up ∙ joined y x 56 high

cut_2 : (n x y : ℕ) → x < 2 ^ 16 → y < 2 ^ 48 → n ≡ x + 2 ^ 16 * y → rotate_right w64 n 16 ≡ y + x * 2 ^ 48
cut_2 n x y low high is =
    let down : n / 2 ^ 16 ≡ y = omega arith in
    let up : (n * 2 ^ 48) % 2 ^ 64 ≡ x * 2 ^ 48 = omega arith in
    ap₂ bit_or down up ∙ joined y x 48 high

cut_3 : (n x y : ℕ) → x < 2 ^ 24 → y < 2 ^ 40 → n ≡ x + 2 ^ 24 * y → rotate_right w64 n 24 ≡ y + x * 2 ^ 40
cut_3 n x y low high is =
    let down : n / 2 ^ 24 ≡ y = omega arith in
    let up : (n * 2 ^ 40) % 2 ^ 64 ≡ x * 2 ^ 40 = omega arith in
    ap₂ bit_or down up ∙ joined y x 40 high

cut_4 : (n x y : ℕ) → x < 2 ^ 32 → y < 2 ^ 32 → n ≡ x + 2 ^ 32 * y → rotate_right w64 n 32 ≡ y + x * 2 ^ 32
cut_4 n x y low high is =
    let down : n / 2 ^ 32 ≡ y = omega arith in
    let up : (n * 2 ^ 32) % 2 ^ 64 ≡ x * 2 ^ 32 = omega arith in
    ap₂ bit_or down up ∙ joined y x 32 high

cut_5 : (n x y : ℕ) → x < 2 ^ 40 → y < 2 ^ 24 → n ≡ x + 2 ^ 40 * y → rotate_right w64 n 40 ≡ y + x * 2 ^ 24
cut_5 n x y low high is =
    let down : n / 2 ^ 40 ≡ y = omega arith in
    let up : (n * 2 ^ 24) % 2 ^ 64 ≡ x * 2 ^ 24 = omega arith in
    ap₂ bit_or down up ∙ joined y x 24 high

cut_6 : (n x y : ℕ) → x < 2 ^ 48 → y < 2 ^ 16 → n ≡ x + 2 ^ 48 * y → rotate_right w64 n 48 ≡ y + x * 2 ^ 16
cut_6 n x y low high is =
    let down : n / 2 ^ 48 ≡ y = omega arith in
    let up : (n * 2 ^ 16) % 2 ^ 64 ≡ x * 2 ^ 16 = omega arith in
    ap₂ bit_or down up ∙ joined y x 16 high

cut_7 : (n x y : ℕ) → x < 2 ^ 56 → y < 2 ^ 8 → n ≡ x + 2 ^ 56 * y → rotate_right w64 n 56 ≡ y + x * 2 ^ 8
cut_7 n x y low high is =
    let down : n / 2 ^ 56 ≡ y = omega arith in
    let up : (n * 2 ^ 8) % 2 ^ 64 ≡ x * 2 ^ 8 = omega arith in
    ap₂ bit_or down up ∙ joined y x 8 high

record AreBytes (a b c d e f g h : ℕ) : Type 0 where
  a_fits : a < 256
  b_fits : b < 256
  c_fits : c < 256
  d_fits : d < 256
  e_fits : e < 256
  f_fits : f < 256
  g_fits : g < 256
  h_fits : h < 256

bytes_below : (x : ℕ) (xs : List ℕ) → x < 256 → ((i : ℕ) → get_or xs i 0 < 256) → (i : ℕ) → get_or (x ∷ xs) i 0 < 256
bytes_below x xs first later zero = first
bytes_below x xs first later (suc i) = later i

none_below : (i : ℕ) → get_or {A = ℕ} [] i 0 < 256
none_below i = omega arith

all_below : (a b c d e f g h : ℕ) → AreBytes a b c d e f g h → (i : ℕ) → get_or (a ∷ b ∷ c ∷ d ∷ e ∷ f ∷ g ∷ h ∷ []) i 0 < 256
all_below a b c d e f g h fit =
    let last = bytes_below h [] fit.h_fits none_below in
    let from_g = bytes_below g (h ∷ []) fit.g_fits last in
    let from_f = bytes_below f (g ∷ h ∷ []) fit.f_fits from_g in
    let from_e = bytes_below e (f ∷ g ∷ h ∷ []) fit.e_fits from_f in
    let from_d = bytes_below d (e ∷ f ∷ g ∷ h ∷ []) fit.d_fits from_e in
    let from_c = bytes_below c (d ∷ e ∷ f ∷ g ∷ h ∷ []) fit.c_fits from_d in
    let from_b = bytes_below b (c ∷ d ∷ e ∷ f ∷ g ∷ h ∷ []) fit.b_fits from_c in
    bytes_below a (b ∷ c ∷ d ∷ e ∷ f ∷ g ∷ h ∷ []) fit.a_fits from_b

-- the bytes of a number that is given by them
bytes_of : (a b c d e f g h n : ℕ) → AreBytes a b c d e f g h → n ≡ a + 2 ^ 8 * b + 2 ^ 16 * c + 2 ^ 24 * d + 2 ^ 32 * e + 2 ^ 40 * f + 2 ^ 48 * g + 2 ^ 56 * h → to_le_bytes w64 n ≡ a ∷ b ∷ c ∷ d ∷ e ∷ f ∷ g ∷ h ∷ []
bytes_of a b c d e f g h n fit is =
    le_bytes_8 (a ∷ b ∷ c ∷ d ∷ e ∷ f ∷ g ∷ h ∷ []) n refl (all_below a b c d e f g h fit) (is ∙ omega arith)

module _ (a b c d e f g h n : ℕ) (fit : AreBytes a b c d e f g h) (is : n ≡ a + 2 ^ 8 * b + 2 ^ 16 * c + 2 ^ 24 * d + 2 ^ 32 * e + 2 ^ 40 * f + 2 ^ 48 * g + 2 ^ 56 * h) where
  turned_1 : to_le_bytes w64 (rotate_right w64 n 8) ≡ b ∷ c ∷ d ∷ e ∷ f ∷ g ∷ h ∷ a ∷ []
  turned_1 =
      let x = a in
      let y = b + 2 ^ 8 * c + 2 ^ 16 * d + 2 ^ 24 * e + 2 ^ 32 * f + 2 ^ 40 * g + 2 ^ 48 * h in
      let low : x < 2 ^ 8 = omega (arith, fit) in
      let high : y < 2 ^ 56 = omega (arith, fit) in
      let whole : n ≡ x + 2 ^ 8 * y = omega (arith, is) in
      let after : y + x * 2 ^ 56 ≡ b + 2 ^ 8 * c + 2 ^ 16 * d + 2 ^ 24 * e + 2 ^ 32 * f + 2 ^ 40 * g + 2 ^ 48 * h + 2 ^ 56 * a = omega arith in
      bytes_of b c d e f g h a (rotate_right w64 n 8) (record { a_fits = fit.b_fits; b_fits = fit.c_fits; c_fits = fit.d_fits; d_fits = fit.e_fits; e_fits = fit.f_fits; f_fits = fit.g_fits; g_fits = fit.h_fits; h_fits = fit.a_fits }) (cut_1 n x y low high whole ∙ after)

  turned_2 : to_le_bytes w64 (rotate_right w64 n 16) ≡ c ∷ d ∷ e ∷ f ∷ g ∷ h ∷ a ∷ b ∷ []
  turned_2 =
      let x = a + 2 ^ 8 * b in
      let y = c + 2 ^ 8 * d + 2 ^ 16 * e + 2 ^ 24 * f + 2 ^ 32 * g + 2 ^ 40 * h in
      let low : x < 2 ^ 16 = omega (arith, fit) in
      let high : y < 2 ^ 48 = omega (arith, fit) in
      let whole : n ≡ x + 2 ^ 16 * y = omega (arith, is) in
      let after : y + x * 2 ^ 48 ≡ c + 2 ^ 8 * d + 2 ^ 16 * e + 2 ^ 24 * f + 2 ^ 32 * g + 2 ^ 40 * h + 2 ^ 48 * a + 2 ^ 56 * b = omega arith in
      bytes_of c d e f g h a b (rotate_right w64 n 16) (record { a_fits = fit.c_fits; b_fits = fit.d_fits; c_fits = fit.e_fits; d_fits = fit.f_fits; e_fits = fit.g_fits; f_fits = fit.h_fits; g_fits = fit.a_fits; h_fits = fit.b_fits }) (cut_2 n x y low high whole ∙ after)

  turned_3 : to_le_bytes w64 (rotate_right w64 n 24) ≡ d ∷ e ∷ f ∷ g ∷ h ∷ a ∷ b ∷ c ∷ []
  turned_3 =
      let x = a + 2 ^ 8 * b + 2 ^ 16 * c in
      let y = d + 2 ^ 8 * e + 2 ^ 16 * f + 2 ^ 24 * g + 2 ^ 32 * h in
      let low : x < 2 ^ 24 = omega (arith, fit) in
      let high : y < 2 ^ 40 = omega (arith, fit) in
      let whole : n ≡ x + 2 ^ 24 * y = omega (arith, is) in
      let after : y + x * 2 ^ 40 ≡ d + 2 ^ 8 * e + 2 ^ 16 * f + 2 ^ 24 * g + 2 ^ 32 * h + 2 ^ 40 * a + 2 ^ 48 * b + 2 ^ 56 * c = omega arith in
      bytes_of d e f g h a b c (rotate_right w64 n 24) (record { a_fits = fit.d_fits; b_fits = fit.e_fits; c_fits = fit.f_fits; d_fits = fit.g_fits; e_fits = fit.h_fits; f_fits = fit.a_fits; g_fits = fit.b_fits; h_fits = fit.c_fits }) (cut_3 n x y low high whole ∙ after)

  turned_4 : to_le_bytes w64 (rotate_right w64 n 32) ≡ e ∷ f ∷ g ∷ h ∷ a ∷ b ∷ c ∷ d ∷ []
  turned_4 =
      let x = a + 2 ^ 8 * b + 2 ^ 16 * c + 2 ^ 24 * d in
      let y = e + 2 ^ 8 * f + 2 ^ 16 * g + 2 ^ 24 * h in
      let low : x < 2 ^ 32 = omega (arith, fit) in
      let high : y < 2 ^ 32 = omega (arith, fit) in
      let whole : n ≡ x + 2 ^ 32 * y = omega (arith, is) in
      let after : y + x * 2 ^ 32 ≡ e + 2 ^ 8 * f + 2 ^ 16 * g + 2 ^ 24 * h + 2 ^ 32 * a + 2 ^ 40 * b + 2 ^ 48 * c + 2 ^ 56 * d = omega arith in
      bytes_of e f g h a b c d (rotate_right w64 n 32) (record { a_fits = fit.e_fits; b_fits = fit.f_fits; c_fits = fit.g_fits; d_fits = fit.h_fits; e_fits = fit.a_fits; f_fits = fit.b_fits; g_fits = fit.c_fits; h_fits = fit.d_fits }) (cut_4 n x y low high whole ∙ after)

  turned_5 : to_le_bytes w64 (rotate_right w64 n 40) ≡ f ∷ g ∷ h ∷ a ∷ b ∷ c ∷ d ∷ e ∷ []
  turned_5 =
      let x = a + 2 ^ 8 * b + 2 ^ 16 * c + 2 ^ 24 * d + 2 ^ 32 * e in
      let y = f + 2 ^ 8 * g + 2 ^ 16 * h in
      let low : x < 2 ^ 40 = omega (arith, fit) in
      let high : y < 2 ^ 24 = omega (arith, fit) in
      let whole : n ≡ x + 2 ^ 40 * y = omega (arith, is) in
      let after : y + x * 2 ^ 24 ≡ f + 2 ^ 8 * g + 2 ^ 16 * h + 2 ^ 24 * a + 2 ^ 32 * b + 2 ^ 40 * c + 2 ^ 48 * d + 2 ^ 56 * e = omega arith in
      bytes_of f g h a b c d e (rotate_right w64 n 40) (record { a_fits = fit.f_fits; b_fits = fit.g_fits; c_fits = fit.h_fits; d_fits = fit.a_fits; e_fits = fit.b_fits; f_fits = fit.c_fits; g_fits = fit.d_fits; h_fits = fit.e_fits }) (cut_5 n x y low high whole ∙ after)

  turned_6 : to_le_bytes w64 (rotate_right w64 n 48) ≡ g ∷ h ∷ a ∷ b ∷ c ∷ d ∷ e ∷ f ∷ []
  turned_6 =
      let x = a + 2 ^ 8 * b + 2 ^ 16 * c + 2 ^ 24 * d + 2 ^ 32 * e + 2 ^ 40 * f in
      let y = g + 2 ^ 8 * h in
      let low : x < 2 ^ 48 = omega (arith, fit) in
      let high : y < 2 ^ 16 = omega (arith, fit) in
      let whole : n ≡ x + 2 ^ 48 * y = omega (arith, is) in
      let after : y + x * 2 ^ 16 ≡ g + 2 ^ 8 * h + 2 ^ 16 * a + 2 ^ 24 * b + 2 ^ 32 * c + 2 ^ 40 * d + 2 ^ 48 * e + 2 ^ 56 * f = omega arith in
      bytes_of g h a b c d e f (rotate_right w64 n 48) (record { a_fits = fit.g_fits; b_fits = fit.h_fits; c_fits = fit.a_fits; d_fits = fit.b_fits; e_fits = fit.c_fits; f_fits = fit.d_fits; g_fits = fit.e_fits; h_fits = fit.f_fits }) (cut_6 n x y low high whole ∙ after)

  turned_7 : to_le_bytes w64 (rotate_right w64 n 56) ≡ h ∷ a ∷ b ∷ c ∷ d ∷ e ∷ f ∷ g ∷ []
  turned_7 =
      let x = a + 2 ^ 8 * b + 2 ^ 16 * c + 2 ^ 24 * d + 2 ^ 32 * e + 2 ^ 40 * f + 2 ^ 48 * g in
      let y = h in
      let low : x < 2 ^ 56 = omega (arith, fit) in
      let high : y < 2 ^ 8 = omega (arith, fit) in
      let whole : n ≡ x + 2 ^ 56 * y = omega (arith, is) in
      let after : y + x * 2 ^ 8 ≡ h + 2 ^ 8 * a + 2 ^ 16 * b + 2 ^ 24 * c + 2 ^ 32 * d + 2 ^ 40 * e + 2 ^ 48 * f + 2 ^ 56 * g = omega arith in
      bytes_of h a b c d e f g (rotate_right w64 n 56) (record { a_fits = fit.h_fits; b_fits = fit.a_fits; c_fits = fit.b_fits; d_fits = fit.c_fits; e_fits = fit.d_fits; f_fits = fit.e_fits; g_fits = fit.f_fits; h_fits = fit.g_fits }) (cut_7 n x y low high whole ∙ after)

-- the turned list of a number's bytes
turned_bytes : (n r : ℕ) → n < 2 ^ 64 → r < 8 → to_le_bytes w64 (rotate_right w64 n (8 * r)) ≡ drop r (to_le_bytes w64 n) ++ take r (to_le_bytes w64 n)
turned_bytes n r below within = at r within
  where
    byte : ℕ → ℕ
    byte i = get_or (to_le_bytes w64 n) i 0

    fit : AreBytes (n % 256) (n / 256 % 256) (n / 65536 % 256) (n / 16777216 % 256) (n / 4294967296 % 256) (n / 1099511627776 % 256) (n / 281474976710656 % 256) (n / 72057594037927936 % 256)
    fit = record { a_fits = omega arith; b_fits = omega arith; c_fits = omega arith; d_fits = omega arith; e_fits = omega arith; f_fits = omega arith; g_fits = omega arith; h_fits = omega arith }

    is : n ≡ n % 256 + 2 ^ 8 * (n / 256 % 256) + 2 ^ 16 * (n / 65536 % 256) + 2 ^ 24 * (n / 16777216 % 256) + 2 ^ 32 * (n / 4294967296 % 256) + 2 ^ 40 * (n / 1099511627776 % 256) + 2 ^ 48 * (n / 281474976710656 % 256) + 2 ^ 56 * (n / 72057594037927936 % 256)
    is = omega (arith, below)

    at : (r : ℕ) → r < 8 → to_le_bytes w64 (rotate_right w64 n (8 * r)) ≡ drop r (to_le_bytes w64 n) ++ take r (to_le_bytes w64 n)
    at zero _ = ap (to_le_bytes w64) (cut_0 n below)
    at (suc zero) _ = turned_1 _ _ _ _ _ _ _ _ n fit is
    at (suc (suc zero)) _ = turned_2 _ _ _ _ _ _ _ _ n fit is
    at (suc (suc (suc zero))) _ = turned_3 _ _ _ _ _ _ _ _ n fit is
    at (suc (suc (suc (suc zero)))) _ = turned_4 _ _ _ _ _ _ _ _ n fit is
    at (suc (suc (suc (suc (suc zero))))) _ = turned_5 _ _ _ _ _ _ _ _ n fit is
    at (suc (suc (suc (suc (suc (suc zero)))))) _ = turned_6 _ _ _ _ _ _ _ _ n fit is
    at (suc (suc (suc (suc (suc (suc (suc zero))))))) _ = turned_7 _ _ _ _ _ _ _ _ n fit is
    at (suc (suc (suc (suc (suc (suc (suc (suc r)))))))) high = absurd (omega arith)

turned_place : (xs : List ℕ) (r j : ℕ) → length xs ≡ 8 → r < 8 → j < 8 → get_or (drop r xs ++ take r xs) j 0 ≡ get_or xs ((r + j) % 8) 0
turned_place xs r j long turn place =
    let back : length (drop r xs) ≡ 8 - r = omega (arith, length-drop r xs, long) in
    ⊎_elim (λ low.
    let here : r + j ≡ (r + j) % 8 = omega arith in
    get_or_append_left (drop r xs) (take r xs) 0 j (omega (arith, back)) ∙ (get_or-drop r xs j 0 ∙ ap (λ k. get_or xs k 0) here))
    (λ high.
    let here : j - (8 - r) ≡ (r + j) % 8 = omega arith in
    let inside : j - (8 - r) < r = omega arith in
    get_or-append_right (drop r xs) (take r xs) (8 - r) j 0 back high ∙ (get_or-take r xs (j - (8 - r)) 0 inside ∙ ap (λ k. get_or xs k 0) here))
    (cases_lt j (8 - r))

pub turned_byte : (pattern k i : ℕ) → pattern < 2 ^ 64 → pattern_byte (turned pattern k) i ≡ pattern_byte pattern (k + i)
turned_byte pattern k i below =
    let turn : k % 8 < 8 = omega arith in
    let place : i % 8 < 8 = omega arith in
    let sum : (k % 8 + i % 8) % 8 ≡ (k + i) % 8 = omega arith in
    ap (λ (xs : List ℕ). get_or xs (i % 8) 0) (turned_bytes pattern (k % 8) below turn)
    ∙ (turned_place (to_le_bytes w64 pattern) (k % 8) (i % 8) refl turn place ∙ ap (λ j. get_or (to_le_bytes w64 pattern) j 0) sum)
