-- What bytes are worth as digits, and the numbers that digits write.
use Rattle.std.specs.Prelude.{◌≡◌, ◌+◌, ◌*◌, ◌<◌, ℕ, true, if◌then◌else◌, List, slice_index, Option, Some, None}
use Rattle.std.specs.List.{list_all}
use Rattle.std.specs.Char.{digit_value, is_digit}
use Rattle.std.specs.Str.Parse.{digits_value}

-- what a byte is worth as a hexadecimal digit, in either case; 255 where it is none
abbrev pub worth : ℕ → ℕ
worth c = if is_digit c 16 then digit_value c else 255

-- the number that digits write in a radix
abbrev pub number_of : ℕ → List ℕ → Option ℕ
number_of radix digits =
    if list_all (λ c. is_digit c radix) digits then Some (digits_value radix digits) else None

-- the first n bytes are those of pairs of digits, the first digit of each pair worth 16 times as much
abbrev pub IsPairAt : List ℕ → List ℕ → ℕ → Type 0
IsPairAt word bytes j =
    (is_digit (slice_index word (2 * j)) 16 ≡ true) × (is_digit (slice_index word (2 * j + 1)) 16 ≡ true)
    × (slice_index bytes j ≡ worth (slice_index word (2 * j)) * 16 + worth (slice_index word (2 * j + 1)))

abbrev pub HasPairs : List ℕ → List ℕ → ℕ → Type 0
HasPairs word bytes n = (j : ℕ) → j < n → IsPairAt word bytes j
