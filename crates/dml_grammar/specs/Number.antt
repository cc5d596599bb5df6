-- The numbers and the hexadecimal bytes that a word can write.
use Rattle.std.specs.Prelude.{ℕ, if◌then◌else◌, ◌&&◌, List, length, take, drop, nat_lt, nat_le, bytes_eq, codes, Option, Some, None}
use Rattle.std.specs.List.{list_all}
use Rattle.std.specs.Char.{is_digit}
use Rattle.std.specs.Str.Parse.{digits_value}
use Rattle.std.specs.Result.{result_ok}
use Rattle.hex.specs.Hex.{decode_of}

-- the number that 1 to `most` digits write in a radix; leading zeros are allowed
abbrev pub digits_number : ℕ → ℕ → List ℕ → Option ℕ
digits_number radix most digits =
    if nat_lt 0 (length digits) && nat_le (length digits) most && list_all (λ c. is_digit c radix) digits
    then Some (digits_value radix digits) else None

-- 1 to 20 decimal digits, or `0x` and 1 to 16 hexadecimal digits in either case
abbrev pub word_number : List ℕ → Option ℕ
word_number word =
    if bytes_eq (take 2 word) (codes "0x") then digits_number 16 16 (drop 2 word)
    else digits_number 10 20 word

-- the number, where there is one and it is not above the largest
abbrev pub at_most : ℕ → Option ℕ → Option ℕ
at_most largest None = None
at_most largest (Some number) = if nat_le number largest then Some number else None

-- the bytes that `least` to `most` hexadecimal digits write, two digits a byte, in either case
abbrev pub word_bytes : ℕ → ℕ → List ℕ → Option (List ℕ)
word_bytes least most word =
    if nat_le least (length word) && nat_le (length word) most then result_ok (decode_of word) else None
