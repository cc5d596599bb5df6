-- Hexadecimal digits with leading zeros.
use Rattle.std.proofs.Common.{◌≡◌, ℕ, ◌-◌, ◌^◌, false, [], append-nil, arith}
use Rattle.std.specs.Fmt.{digits, padded_integral, char_count, format_spec}
use Rattle.dml_script.specs.Output.{hexadecimal}

less_nothing : (n : ℕ) → n - 0 ≡ n
less_nothing n = omega arith

-- what `{:06x}` writes
pub six_digits : (n : ℕ) → padded_integral (format_spec 32 0 4 6 (2 ^ 64 - 1)) false [] (digits 16 false n) ≡ hexadecimal 6 n
unfolding padded_integral char_count hexadecimal
six_digits n = simp (append-nil, less_nothing)
