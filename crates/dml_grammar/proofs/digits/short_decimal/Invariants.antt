use Rattle.std.proofs.Common.{◌≡◌, take, true}
use Rattle.std.specs.Char.{is_digit}
use Rattle.std.specs.List.{list_all}
use Rattle.std.specs.Str.Parse.{digits_value}
use Rattle.dml_grammar.proofs.digits.short_decimal.Given as goal

abbrev pub invariant-loop-digit : goal.invariant-loop-digit
invariant-loop-digit l = record {
  digits : list_all (λ c. is_digit c 10) (take l.digit-index l.digits) ≡ true;
  number : l.number ≡ digits_value 10 (take l.digit-index l.digits);
}
