use Rattle.std.proofs.Common.{◌≡◌, ◌≤◌, ◌-◌, take, true}
use Rattle.std.specs.Char.{is_digit}
use Rattle.std.specs.List.{list_all}
use Rattle.std.specs.Str.Parse.{digits_value}
use Rattle.dml_grammar.proofs.leading.leading_hexadecimal.Given as goal

abbrev pub invariant-loop-n : goal.invariant-loop-n
invariant-loop-n l = record {
  within : l.n ≤ l.most;
  digits : list_all (λ c. is_digit c 16) (take l.n l.text) ≡ true;
  number : l.number ≡ digits_value 16 (take l.n l.text);
}

abbrev pub decreases-loop-n : goal.decreases-loop-n
decreases-loop-n l = l.most - l.n
