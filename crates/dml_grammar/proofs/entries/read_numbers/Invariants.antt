use Rattle.std.proofs.Common.{length, ◌≡◌, ◌∷◌, ◌++◌, drop, map}
use Rattle.std.specs.Option.{option_map}
use Rattle.dml_grammar.specs.declared.faults.Kind.TheVariants.{BadNumber}
use Rattle.dml_grammar.specs.Grammar as grammar
use Rattle.dml_grammar.specs.NumberLines.{entries_numbers}
use Rattle.dml_grammar.specs.Text.{words}
use Rattle.dml_grammar.proofs.entries.read_numbers.Given as goal

abbrev pub invariant-loop-part : goal.invariant-loop-part
invariant-loop-part l = record {
  long : length l.numbers.items ≡ l.part-index;
  numbers : option_map (λ more. l.numbers.items ++ map (λ e. grammar.slot_number e.0 e.1) more) (grammar.fitted (drop l.part-index l.parts) (words l.rest)) ≡ entries_numbers (grammar.fitted l.fn.parts (words l.fn.line));
  fault : option_map (λ more. grammar.first_of ((l.is_bad, BadNumber) ∷ map (λ e. grammar.slot_fault e.0 e.1) more)) (grammar.fitted (drop l.part-index l.parts) (words l.rest)) ≡ option_map (λ all. grammar.first_of (map (λ e. grammar.slot_fault e.0 e.1) all)) (grammar.fitted l.fn.parts (words l.fn.line));
}
