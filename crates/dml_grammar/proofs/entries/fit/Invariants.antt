use Rattle.std.proofs.Common.{length, ◌≡◌, ◌++◌, drop}
use Rattle.std.specs.Option.{option_map}
use Rattle.dml_grammar.specs.Grammar as grammar
use Rattle.dml_grammar.specs.Reads.{entries_seen}
use Rattle.dml_grammar.specs.Text.{words}
use Rattle.dml_grammar.proofs.entries.fit.Given as goal

abbrev pub invariant-loop-part : goal.invariant-loop-part
invariant-loop-part l = record {
  long : length l.entries.items ≡ l.part-index;
  so_far : option_map (λ more. entries_seen l.entries.items ++ more) (grammar.fitted (drop l.part-index l.parts) (words l.rest)) ≡ grammar.fitted l.fn.parts (words l.fn.line);
}
