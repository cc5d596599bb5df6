use Rattle.std.proofs.Common.{length, ◌≡◌, ◌++◌, drop, map}
use Rattle.std.specs.List.{flat_map}
use Rattle.dml_grammar.specs.Grammar as grammar
use Rattle.dml_grammar.specs.Reads.{entries_seen, slot_faults}
use Rattle.dml_grammar.proofs.entries.read_entries.Given as goal

abbrev pub invariant-loop-slot : goal.invariant-loop-slot
invariant-loop-slot l = record {
  long : length l.values.numbers.items ≡ l.slot-index;
  numbers : l.values.numbers.items ++ map (λ e. grammar.slot_number e.0 e.1) (entries_seen (drop l.slot-index l.entries)) ≡ map (λ e. grammar.slot_number e.0 e.1) (entries_seen l.entries);
  bytes : l.values.bytes.items ++ flat_map (λ e. grammar.slot_bytes e.0 e.1) (entries_seen (drop l.slot-index l.entries)) ≡ flat_map (λ e. grammar.slot_bytes e.0 e.1) (entries_seen l.entries);
  faults : grammar.first_of (slot_faults (drop l.slot-index l.entries)) ≡ grammar.first_of (slot_faults l.entries);
}
