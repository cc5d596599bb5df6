use Rattle.std.proofs.Common.{length, get_or, ◌-◌, ◌≡◌, ◌<◌, ◌≤◌, ℕ, true}
use Rattle.dml_grammar.specs.Text.{is_blank}
use Rattle.dml_grammar.proofs.words.blank_len.Given as goal

abbrev pub invariant-loop-n : goal.invariant-loop-n
invariant-loop-n l = record {
  within : l.n ≤ length l.text;
  before : (k : ℕ) → k < l.n → is_blank (get_or l.text k 0) ≡ true;
}

abbrev pub decreases-loop-n : goal.decreases-loop-n
decreases-loop-n l = length l.text - l.n
