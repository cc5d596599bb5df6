use Rattle.std.proofs.Common.{get_or, ◌-◌, ◌≡◌, ◌<◌, ◌≤◌, ℕ, false}
use Rattle.dml_grammar.specs.Text.{is_blank}
use Rattle.dml_grammar.proofs.words.word_len.Given as goal

abbrev pub invariant-loop-n : goal.invariant-loop-n
invariant-loop-n l = record {
  within : l.n ≤ l.near;
  before : (k : ℕ) → k < l.n → is_blank (get_or l.text k 0) ≡ false;
}

abbrev pub decreases-loop-n : goal.decreases-loop-n
decreases-loop-n l = l.near - l.n
