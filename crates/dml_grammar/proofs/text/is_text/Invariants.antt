use Rattle.std.proofs.Common.{◌≡◌, ℕ, ◌*◌, ◌<◌, get_or, true}
use Rattle.dml_grammar.specs.Text.{is_text}
use Rattle.dml_grammar.proofs.text.is_text.Given as goal

abbrev pub invariant-loop-step : goal.invariant-loop-step
invariant-loop-step l = (k : ℕ) → k < 16 * l.step → is_text (get_or l.text k 0) ≡ true
