use Rattle.std.proofs.Common.{◌*◌, ◌∙◌, sym, arith}
use Rattle.dml_grammar.specs.Text.{is_text}
use Rattle.dml_grammar.proofs.LaneLemmas.{last_decides, part_fails, passes_more}
use Rattle.dml_grammar.proofs.text.is_text.Goals as goal

pub returns-then-not-are_text : goal.returns-then-not-are_text
returns-then-not-are_text c = sym (part_fails is_text c.args.text.now (16 * c.loop-step.step) 16 (sym c.are_text.ensures ∙ c.if-not-are_text.true))

pub loop-step-preserved : goal.loop-step-preserved
loop-step-preserved c =
    passes_more is_text c.args.text.now c.loop-step.step (omega arith) (sym c.are_text.ensures ∙ c.if-not-are_text.false) c.loop-step.invariant

pub returns : goal.returns
returns c = c.are_text-2.ensures ∙ last_decides is_text c.args.text.now c.loop-step.step (omega arith) (omega arith) c.loop-step.invariant
