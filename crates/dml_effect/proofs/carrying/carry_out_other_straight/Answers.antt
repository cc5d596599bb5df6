use Rattle.std.proofs.Common.{sym, ◌∙◌, ap, subst}
use Rattle.dml_types.specs.declared.records.Record.{Record}
use Rattle.dml_types.specs.declared.operations.Op.{Op}
use Rattle.dml_desc.specs.Checked.{KeepsRules}
use Rattle.dml_types.specs.Memory.{Memory}
use Rattle.dml_effect.proofs.WholeLemmas.{no_op_step}
use Rattle.dml_effect.proofs.carrying.carry_out_other_straight.Goals as goal

pub returns-in-NoOp-clause-image : goal.returns-in-NoOp-clause-image
returns-in-NoOp-clause-image c =
    let kept = subst (λ (o : Op). KeepsRules o c.args.job.now) c.in-NoOp.is c.op.ensures.rules in
    ap (λ (p : Memory × Record). p.0) (sym (no_op_step c.args.image.now c.args.job.now kept))

pub returns-in-NoOp-clause-answer : goal.returns-in-NoOp-clause-answer
returns-in-NoOp-clause-answer c =
    let kept = subst (λ (o : Op). KeepsRules o c.args.job.now) c.in-NoOp.is c.op.ensures.rules in
    c.ended.ensures ∙ ap (λ (p : Memory × Record). p.1) (sym (no_op_step c.args.image.now c.args.job.now kept))
