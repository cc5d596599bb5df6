use Rattle.std.proofs.Common.{◌≤◌, sym, subst, ◌∙◌, ap}
use Rattle.dml_types.specs.declared.jobs.Job.{Job}
use Rattle.dml_types.specs.Effect.{Effect}
use Rattle.dml_types.specs.Job.{unfenced}
use Rattle.dml_types.specs.Memory.{puts_made}
use Rattle.dml_types.specs.Refusal.{need}
use Rattle.dml_types.proofs.StepLemmas.{effect_refused}
use Rattle.dml_effect.specs.Straight.{IsDelta}
use Rattle.dml_effect.proofs.WholeLemmas.{room_in_batch}
use Rattle.dml_effect.proofs.carrying.submit_in_batch_to.Goals as goal

pub carry_out-requires : goal.carry_out-requires
carry_out-requires c =
    let size = c.args.arena.now.size in
    let room = room_in_batch c.args.job.now c.args.staging size c.in-Ok.ensures.accepted c.requires.staging in
    record { staging = λ delta. subst (λ (j : Job). need j ≤ size) (sym c.in-Ok.ensures.same) (room (subst IsDelta c.in-Ok.ensures.same delta)) }

pub returns-in-Err-clause-image : goal.returns-in-Err-clause-image
returns-in-Err-clause-image c =
    ap (λ (e : Effect). puts_made c.args.image.now e.puts) (sym (effect_refused c.args.image.now (unfenced c.args.job.now) c.args.staging c.in-Err.reason c.in-Err.ensures.refused))

pub returns-in-Err-clause-answer : goal.returns-in-Err-clause-answer
returns-in-Err-clause-answer c =
    c.refused.ensures ∙ ap (λ (e : Effect). e.answer) (sym (effect_refused c.args.image.now (unfenced c.args.job.now) c.args.staging c.in-Err.reason c.in-Err.ensures.refused))
