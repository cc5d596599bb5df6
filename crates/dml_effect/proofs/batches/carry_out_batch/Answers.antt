use Rattle.std.proofs.Common.{◌≡◌, ◌<◌, ◌≤◌, false, length, get_or, sym, subst, ◌∙◌, ap, arith}
use Rattle.std.specs.Prelude.{◌&&◌, nat_eq, not}
use Rattle.std.proofs.lemmas.List.{length-set}
use Rattle.dml_types.specs.declared.jobs.Job.{Job}
use Rattle.dml_types.specs.Effect.{code_of}
use Rattle.dml_types.specs.Job.{is_fenced, no_op_job, unfenced}
use Rattle.dml_types.specs.Refusal.{need}
use Rattle.dml_types.specs.Step.{ends_before, step}
use Rattle.dml_arena.specs.Block.{Block}
use Rattle.dml_effect.specs.Straight.{TakesStaging}
use Rattle.dml_effect.proofs.BatchLemmas.{carried_one, room_in_batch, succeeded_more}
use Rattle.dml_effect.proofs.batches.carry_out_batch.Goals as goal

pub submit_in_batch_to-requires : goal.submit_in_batch_to-requires
submit_in_batch_to-requires c =
    let jobs = c.args.jobs.now in
    let i = c.loop-i.i in
    let below : i < length jobs = omega (arith, c.loop-i-test.true) in
    let job : Job = unfenced (get_or jobs i no_op_job) in
    let room = room_in_batch jobs c.args.staging c.args.arena.now.size i below c.requires.staging in
    record { staging = subst (λ (a : Block). TakesStaging job c.args.staging → need job ≤ a.size) (sym c.loop-i.invariant.3) room }

pub loop-i-preserved : goal.loop-i-preserved
loop-i-preserved c =
    let jobs = c.args.jobs.now in
    let staging = c.args.staging in
    let i = c.loop-i.i in
    let records = c.loop-i.records in
    let known = c.loop-i.invariant in
    let outcome = c.by_fields-record.result in
    let below : i < length jobs = omega (arith, c.loop-i-test.true) in
    let job : Job = get_or jobs i no_op_job in
    let tested : ends_before jobs records i ≡ false =
    ap (λ b. is_fenced job && not b) (sym known.2) ∙ (sym c.waits_in_vain.ensures ∙ c.if-waits_in_vain.false) in
    let answer : outcome ≡ (step c.loop-i.image (unfenced job) staging).1 =
    c.by_fields-record.ensures ∙ c.submit_in_batch_to.ensures.answer in (
      carried_one c.args.image.now jobs staging i c.loop-i.image c.submit_in_batch_to.new.image records outcome known.0 below tested c.submit_in_batch_to.ensures.image answer,
      length-set records i outcome ∙ known.1,
      c.still_succeeded-succeeded.ensures ∙ (ap (λ b. b && nat_eq (code_of outcome.status) 0x01) known.2 ∙ sym (succeeded_more records i outcome (omega (arith, below, known.1)))),
      c.submit_in_batch_to.ensures.arena ∙ known.3,
    )
