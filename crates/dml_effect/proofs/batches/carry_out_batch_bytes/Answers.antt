use Rattle.std.proofs.Common.{◌≡◌, ◌<◌, ◌≤◌, ℕ, ◌+◌, Bool, false, List, length, get_or, map, set, refl, sym, ◌∙◌, ap, subst, arith}
use Rattle.std.specs.Prelude.{◌&&◌, nat_eq, not}
use Rattle.std.proofs.lemmas.List.{length-map}
use Rattle.dml_types.specs.declared.jobs.Job.{Job}
use Rattle.dml_types.specs.declared.records.Record.{Record}
use Rattle.dml_types.specs.Effect.{code_of}
use Rattle.dml_types.specs.Job.{is_fenced, no_op_job, unfenced}
use Rattle.dml_types.specs.Refusal.{need}
use Rattle.dml_types.specs.Step.{ends_before, step}
use Rattle.dml_desc.specs.Descriptor.{decoded}
use Rattle.dml_arena.specs.Block.{Block}
use Rattle.dml_effect.specs.Batches.{IsCarriedInBytes, free_records}
use Rattle.dml_effect.specs.Straight.{TakesStaging}
use Rattle.dml_effect.proofs.BatchLemmas.{bytes_one, decoded_at, no_bytes_carried, room_in_batch, succeeded_with}
use Rattle.dml_effect.proofs.batches.carry_out_batch_bytes.Goals as goal

pub loop-i-init : goal.loop-i-init
loop-i-init c =
    let ds = c.args.descriptors.now in
    (no_bytes_carried c.args.image.now (map decoded ds) c.args.staging c.args.answers.now (c.requires.size ∙ sym (length-map ds decoded)), refl, refl)

pub submit_in_batch_to-outcome-requires : goal.submit_in_batch_to-outcome-requires
submit_in_batch_to-outcome-requires c =
    let ds = c.args.descriptors.now in
    let i = c.loop-i.i in
    let below : i < length ds = omega (arith, c.loop-i-test.true) in
    let own = decoded_at ds i c.decode-job.result below c.decode-job.ensures in
    let fits : Job → ℕ → Type 0 = λ j size. TakesStaging (unfenced j) c.args.staging → need (unfenced j) ≤ size in
    let room : fits (get_or (map decoded ds) i no_op_job) c.args.arena.now.size = room_in_batch (map decoded ds) c.args.staging c.args.arena.now.size i (omega (arith, below, length-map ds decoded)) c.requires.staging in
    record { staging = subst (λ (j : Job). fits j c.loop-i.arena.size) own (subst (λ (a : Block). fits (get_or (map decoded ds) i no_op_job) a.size) (sym c.loop-i.invariant.2) room) }

pub loop-i-preserved : goal.loop-i-preserved
loop-i-preserved c =
    let ds = c.args.descriptors.now in
    let jobs = map decoded ds in
    let staging = c.args.staging in
    let i = c.loop-i.i in
    let known = c.loop-i.invariant in
    let memory = c.args.image.now in
    let whole : List Record = free_records memory jobs staging in
    let outcome = c.submit_in_batch_to-outcome.result in
    let now = c.submit_in_batch_to-outcome.new.image in
    let low : i < length ds = omega (arith, c.loop-i-test.true) in
    let below : i < length jobs = omega (arith, low, length-map ds decoded) in
    let job : Job = get_or jobs i no_op_job in
    let own : c.decode-job.result ≡ job = sym (decoded_at ds i c.decode-job.result low c.decode-job.ensures) in
    let tested : ends_before jobs whole i ≡ false =
    ap (λ (b : Bool). is_fenced job && not b) (sym known.1)
    ∙ (ap (λ (j : Job). is_fenced j && not c.loop-i.succeeded) (sym own) ∙ (sym c.waits_in_vain.ensures ∙ c.if-waits_in_vain.false)) in
    let image : now ≡ (step c.loop-i.image (unfenced job) staging).0 =
    c.submit_in_batch_to-outcome.ensures.image ∙ ap (λ (j : Job). (step c.loop-i.image (unfenced j) staging).0) own in
    let answer : outcome ≡ (step c.loop-i.image (unfenced job) staging).1 =
    c.submit_in_batch_to-outcome.ensures.answer ∙ ap (λ (j : Job). (step c.loop-i.image (unfenced j) staging).1) own in
    let more = bytes_one memory jobs staging i c.loop-i.image now c.loop-i.answers outcome known.0 below tested image answer in (
      subst (λ (b : List ℕ). IsCarriedInBytes memory jobs staging (i + 1) now (set c.loop-i.answers i b)) (sym c.record_bytes.ensures) more,
      c.still_succeeded-succeeded.ensures
          ∙ (ap (λ (b : Bool). b && nat_eq (code_of outcome.status) 0x01) known.1
          ∙ sym (succeeded_with memory jobs staging i c.loop-i.image outcome known.0.carried below answer)),
      c.submit_in_batch_to-outcome.ensures.arena ∙ known.2,
    )
