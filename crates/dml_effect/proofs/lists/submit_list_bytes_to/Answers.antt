use Rattle.std.proofs.Common.{◌≡◌, ℕ, ◌+◌, ◌<◌, ◌≤◌, ◌++◌, [], ◌∷◌, List, length, map, take, drop, get_or, sym, subst, ◌∙◌, ap, arith}
use Rattle.std.proofs.lemmas.List.{append_assoc, drop_more, take_more_set, length-map, length-set}
use Rattle.dml_types.specs.declared.jobs.Job.{Job}
use Rattle.dml_types.specs.Job.{no_op_job}
use Rattle.dml_types.specs.Memory.{Memory}
use Rattle.dml_types.specs.Refusal.{need}
use Rattle.dml_types.specs.Step.{memory_after, records_of, step}
use Rattle.dml_desc.specs.Descriptor.{bytes_of_record, decoded}
use Rattle.dml_arena.specs.Block.{Block}
use Rattle.dml_effect.specs.Straight.{TakesStaging}
use Rattle.dml_effect.proofs.BatchLemmas.{decoded_at, room_in_list}
use Rattle.dml_effect.proofs.lists.submit_list_bytes_to.Goals as goal

pub submit_to-outcome-requires : goal.submit_to-outcome-requires
submit_to-outcome-requires c =
    let ds = c.args.descriptors.now in
    let jobs = map decoded ds in
    let i = c.loop-i.i in
    let low : i < length ds = omega (arith, c.loop-i-test.true) in
    let below : i < length jobs = omega (arith, low, length-map ds decoded) in
    let own = decoded_at ds i c.decode-job.result low c.decode-job.ensures in
    let fits : Job → ℕ → Type 0 = λ j size. TakesStaging j c.args.staging → need j ≤ size in
    let room : fits (get_or jobs i no_op_job) c.args.arena.now.size = room_in_list jobs c.args.staging c.args.arena.now.size i below c.requires.staging in
    record { staging = subst (λ (j : Job). fits j c.loop-i.arena.size) own (subst (λ (a : Block). fits (get_or jobs i no_op_job) a.size) (sym c.loop-i.invariant.arena) room) }

pub loop-i-preserved : goal.loop-i-preserved
loop-i-preserved c =
    let ds = c.args.descriptors.now in
    let staging = c.args.staging in
    let i = c.loop-i.i in
    let rest = map decoded (drop (i + 1) ds) in
    let old : Memory = c.loop-i.image in
    let new : Memory = c.submit_to-outcome.new.image in
    let job : Job = decoded (get_or ds i []) in
    let known = c.loop-i.invariant in
    let low : i < length ds = omega (arith, c.loop-i-test.true) in
    let is : new ≡ (step old job staging).0 =
    c.submit_to-outcome.ensures.image ∙ ap (λ (j : Job). (step old j staging).0) c.decode-job.ensures in
    let answer : c.submit_to-outcome.result ≡ (step old job staging).1 =
    c.submit_to-outcome.ensures.answer ∙ ap (λ (j : Job). (step old j staging).1) c.decode-job.ensures in
    let next : map decoded (drop i ds) ≡ job ∷ rest = ap (map decoded) (drop_more ds i [] low) in
    let told : Memory → List (List ℕ) = λ m. map bytes_of_record (records_of m rest staging) in
    record {
      as_many = length-set c.loop-i.answers i c.record_bytes.result ∙ known.as_many;
      image =
          ap (λ (m : Memory). memory_after m rest staging) is
          ∙ (ap (λ (jobs : List Job). memory_after old jobs staging) (sym next) ∙ known.image);
      records =
          ap (λ (front : List (List ℕ)). front ++ told new) (take_more_set c.loop-i.answers i c.record_bytes.result (omega (arith, known.as_many, low)))
          ∙ (append_assoc (take i c.loop-i.answers) (c.record_bytes.result ∷ []) (told new)
          ∙ (ap (λ (x : List ℕ). take i c.loop-i.answers ++ x ∷ told new) (c.record_bytes.ensures ∙ ap bytes_of_record answer)
          ∙ (ap (λ (m : Memory). take i c.loop-i.answers ++ bytes_of_record (step old job staging).1 ∷ told m) is
          ∙ (ap (λ (jobs : List Job). take i c.loop-i.answers ++ map bytes_of_record (records_of old jobs staging)) (sym next) ∙ known.records))));
      arena = c.submit_to-outcome.ensures.arena ∙ known.arena;
    }
