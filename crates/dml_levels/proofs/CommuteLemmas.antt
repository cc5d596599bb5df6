-- Jobs that do not conflict may change places.
use Rattle.std.proofs.Common.{◌≡◌, ℕ, true, false, List, [], ◌∷◌, length, Option, None, Some, is_some, option_map, unwrap_or, cond, refl, sym, ◌∙◌, ap, subst}
use Rattle.std.proofs.lemmas.Bool.{or_parts, or_from}
use Rattle.dml_types.specs.declared.jobs.Job.{Job}
use Rattle.dml_types.specs.declared.spans.Span.{Span}
use Rattle.dml_types.specs.declared.statuses.Status.{Status}
use Rattle.dml_types.specs.declared.statuses.Status.TheVariants.{BadOpcode}
use Rattle.dml_types.specs.declared.operations.Op.{Op}
use Rattle.dml_types.specs.declared.operations.Op.TheVariants.{NoOp, Move, Fill, Compare, ComparePattern, CreateDelta, ApplyDelta, Dualcast}
use Rattle.dml_types.specs.Job.{op_of, no_op_job, reads, writes, any_shares}
use Rattle.dml_types.specs.Memory.{Memory, IsWhole, Put, puts_made}
use Rattle.dml_types.specs.Refusal.{refusal, refusal_under}
use Rattle.dml_types.specs.Effect.{Effect}
use Rattle.dml_types.specs.Conflict.{ranges_of, conflict}
use Rattle.dml_types.specs.Step.{effect, operation_effect, step}
use Rattle.dml_types.proofs.StepLemmas.{effect_refused, effect_accepted}
use Rattle.dml_levels.specs.Laws.{unless_refused, MayChange}
use Rattle.dml_levels.proofs.FrameLemmas.{touched, apart_touched, apart_swapped, with_bytes, bytes_after, puts_made_is, Agree, PutsIn, puts_long, puts_comm, puts_agree}
use Rattle.dml_levels.proofs.FrameLaws.{IsFramed, no_op_framed, fill_framed, compare_framed, pattern_framed, move_framed, dualcast_framed}
use Rattle.dml_levels.proofs.DeltaFrames.{create_framed, apply_framed}

framed : (op : Op) → IsFramed op
framed NoOp = no_op_framed
framed Move = move_framed
framed Fill = fill_framed
framed Compare = compare_framed
framed ComparePattern = pattern_framed
framed CreateDelta = create_framed
framed ApplyDelta = apply_framed
framed Dualcast = dualcast_framed

abbrev read_by : ℕ → Job → List Span
read_by staging job = ranges_of reads (unless_refused staging job)

abbrev written_by : ℕ → Job → List Span
written_by staging job = ranges_of writes (unless_refused staging job)

-- the same of a job, refused or not
record IsFramedJob (job : Job) (staging : ℕ) : Type 0 where
  agree : (memory : Memory) (bytes : List ℕ) → Agree (read_by staging job) bytes memory.bytes → effect (with_bytes memory bytes) job staging ≡ effect memory job staging
  puts_in : (memory : Memory) → IsWhole memory → PutsIn (written_by staging job) (length memory.bytes) (effect memory job staging).puts

refused_framed : (job : Job) (staging : ℕ) (status : Status) → refusal job staging ≡ Some status → IsFramedJob job staging
refused_framed job staging status is = record {
  agree = λ memory bytes agree. effect_refused (with_bytes memory bytes) job staging status is ∙ sym (effect_refused memory job staging status is);
  puts_in = λ memory whole. subst (λ (done : Effect). PutsIn (written_by staging job) (length memory.bytes) done.puts) (sym (effect_refused memory job staging status is)) tt;
}

accepted_framed : (job : Job) (staging : ℕ) (op : Op) → refusal job staging ≡ None → op_of job ≡ Some op → IsFramedJob job staging
accepted_framed job staging op free is =
    let whole_job : unless_refused staging job ≡ job = ap (λ r. cond (is_some r) no_op_job job) free in
    let ranges : (table : Op → Job → List Span) → ranges_of table (unless_refused staging job) ≡ table op job =
    λ table. ap (ranges_of table) whole_job ∙ ap (λ o. unwrap_or (option_map (λ p. table p job) o) []) is in
    record {
      agree = λ memory bytes agree.
          effect_accepted (with_bytes memory bytes) job staging op free is
          ∙ ((framed op).agree memory bytes job (subst (λ (spans : List Span). Agree spans bytes memory.bytes) (ranges reads) agree)
          ∙ sym (effect_accepted memory job staging op free is));
      puts_in = λ memory whole.
          subst (λ (done : Effect). PutsIn (written_by staging job) (length memory.bytes) done.puts) (sym (effect_accepted memory job staging op free is))
          (subst (λ (spans : List Span). PutsIn spans (length memory.bytes) (operation_effect op memory job).puts) (sym (ranges writes)) ((framed op).puts_in memory job whole));
    }

framed_job : (job : Job) (staging : ℕ) → IsFramedJob job staging
framed_job job staging =
    elim (refusal job staging) as (λ (r : Option Status). refusal job staging ≡ r → IsFramedJob job staging) [
      | Some status ↦ λ is. refused_framed job staging status is
      | None ↦ λ free.
          elim (op_of job) as (λ (o : Option Op). op_of job ≡ o → IsFramedJob job staging) [
            | Some op ↦ λ is. accepted_framed job staging op free is
            | None ↦ λ is. refused_framed job staging BadOpcode (ap (λ o. refusal_under o job staging) is)
          ] refl
    ] refl

-- what a job does is the same behind another that writes nothing which it reads
effect_behind : (memory : Memory) (a b : Job) (staging : ℕ) → IsWhole memory → ((x : ℕ) → touched (read_by staging b) x ≡ true → touched (written_by staging a) x ≡ false) → effect (step memory a staging).0 b staging ≡ effect memory b staging
effect_behind memory a b staging whole apart =
    let puts = (effect memory a staging).puts in
    ap (λ (m : Memory). effect m b staging) (puts_made_is memory puts)
    ∙ (framed_job b staging).agree memory (bytes_after memory.bytes puts)
    (puts_agree (read_by staging b) (written_by staging a) (length memory.bytes) memory.bytes puts refl ((framed_job a staging).puts_in memory whole) apart)

pub effect_stands : (memory : Memory) (a b : Job) (staging : ℕ) → IsWhole memory → conflict (unless_refused staging a) (unless_refused staging b) ≡ false → effect (step memory a staging).0 b staging ≡ effect memory b staging
effect_stands memory a b staging whole apart =
    effect_behind memory a b staging whole
    (λ x here. apart_swapped (written_by staging a) (read_by staging b) x (or_parts _ _ (or_parts _ _ apart).0).0 here)

made_twice : (memory : Memory) (first second : List Put) → puts_made (puts_made memory first) second ≡ with_bytes memory (bytes_after (bytes_after memory.bytes first) second)
made_twice memory first second =
    ap (λ (m : Memory). puts_made m second) (puts_made_is memory first) ∙ puts_made_is (with_bytes memory (bytes_after memory.bytes first)) second

pub jobs_commute : (memory : Memory) (a b : Job) (staging : ℕ) → IsWhole memory → conflict (unless_refused staging a) (unless_refused staging b) ≡ false → MayChange memory a b staging
jobs_commute memory a b staging whole apart =
    let parts = or_parts _ _ apart in
    let more = or_parts _ _ parts.0 in
    let written_a = written_by staging a in
    let written_b = written_by staging b in
    let first = (effect memory a staging).puts in
    let second = (effect memory b staging).puts in
    let b_behind = effect_behind memory a b staging whole (λ x here. apart_swapped written_a (read_by staging b) x more.0 here) in
    let a_behind = effect_behind memory b a staging whole (λ x here. apart_touched (read_by staging a) written_b x parts.1 here) in
    record {
      image =
          ap (λ (done : Effect). puts_made (step memory a staging).0 done.puts) b_behind
          ∙ (made_twice memory first second
          ∙ (ap (with_bytes memory) (puts_comm written_a written_b (length memory.bytes) memory.bytes first second refl ((framed_job a staging).puts_in memory whole) ((framed_job b staging).puts_in memory whole) more.1)
          ∙ (sym (made_twice memory second first) ∙ sym (ap (λ (done : Effect). puts_made (step memory b staging).0 done.puts) a_behind))));
      first = sym (ap (λ (done : Effect). done.answer) a_behind);
      second = ap (λ (done : Effect). done.answer) b_behind;
    }

-- a step keeps the pages whole
pub step_whole : (memory : Memory) (job : Job) (staging : ℕ) → IsWhole memory → IsWhole (step memory job staging).0
step_whole memory job staging whole =
    let puts = (effect memory job staging).puts in
    subst IsWhole (sym (puts_made_is memory puts))
    (record { each_page = puts_long (written_by staging job) (length memory.bytes) memory.bytes puts refl ((framed_job job staging).puts_in memory whole) ∙ whole.each_page })

-- jobs that do not conflict do not where they are refused
pub still_apart : (staging : ℕ) (a b : Job) → conflict a b ≡ false → conflict (unless_refused staging a) (unless_refused staging b) ≡ false
still_apart staging a b apart =
    elim (is_some (refusal a staging)) as (λ p. conflict (cond p no_op_job a) (unless_refused staging b) ≡ false) [
      | true ↦ nothing_touched (unless_refused staging b)
      | false ↦
          elim (is_some (refusal b staging)) as (λ q. conflict a (cond q no_op_job b) ≡ false) [
            | true ↦ nothing_touched_after a
            | false ↦ apart
          ]
    ]
  where
    none_right : (xs : List Span) → any_shares xs [] ≡ false
    none_right [] = refl
    none_right (x ∷ xs) = none_right xs

    nothing_touched : (job : Job) → conflict no_op_job job ≡ false
    nothing_touched job = refl

    nothing_touched_after : (job : Job) → conflict job no_op_job ≡ false
    nothing_touched_after job = or_from _ _ (or_from _ _ (none_right (ranges_of writes job)) (none_right (ranges_of writes job))) (none_right (ranges_of reads job))
