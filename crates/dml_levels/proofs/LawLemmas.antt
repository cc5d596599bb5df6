-- The law of order for jobs.
use Rattle.std.proofs.Common.{◌≡◌, ℕ, ◌+◌, ◌<◌, zero, suc, Bool, List, [], ◌∷◌, ◌++◌, length, get_or, set, map, take, drop, sym, ◌∙◌, ap, subst, arith}
use Rattle.std.proofs.lemmas.List.{set_comm, take_all, drop_all, drop_more, take_more_set, length-set, get_or-map, append_assoc, append-nil}
use Rattle.std.specs.List.{range_with_len}
use Rattle.dml_types.specs.declared.jobs.Job.{Job}
use Rattle.dml_types.specs.declared.records.Record.{Record}
use Rattle.dml_types.specs.Job.{no_op_job}
use Rattle.dml_types.specs.Memory.{Memory, IsWhole}
use Rattle.dml_types.specs.Conflict.{conflict}
use Rattle.dml_types.specs.Step.{step, memory_after, records_of}
use Rattle.dml_order.specs.Order.{run_all, IsOrder, all_below, Commutes}
use Rattle.dml_order.specs.Waves.{joined, clash_waves}
use Rattle.dml_order.proofs.OrderLemmas.{picks_all}
use Rattle.dml_order.proofs.KeepsLemmas.{order_picks, order_whole, picks_front, picks_taken}
use Rattle.dml_order.proofs.OrderLaws.{picks_then_rest}
use Rattle.dml_order.proofs.WaveLemmas.{waves_order, joined_append}
use Rattle.dml_levels.specs.Waves.{job_at}
use Rattle.dml_levels.specs.Laws.{unless_refused, Progress, carried, begun, in_list_order, HoldsConflicts, OwnClashesHold, ClashesWithoutRefusedHold, AnyOrder, FrontByItself, FrontThenLeft, WavesInOrder, WavesThenLeft}
use Rattle.dml_levels.proofs.CommuteLemmas.{jobs_commute, step_whole, still_apart}

abbrev progress : Memory → List Record → Progress
progress image records = record { image = image; records = records }

pub carried_commutes : (jobs : List Job) (staging : ℕ) (clash : ℕ → ℕ → Bool) → HoldsConflicts clash jobs staging → Commutes Progress (λ now. IsWhole now.image) (carried jobs staging) clash (length jobs)
carried_commutes jobs staging clash holds = record {
  keeps = λ now i whole. step_whole now.image (job_at jobs i) staging whole;
  swap = λ now i k whole low below apart.
      let a = job_at jobs i in
      let b = job_at jobs k in
      let change = jobs_commute now.image a b staging whole (holds i k low below apart) in
      let first = (step now.image a staging).1 in
      let second = (step (step now.image a staging).0 b staging).1 in
      ap (λ (image : Memory). progress image (set (set now.records i first) k second)) change.image
      ∙ ap (progress (step (step now.image b staging).0 a staging).0)
      (set_comm now.records i k first second (λ same. absurd (omega (arith, same)))
      ∙ (ap (λ (r : Record). set (set now.records k r) i first) change.second
      ∙ ap (λ (r : Record). set (set now.records k (step now.image b staging).1) i r) change.first));
}

-- the places in order: the jobs one after another
in_order_from : (jobs : List Job) (staging : ℕ) (from count : ℕ) (now : Progress) → from + count ≡ length jobs → length now.records ≡ length jobs → run_all (carried jobs staging) now (range_with_len from count) ≡ progress (memory_after now.image (drop from jobs) staging) (take from now.records ++ records_of now.image (drop from jobs) staging)
in_order_from jobs staging from zero now ends size =
    let none : drop from jobs ≡ [] = drop_all from jobs (omega arith) in
    let all : take from now.records ≡ now.records = take_all from now.records (omega arith) in
    sym (ap (λ (rest : List Job). progress (memory_after now.image rest staging) (take from now.records ++ records_of now.image rest staging)) none
    ∙ ap (progress now.image) (append-nil (take from now.records) ∙ all))
in_order_from jobs staging from (suc count) now ends size =
    let job = job_at jobs from in
    let done = step now.image job staging in
    let below : from < length now.records = omega arith in
    let rest : drop from jobs ≡ job ∷ drop (from + 1) jobs = drop_more jobs from no_op_job (omega arith) in
    let next = in_order_from jobs staging (from + 1) count (carried jobs staging now from) (omega arith) (length-set now.records from done.1 ∙ size) in
    let records : take (from + 1) (set now.records from done.1) ≡ take from now.records ++ done.1 ∷ [] = take_more_set now.records from done.1 below in
    next
    ∙ (ap (λ (front : List Record). progress (memory_after done.0 (drop (from + 1) jobs) staging) (front ++ records_of done.0 (drop (from + 1) jobs) staging)) records
    ∙ (ap (progress (memory_after done.0 (drop (from + 1) jobs) staging)) (append_assoc (take from now.records) (done.1 ∷ []) (records_of done.0 (drop (from + 1) jobs) staging))
    ∙ sym (ap (λ (these : List Job). progress (memory_after now.image these staging) (take from now.records ++ records_of now.image these staging)) rest)))

in_order : (memory : Memory) (jobs : List Job) (staging : ℕ) (blank : List Record) → length blank ≡ length jobs → run_all (carried jobs staging) (begun memory blank) (range_with_len 0 (length jobs)) ≡ in_list_order memory jobs staging
in_order memory jobs staging blank size = in_order_from jobs staging 0 (length jobs) (begun memory blank) (omega arith) size

pub own_clashes_hold : OwnClashesHold
own_clashes_hold jobs staging i k low below apart = still_apart staging (job_at jobs i) (job_at jobs k) apart

pub clashes_without_refused_hold : ClashesWithoutRefusedHold
clashes_without_refused_hold jobs staging i k low below apart =
    let at : (j : ℕ) → j < length jobs → get_or (map (unless_refused staging) jobs) j no_op_job ≡ unless_refused staging (job_at jobs j) =
    λ j inside. get_or-map (unless_refused staging) jobs j no_op_job no_op_job inside in
    ap (λ (a : Job). conflict a (unless_refused staging (job_at jobs k))) (sym (at i (omega arith)))
    ∙ (ap (conflict (get_or (map (unless_refused staging) jobs) i no_op_job)) (sym (at k below)) ∙ apart)

pub any_order : AnyOrder
any_order memory jobs staging blank clash order whole size holds is =
    picks_all (carried_commutes jobs staging clash holds) order (order_picks clash (length jobs) order is) (order_whole clash (length jobs) order is) (begun memory blank) whole
    ∙ in_order memory jobs staging blank size

pub front_then_left : FrontThenLeft
front_then_left memory jobs staging blank clash front behind whole size holds is =
    picks_then_rest (carried_commutes jobs staging clash holds) front (picks_front clash front behind (all_below (length jobs)) (order_picks clash (length jobs) (front ++ behind) is)) (begun memory blank) whole
    ∙ in_order memory jobs staging blank size

pub front_by_itself : FrontByItself
front_by_itself memory jobs staging blank clash front behind whole holds is =
    picks_taken (carried_commutes jobs staging clash holds) front (picks_front clash front behind (all_below (length jobs)) (order_picks clash (length jobs) (front ++ behind) is)) (begun memory blank) whole

pub waves_in_order : WavesInOrder
waves_in_order memory jobs staging blank clash fits whole size holds =
    any_order memory jobs staging blank clash (joined (clash_waves fits clash (length jobs))) whole size holds (waves_order fits clash (length jobs))

pub waves_then_left : WavesThenLeft
waves_then_left memory jobs staging blank clash fits front behind whole size holds cut =
    front_then_left memory jobs staging blank clash (joined front) (joined behind) whole size holds
    (subst (IsOrder clash (length jobs)) (ap joined cut ∙ joined_append front behind) (waves_order fits clash (length jobs)))
