-- What a round takes of the jobs that are known to wait.
use Rattle.std.proofs.Common.{◌≡◌, ℕ, ◌+◌, ◌<◌, ◌≤◌, List, ◌++◌, length, filter, get_or, set, map, refl, sym, ◌∙◌, ap, subst, arith, append_assoc}
use Rattle.std.proofs.lemmas.List.{get_or-set_other, get_or_default, length-append, length-map, map-append}
use Rattle.std.proofs.Math.ListN as lists
use Rattle.std.specs.Prelude.{None, Option, nat_eq}
use mathlib.Core.List.{IsPrefix}
use Rattle.dml_portal.specs.Types.{Job, LogEntry}
use Rattle.dml_portal.specs.Log.{jobs_in, part_of, sent_for}
use Rattle.dml_portal.specs.Lanes.{AreTaken, IsTaken, waiting}
use Rattle.dml_portal.specs.Held.{AreTakenOrHeld, AreTakenOrHeldUpTo, IsTakenOrHeld}
use Rattle.dml_portal.specs.Blank.{blank}
use Rattle.dml_portal.specs.Served.{IsFetchedUpTo}
use Rattle.dml_portal.specs.declared.lanes.Lane.{Lane}
use Rattle.dml_portal.proofs.Lists.{below_set}
use Rattle.dml_portal.proofs.FetchLemmas.{part_none}
use Rattle.dml_portal.proofs.LogLemmas.{jobs_mine, jobs_part, jobs_theirs}

-- more jobs are popped
pub first_more : (known taken left jobs more : List Job) → IsPrefix known (taken ++ left) → IsPrefix left (jobs ++ more) → IsPrefix known ((taken ++ jobs) ++ more)
first_more known taken left jobs more first next =
    (first.0 ++ next.0, sym (append_assoc known first.0 next.0) ∙ (ap (λ all. all ++ next.0) first.1 ∙ (append_assoc taken left next.0 ∙ (ap (λ all. taken ++ all) next.1 ∙ sym (append_assoc taken jobs more)))))

-- what a client's turn did so far
abbrev pub FetchedSoFar : (client number : ℕ) (start now : List Job) (log_start log : List LogEntry) (jobs_start jobs known left : List Job) → Type 0
FetchedSoFar client number start now log_start log jobs_start jobs known left =
    (fetched : List Job)
    × (now ≡ start ++ fetched)
    × (log ≡ log_start ++ map (blank client) fetched)
    × (jobs ≡ jobs_start ++ fetched)
    × (length fetched ≡ number)
    × IsPrefix known (fetched ++ left)

pub batch_fetched : (client number : ℕ) (start now next : List Job) (log_start log log_next : List LogEntry) (jobs_start jobs jobs_next known left left_next more : List Job) → FetchedSoFar client number start now log_start log jobs_start jobs known left → next ≡ now ++ more → log_next ≡ log ++ map (blank client) more → jobs_next ≡ jobs ++ more → IsPrefix left (more ++ left_next) → FetchedSoFar client (number + length more) start next log_start log_next jobs_start jobs_next known left_next
batch_fetched client number start now next log_start log log_next jobs_start jobs jobs_next known left left_next more before is_next is_log is_jobs first =
    let fetched : List Job = before.0 in
    let entries : List LogEntry = map (blank client) fetched in (
      fetched ++ more,
      is_next ∙ (ap (λ xs. xs ++ more) before.1 ∙ append_assoc start fetched more),
      is_log
          ∙ (ap (λ xs. xs ++ map (blank client) more) before.2
          ∙ (append_assoc log_start entries (map (blank client) more)
          ∙ ap (λ xs. log_start ++ xs) (sym (map-append (blank client) fetched more)))),
      is_jobs ∙ (ap (λ xs. xs ++ more) before.3 ∙ append_assoc jobs_start fetched more),
      length-append fetched more ∙ ap (λ n. n + length more) before.4,
      first_more known fetched left more left_next before.5 first,
    )

-- the clients below a number had their turn, and the others' rings are as they were
pub record TakenBelow (number : ℕ) (most : Option ℕ) (clients : ℕ) (lanes : List Lane) (entries : List LogEntry) (now : List Lane) : Type 0 where
  pub below :
      (client : ℕ) (lane : Lane) → client < clients
      → IsTakenOrHeld number most (get_or lanes client (get_or now client lane)) (get_or now client lane) (jobs_in (part_of client entries))
  pub above : (client : ℕ) (lane : Lane) → clients ≤ client → get_or now client lane ≡ get_or lanes client lane

pub taken_none : (number : ℕ) (most : Option ℕ) (lanes : List Lane) (entries : List LogEntry) → TakenBelow number most 0 lanes entries lanes
taken_none number most lanes entries = record { below = λ client lane below. absurd (omega (arith, below)); above = λ client lane from. refl }

-- one more client has its turn
pub taken_more : (number : ℕ) (most : Option ℕ) (i : ℕ) (lanes now : List Lane) (entries : List LogEntry) (jobs : List Job) (lane after : Lane) → i < length now → length now ≡ length lanes → lane ≡ get_or now i lane → IsFetchedUpTo number i (map sent_for entries) → IsTakenOrHeld number most lane after jobs → TakenBelow number most i lanes entries now → TakenBelow number most (i + 1) lanes (entries ++ map (blank i) jobs) (set now i after)
taken_more number most i lanes now entries jobs lane after within long is fetched taken before =
    record {
      below = below_set (λ client l. IsTakenOrHeld number most (get_or lanes client l) l (jobs_in (part_of client (entries ++ map (blank i) jobs)))) now i after within
          (subst (λ l. IsTakenOrHeld number most l after (jobs_in (part_of i (entries ++ map (blank i) jobs)))) here
          (subst (λ js. IsTakenOrHeld number most lane after js) (sym mine) taken))
          (λ client d less.
          subst (λ js. IsTakenOrHeld number most (get_or lanes client (get_or now client d)) (get_or now client d) js)
          (sym (jobs_theirs i client entries jobs (λ e. omega (arith, e, less)))) (before.below client d less));
      above = λ client d from.
          get_or-set_other now i client after d (λ e. omega (arith, e, from)) ∙ before.above client d (omega (arith, from));
    }
  where
    here : lane ≡ get_or lanes i after
    here = is ∙ (before.above i lane (omega arith) ∙ get_or_default lanes i lane after (omega (arith, within, long)))

    mine : jobs_in (part_of i (entries ++ map (blank i) jobs)) ≡ jobs
    mine =
        jobs_mine i entries jobs
        ∙ ap (λ front. front ++ jobs)
        (jobs_part i entries ∙ ap (map (λ sent. sent.job)) (part_none i 0 i (map sent_for entries) (omega arith) fetched.order))

pub taken_all : (number : ℕ) (most : Option ℕ) (lanes : List Lane) (entries : List LogEntry) (now : List Lane) (clients : ℕ) → length now ≤ clients → TakenBelow number most clients lanes entries now → AreTakenOrHeldUpTo number most lanes entries now
taken_all number most lanes entries now clients all taken client lane below = taken.below client lane (omega (arith, below, all))

-- without a bound nobody is held back
pub taken_unheld : (lanes : List Lane) (entries : List LogEntry) (now : List Lane) → AreTakenOrHeld None lanes entries now → AreTaken lanes entries now
taken_unheld lanes entries now taken client lane below = (taken client lane below).few (λ over. over)

-- what waits is known as before, and the entries were sent as those that were fetched
pub taken_along : (lanes start fetched now : List Lane) (entries added : List LogEntry) → map waiting start ≡ map waiting lanes → map waiting now ≡ map waiting fetched → map sent_for added ≡ map sent_for entries → AreTaken start entries fetched → AreTaken lanes added now
taken_along lanes start fetched now entries added same_start same_end same taken client lane below =
    let inside : client < length fetched = omega (arith, below, ap length same_end, length-map now waiting, length-map fetched waiting) in
    let l : Lane = get_or now client lane in
    let m : Lane = get_or fetched client lane in
    let left : waiting m ≡ waiting l =
    sym (lists.get_or-map waiting fetched client lane)
    ∙ (ap (λ xs. get_or xs client (waiting lane)) (sym same_end) ∙ lists.get_or-map waiting now client lane) in
    let known : waiting (get_or start client m) ≡ waiting (get_or lanes client l) =
    sym (lists.get_or-map waiting start client m)
    ∙ (ap (λ xs. get_or xs client (waiting m)) same_start
    ∙ (ap (get_or (map waiting lanes) client) left ∙ lists.get_or-map waiting lanes client l)) in
    let jobs : jobs_in (part_of client entries) ≡ jobs_in (part_of client added) =
    jobs_part client entries
    ∙ (ap (λ list. map (λ sent. sent.job) (filter (λ sent. nat_eq sent.client client) list)) (sym same) ∙ sym (jobs_part client added)) in
    subst (λ w. IsTaken w (jobs_in (part_of client added)) (waiting l)) known
    (subst (λ js. IsTaken (waiting (get_or start client m)) js (waiting l)) jobs
    (subst (IsTaken (waiting (get_or start client m)) (jobs_in (part_of client entries))) left (taken client lane inside)))

-- what waits is known as before
pub taken_from : (lanes start now : List Lane) (entries : List LogEntry) → map waiting start ≡ map waiting lanes → AreTaken start entries now → AreTaken lanes entries now
taken_from lanes start now entries same taken = taken_along lanes start now now entries entries same refl refl taken
