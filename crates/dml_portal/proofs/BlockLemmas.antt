-- Where the clients' entries stand among those of a round.
use Rattle.std.proofs.Common.{zero, suc, ◌≡◌, ℕ, ◌+◌, ◌<◌, ◌≤◌, cond, List, [], ◌∷◌, ◌++◌, length, get_or, set, map, take, drop, refl, sym, ◌∙◌, ap, subst, arith}
use Rattle.std.proofs.lemmas.Bool.{eq-eqb, ne_eqb}
use Rattle.std.proofs.lemmas.List.{drop-map, length-map, map-append, take-append-drop, take-map, take_all}
use Rattle.rtrb.specs.Ring.{sent}
use Rattle.dml_core.specs.Rounds.{Sent}
use Rattle.dml_portal.specs.Types.{Job, LogEntry, Record}
use Rattle.dml_portal.specs.Log.{answers_in, part_of, sent_for}
use Rattle.dml_portal.specs.Lanes.{IsPushed}
use Rattle.dml_portal.specs.Blank.{blank}
use Rattle.dml_portal.specs.Blocks.{AreBlocks, IsBlock, StandsAt, clients_in}
use Rattle.dml_portal.specs.Served.{AreInOrder}
use Rattle.dml_portal.specs.declared.lanes.Lane.{Lane}
use Rattle.dml_portal.proofs.Lists.{each_set}
use Rattle.dml_portal.proofs.LogLemmas.{part_append}

theirs : (i client : ℕ) (jobs : List Job) → (i ≡ client → ⊥) → StandsAt client 0 0 (clients_in (map (blank i) jobs))
theirs i client [] differs = (refl, refl)
theirs i client (job ∷ jobs) differs = (differs, theirs i client jobs differs)

mine : (client : ℕ) (jobs : List Job) → StandsAt client 0 (length jobs) (clients_in (map (blank client) jobs))
mine client [] = (refl, refl)
mine client (job ∷ jobs) = (refl, mine client jobs)

behind : (client before count i : ℕ) (entries : List LogEntry) (jobs : List Job) → (i ≡ client → ⊥) → StandsAt client before count (clients_in entries) → StandsAt client before count (clients_in (entries ++ map (blank i) jobs))
behind client zero zero i [] jobs differs block = theirs i client jobs differs
behind client zero (suc count) i [] jobs differs block = absurd (omega (arith, block.1))
behind client (suc before) count i [] jobs differs block = absurd (omega (arith, block.0))
behind client zero zero i (entry ∷ entries) jobs differs block = (block.0, behind client zero zero i entries jobs differs block.1)
behind client zero (suc count) i (entry ∷ entries) jobs differs block = (block.0, behind client zero count i entries jobs differs block.1)
behind client (suc before) count i (entry ∷ entries) jobs differs block = (block.0, behind client before count i entries jobs differs block.1)

-- other clients' entries come behind those of a client
pub block_other : (entries : List LogEntry) (i : ℕ) (jobs : List Job) (client : ℕ) (lane : Lane) → (i ≡ client → ⊥) → IsBlock entries client lane → IsBlock (entries ++ map (blank i) jobs) client lane
block_other entries i jobs client lane differs block = behind client lane.before lane.fetched i entries jobs differs block

last : (client low : ℕ) (entries : List LogEntry) (jobs : List Job) → AreInOrder client low (map sent_for entries) → StandsAt client (length entries) (length jobs) (clients_in (entries ++ map (blank client) jobs))
last client low [] jobs order = mine client jobs
last client low (entry ∷ entries) jobs order =
    (λ e. omega (arith, e, order.1), last client entry.client entries jobs order.2)

-- a client's entries come behind those of lower ones
pub block_mine : (client : ℕ) (entries : List LogEntry) (jobs : List Job) (lane : Lane) → AreInOrder client 0 (map sent_for entries) → lane.before ≡ length entries → lane.fetched ≡ length jobs → IsBlock (entries ++ map (blank client) jobs) client lane
block_mine client entries jobs lane order before number =
    subst (λ n. StandsAt client n lane.fetched (clients_in (entries ++ map (blank client) jobs))) (sym before)
    (subst (λ n. StandsAt client (length entries) n (clients_in (entries ++ map (blank client) jobs))) (sym number)
    (last client 0 entries jobs order))

clients_sent : (entries : List LogEntry) → clients_in entries ≡ map (λ (s : Sent). s.client) (map sent_for entries)
clients_sent [] = refl
clients_sent (entry ∷ entries) = ap (λ rest. entry.client ∷ rest) (clients_sent entries)

-- answers are set
pub blocks_along : (lanes : List Lane) (entries now : List LogEntry) → map sent_for now ≡ map sent_for entries → AreBlocks lanes entries → AreBlocks lanes now
blocks_along lanes entries now same blocks client lane below =
    let l : Lane = get_or lanes client lane in
    let clients : clients_in entries ≡ clients_in now =
    clients_sent entries ∙ (ap (map (λ (s : Sent). s.client)) (sym same) ∙ sym (clients_sent now)) in
    subst (StandsAt client l.before l.fetched) clients (blocks client lane below)

part_at : (client before count : ℕ) (entries : List LogEntry) → StandsAt client before count (clients_in entries) → part_of client entries ≡ take count (drop before entries)
part_at client zero zero [] block = refl
part_at client zero (suc count) [] block = absurd (omega (arith, block.1))
part_at client (suc before) count [] block = absurd (omega (arith, block.0))
part_at client zero zero (entry ∷ entries) block =
    let rest : List LogEntry = part_of client entries in
    ap (λ is. cond is (entry ∷ rest) rest) (ne_eqb entry.client client block.0)
    ∙ part_at client zero zero entries block.1
part_at client zero (suc count) (entry ∷ entries) block =
    let rest : List LogEntry = part_of client entries in
    ap (λ is. cond is (entry ∷ rest) rest) (eq-eqb entry.client client block.0)
    ∙ ap (λ rest. entry ∷ rest) (part_at client zero count entries block.1)
part_at client (suc before) count (entry ∷ entries) block =
    let rest : List LogEntry = part_of client entries in
    ap (λ is. cond is (entry ∷ rest) rest) (ne_eqb entry.client client block.0)
    ∙ part_at client before count entries block.1

block_within : (client before count : ℕ) (entries : List LogEntry) → StandsAt client before count (clients_in entries) → before + count ≤ length entries
block_within client zero zero entries block = omega arith
block_within client zero (suc count) [] block = absurd (omega (arith, block.1))
block_within client (suc before) count [] block = absurd (omega (arith, block.0))
block_within client zero (suc count) (entry ∷ entries) block =
    let rest = block_within client zero count entries block.1 in omega (arith, rest)
block_within client (suc before) count (entry ∷ entries) block =
    let rest = block_within client before count entries block.1 in omega (arith, rest)

pub block_fits : (log : List LogEntry) (client : ℕ) (lane : Lane) (start : ℕ) (records : List Record) → answers_in (drop start log) ≡ records → IsBlock (drop start log) client lane → lane.before + lane.fetched ≤ length records
block_fits log client lane start records answers block =
    let within = block_within client lane.before lane.fetched (drop start log) block in
    omega (arith, within, ap length answers, length-map (drop start log) (λ (e : LogEntry). e.answer))

-- the records of a client's block of the round
pub block_answers : (log : List LogEntry) (client : ℕ) (lane : Lane) (start : ℕ) (records : List Record) → answers_in (drop start log) ≡ records → IsBlock (drop start log) client lane → answers_in (part_of client (drop start log)) ≡ take lane.fetched (drop lane.before records)
block_answers log client lane start records answers block =
    ap answers_in (part_at client lane.before lane.fetched (drop start log) block)
    ∙ (sym (take-map (λ (e : LogEntry). e.answer) lane.fetched (drop lane.before (drop start log)))
    ∙ (ap (take lane.fetched) (sym (drop-map (λ (e : LogEntry). e.answer) lane.before (drop start log)))
    ∙ ap (λ xs. take lane.fetched (drop lane.before xs)) answers))

-- a client whose earlier records were all pushed gets its block of the round's
pub block_pushed : (log : List LogEntry) (client : ℕ) (lane now : Lane) (start : ℕ) (records : List Record) → answers_in (drop start log) ≡ records → IsBlock (drop start log) client lane → IsPushed log client lane → lane.answered ≡ start → sent now.records ≡ sent lane.records ++ take lane.fetched (drop lane.before records) → now.answered ≡ length log → IsPushed log client now
block_pushed log client lane now start records answers block pushed here more end = (
  omega (arith, end),
  more ∙ (ap (λ xs. xs ++ take lane.fetched (drop lane.before records)) before ∙ (ap (λ xs. answers_in (part_of client (take start log)) ++ xs) (sym (block_answers log client lane start records answers block)) ∙ sym whole)),
)
  where
    before : sent lane.records ≡ answers_in (part_of client (take start log))
    before = pushed.1 ∙ ap (λ n. answers_in (part_of client (take n log))) here

    whole : answers_in (part_of client (take now.answered log)) ≡ answers_in (part_of client (take start log)) ++ answers_in (part_of client (drop start log))
    whole =
        ap (λ n. answers_in (part_of client (take n log))) end
        ∙ (ap (λ xs. answers_in (part_of client xs)) (take_all (length log) log (omega arith) ∙ sym (take-append-drop start log))
        ∙ (ap answers_in (part_append client (take start log) (drop start log))
        ∙ map-append (λ (e : LogEntry). e.answer) (part_of client (take start log)) (part_of client (drop start log))))

-- one lane's ends are used
pub blocks_set : (lanes : List Lane) (entries : List LogEntry) (i : ℕ) (now : Lane) → i < length lanes → IsBlock entries i now → AreBlocks lanes entries → AreBlocks (set lanes i now) entries
blocks_set lanes entries i now within block before =
    each_set (IsBlock entries) lanes i now within block (λ other d below differs. before other d below)
