-- A step keeps what every image keeps, since it writes over present bytes alone.
use Rattle.std.proofs.Common.{◌≡◌, ℕ, ◌+◌, ◌-◌, ◌*◌, ◌/◌, ◌%◌, ◌<◌, ◌≤◌, zero, suc, false, true, not, List, [], ◌∷◌, length, map, take, flat_map, Option, None, Some, is_some, refl, sym, ◌∙◌, ap, subst, arith}
use Rattle.std.proofs.lemmas.Bool.{false≢true, not-false}
use Rattle.std.proofs.lemmas.List.{length-append}
use Rattle.std.specs.List.{range_with_len}
use Rattle.dml_types.specs.declared.jobs.Job.{Job}
use Rattle.dml_types.specs.declared.operations.Op.{Op}
use Rattle.dml_types.specs.declared.operations.Op.TheVariants.{NoOp, Move, Fill, Compare, ComparePattern, CreateDelta, ApplyDelta, Dualcast}
use Rattle.dml_types.specs.declared.statuses.Status.{Status}
use Rattle.dml_types.specs.declared.statuses.Status.TheVariants.{BadOpcode}
use Rattle.dml_types.specs.Bytewise.{operation_direction, lowest_done, length_of, moved, dualcast, filled, compared}
use Rattle.dml_types.specs.Delta.{block_entry, created, differing, entry_room, applied, entry_fault, entry_offset, entry_put, good_entries}
use Rattle.dml_types.specs.Effect.{Effect, Fault}
use Rattle.dml_types.specs.Job.{op_of}
use Rattle.dml_types.specs.Memory.{Memory, IsMemory, Put, put, puts_made, has, has_all, present_bytes, bytes_at}
use Rattle.dml_types.specs.Refusal.{refusal, refusal_under}
use Rattle.dml_types.specs.Step.{effect, operation_effect, step}
use Rattle.dml_types.proofs.FirstLemmas.{fails_before}
use Rattle.dml_types.proofs.MemoryLemmas.{has_all_at, has_all_from, present_front, put_keeps}
use Rattle.dml_types.proofs.StepLemmas.{effect_accepted, effect_refused}
use Rattle.dml_segments.proofs.PatternLemmas.{length_pattern_bytes}
use Rattle.dml_delta.proofs.EntryLemmas.{length_entry}
use Rattle.dml_delta.proofs.UnitLemmas.{has_front}
use Rattle.dml_effect.proofs.ApplyChunkLemmas.{sound_entry}
use Rattle.dml_effect.proofs.WholeLemmas.{move_target, dualcast_target, dualcast_second}
use Rattle.dml_levels.proofs.FrameLemmas.{length_bytes_at_le}
use Rattle.dml_order.specs.Order.{run_all}
use Rattle.dml_core.specs.Plan.{entry_at}
use Rattle.dml_core.specs.World.{Progress, carry_out}

-- puts over present bytes
abbrev PutsHere : Memory → List Put → Type 0
PutsHere memory [] = Unit {0}
PutsHere memory (p ∷ puts) = (has_all memory p.address (length p.bytes) ≡ true) × PutsHere memory puts

here_behind : (p : Put) (puts : List Put) (memory : Memory) → PutsHere memory puts → PutsHere (put memory p.address p.bytes) puts
here_behind p [] memory all = tt
here_behind p (next ∷ puts) memory all = (all.0, here_behind p puts memory all.1)

puts_kept : (puts : List Put) (memory : Memory) → IsMemory memory → PutsHere memory puts → IsMemory (puts_made memory puts)
puts_kept [] memory good all = good
puts_kept (p ∷ puts) memory good all =
    puts_kept puts (put memory p.address p.bytes) (put_keeps memory p.address p.bytes good all.0) (here_behind p puts memory all.1)

-- the operations that go byte by byte
compare_here : (op : Op) (memory : Memory) (job : Job) → PutsHere memory (compared op memory job).puts
unfolding compared
compare_here op memory job = tt

fill_here : (memory : Memory) (job : Job) → PutsHere memory (filled memory job).puts
unfolding filled
fill_here memory job =
    let k = present_bytes memory job.target job.size in
    (ap (has_all memory job.target) (length_pattern_bytes job.source k) ∙ present_front memory job.target job.size, tt)

move_here : (memory : Memory) (job : Job) → PutsHere memory (moved memory job).puts
unfolding moved
move_here memory job =
    let k = length_of Move memory job in
    let from = lowest_done (operation_direction Move job) job.size k in
    let bytes = bytes_at memory (job.source + from) k in
    (has_front memory (job.target + from) (length bytes) k (move_target memory job) (length_bytes_at_le memory (job.source + from) k), tt)

dualcast_here : (memory : Memory) (job : Job) → PutsHere memory (dualcast memory job).puts
unfolding dualcast
dualcast_here memory job =
    let k = length_of Dualcast memory job in
    let n = length (bytes_at memory job.source k) in
    let short = length_bytes_at_le memory job.source k in (
      has_front memory job.target n k (dualcast_target memory job) short,
      (has_front memory job.extra n k (dualcast_second memory job) short, tt),
    )

-- create: the entries that have room
entries_short : (memory : Memory) (job : Job) (blocks : List ℕ) (room : ℕ) → length (flat_map (block_entry memory job) (take room blocks)) ≤ 10 * room
entries_short memory job blocks zero = omega arith
entries_short memory job [] (suc room) = omega arith
entries_short memory job (b ∷ blocks) (suc room) =
    omega (arith, length-append (block_entry memory job b) (flat_map (block_entry memory job) (take room blocks)), length_entry memory job b, entries_short memory job blocks room)

room_here : (memory : Memory) (job : Job) → has_all memory job.extra (10 * entry_room memory job) ≡ true
room_here memory job =
    has_all_from memory job.extra (10 * entry_room memory job)
    (λ i below.
    let entry : i / 10 < entry_room memory job = omega (arith, below) in
    let here : has_all memory (job.extra + 10 * (i / 10)) 10 ≡ true =
    not-false _ (fails_before (job.delta_size / 10) (λ x. not (has_all memory (job.extra + 10 * x) 10)) (i / 10) entry) in
    let place : job.extra + 10 * (i / 10) + i % 10 ≡ job.extra + i = omega arith in
    ap (has memory) (sym place) ∙ has_all_at memory (job.extra + 10 * (i / 10)) 10 (i % 10) here (let e : i % 10 < 10 = omega arith in e))

create_here : (memory : Memory) (job : Job) → PutsHere memory (created memory job).puts
unfolding created
create_here memory job =
    let room = entry_room memory job in
    let blocks = differing memory job 0 (job.size / 8) in
    let entries = flat_map (block_entry memory job) (take room blocks) in
    (has_front memory job.extra (length entries) (10 * room) (room_here memory job) (entries_short memory job blocks room), tt)

-- apply: the blocks of the good entries
no_fault : (fault : Option Fault) → is_some fault ≡ false → fault ≡ None
no_fault None none = refl
no_fault (Some fault) none = absurd (false≢true (sym none))

entries_here : (memory : Memory) (job : Job) (from n : ℕ) → ((x : ℕ) → from ≤ x → x < from + n → is_some (entry_fault 0 memory job x) ≡ false) → PutsHere memory (map (entry_put memory job) (range_with_len from n))
entries_here memory job from zero good = tt
entries_here memory job from (suc n) good =
    let bytes = bytes_at memory (job.source + 10 * from + 2) 8 in
    let own = sound_entry memory job 0 from (no_fault (entry_fault 0 memory job from) (good from (omega arith) (omega arith))) in (
      has_front memory (job.target + 8 * entry_offset memory job from) (length bytes) 8 own.1 (length_bytes_at_le memory (job.source + 10 * from + 2) 8),
      entries_here memory job (from + 1) n (λ x low high. good x (omega arith) (omega arith)),
    )

apply_here : (memory : Memory) (job : Job) → PutsHere memory (applied memory job).puts
unfolding applied
apply_here memory job =
    let count = job.delta_size / 10 in
    entries_here memory job 0 (good_entries memory job 0 count)
    (λ x low high.
    ap (λ i. is_some (entry_fault 0 memory job i)) (let e : x ≡ 0 + x = omega arith in e)
    ∙ fails_before (count - 0) (λ i. is_some (entry_fault 0 memory job (0 + i))) x (omega arith))

operation_here : (op : Op) (memory : Memory) (job : Job) → PutsHere memory (operation_effect op memory job).puts
operation_here NoOp memory job = tt
operation_here Move memory job = move_here memory job
operation_here Fill memory job = fill_here memory job
operation_here Compare memory job = compare_here Compare memory job
operation_here ComparePattern memory job = compare_here ComparePattern memory job
operation_here CreateDelta memory job = create_here memory job
operation_here ApplyDelta memory job = apply_here memory job
operation_here Dualcast memory job = dualcast_here memory job

-- any job, refused or not
effect_here : (memory : Memory) (job : Job) (staging : ℕ) → PutsHere memory (effect memory job staging).puts
effect_here memory job staging =
    let refused : (status : Status) → refusal job staging ≡ Some status → PutsHere memory (effect memory job staging).puts =
    λ status is. subst (λ (done : Effect). PutsHere memory done.puts) (sym (effect_refused memory job staging status is)) tt in
    elim (refusal job staging) as (λ (r : Option Status). refusal job staging ≡ r → PutsHere memory (effect memory job staging).puts) [
      | Some status ↦ λ is. refused status is
      | None ↦ λ free.
          elim (op_of job) as (λ (o : Option Op). op_of job ≡ o → PutsHere memory (effect memory job staging).puts) [
            | Some op ↦ λ is.
                subst (λ (done : Effect). PutsHere memory done.puts) (sym (effect_accepted memory job staging op free is)) (operation_here op memory job)
            | None ↦ λ is. refused BadOpcode (ap (λ o. refusal_under o job staging) is)
          ] refl
    ] refl

pub step_kept : (memory : Memory) (job : Job) (staging : ℕ) → IsMemory memory → IsMemory (step memory job staging).0
step_kept memory job staging good = puts_kept (effect memory job staging).puts memory good (effect_here memory job staging)

-- jobs at any places
pub carried_kept : (staging : ℕ) (places : List ℕ) (now : Progress) → IsMemory now.image → IsMemory (run_all (carry_out staging) now places).image
carried_kept staging [] now good = good
carried_kept staging (i ∷ places) now good =
    carried_kept staging places (carry_out staging now i) (step_kept now.image (entry_at now.fetched i).job staging good)
