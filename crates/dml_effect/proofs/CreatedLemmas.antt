-- What the pieces of a create, joined to one, say of its record and its put.
use Rattle.std.proofs.Common.{◌≡◌, ℕ, ◌+◌, ◌-◌, ◌*◌, ◌/◌, ◌<◌, ◌≤◌, min, Bool, true, false, not, ◌&&◌, List, [], ◌∷◌, length, take, get_or, Option, None, Some, refl, sym, ◌∙◌, ap, ap₂, arith, ⊎_elim, cond, eqb}
use Rattle.std.specs.List.{flat_map}
use Rattle.std.proofs.lemmas.Bool.{cases_eq, cases_lt, eq-eqb, ne_eqb, lt-ltb, le-ltb, not-true}
use Rattle.std.proofs.lemmas.List.{length-take-le}
use Rattle.dml_types.specs.declared.jobs.Job.{Job}
use Rattle.dml_types.specs.declared.operations.Op.TheVariants.{CreateDelta}
use Rattle.dml_types.specs.declared.records.Record.{Record}
use Rattle.dml_types.specs.Memory.{first, Memory, has, has_all, present_bytes, put_of}
use Rattle.dml_types.specs.Job.{op_of}
use Rattle.dml_types.specs.Effect.{Effect, ended, faulted, judged, read_fault}
use Rattle.dml_types.specs.Delta.{block_number, block_fault, created, crowded, differing, differs, block_entry, entry_room, expects, is_readable, readable_blocks, written_out}
use Rattle.dml_types.specs.Chunk.{create_fault, create_staged}
use Rattle.dml_types.proofs.FirstLemmas.{first_le, first_left, first_right, passes_at}
use Rattle.dml_types.proofs.MemoryLemmas.{present_front}
use Rattle.dml_desc.proofs.CheckedLemmas.{checked_step_is}
use Rattle.dml_desc.specs.Checked.{checked_effect, checked_step, IsChecked, CreateLimits}
use Rattle.dml_desc.proofs.CheckedLemmas.{limits_of}
use Rattle.dml_delta.specs.Entries.{gathered}
use Rattle.dml_delta.proofs.EntryLemmas.{length_entries}
use Rattle.dml_delta.proofs.UnitLemmas.{has_front, units_is}
use Rattle.dml_effect.specs.Effects.{are_present, some_puts}
use Rattle.dml_effect.specs.Joined.{finished_record, record_puts}
use Rattle.dml_effect.proofs.CreateChunkLemmas.{fault_is, fault_some, fault_none, staged_is}
use Rattle.dml_effect.proofs.EntryLemmas.{AreTens, blocks_small, length_tens, number_is, take_past, take_tens}
use Rattle.dml_effect.proofs.PutLemmas.{some_put, no_put}
use Rattle.dml_effect.proofs.WholeLemmas.{effect_of_checked}

pub create_limits : (job : Job) → IsChecked job → op_of job ≡ Some CreateDelta → CreateLimits job
create_limits job checked operation = limits_of CreateDelta job checked operation

apart : (a b : ℕ) → a < b → eqb a b ≡ false
apart a b h = grind arith

-- the first index among fewer
first_fewer : (m n : ℕ) (test : ℕ → Bool) → first (min m n) test ≡ min m (first n test)
first_fewer m n test =
    ⊎_elim (λ past.
    let all : min m n ≡ n = omega arith in
    let less : first n test ≤ n = first_le n test in
    let same : first n test ≡ min m (first n test) = omega arith in
    ap (λ (k : ℕ). first k test) all ∙ same)
    (λ within.
    let few : min m n ≡ m = omega arith in
    let long : n ≡ m + (n - m) = omega arith in
    ap (λ (k : ℕ). first k test) few
    ∙ ⊎_elim (λ short.
    let whole : first n test ≡ first m test = ap (λ (k : ℕ). first k test) long ∙ first_left m (n - m) test short in
    omega arith)
    (λ on.
    let all : first m test ≡ m = omega (arith, first_le m test) in
    let whole : first n test ≡ m + first (n - m) (λ i. test (m + i)) = ap (λ (k : ℕ). first k test) long ∙ first_right m (n - m) test all in
    omega arith)
    (cases_lt (first m test) m))
    (cases_lt n m)

-- the entries of so many that have room, by the present bytes of the record's range
module _ (memory : Memory) (job : Job) (count run : ℕ) (is : run ≡ present_bytes memory job.extra (10 * min count (job.delta_size / 10))) where
  pub room_is : run / 10 ≡ min count (entry_room memory job)
  room_is =
      let wanted = min count (job.delta_size / 10) in
      let all = present_bytes memory job.extra (10 * wanted) in
      let most : all ≤ 10 * wanted = first_le (10 * wanted) (λ i. not (has memory (job.extra + i))) in
      ap (λ (n : ℕ). n / 10) is
      ∙ (sym (units_is memory job.extra 10 wanted (10 * wanted) (all / 10) (omega arith) (λ i low. omega arith) (λ below. (omega arith, omega arith, omega arith)))
      ∙ first_fewer count (job.delta_size / 10) (λ x. not (has_all memory (job.extra + 10 * x) 10)))

  pub room_present : has_all memory job.extra (10 * (run / 10)) ≡ true
  room_present =
      let wanted = min count (job.delta_size / 10) in
      has_front memory job.extra (10 * (run / 10)) (present_bytes memory job.extra (10 * wanted)) (present_front memory job.extra (10 * wanted)) (omega (arith, is))

-- how the fault of the whole range says how far it is readable
module _ (memory : Memory) (job : Job) (block : ℕ) (place : ℕ) where
  abbrev readable : ℕ
  readable = readable_blocks memory job 0 (job.size / 8)

  within : readable ≤ job.size / 8
  within = omega (arith, first_le (job.size / 8 - 0) (λ i. not (is_readable memory job (0 + i))))

  pub all_readable : create_fault memory job 0 (job.size / 8) ≡ None → readable ≡ job.size / 8
  all_readable none =
      ⊎_elim (λ short.
      let some = fault_is memory job 0 (job.size / 8) ∙ fault_some memory job (job.size / 8) (0 + readable) (omega arith) in
      let clash : ◌≡◌ {A = Option (ℕ × ℕ)} None (Some (0 + readable, (block_fault memory job (0 + readable)).address)) = sym none ∙ some in
      absurd (cc))
      (λ past. omega (arith, within))
      (cases_lt readable (job.size / 8))

  pub block_is : create_fault memory job 0 (job.size / 8) ≡ Some (block, place) → (block ≡ readable) × (place ≡ (block_fault memory job readable).address) × (readable < job.size / 8)
  block_is some =
      ⊎_elim (λ short.
      let told : Some (block, place) ≡ Some (0 + readable, (block_fault memory job (0 + readable)).address) = sym some ∙ (fault_is memory job 0 (job.size / 8) ∙ fault_some memory job (job.size / 8) (0 + readable) (omega arith)) in
      let pair : ◌≡◌ {A = ℕ × ℕ} (block, place) (0 + readable, (block_fault memory job (0 + readable)).address) = cc in
      let zero_on : 0 + readable ≡ readable = omega arith in
      (ap (λ (p : ℕ × ℕ). p.0) pair ∙ zero_on, ap (λ (p : ℕ × ℕ). p.1) pair ∙ ap (λ (b : ℕ). (block_fault memory job b).address) zero_on, short))
      (λ past.
      let none = fault_is memory job 0 (job.size / 8) ∙ fault_none memory job (job.size / 8) (0 + readable) (omega (arith, within)) in
      let clash : ◌≡◌ {A = Option (ℕ × ℕ)} None (Some (block, place)) = sym none ∙ some in
      absurd (cc))
      (cases_lt readable (job.size / 8))

  -- the record where all entries have room
  module _ (entries : ℕ) where
    abbrev outcome_of : ℕ
    outcome_of = cond (eqb entries 0) 0 1

    pub finished_whole : create_fault memory job 0 (job.size / 8) ≡ None → finished_record job (10 * entries) ≡ written_out memory job entries
    finished_whole none =
        ap (λ (b : Bool). let outcome = cond b 0 1 in ended (judged job (expects job outcome)) outcome job.size (10 * entries)) (no_bytes entries)
        ∙ sym (ap (λ (b : Bool). cond b (ended (judged job (expects job outcome_of)) outcome_of job.size (10 * entries)) (faulted (block_fault memory job readable) 0 (8 * readable) (10 * entries))) (eq-eqb readable (job.size / 8) (all_readable none)))
      where
        no_bytes : (n : ℕ) → eqb (10 * n) 0 ≡ eqb n 0
        no_bytes n =
            ⊎_elim (λ none. eq-eqb (10 * n) 0 (omega arith) ∙ sym (eq-eqb n 0 none))
            (λ some. ne_eqb (10 * n) 0 (λ e. some (omega arith)) ∙ sym (ne_eqb n 0 some)) (cases_eq n 0)

    pub finished_early : create_fault memory job 0 (job.size / 8) ≡ Some (block, place) → faulted (read_fault place) 0 (8 * block) (10 * entries) ≡ written_out memory job entries
    finished_early some =
        let at = block_is some in
        ap₂ (λ (b p : ℕ). faulted (read_fault p) 0 (8 * b) (10 * entries)) at.0 at.1
        ∙ sym (ap (λ (b : Bool). cond b (ended (judged job (expects job outcome_of)) outcome_of job.size (10 * entries)) (faulted (block_fault memory job readable) 0 (8 * readable) (10 * entries))) (apart readable (job.size / 8) at.2))

-- the record and the put of a create, by the entries of all its blocks: so many, of which some have room
module _ (memory : Memory) (job : Job) (tens : AreTens (block_entry memory job) (differing memory job 0 (job.size / 8))) (limits : CreateLimits job) (bytes : List ℕ) (staged : bytes ≡ create_staged memory job 0 (job.size / 8)) where
  abbrev blocks : List ℕ
  blocks = differing memory job 0 (job.size / 8)

  abbrev room : ℕ
  room = entry_room memory job

  bytes_are : bytes ≡ flat_map (block_entry memory job) blocks
  unfolding create_staged
  bytes_are = staged

  long : length bytes ≡ 10 * length blocks
  long = ap (λ (xs : List ℕ). length xs) bytes_are ∙ length_tens (block_entry memory job) blocks tens

  pub bytes_few : length bytes ≤ 655360
  bytes_few =
      let n = readable_blocks memory job 0 (job.size / 8) in
      omega (arith, ap (λ (xs : List ℕ). length xs) bytes_are, length_entries memory job (differs memory job) 0 n, first_le (job.size / 8 - 0) (λ i. not (is_readable memory job (0 + i))), limits.size)

  pub count_is : length bytes / 10 ≡ length blocks
  count_is = omega (arith, long)

  module _ (count written : ℕ) (counted : count ≡ length bytes / 10) (fits : written ≡ min count room) where
    count_blocks : count ≡ length blocks
    count_blocks = counted ∙ count_is

    pub crowded_is : written < count → crowded memory job written (block_number bytes written) ≡ (created memory job).answer
    unfolding created
    crowded_is short =
        let same : written ≡ room = omega arith in
        let below : room < length blocks = omega (arith, count_blocks) in
        let small = blocks_small memory job 0 (job.size / 8) (omega (arith, limits.size)) in
        let number : block_number bytes written ≡ get_or blocks room 0 =
        ap₂ block_number bytes_are same ∙ number_is memory job blocks room tens small below in
        ap₂ (crowded memory job) same number
        ∙ sym (ap (λ (b : Bool). cond b (crowded memory job room (get_or blocks room 0)) (written_out memory job (length blocks))) (lt-ltb room (length blocks) below))

    pub finished_is : count ≤ written → written_out memory job count ≡ (created memory job).answer
    unfolding created
    finished_is all =
        let past : length blocks ≤ room = omega (arith, count_blocks) in
        ap (written_out memory job) count_blocks
        ∙ sym (ap (λ (b : Bool). cond b (crowded memory job room (get_or blocks room 0)) (written_out memory job (length blocks))) (le-ltb room (length blocks) past))

    written_within : 10 * written ≤ length bytes
    written_within = omega (arith, counted)

    long_written : length (take (10 * written) bytes) ≡ 10 * written
    long_written = length-take-le (10 * written) bytes written_within

    pub taken : flat_map (block_entry memory job) (take room blocks) ≡ take (10 * written) bytes
    taken =
        ap (flat_map (block_entry memory job)) same_blocks
        ∙ (sym (take_tens (block_entry memory job) blocks written tens)
        ∙ ap (take (10 * written)) (sym bytes_are))
      where
        same_blocks : take room blocks ≡ take written blocks
        same_blocks =
            ⊎_elim (λ less.
            let same : room ≡ written = omega (arith, count_blocks) in
            ap (λ (k : ℕ). take k blocks) same)
            (λ past.
            let same : length blocks ≡ written = omega (arith, count_blocks) in
            take_past blocks room past ∙ ap (λ (k : ℕ). take k blocks) same)
            (cases_lt room (length blocks))

    pub puts_are : record_puts job written bytes ≡ some_puts (created memory job).puts
    unfolding created
    puts_are =
        let entries = take (10 * written) bytes in
        ⊎_elim (λ some.
        ap (λ (b : Bool). cond b [] (put_of job.extra entries ∷ [])) (eqb_more written some)
        ∙ (sym (some_put job.extra entries [] (omega (arith, long_written)))
        ∙ ap (λ (xs : List ℕ). some_puts (put_of job.extra xs ∷ [])) (sym taken)))
        (λ none.
        let nothing : written ≡ 0 = omega arith in
        let empty : entries ≡ [] = ap (λ (k : ℕ). take (10 * k) bytes) nothing in
        ap (λ (b : Bool). cond b [] (put_of job.extra entries ∷ [])) (eq-eqb written 0 nothing)
        ∙ (sym (no_put job.extra entries [] empty)
        ∙ ap (λ (xs : List ℕ). some_puts (put_of job.extra xs ∷ [])) (sym taken)))
        (cases_lt 0 written)
      where
        eqb_more : (a : ℕ) → 0 < a → eqb a 0 ≡ false
        eqb_more a h = grind arith

    pub puts_here : has_all memory job.extra (10 * written) ≡ true → are_present memory (record_puts job written bytes) ≡ true
    puts_here here = either (eqb written 0)
      where
        either : (b : Bool) → are_present memory (cond b [] (put_of job.extra (take (10 * written) bytes) ∷ [])) ≡ true
        either true = refl
        either false = ap (λ (n : ℕ). has_all memory job.extra n && true) long_written ∙ ap (λ (b : Bool). b && true) here

    pub written_most : written ≤ job.delta_size / 10
    written_most = omega (arith, first_le (job.delta_size / 10) (λ x. not (has_all memory (job.extra + 10 * x) 10)))

    -- the entry behind those that have room, where the maximum is not reached
    pub room_stops : written < count → written < job.delta_size / 10 → has_all memory (job.extra + 10 * written) 10 ≡ false
    room_stops short less =
        let same : written ≡ room = omega arith in
        ap (λ (x : ℕ). has_all memory (job.extra + 10 * x) 10) same
        ∙ not-true _ (passes_at (job.delta_size / 10) (λ x. not (has_all memory (job.extra + 10 * x) 10)) (omega (arith, less, same)))

-- a checked create's step is the equation's
module _ (memory : Memory) (job : Job) (operation : op_of job ≡ Some CreateDelta) (checked : IsChecked job) where
  pub answer_of_create : (created memory job).answer ≡ (checked_step memory job).1
  answer_of_create = ap (λ (p : Memory × Record). p.1) (sym (checked_step_is memory job CreateDelta checked operation))

  pub puts_of_create : some_puts (created memory job).puts ≡ some_puts (checked_effect memory job).puts
  puts_of_create = ap (λ (e : Effect). some_puts e.puts) (effect_of_checked memory job CreateDelta operation checked)

-- where there is no block, there is nothing to put and no fault
module _ (memory : Memory) (job : Job) (none : job.size / 8 ≡ 0) where
  no_readable : readable_blocks memory job 0 (job.size / 8) ≡ 0
  no_readable = omega (arith, none, first_le (job.size / 8 - 0) (λ i. not (is_readable memory job (0 + i))))

  pub nothing_faults : None ≡ create_fault memory job 0 (job.size / 8)
  nothing_faults = sym (fault_is memory job 0 (job.size / 8) ∙ fault_none memory job (job.size / 8) (0 + readable_blocks memory job 0 (job.size / 8)) (omega (arith, none, no_readable)))

  pub nothing_staged : [] ≡ create_staged memory job 0 (job.size / 8)
  nothing_staged = sym (staged_is memory job 0 (job.size / 8) ∙ ap (gathered (block_entry memory job) (differs memory job) 0) no_readable)
