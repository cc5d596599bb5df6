-- What a move and a dualcast do to the image, by the bytes that were done.
use Rattle.std.proofs.Common.{◌≡◌, ℕ, ◌+◌, ◌-◌, ◌<◌, ◌≤◌, ◌^◌, true, not, List, [], length, Some, refl, sym, ◌∙◌, ap, ap₂, arith, ⊎_elim, inl, inr}
use Rattle.dml_types.specs.declared.findings.Found.{Found}
use Rattle.dml_types.specs.declared.findings.Found.TheVariants.{All}
use Rattle.dml_types.specs.declared.jobs.Job.{Job}
use Rattle.dml_types.specs.declared.records.Record.{Record}
use Rattle.dml_types.specs.declared.operations.Direction.{Direction}
use Rattle.dml_types.specs.declared.operations.Direction.TheVariants.{Forward, Backward}
use Rattle.dml_types.specs.declared.operations.Op.TheVariants.{Move, Dualcast}
use Rattle.dml_types.specs.Job.{op_of, span}
use Rattle.dml_types.specs.Memory.{Memory, IsWhole, has_all, bytes_at, present_toward, worked_offset, put}
use Rattle.dml_types.specs.Bytewise.{operation_direction, result_of, lowest_done, length_of, moved, dualcast, passes}
use Rattle.dml_types.specs.Chunk.{scan_found}
use Rattle.dml_types.proofs.FirstLemmas.{first_le}
use Rattle.dml_types.proofs.MemoryLemmas.{bytes_at_none, put_nil, has_all_at, length_bytes_at, has_all_within, read_beside}
use Rattle.std.proofs.lemmas.Bool.{cases_lt}
use Rattle.dml_desc.proofs.CheckedLemmas.{checked_step_is}
use Rattle.dml_desc.specs.Checked.{checked_step, IsChecked, DualcastLimits, PairLimits}
use Rattle.dml_desc.proofs.CheckedLemmas.{apart_ends, limits_of}
use Rattle.dml_effect.specs.Joined.{copied_record}
use Rattle.dml_effect.proofs.WholeLemmas.{move_source, move_target, dualcast_source, dualcast_target, dualcast_second, copied_count, whole_move, whole_dualcast, answer_of_move, answer_of_dualcast}
use Rattle.dml_scan.specs.Found.{done_count}
use Rattle.dml_image.proofs.RunLemmas.{present_toward_is}
use Rattle.dml_scan.proofs.ReachLemmas.{done_found, dualcast_done as scanned_twice, found_all, move_done as scanned}

put_none : (memory : Memory) (address : ℕ) (bytes : List ℕ) → bytes ≡ [] → put memory address bytes ≡ memory
put_none memory address bytes none = ap (put memory address) none ∙ put_nil memory address

-- the bytes that the record counts
pub move_count : (memory : Memory) (job : Job) (size outcome : ℕ) (found : Found) → size ≡ job.size → found ≡ scan_found Move memory job 0 size → (copied_record size outcome found).completed ≡ length_of Move memory job
move_count memory job size outcome found long is =
    let whole : job.size ≡ job.size - 0 = omega arith in
    ap₂ (λ (n : ℕ) (f : Found). (copied_record n outcome f).completed) long (is ∙ ap (scan_found Move memory job 0) long)
    ∙ (copied_count job.size outcome (scan_found Move memory job 0 job.size) ∙ (ap (λ (n : ℕ). done_count n (scan_found Move memory job 0 job.size)) whole ∙ (done_found Move memory job 0 job.size ∙ whole_move memory job)))

pub dualcast_count : (memory : Memory) (job : Job) (size outcome : ℕ) (found : Found) → size ≡ job.size → found ≡ scan_found Dualcast memory job 0 size → (copied_record size outcome found).completed ≡ length_of Dualcast memory job
dualcast_count memory job size outcome found long is =
    let whole : job.size ≡ job.size - 0 = omega arith in
    ap₂ (λ (n : ℕ) (f : Found). (copied_record n outcome f).completed) long (is ∙ ap (scan_found Dualcast memory job 0) long)
    ∙ (copied_count job.size outcome (scan_found Dualcast memory job 0 job.size) ∙ (ap (λ (n : ℕ). done_count n (scan_found Dualcast memory job 0 job.size)) whole ∙ (done_found Dualcast memory job 0 job.size ∙ whole_dualcast memory job)))

-- a move
module _ (memory : Memory) (job : Job) (source target first done : ℕ) (from_source : source ≡ job.source) (to_target : target ≡ job.target) (count : done ≡ length_of Move memory job) (begins : first ≡ lowest_done (operation_direction Move job) job.size done) where
  begins_at : first ≡ lowest_done (operation_direction Move job) job.size (length_of Move memory job)
  begins_at = begins ∙ ap (lowest_done (operation_direction Move job) job.size) count

  pub move_reads : has_all memory (source + first) done ≡ true
  move_reads = ap₂ (has_all memory) (ap₂ (λ (a b : ℕ). a + b) from_source begins_at) count ∙ move_source memory job

  pub move_writes : has_all memory (target + first) done ≡ true
  move_writes = ap₂ (has_all memory) (ap₂ (λ (a b : ℕ). a + b) to_target begins_at) count ∙ move_target memory job

  module _ (checked : IsChecked job) (operation : op_of job ≡ Some Move) where
    pub moved_image : put memory (target + first) (bytes_at memory (source + first) done) ≡ (checked_step memory job).0
    unfolding moved
    moved_image =
        ap₂ (put memory) (ap₂ (λ (a b : ℕ). a + b) to_target begins_at) (ap₂ (bytes_at memory) (ap₂ (λ (a b : ℕ). a + b) from_source begins_at) count)
        ∙ ap (λ (p : Memory × Record). p.0) (sym (checked_step_is memory job Move checked operation))

    pub moved_nothing : done ≡ 0 → memory ≡ (checked_step memory job).0
    moved_nothing none =
        sym (put_none memory (target + first) (bytes_at memory (source + first) done) (bytes_at_none memory (source + first) done none)) ∙ moved_image

-- a dualcast
module _ (memory : Memory) (job : Job) (source target extra done : ℕ) (from_source : source ≡ job.source) (to_target : target ≡ job.target) (to_extra : extra ≡ job.extra) (count : done ≡ length_of Dualcast memory job) where
  pub dualcast_reads : has_all memory source done ≡ true
  dualcast_reads = ap₂ (has_all memory) from_source count ∙ dualcast_source memory job

  pub dualcast_writes : has_all memory target done ≡ true
  dualcast_writes = ap₂ (has_all memory) to_target count ∙ dualcast_target memory job

  pub dualcast_writes_second : has_all memory extra done ≡ true
  dualcast_writes_second = ap₂ (has_all memory) to_extra count ∙ dualcast_second memory job

  module _ (checked : IsChecked job) (operation : op_of job ≡ Some Dualcast) where
    done_twice : put (put memory target (bytes_at memory source done)) extra (bytes_at memory source done) ≡ (checked_step memory job).0
    unfolding dualcast
    done_twice =
        ap₂ (λ (t : ℕ) (bytes : List ℕ). put (put memory t bytes) extra bytes) to_target (ap₂ (bytes_at memory) from_source count)
        ∙ (ap (λ (e : ℕ). put (put memory job.target (bytes_at memory job.source (length_of Dualcast memory job))) e (bytes_at memory job.source (length_of Dualcast memory job))) to_extra
        ∙ ap (λ (p : Memory × Record). p.0) (sym (checked_step_is memory job Dualcast checked operation)))

    -- the first put leaves the source as it stood
    source_stays : IsWhole memory → 0 < done → bytes_at (put memory target (bytes_at memory source done)) source done ≡ bytes_at memory source done
    source_stays whole some =
        let limits : DualcastLimits job = limits_of Dualcast job checked operation in
        let short : done ≤ job.size = omega (arith, count, first_le job.size (λ i. not (passes Dualcast memory job (worked_offset (operation_direction Dualcast job) job.size i)))) in
        let read = has_all_within memory source done whole dualcast_reads some in
        let written = has_all_within memory target done whole dualcast_writes some in
        let long : length (bytes_at memory source done) ≡ done = length_bytes_at memory source done read in
        let ends = apart_ends (span job.target job.size) (span job.source job.size) limits.target_apart (omega arith) (omega arith) in
        read_beside memory target (bytes_at memory source done) source done (omega (arith, long))
        (⊎_elim (λ before. inr (omega (arith, long, from_source, to_target))) (λ behind. inl (omega (arith, from_source, to_target))) ends)

    pub dualcast_image : IsWhole memory → 0 < done → put (put memory target (bytes_at memory source done)) extra (bytes_at (put memory target (bytes_at memory source done)) source done) ≡ (checked_step memory job).0
    dualcast_image whole some =
        ap (put (put memory target (bytes_at memory source done)) extra) (source_stays whole some) ∙ done_twice

    pub dualcast_nothing : done ≡ 0 → memory ≡ (checked_step memory job).0
    dualcast_nothing none =
        let empty = bytes_at_none memory source done none in
        sym (ap (λ (m : Memory). put m extra (bytes_at memory source done)) (put_none memory target (bytes_at memory source done) empty) ∙ put_none memory extra (bytes_at memory source done) empty) ∙ done_twice

-- a move as the code carries it out: its job as it was read, how its scan ended, its record, and its lowest done offset
module _ (memory : Memory) (job given : Job) (direction : Direction) (found : Found) (answer : Record) (same : given ≡ job) (checked : IsChecked job) (operation : op_of job ≡ Some Move) (way : direction ≡ operation_direction Move job) (is : found ≡ scan_found Move memory job 0 given.size) (told : answer ≡ copied_record given.size (result_of direction) found) where
  move_done : answer.completed ≡ length_of Move memory job
  move_done = ap (λ (r : Record). r.completed) told ∙ move_count memory job given.size (result_of direction) found (ap (λ (j : Job). j.size) same) is

  pub straight_within : answer.completed ≤ given.size
  straight_within =
      omega (arith, move_done, ap (λ (j : Job). j.size) same, first_le job.size (λ i. not (passes Move memory job (worked_offset (operation_direction Move job) job.size i))))

  pub straight_answer : answer ≡ (checked_step memory job).1
  straight_answer =
      told
      ∙ (ap₂ (λ (n : ℕ) (d : Direction). copied_record n (result_of d) found) (ap (λ (j : Job). j.size) same) way
      ∙ (ap (copied_record job.size (result_of (operation_direction Move job))) (is ∙ ap (λ (j : Job). scan_found Move memory job 0 j.size) same)
      ∙ (answer_of_move memory job ∙ ap (λ (p : Memory × Record). p.1) (sym (checked_step_is memory job Move checked operation)))))

  pub straight_nothing : answer.completed ≡ 0 → memory ≡ (checked_step memory job).0
  straight_nothing none = moved_nothing memory job job.source job.target (lowest_done (operation_direction Move job) job.size answer.completed) answer.completed refl refl move_done refl checked operation none

  module _ (first : ℕ) (begins : first ≡ lowest_done direction given.size answer.completed) where
    begins_there : first ≡ lowest_done (operation_direction Move job) job.size answer.completed
    begins_there = begins ∙ ap₂ (λ (d : Direction) (n : ℕ). lowest_done d n answer.completed) way (ap (λ (j : Job). j.size) same)

    pub straight_reads : has_all memory (given.source + first) answer.completed ≡ true
    straight_reads = move_reads memory job given.source given.target first answer.completed (ap (λ (j : Job). j.source) same) (ap (λ (j : Job). j.target) same) move_done begins_there

    pub straight_writes : has_all memory (given.target + first) answer.completed ≡ true
    straight_writes = move_writes memory job given.source given.target first answer.completed (ap (λ (j : Job). j.source) same) (ap (λ (j : Job). j.target) same) move_done begins_there

    pub straight_image : put memory (given.target + first) (bytes_at memory (given.source + first) answer.completed) ≡ (checked_step memory job).0
    straight_image = moved_image memory job given.source given.target first answer.completed (ap (λ (j : Job). j.source) same) (ap (λ (j : Job). j.target) same) move_done begins_there checked operation

    pub straight_places : 0 < answer.completed → (given.source + first < 2 ^ 64) × (given.target + first < 2 ^ 64)
    straight_places some =
        let limits : PairLimits job = limits_of Move job checked operation in
        let size : given.size ≡ job.size = ap (λ (j : Job). j.size) same in
        let source : given.source ≡ job.source = ap (λ (j : Job). j.source) same in
        let target : given.target ≡ job.target = ap (λ (j : Job). j.target) same in
        let low : first < given.size = below direction begins in
        (omega (arith, limits.source), omega (arith, limits.target))
      where
        below : (d : Direction) → first ≡ lowest_done d given.size answer.completed → first < given.size
        below Forward at = omega (arith, straight_within)
        below Backward at = omega (arith, straight_within)

-- a move of which all is present is done whole
pub all_toward : (direction : Direction) (memory : Memory) (address n : ℕ) → has_all memory address n ≡ true → n ≡ present_toward direction memory address n
all_toward Forward memory address n all =
    present_toward_is Forward memory address n n (omega arith) (λ i low. has_all_at memory address n i all low) (λ low. absurd (omega arith))
all_toward Backward memory address n all =
    present_toward_is Backward memory address n n (omega arith) (λ i low. has_all_at memory address n (n - 1 - i) all (omega arith)) (λ low. absurd (omega arith))

all_found : (memory : Memory) (job : Job) (n : ℕ) → has_all memory job.source n ≡ true → has_all memory job.target n ≡ true → All ≡ scan_found Move memory job 0 n
all_found memory job n at_source at_target =
    let way = operation_direction Move job in
    let from : present_toward way memory (job.source + 0) (n - 0) ≡ n = ap₂ (present_toward way memory) (omega arith) (omega arith) ∙ sym (all_toward way memory job.source n at_source) in
    let to : present_toward way memory (job.target + 0) (n - 0) ≡ n = ap₂ (present_toward way memory) (omega arith) (omega arith) ∙ sym (all_toward way memory job.target n at_target) in
    found_all Move memory job 0 n (scanned memory job 0 n ∙ omega (arith, from, to))

module _ (memory : Memory) (job given : Job) (direction : Direction) (answer : Record) (same : given ≡ job) (checked : IsChecked job) (operation : op_of job ≡ Some Move) (way : direction ≡ operation_direction Move job) (at_source : has_all memory given.source given.size ≡ true) (at_target : has_all memory given.target given.size ≡ true) (told : answer ≡ copied_record given.size (result_of direction) All) where
  found_whole : All ≡ scan_found Move memory job 0 given.size
  found_whole =
      all_found memory job given.size (ap (λ (j : Job). has_all memory j.source given.size) (sym same) ∙ at_source) (ap (λ (j : Job). has_all memory j.target given.size) (sym same) ∙ at_target)

  pub whole_answer : answer ≡ (checked_step memory job).1
  whole_answer = straight_answer memory job given direction All answer same checked operation way found_whole told

  pub whole_image : put memory given.target (bytes_at memory given.source given.size) ≡ (checked_step memory job).0
  whole_image =
      let size : answer.completed ≡ given.size = ap (λ (r : Record). r.completed) told in
      let moved = straight_image memory job given direction All answer same checked operation way found_whole told 0 (lowest direction answer.completed size) in
      ap₂ (put memory) (omega arith) (ap₂ (bytes_at memory) (omega arith) (sym size)) ∙ moved
    where
      lowest : (d : Direction) (done : ℕ) → done ≡ given.size → 0 ≡ lowest_done d given.size done
      lowest Forward done is = refl
      lowest Backward done is = omega (arith, is)

-- and a dualcast
module _ (memory : Memory) (job given : Job) (found : Found) (answer : Record) (same : given ≡ job) (checked : IsChecked job) (operation : op_of job ≡ Some Dualcast) (is : found ≡ scan_found Dualcast memory job 0 given.size) (told : answer ≡ copied_record given.size 0 found) where
  twice_done : answer.completed ≡ length_of Dualcast memory job
  twice_done = ap (λ (r : Record). r.completed) told ∙ dualcast_count memory job given.size 0 found (ap (λ (j : Job). j.size) same) is

  pub twice_answer : answer ≡ (checked_step memory job).1
  twice_answer =
      told
      ∙ (ap (λ (n : ℕ). copied_record n 0 found) (ap (λ (j : Job). j.size) same)
      ∙ (ap (copied_record job.size 0) (is ∙ ap (λ (j : Job). scan_found Dualcast memory job 0 j.size) same)
      ∙ (answer_of_dualcast memory job ∙ ap (λ (p : Memory × Record). p.1) (sym (checked_step_is memory job Dualcast checked operation)))))

  pub twice_reads : has_all memory given.source answer.completed ≡ true
  twice_reads = dualcast_reads memory job given.source given.target given.extra answer.completed (ap (λ (j : Job). j.source) same) (ap (λ (j : Job). j.target) same) (ap (λ (j : Job). j.extra) same) twice_done

  pub twice_writes : has_all memory given.target answer.completed ≡ true
  twice_writes = dualcast_writes memory job given.source given.target given.extra answer.completed (ap (λ (j : Job). j.source) same) (ap (λ (j : Job). j.target) same) (ap (λ (j : Job). j.extra) same) twice_done

  pub twice_writes_second : has_all memory given.extra answer.completed ≡ true
  twice_writes_second = dualcast_writes_second memory job given.source given.target given.extra answer.completed (ap (λ (j : Job). j.source) same) (ap (λ (j : Job). j.target) same) (ap (λ (j : Job). j.extra) same) twice_done

  pub twice_image : IsWhole memory → 0 < answer.completed → put (put memory given.target (bytes_at memory given.source answer.completed)) given.extra (bytes_at (put memory given.target (bytes_at memory given.source answer.completed)) given.source answer.completed) ≡ (checked_step memory job).0
  twice_image = dualcast_image memory job given.source given.target given.extra answer.completed (ap (λ (j : Job). j.source) same) (ap (λ (j : Job). j.target) same) (ap (λ (j : Job). j.extra) same) twice_done checked operation

  pub twice_nothing : answer.completed ≡ 0 → memory ≡ (checked_step memory job).0
  twice_nothing = dualcast_nothing memory job given.source given.target given.extra answer.completed (ap (λ (j : Job). j.source) same) (ap (λ (j : Job). j.target) same) (ap (λ (j : Job). j.extra) same) twice_done checked operation

-- a dualcast of which all is present is done whole
forward_all : (memory : Memory) (address n : ℕ) → has_all memory address n ≡ true → present_toward Forward memory (address + 0) (n - 0) ≡ n
forward_all memory address n all =
    ap₂ (present_toward Forward memory) (omega arith) (omega arith) ∙ sym (all_toward Forward memory address n all)

all_found_twice : (memory : Memory) (job : Job) (n : ℕ) → has_all memory job.source n ≡ true → has_all memory job.target n ≡ true → has_all memory job.extra n ≡ true → All ≡ scan_found Dualcast memory job 0 n
all_found_twice memory job n at_source at_target at_extra =
    found_all Dualcast memory job 0 n
    (scanned_twice memory job 0 n ∙ omega (arith, forward_all memory job.source n at_source, forward_all memory job.target n at_target, forward_all memory job.extra n at_extra))

module _ (memory : Memory) (job given : Job) (same : given ≡ job) (checked : IsChecked job) (operation : op_of job ≡ Some Dualcast) (at_source : has_all memory given.source given.size ≡ true) (at_target : has_all memory given.target given.size ≡ true) (at_extra : has_all memory given.extra given.size ≡ true) where
  found_twice : All ≡ scan_found Dualcast memory job 0 given.size
  found_twice =
      all_found_twice memory job given.size (ap (λ (j : Job). has_all memory j.source given.size) (sym same) ∙ at_source) (ap (λ (j : Job). has_all memory j.target given.size) (sym same) ∙ at_target)
      (ap (λ (j : Job). has_all memory j.extra given.size) (sym same) ∙ at_extra)

  pub whole_twice_answer : copied_record job.size 0 All ≡ (checked_step memory job).1
  whole_twice_answer =
      ap (λ (n : ℕ). copied_record n 0 All) (ap (λ (j : Job). j.size) (sym same))
      ∙ twice_answer memory job given All (copied_record given.size 0 All) same checked operation found_twice refl

  pub whole_twice_image : IsWhole memory → put (put memory given.target (bytes_at memory given.source given.size)) given.extra (bytes_at (put memory given.target (bytes_at memory given.source given.size)) given.source given.size) ≡ (checked_step memory job).0
  whole_twice_image whole = ⊎_elim some (λ past. none (omega arith)) (cases_lt 0 given.size)
    where
      once : Memory
      once = put memory given.target (bytes_at memory given.source given.size)

      none : given.size ≡ 0 → put once given.extra (bytes_at once given.source given.size) ≡ (checked_step memory job).0
      none empty =
          put_none once given.extra (bytes_at once given.source given.size) (bytes_at_none once given.source given.size empty)
          ∙ (put_none memory given.target (bytes_at memory given.source given.size) (bytes_at_none memory given.source given.size empty)
          ∙ twice_nothing memory job given All (copied_record given.size 0 All) same checked operation found_twice refl empty)

      some : 0 < given.size → put once given.extra (bytes_at once given.source given.size) ≡ (checked_step memory job).0
      some below = twice_image memory job given All (copied_record given.size 0 All) same checked operation found_twice refl whole below
