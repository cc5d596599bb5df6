-- How far a scan goes, by the runs of present bytes of its ranges.
use Rattle.std.proofs.Common.{◌≡◌, ℕ, ◌+◌, ◌-◌, ◌<◌, ◌≤◌, min, Bool, true, false, not, ◌&&◌, [], ◌∷◌, refl, sym, ◌∙◌, ap, ap₂, subst, arith, cond, eqb, Some, None, unwrap_or}
use Rattle.std.proofs.lemmas.Bool.{false≢true, eqb-true, not-true, eq-eqb}
use Rattle.dml_types.specs.declared.findings.Found.{Found}
use Rattle.dml_types.specs.declared.findings.Found.TheVariants.{All, Differs, Fault as Faults}
use Rattle.dml_types.specs.declared.jobs.Job.{Job}
use Rattle.dml_types.specs.declared.operations.Direction.{Direction}
use Rattle.dml_types.specs.declared.operations.Direction.TheVariants.{Forward}
use Rattle.dml_types.specs.declared.operations.Op.{Op}
use Rattle.dml_types.specs.declared.operations.Op.TheVariants.{Fill, Move, Dualcast}
use Rattle.dml_types.specs.Memory.{first, Memory, has, worked_offset, present_toward}
use Rattle.dml_types.specs.Effect.{Fault, is_clear, first_fault, read_fault, write_fault}
use Rattle.dml_types.specs.Bytewise.{operation_direction, faults_at, passes}
use Rattle.dml_types.specs.Chunk.{scan_done, scan_found, scan_offset, fault_found}
use Rattle.dml_scan.specs.Found.{done_count}
use Rattle.dml_types.proofs.FirstLemmas.{first_le, first_agree, passes_at}
use Rattle.dml_image.proofs.RunLemmas.{first_both}
use Rattle.dml_scan.proofs.LimitLemmas.{dualcast_limits, fill_limits, move_limits}

-- how many of n bytes come before the first that is absent in one of two ranges, in a direction, or of three, upwards
abbrev pub run_of_two : Direction → Memory → ℕ → ℕ → ℕ → ℕ
run_of_two direction memory source target n = min (present_toward direction memory source n) (present_toward direction memory target n)

abbrev pub run_of_three : Memory → ℕ → ℕ → ℕ → ℕ → ℕ
run_of_three memory source target extra n = min (run_of_two Forward memory source target n) (present_toward Forward memory extra n)

-- the run of a part of a range that begins at an offset, by the addresses of its bytes
run_at : (memory : Memory) (direction : Direction) (address from n : ℕ) → first n (λ i. not (has memory (address + (from + worked_offset direction n i)))) ≡ present_toward direction memory (address + from) n
run_at memory direction address from n =
    first_agree n (λ i. not (has memory (address + (from + worked_offset direction n i)))) (λ i. not (has memory (address + from + worked_offset direction n i)))
    (λ i below.
    let at : address + (from + worked_offset direction n i) ≡ address + from + worked_offset direction n i = omega arith in
    ap (λ (k : ℕ). not (has memory k)) at)

-- the first index at which a fact fails, where nothing more is asked
first_alone : (n : ℕ) (p : ℕ → Bool) → first n (λ i. not (p i && true)) ≡ first n (λ i. not (p i))
first_alone n p = first_agree n (λ i. not (p i && true)) (λ i. not (p i)) (λ i below. ap not (true_right (p i)))
  where
    true_right : (b : Bool) → (b && true) ≡ b
    true_right true = refl
    true_right false = refl

-- how many offsets of a chunk are done, by the runs of its ranges
pub fill_done : (memory : Memory) (job : Job) (from to : ℕ) → scan_done Fill memory job from to ≡ present_toward Forward memory (job.target + from) (to - from)
fill_done memory job from to =
    first_alone (to - from) (λ i. has memory (job.target + (from + i))) ∙ run_at memory Forward job.target from (to - from)

pub move_done : (memory : Memory) (job : Job) (from to : ℕ) → scan_done Move memory job from to ≡ run_of_two (operation_direction Move job) memory (job.source + from) (job.target + from) (to - from)
move_done memory job from to =
    let n = to - from in
    let offset = λ (i : ℕ). from + worked_offset (operation_direction Move job) n i in
    let source = λ (i : ℕ). has memory (job.source + offset i) in
    let target = λ (i : ℕ). has memory (job.target + offset i) in
    first_both n source (λ i. target i && true)
    ∙ (ap (λ (k : ℕ). min k (first n (λ i. not (target i && true)))) (run_at memory (operation_direction Move job) job.source from n)
    ∙ ap (λ (k : ℕ). min (present_toward (operation_direction Move job) memory (job.source + from) n) k) (first_alone n target ∙ run_at memory (operation_direction Move job) job.target from n))

pub dualcast_done : (memory : Memory) (job : Job) (from to : ℕ) → scan_done Dualcast memory job from to ≡ run_of_three memory (job.source + from) (job.target + from) (job.extra + from) (to - from)
dualcast_done memory job from to =
    let n = to - from in
    let source = λ (i : ℕ). has memory (job.source + (from + i)) in
    let target = λ (i : ℕ). has memory (job.target + (from + i)) in
    let extra = λ (i : ℕ). has memory (job.extra + (from + i)) in
    let reach = λ (address : ℕ). present_toward Forward memory (address + from) n in
    first_both n source (λ i. target i && (extra i && true))
    ∙ (ap (λ (k : ℕ). min k (first n (λ i. not (target i && (extra i && true))))) (run_at memory Forward job.source from n)
    ∙ (ap (λ (k : ℕ). min (reach job.source) k)
    (first_both n target (λ i. extra i && true)
    ∙ (ap (λ (k : ℕ). min k (first n (λ i. not (extra i && true)))) (run_at memory Forward job.target from n)
    ∙ ap (λ (k : ℕ). min (reach job.target) k) (first_alone n extra ∙ run_at memory Forward job.extra from n)))
    ∙ min_left (reach job.source) (reach job.target) (reach job.extra)))
  where
    min_left : (a b c : ℕ) → min a (min b c) ≡ min (min a b) c
    min_left a b c = omega arith

lt-eqb : (a b : ℕ) → a < b → eqb a b ≡ false
lt-eqb a b h = grind arith

-- how a scan ends, by how much was done
abbrev found_of : Op → Memory → Job → ℕ → ℕ → ℕ → Found
found_of op memory job from to done =
    let faults = faults_at op job (scan_offset op job from to done) in
    cond (eqb done (to - from)) All (cond (is_clear memory faults) (Differs done) (fault_found done (first_fault memory faults)))

-- all was done, or a byte of the next offset is absent
pub found_all : (op : Op) (memory : Memory) (job : Job) (from to : ℕ) → scan_done op memory job from to ≡ to - from → All ≡ scan_found op memory job from to
unfolding scan_found
found_all op memory job from to is =
    sym (ap (found_of op memory job from to) is
    ∙ ap (λ (b : Bool). cond b All (cond (is_clear memory (faults_at op job (scan_offset op job from to (to - from)))) (Differs (to - from)) (fault_found (to - from) (first_fault memory (faults_at op job (scan_offset op job from to (to - from))))))) (eq-eqb (to - from) (to - from) refl))

pub found_fault : (op : Op) (memory : Memory) (job : Job) (from to k : ℕ) (fault : Fault) → scan_done op memory job from to ≡ k → k < to - from → is_clear memory (faults_at op job (scan_offset op job from to k)) ≡ false → first_fault memory (faults_at op job (scan_offset op job from to k)) ≡ fault → fault_found k fault ≡ scan_found op memory job from to
unfolding scan_found
found_fault op memory job from to k fault is below blocked comes =
    let faults = faults_at op job (scan_offset op job from to k) in
    let short : eqb k (to - from) ≡ false = lt-eqb k (to - from) below in
    sym (ap (found_of op memory job from to) is
    ∙ (ap (λ (b : Bool). cond b All (cond (is_clear memory faults) (Differs k) (fault_found k (first_fault memory faults)))) short
    ∙ (ap (λ (b : Bool). cond b (Differs k) (fault_found k (first_fault memory faults))) blocked
    ∙ ap (fault_found k) comes)))

-- no byte of the next offset is absent
pub found_differs : (op : Op) (memory : Memory) (job : Job) (from to k : ℕ) → scan_done op memory job from to ≡ k → k < to - from → is_clear memory (faults_at op job (scan_offset op job from to k)) ≡ true → Differs k ≡ scan_found op memory job from to
unfolding scan_found
found_differs op memory job from to k is below clear =
    let faults = faults_at op job (scan_offset op job from to k) in
    sym (ap (found_of op memory job from to) is
    ∙ (ap (λ (b : Bool). cond b All (cond (is_clear memory faults) (Differs k) (fault_found k (first_fault memory faults)))) (lt-eqb k (to - from) below)
    ∙ ap (λ (b : Bool). cond b (Differs k) (fault_found k (first_fault memory faults))) clear))

-- nothing to be done
pub found_none : (op : Op) (memory : Memory) (job : Job) (from to : ℕ) → to ≤ from → All ≡ scan_found op memory job from to
found_none op memory job from to none =
    found_all op memory job from to (omega (arith, first_le (to - from) (λ i. not (passes op memory job (scan_offset op job from to i)))))

-- the offset where a scan stops does not pass
pub blocked_at : (op : Op) (memory : Memory) (job : Job) (from to k : ℕ) → scan_done op memory job from to ≡ k → k < to - from → passes op memory job (scan_offset op job from to k) ≡ false
blocked_at op memory job from to k is below =
    not-true (passes op memory job (scan_offset op job from to k))
    (subst (λ (j : ℕ). j < to - from → not (passes op memory job (scan_offset op job from to j)) ≡ true) is
    (passes_at (to - from) (λ i. not (passes op memory job (scan_offset op job from to i)))) below)

-- of one, two or three bytes that are not all present, the fault that comes
pub one_fault : (memory : Memory) (one : Fault) → (has memory one.address && true) ≡ false → first_fault memory (one ∷ []) ≡ one
one_fault memory one blocked = choose (has memory one.address) blocked
  where
    choose : (a : Bool) → (a && true) ≡ false → unwrap_or (cond (not a) (Some one) None) (read_fault 0) ≡ one
    choose true h = absurd (false≢true (sym h))
    choose false h = refl

pub two_faults : (memory : Memory) (one other : Fault) → (has memory one.address && (has memory other.address && true)) ≡ false → first_fault memory (one ∷ other ∷ []) ≡ cond (has memory one.address) other one
two_faults memory one other blocked = choose (has memory one.address) (has memory other.address) blocked
  where
    choose : (a b : Bool) → (a && (b && true)) ≡ false → unwrap_or (cond (not a) (Some one) (cond (not b) (Some other) None)) (read_fault 0) ≡ cond a other one
    choose true true h = absurd (false≢true (sym h))
    choose true false h = refl
    choose false b h = refl

three_faults : (memory : Memory) (one other third : Fault) → (has memory one.address && (has memory other.address && (has memory third.address && true))) ≡ false → first_fault memory (one ∷ other ∷ third ∷ []) ≡ cond (has memory one.address) (cond (has memory other.address) third other) one
three_faults memory one other third blocked = choose (has memory one.address) (has memory other.address) (has memory third.address) blocked
  where
    choose : (a b c : Bool) → (a && (b && (c && true))) ≡ false → unwrap_or (cond (not a) (Some one) (cond (not b) (Some other) (cond (not c) (Some third) None))) (read_fault 0) ≡ cond a (cond b third other) one
    choose true true true h = absurd (false≢true (sym h))
    choose true true false h = refl
    choose true false c h = refl
    choose false b c h = refl

-- The ends of each operation's scan, as the code finds them: by the addresses of the chunk's first bytes.
-- a fill: what stops it is its destination's byte
pub fill_all : (memory : Memory) (job : Job) (from to address : ℕ) → address ≡ job.target + from → present_toward Forward memory address (to - from) ≡ to - from → All ≡ scan_found Fill memory job from to
fill_all memory job from to address at all =
    found_all Fill memory job from to (fill_done memory job from to ∙ (ap (λ (a : ℕ). present_toward Forward memory a (to - from)) (sym at) ∙ all))

pub fill_stops : (memory : Memory) (job : Job) (from to address k : ℕ) → address ≡ job.target + from → present_toward Forward memory address (to - from) ≡ k → k < to - from → Faults k (address + k) true ≡ scan_found Fill memory job from to
fill_stops memory job from to address k at is below =
    let done : scan_done Fill memory job from to ≡ k = fill_done memory job from to ∙ (ap (λ (a : ℕ). present_toward Forward memory a (to - from)) (sym at) ∙ is) in
    let blocked = blocked_at Fill memory job from to k done below in
    let place : address + k ≡ job.target + (from + k) = omega (arith, at) in
    ap (λ (a : ℕ). Faults k a true) place ∙ found_fault Fill memory job from to k _ done below blocked (one_fault memory _ blocked)

-- a move: what stops it at an offset is its source's byte where that is absent, else its destination's
pub move_done_from : (memory : Memory) (job : Job) (from to source target : ℕ) → source ≡ job.source + from → target ≡ job.target + from → scan_done Move memory job from to ≡ run_of_two (operation_direction Move job) memory source target (to - from)
move_done_from memory job from to source target at_source at_target =
    move_done memory job from to ∙ ap₂ (λ (a b : ℕ). run_of_two (operation_direction Move job) memory a b (to - from)) (sym at_source) (sym at_target)

pub move_all : (memory : Memory) (job : Job) (from to source target : ℕ) → source ≡ job.source + from → target ≡ job.target + from → run_of_two (operation_direction Move job) memory source target (to - from) ≡ to - from → All ≡ scan_found Move memory job from to
move_all memory job from to source target at_source at_target all =
    found_all Move memory job from to (move_done_from memory job from to source target at_source at_target ∙ all)

pub move_stops : (memory : Memory) (job : Job) (from to k : ℕ) → scan_done Move memory job from to ≡ k → k < to - from → let offset = from + worked_offset (operation_direction Move job) (to - from) k in fault_found k (cond (has memory (job.source + offset)) (write_fault (job.target + offset)) (read_fault (job.source + offset))) ≡ scan_found Move memory job from to
move_stops memory job from to k is below =
    let blocked = blocked_at Move memory job from to k is below in
    found_fault Move memory job from to k _ is below blocked (two_faults memory _ _ blocked)

pub move_reads : (memory : Memory) (job : Job) (from to source target offset k : ℕ) → source ≡ job.source + from → target ≡ job.target + from → offset ≡ worked_offset (operation_direction Move job) (to - from) k → run_of_two (operation_direction Move job) memory source target (to - from) ≡ k → k < to - from → has memory (source + offset) ≡ false → Faults k (source + offset) false ≡ scan_found Move memory job from to
move_reads memory job from to source target offset k at_source at_target at_offset is below gone =
    let place : source + offset ≡ job.source + (from + worked_offset (operation_direction Move job) (to - from) k) = omega (arith, at_source, at_offset) in
    let other : ℕ = job.target + (from + worked_offset (operation_direction Move job) (to - from) k) in
    ap (λ (a : ℕ). Faults k a false) place
    ∙ (ap (λ (b : Bool). fault_found k (cond b (write_fault other) (read_fault (job.source + (from + worked_offset (operation_direction Move job) (to - from) k))))) (sym gone ∙ ap (has memory) place)
    ∙ move_stops memory job from to k (move_done_from memory job from to source target at_source at_target ∙ is) below)

pub move_writes : (memory : Memory) (job : Job) (from to source target offset k : ℕ) → source ≡ job.source + from → target ≡ job.target + from → offset ≡ worked_offset (operation_direction Move job) (to - from) k → run_of_two (operation_direction Move job) memory source target (to - from) ≡ k → k < to - from → has memory (source + offset) ≡ true → Faults k (target + offset) true ≡ scan_found Move memory job from to
move_writes memory job from to source target offset k at_source at_target at_offset is below here =
    let read : source + offset ≡ job.source + (from + worked_offset (operation_direction Move job) (to - from) k) = omega (arith, at_source, at_offset) in
    let place : target + offset ≡ job.target + (from + worked_offset (operation_direction Move job) (to - from) k) = omega (arith, at_target, at_offset) in
    ap (λ (a : ℕ). Faults k a true) place
    ∙ (ap (λ (b : Bool). fault_found k (cond b (write_fault (job.target + (from + worked_offset (operation_direction Move job) (to - from) k))) (read_fault (job.source + (from + worked_offset (operation_direction Move job) (to - from) k))))) (sym here ∙ ap (has memory) read)
    ∙ move_stops memory job from to k (move_done_from memory job from to source target at_source at_target ∙ is) below)

-- a dualcast: its source's byte, else its first destination's, else its second's
pub dualcast_done_from : (memory : Memory) (job : Job) (from to source target extra : ℕ) → source ≡ job.source + from → target ≡ job.target + from → extra ≡ job.extra + from → scan_done Dualcast memory job from to ≡ run_of_three memory source target extra (to - from)
dualcast_done_from memory job from to source target extra at_source at_target at_extra =
    dualcast_done memory job from to
    ∙ (ap₂ (λ (a b : ℕ). run_of_three memory a b (job.extra + from) (to - from)) (sym at_source) (sym at_target)
    ∙ ap (λ (c : ℕ). run_of_three memory source target c (to - from)) (sym at_extra))

pub dualcast_all : (memory : Memory) (job : Job) (from to source target extra : ℕ) → source ≡ job.source + from → target ≡ job.target + from → extra ≡ job.extra + from → run_of_three memory source target extra (to - from) ≡ to - from → All ≡ scan_found Dualcast memory job from to
dualcast_all memory job from to source target extra at_source at_target at_extra all =
    found_all Dualcast memory job from to (dualcast_done_from memory job from to source target extra at_source at_target at_extra ∙ all)

pub dualcast_stops : (memory : Memory) (job : Job) (from to source target extra k : ℕ) → source ≡ job.source + from → target ≡ job.target + from → extra ≡ job.extra + from → run_of_three memory source target extra (to - from) ≡ k → k < to - from → fault_found k (cond (has memory (source + k)) (cond (has memory (target + k)) (write_fault (extra + k)) (write_fault (target + k))) (read_fault (source + k))) ≡ scan_found Dualcast memory job from to
dualcast_stops memory job from to source target extra k at_source at_target at_extra is below =
    let done = dualcast_done_from memory job from to source target extra at_source at_target at_extra ∙ is in
    let blocked = blocked_at Dualcast memory job from to k done below in
    let read : source + k ≡ job.source + (from + k) = omega (arith, at_source) in
    let write : target + k ≡ job.target + (from + k) = omega (arith, at_target) in
    let second : extra + k ≡ job.extra + (from + k) = omega (arith, at_extra) in
    let fault = λ (a b c : ℕ). cond (has memory a) (cond (has memory b) (write_fault c) (write_fault b)) (read_fault a) in
    ap₂ (λ (a b : ℕ). fault_found k (fault a b (extra + k))) read write
    ∙ (ap (λ (c : ℕ). fault_found k (fault (job.source + (from + k)) (job.target + (from + k)) c)) second
    ∙ found_fault Dualcast memory job from to k _ done below blocked (three_faults memory _ _ _ blocked))

pub dualcast_reads : (memory : Memory) (job : Job) (from to source target extra k : ℕ) → source ≡ job.source + from → target ≡ job.target + from → extra ≡ job.extra + from → run_of_three memory source target extra (to - from) ≡ k → k < to - from → has memory (source + k) ≡ false → Faults k (source + k) false ≡ scan_found Dualcast memory job from to
dualcast_reads memory job from to source target extra k at_source at_target at_extra is below gone =
    ap (λ (b : Bool). fault_found k (cond b (cond (has memory (target + k)) (write_fault (extra + k)) (write_fault (target + k))) (read_fault (source + k)))) (sym gone)
    ∙ dualcast_stops memory job from to source target extra k at_source at_target at_extra is below

pub dualcast_writes : (memory : Memory) (job : Job) (from to source target extra k : ℕ) → source ≡ job.source + from → target ≡ job.target + from → extra ≡ job.extra + from → run_of_three memory source target extra (to - from) ≡ k → k < to - from → has memory (source + k) ≡ true → has memory (target + k) ≡ false → Faults k (target + k) true ≡ scan_found Dualcast memory job from to
dualcast_writes memory job from to source target extra k at_source at_target at_extra is below here gone =
    ap₂ (λ (a b : Bool). fault_found k (cond a (cond b (write_fault (extra + k)) (write_fault (target + k))) (read_fault (source + k)))) (sym here) (sym gone)
    ∙ dualcast_stops memory job from to source target extra k at_source at_target at_extra is below

pub dualcast_writes_second : (memory : Memory) (job : Job) (from to source target extra k : ℕ) → source ≡ job.source + from → target ≡ job.target + from → extra ≡ job.extra + from → run_of_three memory source target extra (to - from) ≡ k → k < to - from → has memory (source + k) ≡ true → has memory (target + k) ≡ true → Faults k (extra + k) true ≡ scan_found Dualcast memory job from to
dualcast_writes_second memory job from to source target extra k at_source at_target at_extra is below here there =
    ap₂ (λ (a b : Bool). fault_found k (cond a (cond b (write_fault (extra + k)) (write_fault (target + k))) (read_fault (source + k)))) (sym here) (sym there)
    ∙ dualcast_stops memory job from to source target extra k at_source at_target at_extra is below

-- how much was done, by how the scan ended
pub done_found : (op : Op) (memory : Memory) (job : Job) (from to : ℕ) → done_count (to - from) (scan_found op memory job from to) ≡ scan_done op memory job from to
unfolding scan_found
done_found op memory job from to =
    let done = scan_done op memory job from to in
    let faults = faults_at op job (scan_offset op job from to done) in
    choose (to - from) done (is_clear memory faults) (first_fault memory faults)
  where
    choose : (n k : ℕ) (clear : Bool) (fault : Fault) → done_count n (cond (eqb k n) All (cond clear (Differs k) (fault_found k fault))) ≡ k
    choose n k clear fault =
        elim (eqb k n) as (λ b. eqb k n ≡ b → done_count n (cond b All (cond clear (Differs k) (fault_found k fault))) ≡ k) [
          | true ↦ λ same. sym (eqb-true k n same)
          | false ↦ λ _. either clear
        ] refl
      where
        either : (b : Bool) → done_count n (cond b (Differs k) (fault_found k fault)) ≡ k
        either true = refl
        either false = refl

pub scan_done_within : (op : Op) (memory : Memory) (job : Job) (from to : ℕ) → scan_done op memory job from to ≤ to - from
scan_done_within op memory job from to = first_le (to - from) (λ i. not (passes op memory job (scan_offset op job from to i)))

-- the number that is read from how a scan ended
pub done_told : (op : Op) (memory : Memory) (job : Job) (from to k : ℕ) (found : Found) → found ≡ scan_found op memory job from to → k ≡ done_count (to - from) found → k ≡ scan_done op memory job from to
done_told op memory job from to k found is tells = tells ∙ (ap (done_count (to - from)) is ∙ done_found op memory job from to)

-- what decides how far a fill, a move and a dualcast come
pub ruleset fill_steps = (fill_limits, found_none, fill_all, fill_stops)

pub ruleset move_steps = (move_limits, found_none, move_all, move_reads, move_writes)

pub ruleset dualcast_steps = (dualcast_limits, found_none, dualcast_all, dualcast_reads, dualcast_writes, dualcast_writes_second)
