-- Two neighbouring chunks of a scan are the chunk of both.
use Rattle.std.proofs.Common.{◌≡◌, ◌≢◌, ℕ, ◌+◌, ◌-◌, ◌<◌, ◌≤◌, Bool, true, false, not, List, [], ◌++◌, refl, sym, ◌∙◌, ap, ap₂, subst, arith, ⊎_elim, cond, eqb, rules}
use Rattle.std.proofs.lemmas.Bool.{cases_lt, eq-eqb}
use Rattle.std.proofs.lemmas.List.{places, same_lists}
use Rattle.dml_types.specs.declared.findings.Found.{Found}
use Rattle.dml_types.specs.declared.findings.Found.TheVariants.{All, Differs}
use Rattle.dml_types.specs.declared.jobs.Job.{Job}
use Rattle.dml_types.specs.declared.operations.Direction.{Direction}
use Rattle.dml_types.specs.declared.operations.Direction.TheVariants.{Forward, Backward}
use Rattle.dml_types.specs.declared.operations.Op.{Op}
use Rattle.dml_types.specs.declared.operations.Op.TheVariants.{NoOp, Move, Fill, Compare, ComparePattern, CreateDelta, ApplyDelta, Dualcast}
use Rattle.dml_types.specs.Memory.{first, Memory, bytes_at, worked_offset}
use Rattle.dml_types.specs.Effect.{is_clear, first_fault}
use Rattle.dml_types.specs.Bytewise.{operation_direction, lowest_done, faults_at, passes}
use Rattle.dml_types.specs.Chunk.{scan_done, scan_found, scan_staged, scan_offset, fault_found}
use Rattle.dml_types.proofs.FirstLemmas.{first_le, first_agree, first_left, first_right}
use Rattle.dml_scan.proofs.ReachLemmas.{found_all, scan_done_within}
use Rattle.dml_effect.specs.Joined.{after, then_found, found_joined, staged_joined, is_all}

-- a part of a scan, by the offsets that come one after another: how many are done, and how it ends
module _ (op : Op) (memory : Memory) (job : Job) where
  abbrev pub blocked : (ℕ → ℕ) → ℕ → Bool
  blocked offset i = not (passes op memory job (offset i))

  abbrev pub stop_at : ℕ → ℕ → Found
  stop_at k offset = cond (is_clear memory (faults_at op job offset)) (Differs k) (fault_found k (first_fault memory (faults_at op job offset)))

  abbrev pub found_by : ℕ → ℕ → ℕ → Found
  found_by n offset k = cond (eqb k n) All (stop_at k offset)

  abbrev pub found_in : ℕ → (ℕ → ℕ) → Found
  found_in n offset = found_by n (offset (first n (blocked offset))) (first n (blocked offset))

  pub found_is : (from to : ℕ) → scan_found op memory job from to ≡ found_in (to - from) (scan_offset op job from to)
  unfolding scan_found
  found_is from to = refl

  pub ends_at : (n : ℕ) (offset : ℕ → ℕ) (k : ℕ) → first n (blocked offset) ≡ k → k < n → found_in n offset ≡ stop_at k (offset k)
  ends_at n offset k is below =
      let short : eqb k n ≡ false = apart k n below in
      ap (λ (j : ℕ). found_by n (offset j) j) is ∙ ap (λ (b : Bool). cond b All (stop_at k (offset k))) short
    where
      apart : (a b : ℕ) → a < b → eqb a b ≡ false
      apart a b h = grind arith

  ends_all : (n : ℕ) (offset : ℕ → ℕ) → first n (blocked offset) ≡ n → found_in n offset ≡ All
  ends_all n offset is =
      ap (λ (j : ℕ). found_by n (offset j) j) is ∙ ap (λ (b : Bool). cond b All (stop_at n (offset n))) (eq-eqb n n refl)

  after_stop : (n k offset : ℕ) → after n (stop_at k offset) ≡ stop_at (n + k) offset
  after_stop n k offset =
      elim (is_clear memory (faults_at op job offset)) as (λ (b : Bool). after n (cond b (Differs k) (fault_found k (first_fault memory (faults_at op job offset)))) ≡ cond b (Differs (n + k)) (fault_found (n + k) (first_fault memory (faults_at op job offset)))) [
        | true ↦ refl
        | false ↦ refl
      ]

  stop_stays : (n k offset : ℕ) (next : Found) → then_found n (stop_at k offset) next ≡ stop_at k offset
  stop_stays n k offset next =
      elim (is_clear memory (faults_at op job offset)) as (λ (b : Bool). then_found n (cond b (Differs k) (fault_found k (first_fault memory (faults_at op job offset)))) next ≡ cond b (Differs k) (fault_found k (first_fault memory (faults_at op job offset)))) [
        | true ↦ refl
        | false ↦ refl
      ]

  -- a part of n + m offsets, the first n of which are one's and the others another's
  module _ (n m : ℕ) (whole one other : ℕ → ℕ) (front : (i : ℕ) → i < n → whole i ≡ one i) (back : (i : ℕ) → i < m → whole (n + i) ≡ other i) where
    in_front : first n (blocked whole) ≡ first n (blocked one)
    in_front = first_agree n (blocked whole) (blocked one) (λ i below. ap (λ (o : ℕ). not (passes op memory job o)) (front i below))

    in_back : first m (λ i. blocked whole (n + i)) ≡ first m (blocked other)
    in_back = first_agree m (λ i. blocked whole (n + i)) (blocked other) (λ i below. ap (λ (o : ℕ). not (passes op memory job o)) (back i below))

    done_stopped : first n (blocked one) < n → first (n + m) (blocked whole) ≡ first n (blocked one)
    done_stopped short =
        let inside : first n (blocked whole) < n = omega (arith, in_front) in
        first_left n m (blocked whole) inside ∙ in_front

    done_on : first n (blocked one) ≡ n → first (n + m) (blocked whole) ≡ n + first m (blocked other)
    done_on all = first_right n m (blocked whole) (in_front ∙ all) ∙ ap (λ (k : ℕ). n + k) in_back

    found_then : found_in (n + m) whole ≡ then_found n (found_in n one) (found_in m other)
    found_then =
        ⊎_elim (λ short.
        let k = first n (blocked one) in
        let long : k < n + m = omega arith in
        ends_at (n + m) whole k (done_stopped short) long
        ∙ (ap (stop_at k) (front k short)
        ∙ (sym (stop_stays n k (one k) (found_in m other))
        ∙ ap (λ (f : Found). then_found n f (found_in m other)) (sym (ends_at n one k refl short)))))
        (λ past.
        let all : first n (blocked one) ≡ n = omega (arith, first_le n (blocked one)) in
        on all ∙ ap (λ (f : Found). then_found n f (found_in m other)) (sym (ends_all n one all)))
        (cases_lt (first n (blocked one)) n)
      where
        on : first n (blocked one) ≡ n → found_in (n + m) whole ≡ after n (found_in m other)
        on all =
            ⊎_elim (λ short.
            let k = first m (blocked other) in
            let long : n + k < n + m = omega arith in
            ends_at (n + m) whole (n + k) (done_on all) long
            ∙ (ap (stop_at (n + k)) (back k short)
            ∙ (sym (after_stop n k (other k)) ∙ ap (after n) (sym (ends_at m other k refl short)))))
            (λ past.
            let rest : first m (blocked other) ≡ m = omega (arith, first_le m (blocked other)) in
            ends_all (n + m) whole (done_on all ∙ ap (λ (k : ℕ). n + k) rest) ∙ ap (after n) (sym (ends_all m other rest)))
            (cases_lt (first m (blocked other)) m)

-- the offsets of a chunk, by direction
upwards : (op : Op) (job : Job) (from to i : ℕ) → operation_direction op job ≡ Forward → scan_offset op job from to i ≡ from + i
upwards op job from to i is = ap (λ (d : Direction). from + worked_offset d (to - from) i) is

downwards : (op : Op) (job : Job) (from to i : ℕ) → operation_direction op job ≡ Backward → scan_offset op job from to i ≡ from + (to - from - 1 - i)
downwards op job from to i is = ap (λ (d : Direction). from + worked_offset d (to - from) i) is

module _ (op : Op) (memory : Memory) (job : Job) (from mid to : ℕ) (low : from ≤ mid) (high : mid ≤ to) where
  abbrev at : ℕ → ℕ → ℕ → ℕ
  at a b i = scan_offset op job a b i

  up_front : operation_direction op job ≡ Forward → (i : ℕ) → i < mid - from → at from to i ≡ at from mid i
  up_front is i below = upwards op job from to i is ∙ sym (upwards op job from mid i is)

  up_back : operation_direction op job ≡ Forward → (i : ℕ) → i < to - mid → at from to (mid - from + i) ≡ at mid to i
  up_back is i below = omega (arith, upwards op job from to (mid - from + i) is, upwards op job mid to i is)

  down_front : operation_direction op job ≡ Backward → (i : ℕ) → i < to - mid → at from to i ≡ at mid to i
  down_front is i below = omega (arith, downwards op job from to i is, downwards op job mid to i is)

  down_back : operation_direction op job ≡ Backward → (i : ℕ) → i < mid - from → at from to (to - mid + i) ≡ at from mid i
  down_back is i below = omega (arith, downwards op job from to (to - mid + i) is, downwards op job from mid i is)

  up_long : to - from ≡ mid - from + (to - mid)
  up_long = omega arith

  down_long : to - from ≡ to - mid + (mid - from)
  down_long = omega arith

  -- how the chunk of both ends
  pub neighbours_found : (direction : Direction) → operation_direction op job ≡ direction → scan_found op memory job from to ≡ found_joined direction (mid - from) (scan_found op memory job from mid) (to - mid) (scan_found op memory job mid to)
  neighbours_found Forward is =
      found_is op memory job from to
      ∙ (ap (λ (n : ℕ). found_in op memory job n (at from to)) up_long
      ∙ (found_then op memory job (mid - from) (to - mid) (at from to) (at from mid) (at mid to) (up_front is) (up_back is)
      ∙ sym (ap₂ (then_found (mid - from)) (found_is op memory job from mid) (found_is op memory job mid to))))
  neighbours_found Backward is =
      found_is op memory job from to
      ∙ (ap (λ (n : ℕ). found_in op memory job n (at from to)) down_long
      ∙ (found_then op memory job (to - mid) (mid - from) (at from to) (at mid to) (at from mid) (down_front is) (down_back is)
      ∙ sym (ap₂ (then_found (to - mid)) (found_is op memory job mid to) (found_is op memory job from mid))))

  -- how much of it is done
  done_up_stopped : operation_direction op job ≡ Forward → scan_done op memory job from mid < mid - from → scan_done op memory job from to ≡ scan_done op memory job from mid
  done_up_stopped is short =
      ap (λ (n : ℕ). first n (blocked op memory job (at from to))) up_long
      ∙ done_stopped op memory job (mid - from) (to - mid) (at from to) (at from mid) (at mid to) (up_front is) (up_back is) short

  done_up : operation_direction op job ≡ Forward → scan_done op memory job from mid ≡ mid - from → scan_done op memory job from to ≡ mid - from + scan_done op memory job mid to
  done_up is all =
      ap (λ (n : ℕ). first n (blocked op memory job (at from to))) up_long
      ∙ done_on op memory job (mid - from) (to - mid) (at from to) (at from mid) (at mid to) (up_front is) (up_back is) all

  done_down_stopped : operation_direction op job ≡ Backward → scan_done op memory job mid to < to - mid → scan_done op memory job from to ≡ scan_done op memory job mid to
  done_down_stopped is short =
      ap (λ (n : ℕ). first n (blocked op memory job (at from to))) down_long
      ∙ done_stopped op memory job (to - mid) (mid - from) (at from to) (at mid to) (at from mid) (down_front is) (down_back is) short

  done_down : operation_direction op job ≡ Backward → scan_done op memory job mid to ≡ to - mid → scan_done op memory job from to ≡ to - mid + scan_done op memory job from mid
  done_down is all =
      ap (λ (n : ℕ). first n (blocked op memory job (at from to))) down_long
      ∙ done_on op memory job (to - mid) (mid - from) (at from to) (at mid to) (at from mid) (down_front is) (down_back is) all

-- how much is done, where a chunk ends so
module _ (op : Op) (memory : Memory) (job : Job) (from to : ℕ) where
  stopped_early : scan_done op memory job from to < to - from → is_all (scan_found op memory job from to) ≡ false
  stopped_early short =
      ap is_all (found_is op memory job from to ∙ ends_at op memory job (to - from) (scan_offset op job from to) _ refl short)
      ∙ not_all (is_clear memory (faults_at op job (scan_offset op job from to (scan_done op memory job from to))))
    where
      not_all : (b : Bool) → is_all (cond b (Differs (scan_done op memory job from to)) (fault_found (scan_done op memory job from to) (first_fault memory (faults_at op job (scan_offset op job from to (scan_done op memory job from to)))))) ≡ false
      not_all true = refl
      not_all false = refl

  done_whole : scan_done op memory job from to ≡ to - from → is_all (scan_found op memory job from to) ≡ true
  done_whole all = ap is_all (sym (found_all op memory job from to all))

-- bytes beside one another
pub bytes_append : (memory : Memory) (p q a b : ℕ) → q ≡ p + a → bytes_at memory p (a + b) ≡ bytes_at memory p a ++ bytes_at memory q b
bytes_append memory p q a b beside = rw beside (sym (same_lists _ _ (search (rules, places)) (λ k d h. grind (arith, places))))

-- the bytes that two neighbouring chunks stage
abbrev bytes_of_move : Memory → Job → Direction → ℕ → ℕ → ℕ → List ℕ
bytes_of_move memory job direction from n k = bytes_at memory (job.source + (from + lowest_done direction n k)) k

bytes_same : (memory : Memory) (p q a b : ℕ) → p ≡ q → a ≡ b → bytes_at memory p a ≡ bytes_at memory q b
bytes_same memory p q a b place count = ap₂ (bytes_at memory) place count

module _ (memory : Memory) (job : Job) (from mid to : ℕ) (low : from ≤ mid) (high : mid ≤ to) where
  abbrev staged_neighbours : Op → Direction → List ℕ
  staged_neighbours op direction = staged_joined direction (scan_found op memory job from mid) (scan_staged op memory job from mid) (scan_found op memory job mid to) (scan_staged op memory job mid to)

  dualcast_staged : scan_staged Dualcast memory job from to ≡ staged_neighbours Dualcast Forward
  unfolding scan_staged
  dualcast_staged =
      let front = scan_done Dualcast memory job from mid in
      let back = scan_done Dualcast memory job mid to in
      let below = bytes_at memory (job.source + from) front in
      let above = bytes_at memory (job.source + mid) back in
      ⊎_elim (λ short.
      ap (bytes_at memory (job.source + from)) (done_up_stopped Dualcast memory job from mid to low high refl short)
      ∙ sym (ap (λ (b : Bool). cond b (below ++ above) below) (stopped_early Dualcast memory job from mid short)))
      (λ past.
      let all : front ≡ mid - from = omega (arith, scan_done_within Dualcast memory job from mid) in
      let beside : job.source + mid ≡ job.source + from + front = omega (arith, all) in
      ap (bytes_at memory (job.source + from)) (done_up Dualcast memory job from mid to low high refl all ∙ ap (λ (n : ℕ). n + back) (sym all))
      ∙ (bytes_append memory (job.source + from) (job.source + mid) front back beside
      ∙ sym (ap (λ (b : Bool). cond b (below ++ above) below) (done_whole Dualcast memory job from mid all))))
      (cases_lt front (mid - from))

  idle_staged : (op : Op) → ((a b : ℕ) → scan_staged op memory job a b ≡ []) → scan_staged op memory job from to ≡ staged_neighbours op Forward
  idle_staged op none =
      let b = is_all (scan_found op memory job from mid) in
      none from to ∙ sym (ap₂ (λ (xs ys : List ℕ). cond b (xs ++ ys) xs) (none from mid) (none mid to) ∙ nothing b)
    where
      nothing : (b : Bool) → ◌≡◌ {A = List ℕ} (cond b ([] ++ []) []) []
      nothing true = refl
      nothing false = refl

  move_up : operation_direction Move job ≡ Forward → scan_staged Move memory job from to ≡ staged_neighbours Move Forward
  unfolding scan_staged
  move_up is =
      let front = scan_done Move memory job from mid in
      let back = scan_done Move memory job mid to in
      let below = bytes_of_move memory job (operation_direction Move job) from (mid - from) front in
      let above = bytes_of_move memory job (operation_direction Move job) mid (to - mid) back in
      let whole = scan_done Move memory job from to in
      let place : lowest_done (operation_direction Move job) (to - from) whole ≡ 0 = ap (λ (d : Direction). lowest_done d (to - from) whole) is in
      let place_below : lowest_done (operation_direction Move job) (mid - from) front ≡ 0 = ap (λ (d : Direction). lowest_done d (mid - from) front) is in
      let place_above : lowest_done (operation_direction Move job) (to - mid) back ≡ 0 = ap (λ (d : Direction). lowest_done d (to - mid) back) is in
      ⊎_elim (λ short.
      bytes_same memory _ _ _ _ (omega (arith, place, place_below)) (done_up_stopped Move memory job from mid to low high is short)
      ∙ sym (ap (λ (b : Bool). cond b (below ++ above) below) (stopped_early Move memory job from mid short)))
      (λ past.
      let all : front ≡ mid - from = omega (arith, scan_done_within Move memory job from mid) in
      let start : job.source + (from + lowest_done (operation_direction Move job) (to - from) whole) ≡ job.source + (from + lowest_done (operation_direction Move job) (mid - from) front) = omega (arith, place, place_below) in
      let beside : job.source + (mid + lowest_done (operation_direction Move job) (to - mid) back) ≡ job.source + (from + lowest_done (operation_direction Move job) (mid - from) front) + front = omega (arith, all, place_below, place_above) in
      bytes_same memory _ _ _ _ start (done_up Move memory job from mid to low high is all ∙ ap (λ (n : ℕ). n + back) (sym all))
      ∙ (bytes_append memory _ _ front back beside
      ∙ sym (ap (λ (b : Bool). cond b (below ++ above) below) (done_whole Move memory job from mid all))))
      (cases_lt front (mid - from))

  move_down : operation_direction Move job ≡ Backward → scan_staged Move memory job from to ≡ staged_neighbours Move Backward
  unfolding scan_staged
  move_down is =
      let front = scan_done Move memory job mid to in
      let back = scan_done Move memory job from mid in
      let above = bytes_of_move memory job (operation_direction Move job) mid (to - mid) front in
      let below = bytes_of_move memory job (operation_direction Move job) from (mid - from) back in
      let whole = scan_done Move memory job from to in
      let place : lowest_done (operation_direction Move job) (to - from) whole ≡ to - from - whole = ap (λ (d : Direction). lowest_done d (to - from) whole) is in
      let place_above : lowest_done (operation_direction Move job) (to - mid) front ≡ to - mid - front = ap (λ (d : Direction). lowest_done d (to - mid) front) is in
      let place_below : lowest_done (operation_direction Move job) (mid - from) back ≡ mid - from - back = ap (λ (d : Direction). lowest_done d (mid - from) back) is in
      ⊎_elim (λ short.
      let count = done_down_stopped Move memory job from mid to low high is short in
      let start : job.source + (from + lowest_done (operation_direction Move job) (to - from) whole) ≡ job.source + (mid + lowest_done (operation_direction Move job) (to - mid) front) = omega (arith, place, place_above, count, short) in
      bytes_same memory _ _ _ _ start count
      ∙ sym (ap (λ (b : Bool). cond b (below ++ above) above) (stopped_early Move memory job mid to short)))
      (λ past.
      let all : front ≡ to - mid = omega (arith, scan_done_within Move memory job mid to) in
      let count = done_down Move memory job from mid to low high is all in
      let short : back ≤ mid - from = scan_done_within Move memory job from mid in
      let start : job.source + (from + lowest_done (operation_direction Move job) (to - from) whole) ≡ job.source + (from + lowest_done (operation_direction Move job) (mid - from) back) = omega (arith, place, place_below, count, short) in
      let beside : job.source + (mid + lowest_done (operation_direction Move job) (to - mid) front) ≡ job.source + (from + lowest_done (operation_direction Move job) (mid - from) back) + back = omega (arith, all, place_below, place_above, short) in
      let sum : whole ≡ back + front = omega (arith, count, all) in
      bytes_same memory _ _ _ _ start sum
      ∙ (bytes_append memory _ _ back front beside
      ∙ sym (ap (λ (b : Bool). cond b (below ++ above) above) (done_whole Move memory job mid to all))))
      (cases_lt front (to - mid))

  move_staged : (direction : Direction) → operation_direction Move job ≡ direction → scan_staged Move memory job from to ≡ staged_neighbours Move direction
  move_staged Forward is = move_up is
  move_staged Backward is = move_down is

-- an operation that stages nothing
staged_none : (op : Op) (memory : Memory) (job : Job) (from to : ℕ) → op ≢ Move → op ≢ Dualcast → scan_staged op memory job from to ≡ []
unfolding scan_staged
staged_none NoOp memory job from to _ _ = refl
staged_none Move memory job from to other _ = absurd (other refl)
staged_none Fill memory job from to _ _ = refl
staged_none Compare memory job from to _ _ = refl
staged_none ComparePattern memory job from to _ _ = refl
staged_none CreateDelta memory job from to _ _ = refl
staged_none ApplyDelta memory job from to _ _ = refl
staged_none Dualcast memory job from to _ other = absurd (other refl)

pub neighbours_staged : (op : Op) (memory : Memory) (job : Job) (from mid to : ℕ) → from ≤ mid → mid ≤ to → (direction : Direction) → operation_direction op job ≡ direction
    → scan_staged op memory job from to ≡ staged_joined direction (scan_found op memory job from mid) (scan_staged op memory job from mid) (scan_found op memory job mid to) (scan_staged op memory job mid to)
neighbours_staged op memory job from mid to low high direction way =
    elim op as (λ (o : Op). operation_direction o job ≡ direction → staged_by o direction) [
      | NoOp ↦ λ w. idle NoOp w (λ a b. staged_none NoOp memory job a b (λ e. absurd (cc)) (λ e. absurd (cc)))
      | Move ↦ λ w. move_staged memory job from mid to low high direction w
      | Fill ↦ λ w. idle Fill w (λ a b. staged_none Fill memory job a b (λ e. absurd (cc)) (λ e. absurd (cc)))
      | Compare ↦ λ w. idle Compare w (λ a b. staged_none Compare memory job a b (λ e. absurd (cc)) (λ e. absurd (cc)))
      | ComparePattern ↦ λ w. idle ComparePattern w (λ a b. staged_none ComparePattern memory job a b (λ e. absurd (cc)) (λ e. absurd (cc)))
      | CreateDelta ↦ λ w. idle CreateDelta w (λ a b. staged_none CreateDelta memory job a b (λ e. absurd (cc)) (λ e. absurd (cc)))
      | ApplyDelta ↦ λ w. idle ApplyDelta w (λ a b. staged_none ApplyDelta memory job a b (λ e. absurd (cc)) (λ e. absurd (cc)))
      | Dualcast ↦ λ w. subst (staged_by Dualcast) w (dualcast_staged memory job from mid to low high)
    ] way
  where
    staged_by : Op → Direction → Type 0
    staged_by o d = scan_staged o memory job from to ≡ staged_neighbours memory job from mid to low high o d

    idle : (o : Op) → Forward ≡ direction → ((a b : ℕ) → scan_staged o memory job a b ≡ []) → staged_by o direction
    idle o w none = subst (staged_by o) w (idle_staged memory job from mid to low high o none)
