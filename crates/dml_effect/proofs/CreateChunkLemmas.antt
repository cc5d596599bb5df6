-- Two neighbouring chunks of a create are the chunk of both.
use Rattle.std.proofs.Common.{◌≡◌, ℕ, ◌+◌, ◌-◌, ◌<◌, ◌≤◌, Bool, false, not, List, ◌++◌, Option, None, Some, refl, sym, ◌∙◌, ap, ap₂, arith, ⊎_elim, cond, eqb}
use Rattle.std.proofs.lemmas.Bool.{cases_lt, eq-eqb}
use Rattle.dml_types.specs.declared.jobs.Job.{Job}
use Rattle.dml_types.specs.Memory.{first, Memory}
use Rattle.dml_types.specs.Delta.{block_fault, differs, block_entry, is_readable, readable_blocks}
use Rattle.dml_types.specs.Chunk.{create_fault, create_staged}
use Rattle.dml_types.proofs.FirstLemmas.{first_le, first_agree, first_left, first_right}
use Rattle.dml_delta.specs.Entries.{gathered}
use Rattle.dml_delta.proofs.EntryLemmas.{gathered_split}
use Rattle.dml_effect.specs.Joined.{entries_joined, fault_joined}

module _ (memory : Memory) (job : Job) where
  abbrev blocked : ℕ → ℕ → Bool
  blocked from i = not (is_readable memory job (from + i))

  -- the fault of a chunk up to `to` whose first block that is not readable is b
  abbrev pub fault_at : ℕ → ℕ → Option (ℕ × ℕ)
  fault_at to b = cond (eqb b to) None (Some (b, (block_fault memory job b).address))

  pub fault_is : (from to : ℕ) → create_fault memory job from to ≡ fault_at to (from + readable_blocks memory job from to)
  unfolding create_fault
  fault_is from to = refl

  pub staged_is : (from to : ℕ) → create_staged memory job from to ≡ gathered (block_entry memory job) (differs memory job) from (readable_blocks memory job from to)
  unfolding create_staged
  staged_is from to = refl

  pub fault_some : (to b : ℕ) → b < to → fault_at to b ≡ Some (b, (block_fault memory job b).address)
  fault_some to b below = ap (λ (e : Bool). cond e None (Some (b, (block_fault memory job b).address))) (apart b to below)
    where
      apart : (a b : ℕ) → a < b → eqb a b ≡ false
      apart a b h = grind arith

  pub fault_none : (to b : ℕ) → b ≡ to → fault_at to b ≡ None
  fault_none to b at = ap (λ (e : Bool). cond e None (Some (b, (block_fault memory job b).address))) (eq-eqb b to at)

  module _ (from mid to : ℕ) (low : from ≤ mid) (high : mid ≤ to) where
    abbrev front : ℕ
    front = readable_blocks memory job from mid

    abbrev back : ℕ
    back = readable_blocks memory job mid to

    long : to - from ≡ mid - from + (to - mid)
    long = omega arith

    whole_front : front < mid - from → readable_blocks memory job from to ≡ front
    whole_front short = ap (λ (n : ℕ). first n (blocked from)) long ∙ first_left (mid - from) (to - mid) (blocked from) short

    whole_on : front ≡ mid - from → readable_blocks memory job from to ≡ mid - from + back
    whole_on all =
        ap (λ (n : ℕ). first n (blocked from)) long
        ∙ (first_right (mid - from) (to - mid) (blocked from) all
        ∙ ap (λ (k : ℕ). mid - from + k)
        (first_agree (to - mid) (λ i. blocked from (mid - from + i)) (blocked mid)
        (λ i below. let place : from + (mid - from + i) ≡ mid + i = omega arith in ap (λ (b : ℕ). not (is_readable memory job b)) place)))

    short_fault : front < mid - from → create_fault memory job from mid ≡ Some (from + front, (block_fault memory job (from + front)).address)
    short_fault short = fault_is from mid ∙ fault_some mid (from + front) (omega arith)

    no_fault : front ≡ mid - from → create_fault memory job from mid ≡ None
    no_fault all = fault_is from mid ∙ fault_none mid (from + front) (omega arith)

    pub neighbours_fault : create_fault memory job from to ≡ fault_joined (create_fault memory job from mid) (create_fault memory job mid to)
    neighbours_fault =
        ⊎_elim (λ short.
        fault_is from to
        ∙ (ap (λ (n : ℕ). fault_at to (from + n)) (whole_front short)
        ∙ (fault_some to (from + front) (omega arith)
        ∙ sym (ap (λ (f : Option (ℕ × ℕ)). fault_joined f (create_fault memory job mid to)) (short_fault short)))))
        (λ past.
        let all : front ≡ mid - from = omega (arith, first_le (mid - from) (blocked from)) in
        let place : from + (mid - from + back) ≡ mid + back = omega arith in
        fault_is from to
        ∙ (ap (λ (n : ℕ). fault_at to (from + n)) (whole_on all)
        ∙ (ap (fault_at to) place
        ∙ (sym (fault_is mid to)
        ∙ sym (ap (λ (f : Option (ℕ × ℕ)). fault_joined f (create_fault memory job mid to)) (no_fault all))))))
        (cases_lt front (mid - from))

    pub neighbours_staged : create_staged memory job from to ≡ entries_joined (create_fault memory job from mid) (create_staged memory job from mid) (create_staged memory job mid to)
    neighbours_staged =
        let below = create_staged memory job from mid in
        let above = create_staged memory job mid to in
        let entries = gathered (block_entry memory job) (differs memory job) in
        ⊎_elim (λ short.
        staged_is from to
        ∙ (ap (entries from) (whole_front short)
        ∙ (sym (staged_is from mid)
        ∙ sym (ap (λ (f : Option (ℕ × ℕ)). entries_joined f below above) (short_fault short)))))
        (λ past.
        let all : front ≡ mid - from = omega (arith, first_le (mid - from) (blocked from)) in
        let place : from + (mid - from) ≡ mid = omega arith in
        staged_is from to
        ∙ (ap (entries from) (whole_on all)
        ∙ (gathered_split (block_entry memory job) (differs memory job) from (mid - from) back
        ∙ (ap₂ (λ (xs ys : List ℕ). xs ++ ys) (ap (entries from) (sym all) ∙ sym (staged_is from mid)) (ap (λ (a : ℕ). entries a back) place ∙ sym (staged_is mid to))
        ∙ sym (ap (λ (f : Option (ℕ × ℕ)). entries_joined f below above) (no_fault all))))))
        (cases_lt front (mid - from))
