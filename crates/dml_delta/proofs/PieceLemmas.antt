-- What the pieces tell is the value of the chunk.
use Rattle.std.proofs.Common.{◌≡◌, ℕ, ◌+◌, ◌-◌, ◌*◌, ◌/◌, ◌≤◌, Bool, true, List, [], ◌++◌, length, Option, None, Some, is_some, cond, eqb, sym, ◌∙◌, ap, ap₂, arith, ⊎_elim}
use Rattle.std.proofs.lemmas.Bool.{cases_eq, eq-eqb}
use Rattle.std.specs.Prelude.{option_map}
use Rattle.dml_types.specs.declared.jobs.Job.{Job}
use Rattle.dml_types.specs.Memory.{IsWhole, Memory, bytes_at, has_all}
use Rattle.dml_types.specs.Effect.{Fault}
use Rattle.dml_types.specs.Delta.{block_fault, block_number, differs, entry_fault, block_entry, good_entries, entry_offset, readable_blocks}
use Rattle.dml_types.specs.Chunk.{apply_bad, apply_first, apply_last, apply_staged, create_fault, create_staged}
use Rattle.dml_types.proofs.FirstLemmas.{fails_before, first_le}
use Rattle.dml_types.proofs.MemoryLemmas.{bytes_at_none, has_all_within, length_bytes_at}
use Rattle.dml_delta.specs.Bad.{bad_of}
use Rattle.dml_delta.specs.declared.applies.BadEntry.{BadEntry}
use Rattle.dml_delta.specs.Entries.{gathered}
use Rattle.dml_delta.proofs.RecordLemmas.{first_of_present, good_present, none_found, offset_of_read}
use Rattle.dml_delta.proofs.UnitLemmas.{has_front, not_readable}

pub create_fault_is : (memory : Memory) (job : Job) (from to n : ℕ) (fault : Option (ℕ × ℕ)) → n ≡ readable_blocks memory job from to → fault ≡ cond (eqb (from + n) to) None (Some (from + n, (block_fault memory job (from + n)).address)) → fault ≡ create_fault memory job from to
unfolding create_fault
create_fault_is memory job from to n fault count is =
    is ∙ ap (λ (k : ℕ). cond (eqb (from + k) to) None (Some (from + k, (block_fault memory job (from + k)).address))) count

pub create_staged_is : (memory : Memory) (job : Job) (from to n : ℕ) (old new : List ℕ) → n ≡ readable_blocks memory job from to → old ≡ [] → new ≡ old ++ gathered (block_entry memory job) (differs memory job) from n → new ≡ create_staged memory job from to
unfolding create_staged
create_staged_is memory job from to n old new count empty is =
    is ∙ ap₂ (λ (xs : List ℕ) (k : ℕ). xs ++ gathered (block_entry memory job) (differs memory job) from k) empty count

pub apply_bad_is : (memory : Memory) (job : Job) (from to n : ℕ) (bad : Option BadEntry) → n ≡ good_entries memory job from to → option_map bad_of bad ≡ cond (eqb (from + n) to) None (option_map (λ (fault : Fault). (from + n, fault)) (entry_fault from memory job (from + n))) → option_map bad_of bad ≡ apply_bad memory job from to
unfolding apply_bad
apply_bad_is memory job from to n bad count is =
    is ∙ ap (λ (k : ℕ). cond (eqb (from + k) to) None (option_map (λ (fault : Fault). (from + k, fault)) (entry_fault from memory job (from + k)))) count

pub apply_staged_is : (memory : Memory) (job : Job) (from to n : ℕ) (old new : List ℕ) → n ≡ good_entries memory job from to → old ≡ [] → new ≡ old ++ bytes_at memory (job.source + 10 * from) (10 * n) → new ≡ apply_staged memory job from to
unfolding apply_staged
apply_staged_is memory job from to n old new count empty is =
    is ∙ ap₂ (λ (xs : List ℕ) (k : ℕ). xs ++ bytes_at memory (job.source + 10 * from) (10 * k)) empty count

-- the good entries of a chunk, read at once
good_read : (memory : Memory) (job : Job) (from to : ℕ) (good : List ℕ) → good ≡ apply_staged memory job from to → good ≡ bytes_at memory (job.source + 10 * from) (10 * good_entries memory job from to)
unfolding apply_staged
good_read memory job from to good is = is

module _ (memory : Memory) (job : Job) (from to : ℕ) (whole : IsWhole memory) (good : List ℕ) (is : good ≡ apply_staged memory job from to) where
  abbrev count : ℕ
  count = good_entries memory job from to

  abbrev is_bad : ℕ → Bool
  is_bad i = is_some (entry_fault from memory job (from + i))

  all : has_all memory (job.source + 10 * from) (10 * count) ≡ true
  all = good_present memory job from count (λ i below. none_found (entry_fault from memory job (from + i)) (fails_before (to - from) is_bad i below))

  long : length good ≡ 10 * count
  long =
      ap (λ (xs : List ℕ). length xs) (good_read memory job from to good is)
      ∙ ⊎_elim (λ none. ap (λ (xs : List ℕ). length xs) (bytes_at_none memory (job.source + 10 * from) (10 * count) (omega (arith, none))) ∙ omega (arith, none))
      (λ some. length_bytes_at memory (job.source + 10 * from) (10 * count) (has_all_within memory (job.source + 10 * from) (10 * count) whole all (omega (arith, some))))
      (cases_eq count 0)

  -- what it tells of its first entry, where that is good, and of its last good one
  pub first_of_good : (offset : ℕ) → 10 ≤ length good → offset ≡ block_number good 0 → Some offset ≡ apply_first memory job from to
  first_of_good offset some told =
      let few : count ≤ to - from = first_le (to - from) is_bad in
      let here : from + 0 ≡ from = omega arith in
      first_of_present memory job from to offset (λ same. absurd (omega (arith, same, few, long, some)))
      (has_front memory (job.source + 10 * from) 10 (10 * count) all (omega (arith, long, some)))
      (told ∙ (offset_of_read memory job from (10 * count) 0 good (good_read memory job from to good is) (omega (arith, long, some)) ∙ ap (entry_offset memory job) here))

  pub last_of_good : (last : Option ℕ) → last ≡ cond (eqb (length good / 10) 0) None (Some (block_number good (length good / 10 - 1))) → last ≡ apply_last memory job from to
  unfolding apply_last
  last_of_good last told =
      let counted : length good / 10 ≡ count = omega (arith, long) in
      told
      ∙ (ap (λ (n : ℕ). cond (eqb n 0) None (Some (block_number good (n - 1)))) counted
      ∙ ⊎_elim (λ none. ap (λ (b : Bool). cond b None (Some (block_number good (count - 1)))) (eq-eqb count 0 none) ∙ sym (ap (λ (b : Bool). cond b None (Some (entry_offset memory job (from + count - 1)))) (eq-eqb count 0 none)))
      (λ some.
      let place : from + (count - 1) ≡ from + count - 1 = omega (arith, some) in
      ap (λ (n : ℕ). cond (eqb count 0) None (Some n))
      (offset_of_read memory job from (10 * count) (count - 1) good (good_read memory job from to good is) (omega (arith, some)) ∙ ap (entry_offset memory job) place))
      (cases_eq count 0))

-- what decides the scan of a create's chunk
pub ruleset create_steps = (not_readable, create_fault_is, create_staged_is)
