use Rattle.std.proofs.Common.{◌≡◌, ℕ, ◌+◌, ◌<◌, ◌≤◌, List, length, get_or, map, replicate, Some, refl, arith, lit<}
use Rattle.std.specs.List.{range_with_len}
use Rattle.dml_types.specs.Memory.{first, overwrite}
use Rattle.dml_types.specs.Delta.{applied}
use Rattle.dml_types.specs.Step.{effect}
use Rattle.dml_types.proofs.MemoryLemmas.{overwrite_inside}
use Rattle.dml_plain.specs.ApplyRows as row
use Rattle.dml_plain.proofs.rows.rows_of_applies.Goals as goal

pub returns-clause-apply_not_rising : goal.returns-clause-apply_not_rising
unfolding row.apply_not_rising first overwrite applied effect
returns-clause-apply_not_rising c = (refl, refl)

-- the eight bytes that were written at the last block
written : (old : List ℕ) (x : ℕ) → 528384 ≤ length old → let block = replicate 8 x in map (λ k. Some (get_or (overwrite old 528376 block) (528376 + k) 0)) (range_with_len 0 8) ≡ map Some block
written old x room =
    let at : (k : ℕ) → k < 8 → get_or (overwrite old 528376 (replicate 8 x)) (528376 + k) 0 ≡ get_or (replicate 8 x) k 0 =
    λ k below. overwrite_inside old 528376 (replicate 8 x) k 0 room below in
    rw (at 0 (lit< tt), at 1 (lit< tt), at 2 (lit< tt), at 3 (lit< tt), at 4 (lit< tt), at 5 (lit< tt), at 6 (lit< tt), at 7 (lit< tt)) refl

pub returns-clause-apply_offset_range : goal.returns-clause-apply_offset_range
unfolding row.apply_offset_range first applied effect
returns-clause-apply_offset_range c = λ behind long. (refl, written _ _ (omega (arith, long)))

pub returns-clause-not_rising_before_fault : goal.returns-clause-not_rising_before_fault
unfolding row.not_rising_before_fault first overwrite applied effect
returns-clause-not_rising_before_fault c = (refl, refl)
