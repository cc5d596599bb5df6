-- Writes to a part of a slice.
use Rattle.std.proofs.Common.{◌≡◌, ℕ, ◌+◌, ◌-◌, ◌≤◌, List, ◌++◌, length, take, drop, slice_range, rules, refl, arith}
use Rattle.std.proofs.lemmas.List.{drop-drop, places, same_lists}
use borrow.Rule.Slice.PartMut.{put_mid}
use Rattle.dml_types.specs.Memory.{overwrite}

pub put_mid_overwrite : (place count : ℕ) (old new : List ℕ) → length new ≡ count → put_mid place count old new ≡ overwrite old place new
unfolding overwrite
put_mid_overwrite place count old new h = rw (drop-drop, h) refl

-- bytes of the front of a slice copied into the back, of the back into the front, and held between
pub copied_back : (old front back part : List ℕ) (from to n : ℕ) → front ≡ take to old → back ≡ drop to old → part ≡ take (from + n - from) (drop from front) → from + n ≤ to → to + n ≤ length old → front ++ (part ++ drop n back) ≡ overwrite old to (slice_range old from (from + n))
unfolding overwrite
copied_back old front back part from to n is_front is_back is_part apart within =
    rw (is_part, is_front, is_back) (same_lists _ _ (search (rules, places)) (λ k d h. grind (arith, places)))

pub copied_front : (old front back part : List ℕ) (from to n : ℕ) → front ≡ take from old → back ≡ drop from old → part ≡ take n back → to + n ≤ from → from + n ≤ length old → put_mid to (to + n - to) front part ++ back ≡ overwrite old to (slice_range old from (from + n))
unfolding overwrite
copied_front old front back part from to n is_front is_back is_part apart within =
    rw (is_part, is_front, is_back) (same_lists _ _ (search (rules, places)) (λ k d h. grind (arith, places)))

pub copied_held : (old held part written : List ℕ) (from to n : ℕ) → part ≡ take (from + n - from) (drop from old) → written ≡ take n (part ++ drop n held) → from + n ≤ length old → to + n ≤ length old → put_mid to (to + n - to) old written ≡ overwrite old to (slice_range old from (from + n))
unfolding overwrite
copied_held old held part written from to n is_part is_written within_from within_to =
    rw (is_written, is_part) (same_lists _ _ (search (rules, places)) (λ k d h. grind (arith, places)))
