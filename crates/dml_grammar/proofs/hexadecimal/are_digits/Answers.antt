use Rattle.std.proofs.Common.{ℕ, leb, cond, refl, arith}
use Rattle.std.proofs.lemmas.Simd.{zip2_splat, zip2_of_maps, splat_is_map}
use Rattle.std.specs.Char.{is_digit}
use Rattle.dml_grammar.proofs.LaneLemmas.{none_set}
use Rattle.dml_grammar.proofs.hexadecimal.are_digits.Goals as goal

abbrev at_most_lane : ℕ → ℕ → ℕ
at_most_lane a b = cond (leb a b) 255 0

pub returns : goal.returns
returns c =
    let v = c.args.bytes in
    let long = c.requires in
    none_set _ (λ x. is_digit x 16) v _ (omega arith) c.fits-bytes.1
    (zip2_of_maps _ _ _ v (zip2_of_maps at_most_lane _ _ v (splat_is_map v 16 10 long) (zip2_splat _ v 16 48 long))
    (zip2_of_maps at_most_lane _ _ v (splat_is_map v 16 6 long) (zip2_of_maps {Y = ℕ} _ _ _ v (zip2_splat _ v 16 32 long) (splat_is_map v 16 97 long)))) refl
