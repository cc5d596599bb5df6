use Rattle.std.proofs.Common.{ℕ, ltb, cond, refl, arith}
use Rattle.std.proofs.lemmas.Simd.{zip2_splat, zip2_splat_left, zip2_of_maps}
use Rattle.dml_grammar.specs.Text.{is_text}
use Rattle.dml_grammar.proofs.LaneLemmas.{none_set}
use Rattle.dml_grammar.proofs.text.are_text.Goals as goal

abbrev below_lane : ℕ → ℕ → ℕ
below_lane a b = cond (ltb a b) 255 0

pub returns : goal.returns
returns c =
    let v = c.args.bytes in
    let long = c.requires in
    none_set _ is_text v _ (omega arith) c.fits-bytes.1
    (zip2_of_maps _ _ _ v (zip2_of_maps _ _ _ v (zip2_splat {Y = ℕ} _ v 16 32 long) (zip2_splat {Y = ℕ} _ v 16 9 long)) (zip2_splat_left below_lane 126 16 v long)) refl
