use Rattle.std.proofs.Common.{◌∙◌, refl}
use Rattle.std.proofs.lemmas.Simd.{zip2_splat, zip2_of_maps, splat_is_map}
use Rattle.dml_grammar.proofs.LaneLemmas.{chosen, worth_of_digits}
use Rattle.dml_grammar.proofs.hexadecimal.values.Goals as goal

pub returns : goal.returns
returns c =
    let v = c.args.digits in
    let long = c.requires.long in
    chosen _ _ _ v (zip2_of_maps _ _ _ v (zip2_splat _ v 16 48 long) (splat_is_map v 16 10 long)) (zip2_splat _ v 16 48 long)
    (zip2_of_maps _ _ _ v (zip2_of_maps _ _ _ v (zip2_splat _ v 16 32 long) (splat_is_map v 16 97 long)) (splat_is_map v 16 10 long))
    ∙ worth_of_digits _ v c.fits-digits.1 c.requires.digits refl
