use Rattle.std.proofs.Common.{eq-eqb, eqb-true, refl, replicate}
use Rattle.dml_scan.proofs.VectorLemmas.{mask_same}
use Rattle.dml_scan.proofs.lanes.is_full.Goals as goal

pub returns : goal.returns
returns c =
    let mask = mask_same c.args.lanes (replicate 32 255) c.fits-lanes.0 refl in
    (λ none. mask.0 (eqb-true _ _ none), λ full. eq-eqb _ _ (mask.1 full))
