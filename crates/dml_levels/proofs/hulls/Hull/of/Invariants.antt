use Rattle.std.proofs.Common.{◌≡◌, fold, take}
use Rattle.dml_levels.specs.Hulls.{widened_hull, no_hull}
use Rattle.dml_levels.proofs.hulls.Hull.of.Given as goal

abbrev pub invariant-loop-span : goal.invariant-loop-span
invariant-loop-span l = (l.span-items ≡ l.spans) × (l.hull ≡ fold widened_hull no_hull (take l.span-index l.spans))
