use Rattle.std.proofs.Common.{◌≡◌, ℕ, ◌<◌, ◌≤◌, [], get_or}
use Rattle.std.specs.List.{Any}
use Rattle.dml_types.specs.Refusal.{need}
use Rattle.dml_desc.specs.Descriptor.{decoded}
use Rattle.dml_effect.specs.Straight.{TakesStaging}
use Rattle.dml_c.proofs.lending.greatest_need.Given as goal

abbrev pub invariant-loop-i : goal.invariant-loop-i
invariant-loop-i l = record {
  enough :
      (k : ℕ) → k < l.i → TakesStaging (decoded (get_or l.descriptors k [])) l.staging
      → need (decoded (get_or l.descriptors k [])) ≤ l.most;
  least :
      0 < l.most
      → Any (λ d. TakesStaging (decoded d) l.staging × (need (decoded d) ≡ l.most)) l.descriptors;
}
