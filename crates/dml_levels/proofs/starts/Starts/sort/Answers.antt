use Rattle.std.proofs.Common.{rules, ℕ, List, subst}
use Rattle.std.proofs.lemmas.List.Sorted.{IsNonDecreasingBy-from_sort_by_key, IsPermutation-map}
use Rattle.std.specs.List.Sorted.{IsPermutation}
use Rattle.dml_levels.specs.declared.starts.Start.{Start}
use Rattle.dml_levels.proofs.StartLemmas.{addresses, sorted_addresses}
use Rattle.dml_levels.proofs.starts.Starts.sort.Goals as goal

pub returns-clause-sorted : goal.returns-clause-sorted
returns-clause-sorted c =
    sorted_addresses _ (IsNonDecreasingBy-from_sort_by_key (λ (start : Start). start.address) _ c.sort_unstable_by_key.ensures.sorted (λ a r q k. search rules))

pub returns-clause-all : goal.returns-clause-all
returns-clause-all c =
    subst (λ (xs : List ℕ). IsPermutation xs (addresses c.sort_unstable_by_key.new.self.items)) c.self.view_is
    (IsPermutation-map (λ (start : Start). start.address) _ _ c.sort_unstable_by_key.ensures.permutation)
