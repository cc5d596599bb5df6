use Rattle.std.proofs.Common.{ℕ, ◌≤◌, List, length, set, arith, refl}
use Rattle.std.proofs.lemmas.List.{length-set}
use Rattle.dml_levels.specs.declared.starts.Start.{Start}
use Rattle.dml_levels.proofs.StartLemmas.{noted}
use Rattle.dml_levels.proofs.starts.Starts.note_likely.Goals as goal

within_noted : (list : List Start) (k place : ℕ) (next : Start) → k ≤ length list → k ≤ length (set list place next)
within_noted list k place next within = omega (arith, within, length-set list place next)

pub loop-k-preserved-then-range-count : goal.loop-k-preserved-then-range-count
loop-k-preserved-then-range-count c = record {
  kept = noted _ c.loop-k.self-inside.list.items _ c.index_mut.result.now _ c.loop-k.invariant.kept c.index_mut.ensures.value refl;
  within = within_noted c.loop-k.self-inside.list.items _ _ _ (omega (arith, c.loop-k.invariant.within));
}
