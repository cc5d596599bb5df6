use Rattle.std.proofs.Common.{◌≡◌, ◌<◌, length, fold, IsTrue}
use Rattle.std.specs.List.{All}
use Rattle.dml_effect.specs.Effects.{are_present}
use Rattle.dml_levels.specs.Laws.{begun}
use Rattle.dml_wave.specs.Effects.{committed}
use Rattle.dml_wave.proofs.committing.commit_all.Given as goal

abbrev pub invariant-loop-place : goal.invariant-loop-place
invariant-loop-place l =
    record {
      can : (goal.iterator-loop-place).can_next l.place-iterator;
      ends : (goal.iterator-loop-place).is_finite l.place-iterator;
      places : All (λ done. done.place < length l.records) l.place-iterator.rest.items;
      present : All (λ done. IsTrue (are_present l.image done.effect.puts)) l.place-iterator.rest.items;
      done : fold committed (begun l.image l.records) l.place-iterator.rest.items ≡ fold committed (begun l.fn.image l.fn.records) l.fn.effects.items;
      count : length l.records ≡ length l.fn.records;
    }
