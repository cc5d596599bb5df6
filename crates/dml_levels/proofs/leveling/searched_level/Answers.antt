use Rattle.std.proofs.Common.{◌-◌, ℕ, get_or, ap, arith, ◌∙◌, sym}
use Rattle.dml_types.specs.Conflict.{clash_of}
use Rattle.dml_order.proofs.LevelLemmas.{level_le}
use Rattle.dml_levels.proofs.LevelLemmas.{highest_is, highest_kept, highest_passed}
use Rattle.dml_levels.proofs.leveling.searched_level.Goals as goal
use Rattle.dml_levels.proofs.leveling.searched_level.Goals.{else-levels-k-via-then-levels-k+else-clashes, else-levels-k-via-else-levels-k}

pub loop-level-preserved : goal.loop-level-preserved
loop-level-preserved c =
    let clash = clash_of c.args.jobs.now in
    let levels = c.args.levels.now in
    let k : ℕ = c.loop-level.k - 1 in
    let place = c.args.place in
    let level = c.loop-level.level in
    let before = c.loop-level.invariant.highest in
    record {
      within = omega arith;
      highest =
          elim c.else-levels-k.branch [
            | else-levels-k-via-then-levels-k+else-clashes v ↦
                highest_passed clash levels place k c.loop-level.k level before (omega arith) (sym v.clashes.ensures ∙ v.if-clashes.false)
            | else-levels-k-via-else-levels-k v ↦
                highest_kept clash levels place k c.loop-level.k level before (omega arith) v.if-levels-k.false
          ];
    }

pub returns : goal.returns
returns c =
    let clash = clash_of c.args.jobs.now in
    let levels = c.args.levels.now in
    highest_is clash levels c.args.place c.loop-level.k c.loop-level.level c.loop-level.invariant.highest
    (λ j below. omega (arith, ap (λ xs. get_or xs j 0) c.requires.levels, level_le clash c.args.place j below)) (omega arith)
