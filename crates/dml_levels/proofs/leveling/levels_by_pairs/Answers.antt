use Rattle.std.proofs.Common.{◌≡◌, ◌<◌, [], ◌∷◌, ◌++◌, length, get_or, ap, sym, ◌∙◌, arith}
use Rattle.dml_types.specs.Conflict.{clash_of, level_over}
use Rattle.dml_order.proofs.LevelLemmas.{levels_of_more}
use Rattle.std.proofs.lemmas.List.{get_or_default, length-map}
use Rattle.dml_levels.specs.declared.hulls.Reach.{Reach}
use Rattle.dml_levels.specs.Hulls.{reach_of}
use Rattle.dml_levels.proofs.HullLemmas.{lowest, reach_more}
use Rattle.dml_levels.proofs.leveling.levels_by_pairs.Goals as goal
use Rattle.dml_levels.proofs.leveling.levels_by_pairs.Goals.{then-meets, else-meets}

-- what a read past the end of the list would give
abbrev unread : Reach
unread = record { reads = record { first = 0; last = 0 }; writes = record { first = 0; last = 0 } }

pub loop-i-preserved : goal.loop-i-preserved
loop-i-preserved c =
    let jobs = c.args.jobs.now in
    let clash = clash_of jobs in
    let levels = c.loop-i.levels.items in
    let i = c.loop-i.i in
    let reaches = c.args.reaches.now in
    let reach = get_or reaches i unread in
    let below : i < length jobs = omega arith in
    let read : reach ≡ get_or reaches i reach = get_or_default reaches i unread reach (omega (arith, below, ap length c.requires.reaches, length-map jobs reach_of)) in
    let level : c.if-meets.level ≡ level_over clash levels i =
    elim c.if-meets.branch [
      | then-meets w ↦
          w.level-is ∙ (w.searched_level-level.ensures ∙ ap (λ list. level_over clash list i) w.as_slice-then-meets.ensures.value)
      | else-meets w ↦
          w.level-is ∙ lowest jobs reaches c.loop-i.seen reach levels i c.requires.reaches c.loop-i.invariant.1 below read (sym c.meets.ensures ∙ w.if-meets.false)
    ] in (
      c.in_ok-push.ensures.items
          ∙ (ap (λ last. levels ++ last ∷ []) level
          ∙ (ap (λ list. list ++ level_over clash list i ∷ []) c.loop-i.invariant.0 ∙ sym (levels_of_more clash i))),
      c.both-seen.ensures ∙ reach_more jobs reaches c.loop-i.seen reach i c.requires.reaches c.loop-i.invariant.1 below read,
    )
