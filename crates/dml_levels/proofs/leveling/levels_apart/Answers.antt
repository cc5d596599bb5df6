use Rattle.std.proofs.Common.{◌≡◌, ◌<◌, ◌+◌, [], ◌∷◌, ◌++◌, length, get_or, map, ap, sym, refl, ◌∙◌, arith}
use Rattle.dml_types.specs.Conflict.{clash_of, level_over}
use Rattle.dml_order.proofs.LevelLemmas.{levels_of_more}
use Rattle.std.proofs.lemmas.List.{get_or-map, length-append}
use Rattle.dml_levels.specs.Hulls.{reach_of}
use Rattle.dml_levels.proofs.HullLemmas.{lowest, reach_more}
use Rattle.dml_levels.proofs.leveling.levels_apart.Goals as goal

pub loop-i-preserved : goal.loop-i-preserved
loop-i-preserved c =
    let jobs = c.args.jobs.now in
    let clash = clash_of jobs in
    let levels = c.loop-i.levels.items in
    let i = c.loop-i.i in
    let job = c.index-jobs-i.result in
    let reach = c.of-reach.result in
    let reaches = map reach_of jobs in
    let below : i < length jobs = omega arith in
    let here : job ≡ get_or jobs i job = c.index-jobs-i.is in
    let read : reach ≡ get_or reaches i reach =
    c.of-reach.ensures ∙ (ap reach_of here ∙ sym (get_or-map reach_of jobs i job reach below)) in
    let level : 0 ≡ level_over clash levels i =
    lowest jobs reaches c.loop-i.seen reach levels i refl c.loop-i.invariant.1 below read (sym c.meets.ensures ∙ c.if-meets.false) in (
      c.push_reserved.ensures.items
          ∙ (ap (λ last. levels ++ last ∷ []) level
          ∙ (ap (λ list. list ++ level_over clash list i ∷ []) c.loop-i.invariant.0 ∙ sym (levels_of_more clash i))),
      c.both-seen.ensures ∙ reach_more jobs reaches c.loop-i.seen reach i refl c.loop-i.invariant.1 below read,
      ap length c.push_reserved.ensures.items ∙ (length-append levels (0 ∷ []) ∙ ap (λ n. n + 1) c.loop-i.invariant.2),
      omega (arith, c.loop-i.invariant.3, c.push_reserved.ensures.capacity),
    )
