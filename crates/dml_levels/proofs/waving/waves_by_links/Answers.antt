use Rattle.std.proofs.Common.{◌++◌, ap, sym, subst, ◌∙◌}
use Rattle.dml_order.specs.Waves.{level_waves}
use Rattle.dml_order.proofs.WaveSteps.{waves_more}
use Rattle.dml_levels.specs.Links.{AreLinked}
use Rattle.dml_levels.specs.Waves.{fits_wave}
use Rattle.dml_levels.proofs.waving.waves_by_links.Goals as goal

pub loop-level-preserved : goal.loop-level-preserved
loop-level-preserved c =
    let fits = fits_wave c.args.jobs.now c.args.staging c.args.chunk in (
      c.in_ok-cut_linked_level.ensures.cut
          ∙ (ap (λ front. front ++ level_waves fits c.args.levels.now c.loop-level.level) c.loop-level.invariant.0
          ∙ sym (waves_more fits c.args.levels.now c.loop-level.level)),
      c.in_ok-cut_linked_level.ensures.fit,
      c.in_ok-cut_linked_level.ensures.empty,
      subst (λ links. AreLinked c.args.levels.now links 0) (sym c.in_ok-cut_linked_level.ensures.links) c.loop-level.invariant.3,
    )
