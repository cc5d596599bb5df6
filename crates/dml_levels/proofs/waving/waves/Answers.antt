use Rattle.std.proofs.Common.{List, All, length, ap, sym, subst, ◌∙◌, ℕ}
use Rattle.dml_types.specs.Conflict.{fenced_clash}
use Rattle.dml_order.specs.Waves.{AreFull, IsOfOneLevel, Rises, joined}
use Rattle.dml_order.proofs.LevelLemmas.{length_levels_of}
use Rattle.dml_order.proofs.WaveFacts.{waves_rise, waves_of_one_level, waves_full}
use Rattle.dml_levels.specs.Waves.{fits_wave}
use Rattle.dml_levels.proofs.WaveFacts.{each_once}
use Rattle.dml_levels.proofs.waving.waves.Goals as goal

pub find_waves-requires-clause-levels : goal.find_waves-requires-clause-levels
find_waves-requires-clause-levels c =
    ap length c.requires.levels ∙ length_levels_of (fenced_clash c.args.jobs.now) (length c.args.jobs.now)

pub returns-in-Ok-clause-each_once : goal.returns-in-Ok-clause-each_once
returns-in-Ok-clause-each_once c =
    each_once c.args.jobs.now c.args.levels.now c.args.staging c.args.chunk c.in-Ok.waves.items c.requires.levels c.in-Ok.ensures.cut

pub returns-in-Ok-clause-level_by_level : goal.returns-in-Ok-clause-level_by_level
returns-in-Ok-clause-level_by_level c =
    subst (λ (list : List (List ℕ)). Rises c.args.levels.now (joined list)) (sym c.in-Ok.ensures.cut)
    (waves_rise (fits_wave c.args.jobs.now c.args.staging c.args.chunk) c.args.levels.now)

pub returns-in-Ok-clause-one_level : goal.returns-in-Ok-clause-one_level
returns-in-Ok-clause-one_level c =
    subst (All (IsOfOneLevel c.args.levels.now)) (sym c.in-Ok.ensures.cut)
    (waves_of_one_level (fits_wave c.args.jobs.now c.args.staging c.args.chunk) c.args.levels.now)

pub returns-in-Ok-clause-full : goal.returns-in-Ok-clause-full
returns-in-Ok-clause-full c =
    subst (AreFull (fits_wave c.args.jobs.now c.args.staging c.args.chunk) c.args.levels.now) (sym c.in-Ok.ensures.cut)
    (waves_full (fits_wave c.args.jobs.now c.args.staging c.args.chunk) c.args.levels.now)
