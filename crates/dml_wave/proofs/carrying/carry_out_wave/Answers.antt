use Rattle.std.proofs.Common.{◌<◌, length, sym, ◌∙◌, subst}
use Rattle.std.specs.List.{All}
use Rattle.std.proofs.lemmas.List.Elements.{All-filter}
use Rattle.dml_levels.specs.Waves.{job_at}
use Rattle.dml_desc.specs.Checked.{operation_of}
use Rattle.dml_levels.specs.Laws.{begun}
use Rattle.dml_wave.specs.Waves.{busy, is_busy}
use Rattle.dml_wave.proofs.CommitLemmas.{busy_apart, busy_enough, committed_all, effects_present, effects_within}
use Rattle.dml_wave.proofs.carrying.carry_out_wave.Goals as goal

pub commit_all-requires-clause-places : goal.commit_all-requires-clause-places
commit_all-requires-clause-places g c =
    let jobs = c.args.jobs.now in
    let wave = c.args.wave.now in
    let records = c.args.records.now in
    let inside : All (λ i. i < length records) wave =
    subst (λ n. All (λ i. i < n) wave) (sym c.requires.records) c.requires.places in
    effects_within c.args.image.now jobs (length records) (busy jobs wave) c.in_ok-effects.effects.items
    (All-filter (λ i. is_busy (operation_of (job_at jobs i))) (λ i. i < length records) wave inside) c.in_ok-effects.ensures

pub commit_all-requires-clause-present : goal.commit_all-requires-clause-present
commit_all-requires-clause-present g c =
    effects_present c.args.image.now c.args.jobs.now (busy c.args.jobs.now c.args.wave.now) c.in_ok-effects.effects.items c.in_ok-effects.ensures

pub returns-clause-done : goal.returns-clause-done
returns-clause-done g c =
    let jobs = c.args.jobs.now in
    let wave = c.args.wave.now in
    let staging = c.args.settings.now.staging in
    c.commit_all.ensures.done
    ∙ committed_all jobs staging (busy jobs wave) c.in_ok-effects.effects.items (begun c.args.image.now c.args.records.now) c.pages-pages.ensures.memory.whole
    (busy_apart jobs staging wave c.requires.apart) (busy_enough jobs staging wave c.requires.small.needs) c.in_ok-effects.ensures
