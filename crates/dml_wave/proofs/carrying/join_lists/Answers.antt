use Rattle.std.proofs.Common.{◌≡◌, Some, length, map, sym, ap, ◌∙◌, subst}
use Rattle.dml_pool.specs.declared.tasks.Outcome.{Outcome}
use Rattle.dml_pool.proofs.Holds.{all_within}
use Rattle.dml_wave.specs.Effects.{HoldWave}
use Rattle.dml_wave.proofs.ValueLemmas.{values_in, wave_held}
use Rattle.dml_wave.proofs.carrying.join_lists.Goals as goal

pub in_order-requires-clause-within : goal.in_order-requires-clause-within
in_order-requires-clause-within c =
    let held = c.requires.outcomes in
    let long : length c.as_mut_slice-row.result.now ≡ length held.tasks =
    ap length c.as_mut_slice-row.ensures.value ∙ (c.empty_slots-slots.ensures.count ∙ held.long) in
    all_within c.args.image.now held.tasks c.args.lists.now (length c.as_mut_slice-row.result.now) held.all long

pub effects_of-requires-clause-slots : goal.effects_of-requires-clause-slots
effects_of-requires-clause-slots c =
    let memory = c.args.image.now in
    let jobs = c.args.jobs.now in
    let chunk = c.args.chunk in
    let wave = c.args.wave.now in
    let held = c.requires.outcomes in
    let long : length c.as_mut_slice-row.result.now ≡ length held.tasks =
    ap length c.as_mut_slice-row.ensures.value ∙ (c.empty_slots-slots.ensures.count ∙ held.long) in
    let filled = c.in_order.ensures.filled memory held.tasks held.all long in
    subst (HoldWave memory jobs chunk wave) (sym filled.full)
    (wave_held memory jobs chunk wave held.tasks (map (λ (o : Outcome). Some o) filled.outcomes) held.are (values_in memory held.tasks filled.outcomes filled.values))
