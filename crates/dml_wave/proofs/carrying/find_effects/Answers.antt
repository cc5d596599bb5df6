use Rattle.std.proofs.Common.{vec_capacity, sym, subst, arith}
use Rattle.dml_wave.specs.Effects.{HoldOutcomes}
use Rattle.dml_wave.proofs.carrying.find_effects.Goals as goal

pub join_lists-requires-clause-outcomes : goal.join_lists-requires-clause-outcomes
join_lists-requires-clause-outcomes g c =
    let tasks = c.in_ok-queue.queue.tasks in
    let count = vec_capacity c.in_ok-slots.slots in
    let held : HoldOutcomes c.args.image.now c.args.jobs.now c.args.settings.now.chunk c.args.wave.now count c.in_ok-lists.lists.items = record {
      tasks = tasks;
      are = c.in_ok-queue.ensures.tasks;
      all = c.in_ok-lists.ensures;
      long = omega (arith, c.in_ok-slots.ensures.exact, c.in_ok-slots.ensures.capacity, c.len.ensures);
    } in
    subst (HoldOutcomes c.args.image.now c.args.jobs.now c.args.settings.now.chunk c.args.wave.now count) (sym c.as_mut_slice.ensures.value) held
