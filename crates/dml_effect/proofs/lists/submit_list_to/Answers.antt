use Rattle.std.proofs.Common.{◌<◌, ◌≤◌, length, get_or, sym, subst, arith}
use Rattle.dml_types.specs.declared.jobs.Job.{Job}
use Rattle.dml_types.specs.Job.{no_op_job}
use Rattle.dml_types.specs.Refusal.{need}
use Rattle.dml_arena.specs.Block.{Block}
use Rattle.dml_effect.specs.Straight.{TakesStaging}
use Rattle.dml_effect.proofs.BatchLemmas.{room_in_list}
use Rattle.dml_effect.proofs.lists.submit_list_to.Goals as goal

pub submit_to-requires : goal.submit_to-requires
submit_to-requires c =
    let jobs = c.args.jobs.now in
    let i = c.loop-i.i in
    let below : i < length jobs = omega (arith, c.loop-i-test.true) in
    let job : Job = get_or jobs i no_op_job in
    let room = room_in_list jobs c.args.staging c.args.arena.now.size i below c.requires.staging in
    record { staging = subst (λ (a : Block). TakesStaging job c.args.staging → need job ≤ a.size) (sym c.loop-i.invariant.2) room }
