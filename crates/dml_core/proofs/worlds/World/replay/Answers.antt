use Rattle.std.proofs.Common.{◌<◌, length, Err, ap, arith}
use Rattle.dml_types.specs.Job.{no_op_job}
use Rattle.dml_core.specs.Types.{Submit}
use Rattle.dml_core.proofs.ReplayLemmas.{replay_memory, replay_more, replay_refused}
use Rattle.dml_core.proofs.worlds.World.replay.Goals as goal

pub loop-place-preserved : goal.loop-place-preserved
loop-place-preserved c =
    let below : c.loop-place.place < length c.args.steps.now = omega arith in (
      omega arith,
      replay_more c.args.self c.loop-place.world c.take_step.new.self c.args.steps.now c.loop-place.place (Submit 0 no_op_job) below c.loop-place.invariant.1 c.in-Ok-take_step.ensures.allowed c.in-Ok-take_step.ensures.ok,
    )

pub returns-in-Err-NotAllowed-clause-err : goal.returns-in-Err-NotAllowed-clause-err
returns-in-Err-NotAllowed-clause-err c =
    let below : c.loop-place.place < length c.args.steps.now = omega arith in
    replay_refused c.args.self c.loop-place.world c.take_step.new.self c.args.steps.now c.loop-place.place (Submit 0 no_op_job) below c.loop-place.invariant.1 c.in-Err-NotAllowed.ensures.err (c.in-Err-NotAllowed.ensures.not_allowed (ap Err c.in-Err-NotAllowed.field-0-is))

pub returns-in-Err-NoMemory-clause-err : goal.returns-in-Err-NoMemory-clause-err
returns-in-Err-NoMemory-clause-err c =
    let below : c.loop-place.place < length c.args.steps.now = omega arith in
    replay_memory c.args.self c.loop-place.world c.take_step.new.self c.args.steps.now c.loop-place.place (Submit 0 no_op_job) below c.loop-place.invariant.1 c.in-Err-NoMemory.ensures.err (c.in-Err-NoMemory.ensures.no_memory (ap Err c.in-Err-NoMemory.field-0-is)) (c.in-Err-NoMemory.ensures.may_grow (ap Err c.in-Err-NoMemory.field-0-is))
