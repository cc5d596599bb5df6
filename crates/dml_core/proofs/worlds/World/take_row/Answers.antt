use Rattle.std.proofs.Common.{◌<◌, length, Err, ap, arith}
use Rattle.dml_types.specs.Job.{no_op_job}
use Rattle.dml_core.specs.Types.{Submit}
use Rattle.dml_core.proofs.GatherLemmas.{turn_reaches, turn_refused}
use Rattle.dml_core.proofs.ReplayLemmas.{replay_memory, replay_more, replay_refused}
use Rattle.dml_core.proofs.worlds.World.take_row.Goals as goal

pub returns-then-turn-clause-err : goal.returns-then-turn-clause-err
returns-then-turn-clause-err c = λ first before.
    turn_refused first c.args.self.now c.gather-turn.new.self c.args.steps.now c.args.place c.gather-turn.result.taken (Submit 0 no_op_job) (omega (arith, c.requires.within)) before c.gather-turn.ensures.reached (c.gather-turn.ensures.refused c.if-turn.true)

pub returns-in-Err-NotAllowed-clause-err : goal.returns-in-Err-NotAllowed-clause-err
returns-in-Err-NotAllowed-clause-err c = λ first before.
    let below : c.loop-i.i < length c.args.steps.now = omega (arith, c.gather-turn.ensures.within, c.requires.within) in
    replay_refused first c.loop-i.self c.take_alone.new.self c.args.steps.now c.loop-i.i (Submit 0 no_op_job) below (c.loop-i.invariant first before) c.in-Err-NotAllowed.ensures.err (c.in-Err-NotAllowed.ensures.not_allowed (ap Err c.in-Err-NotAllowed.field-0-is))

pub returns-in-Err-NoMemory-clause-err : goal.returns-in-Err-NoMemory-clause-err
returns-in-Err-NoMemory-clause-err c = λ first before.
    let below : c.loop-i.i < length c.args.steps.now = omega (arith, c.gather-turn.ensures.within, c.requires.within) in
    replay_memory first c.loop-i.self c.take_alone.new.self c.args.steps.now c.loop-i.i (Submit 0 no_op_job) below (c.loop-i.invariant first before) c.in-Err-NoMemory.ensures.err (c.in-Err-NoMemory.ensures.no_memory (ap Err c.in-Err-NoMemory.field-0-is)) (c.in-Err-NoMemory.ensures.may_grow (ap Err c.in-Err-NoMemory.field-0-is))

pub loop-i-preserved : goal.loop-i-preserved
loop-i-preserved c = λ first before.
    let below : c.loop-i.i < length c.args.steps.now = omega (arith, c.gather-turn.ensures.within, c.requires.within) in
    replay_more first c.loop-i.self c.take_alone.new.self c.args.steps.now c.loop-i.i (Submit 0 no_op_job) below (c.loop-i.invariant first before) c.in-Ok.ensures.allowed c.in-Ok.ensures.ok

pub loop-i-init : goal.loop-i-init
loop-i-init c = λ first before.
    turn_reaches first c.args.self.now c.gather-turn.new.self c.args.steps.now c.args.place c.gather-turn.result.taken before c.gather-turn.ensures.reached
