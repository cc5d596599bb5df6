use Rattle.std.proofs.Common.{length, subst}
use Rattle.dml_portal.specs.Log.{added}
use Rattle.dml_portal.specs.Lanes.{AreTaken}
use Rattle.dml_portal.specs.Served.{RoundHasServed}
use Rattle.dml_portal.proofs.ServedLemmas.{nothing_left}
use Rattle.dml_portal.proofs.TakenLemmas.{taken_from}
use Rattle.dml_portal.proofs.servers.ServerOver.serve_round.Goals as goal

pub returns-in_default-clause-steps : goal.returns-in_default-clause-steps
returns-in_default-clause-steps g c =
    let start = c.args.self.now in
    nothing_left c.law_of_rounds.ensures.round start.engine.settings (length start.lanes.items) start.engine.image start.log.items c.make.new.log.items start.ready.least_workers
    c.law_of_image.ensures c.make.ensures.log

pub returns-clause-taken : goal.returns-clause-taken
returns-clause-taken g c =
    let start = c.args.self.now in
    let now = c.serve_in_room-number.new.self in
    subst (λ log. AreTaken start.lanes.items (added log now.log.items) now.lanes.items) c.make.ensures.log
    (taken_from start.lanes.items c.push_all_answers.new.lanes.items now.lanes.items (added c.make.new.log.items now.log.items) c.push_all_answers.ensures.waiting
    c.serve_in_room-number.ensures.taken)

pub returns-clause-steps : goal.returns-clause-steps
returns-clause-steps g c =
    let start = c.args.self.now in
    let now = c.serve_in_room-number.new.self in
    subst (λ log. RoundHasServed start.engine.settings (length start.lanes.items) start.engine.image now.engine.image (added log now.log.items)) c.make.ensures.log
    (subst (λ clients. RoundHasServed start.engine.settings clients start.engine.image now.engine.image (added c.make.new.log.items now.log.items)) c.push_all_answers.ensures.same.0
    c.serve_in_room-number.ensures.steps)
