use Rattle.std.proofs.Common.{◌∙◌, length, ap, refl, subst}
use Rattle.dml_portal.specs.Log.{added, answers_in, jobs_in, part_of}
use Rattle.dml_portal.specs.Served.{RoundHasServed}
use Rattle.dml_portal.specs.Held.{AreTakenOrHeldUpTo}
use Rattle.dml_portal.specs.Whole.{kept_by, received_by}
use Rattle.dml_portal.proofs.HeldLemmas.{held_along, rooms_between}
use Rattle.dml_portal.proofs.LaneLemmas.{same_lanes}
use Rattle.dml_portal.proofs.ServedLemmas.{nothing_left}
use Rattle.dml_portal.proofs.WholeLemmas.{grown_between, grown_none, none_added, sent_again, sent_along}
use Rattle.dml_portal.proofs.long.LongServerOver.serve_up_to.Goals as goal

pub returns-in_default-clause-steps : goal.returns-in_default-clause-steps
returns-in_default-clause-steps g c =
    let start = c.args.self.now in
    nothing_left c.law_of_rounds.ensures.round start.engine.settings (length start.lanes.items) start.engine.image start.log.items c.make_room.new.log.items start.ready.least_workers
    c.law_of_image.ensures c.make_room.ensures.log

pub returns-in_default-clause-same : goal.returns-in_default-clause-same
returns-in_default-clause-same g c =
    same_lanes c.args.self.now.lanes.items c.push_all_late.new.lanes.items c.make_room.new.lanes.items c.push_all_late.ensures.same c.make_room.ensures.same

pub returns-in_default-clause-sent : goal.returns-in_default-clause-sent
returns-in_default-clause-sent g c =
    sent_along c.args.self.now.lanes.items c.push_all_late.new.lanes.items c.make_room.new.lanes.items c.make_room.ensures.same.0 c.push_all_late.ensures.same.0
    c.push_all_late.ensures.sent c.make_room.ensures.sent

pub returns-in_default-clause-pushed : goal.returns-in_default-clause-pushed
returns-in_default-clause-pushed g c = c.make_room.ensures.pushed c.push_all_late.ensures.pushed

pub returns-in_default-clause-received : goal.returns-in_default-clause-received
returns-in_default-clause-received g c =
    let log = c.args.self.now.log.items in
    grown_none received_by (λ client. jobs_in (part_of client (added log c.make_room.new.log.items))) c.args.self.now.lanes.items c.make_room.new.lanes.items
    (λ client. ap (λ xs. jobs_in (part_of client xs)) (none_added log c.make_room.new.log.items c.make_room.ensures.log))
    (c.make_room.ensures.same.0 ∙ c.push_all_late.ensures.same.0) (c.make_room.ensures.received ∙ c.push_all_late.ensures.received)

pub returns-in_default-clause-answered : goal.returns-in_default-clause-answered
returns-in_default-clause-answered g c =
    let log = c.args.self.now.log.items in
    grown_none kept_by (λ client. answers_in (part_of client (added log c.make_room.new.log.items))) c.args.self.now.lanes.items c.make_room.new.lanes.items
    (λ client. ap (λ xs. answers_in (part_of client xs)) (none_added log c.make_room.new.log.items c.make_room.ensures.log))
    (c.make_room.ensures.same.0 ∙ c.push_all_late.ensures.same.0) (c.make_room.ensures.kept ∙ c.push_all_late.ensures.kept)

pub returns-clause-taken : goal.returns-clause-taken
returns-clause-taken g c =
    let start = c.args.self.now in
    let made = c.make_room.new.lanes.items in
    let now = c.serve_in_room-fetched.new.self in
    let entries = added c.make_room.new.log.items now.log.items in
    subst (λ log. AreTakenOrHeldUpTo c.args.number c.args.most start.lanes.items (added log now.log.items) now.lanes.items) c.make_room.ensures.log
    (held_along c.args.number c.args.most start.lanes.items made now.lanes.items now.lanes.items entries entries (c.make_room.ensures.same.0 ∙ c.push_all_late.ensures.same.0) c.serve_in_room-fetched.ensures.same.0 refl
    (c.make_room.ensures.waiting ∙ c.push_all_late.ensures.waiting) refl (c.make_room.ensures.kept ∙ c.push_all_late.ensures.kept)
    (sent_along start.lanes.items c.push_all_late.new.lanes.items made c.make_room.ensures.same.0 c.push_all_late.ensures.same.0 c.push_all_late.ensures.sent c.make_room.ensures.sent)
    (sent_again now.lanes.items) refl c.serve_in_room-fetched.ensures.taken)

pub returns-clause-steps : goal.returns-clause-steps
returns-clause-steps g c =
    let start = c.args.self.now in
    let now = c.serve_in_room-fetched.new.self in
    subst (λ log. RoundHasServed start.engine.settings (length start.lanes.items) start.engine.image now.engine.image (added log now.log.items)) c.make_room.ensures.log
    (subst (λ clients. RoundHasServed start.engine.settings clients start.engine.image now.engine.image (added c.make_room.new.log.items now.log.items))
    (c.make_room.ensures.same.0 ∙ c.push_all_late.ensures.same.0) c.serve_in_room-fetched.ensures.steps)

pub returns-clause-received : goal.returns-clause-received
returns-clause-received g c =
    let start = c.args.self.now in
    let made = c.make_room.new.log.items in
    let now = c.serve_in_room-fetched.new.self in
    grown_between received_by (λ client. jobs_in (part_of client (added made now.log.items))) (λ client. jobs_in (part_of client (added start.log.items now.log.items)))
    start.lanes.items c.make_room.new.lanes.items now.lanes.items now.lanes.items
    (λ client. ap (λ log. jobs_in (part_of client (added log now.log.items))) c.make_room.ensures.log)
    (c.make_room.ensures.same.0 ∙ c.push_all_late.ensures.same.0) c.serve_in_room-fetched.ensures.same.0 refl
    (c.make_room.ensures.received ∙ c.push_all_late.ensures.received) refl c.serve_in_room-fetched.ensures.received

pub returns-clause-answered : goal.returns-clause-answered
returns-clause-answered g c =
    let start = c.args.self.now in
    let made = c.make_room.new.log.items in
    let now = c.serve_in_room-fetched.new.self in
    grown_between kept_by (λ client. answers_in (part_of client (added made now.log.items))) (λ client. answers_in (part_of client (added start.log.items now.log.items)))
    start.lanes.items c.make_room.new.lanes.items now.lanes.items now.lanes.items
    (λ client. ap (λ log. answers_in (part_of client (added log now.log.items))) c.make_room.ensures.log)
    (c.make_room.ensures.same.0 ∙ c.push_all_late.ensures.same.0) c.serve_in_room-fetched.ensures.same.0 refl
    (c.make_room.ensures.kept ∙ c.push_all_late.ensures.kept) refl c.serve_in_room-fetched.ensures.answered

pub returns-clause-sent : goal.returns-clause-sent
returns-clause-sent g c =
    let start = c.args.self.now.lanes.items in
    let pushed = c.push_all_late.new.lanes.items in
    let made = c.make_room.new.lanes.items in
    let now = c.serve_in_room-fetched.new.self.lanes.items in
    sent_along start made now c.serve_in_room-fetched.ensures.same.0 (c.make_room.ensures.same.0 ∙ c.push_all_late.ensures.same.0)
    (sent_along start pushed made c.make_room.ensures.same.0 c.push_all_late.ensures.same.0 c.push_all_late.ensures.sent c.make_room.ensures.sent)
    c.serve_in_room-fetched.ensures.sent

pub returns-clause-same : goal.returns-clause-same
returns-clause-same g c =
    let now = c.serve_in_room-fetched.new.self in
    same_lanes c.args.self.now.lanes.items c.push_all_late.new.lanes.items now.lanes.items c.push_all_late.ensures.same
    (same_lanes c.push_all_late.new.lanes.items c.make_room.new.lanes.items now.lanes.items c.make_room.ensures.same c.serve_in_room-fetched.ensures.same)

pub returns-in_default-clause-late_room : goal.returns-in_default-clause-late_room
returns-in_default-clause-late_room g c = λ bound here.
    let start = c.args.self.now.lanes.items in
    let made = c.make_room.new.lanes.items in
    rooms_between bound start c.push_all_late.new.lanes.items made made c.push_all_late.ensures.same.0 c.make_room.ensures.same.0 refl
    c.push_all_late.ensures.late_room (c.make_room.ensures.within bound here) refl

pub returns-clause-late_room : goal.returns-clause-late_room
returns-clause-late_room g c = λ bound here.
    let start = c.args.self.now.lanes.items in
    let made = c.make_room.new.lanes.items in
    let now = c.serve_in_room-fetched.new.self.lanes.items in
    rooms_between bound start c.push_all_late.new.lanes.items made now c.push_all_late.ensures.same.0 c.make_room.ensures.same.0 c.serve_in_room-fetched.ensures.same.0
    c.push_all_late.ensures.late_room (c.make_room.ensures.within bound here) c.serve_in_room-fetched.ensures.late_room
