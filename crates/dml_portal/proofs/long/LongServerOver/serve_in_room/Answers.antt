use Rattle.std.proofs.Common.{◌≡◌, ◌∙◌, length, map, take, drop, refl, sym, ap, subst, arith}
use Rattle.dml_types.specs.Step.{records_of}
use Rattle.dml_portal.specs.Log.{added, answers_in, jobs_in, part_of, sent_for}
use Rattle.dml_portal.specs.Blocks.{AreBlocks}
use Rattle.dml_portal.specs.Whole.{kept_by, received_by}
use Rattle.dml_portal.specs.Served.{IsFetchedUpTo}
use Rattle.dml_portal.proofs.BlockLemmas.{blocks_along}
use Rattle.dml_portal.proofs.FetchLemmas.{fetched_within}
use Rattle.dml_portal.proofs.HeldLemmas.{held_along}
use Rattle.dml_portal.proofs.LaneLemmas.{same_lanes}
use Rattle.dml_portal.proofs.ServedLemmas.{round_left, round_log}
use Rattle.dml_portal.proofs.WholeLemmas.{blocks_answered, grown_between, same_jobs, sent_again, sent_along}
use Rattle.dml_portal.proofs.long.LongServerOver.serve_in_room.Goals as goal

pub returns-clause-earlier : goal.returns-clause-earlier
returns-clause-earlier g c =
    let left = round_left c.law_of_rounds.ensures.round c.args.self.now.engine.settings (length c.args.self.now.lanes.items) c.args.self.now.engine.image c.carry_out.new.self.engine.image
    c.args.self.now.log.items c.fetch_round.new.log.items c.carry_out.new.self.log.items c.fetch_round.ensures.fetched.0 c.fetch_round.new.jobs.items
    (records_of c.args.self.now.engine.image c.fetch_round.new.jobs.items c.args.self.now.engine.settings.staging) c.len-start.result
    c.args.self.now.ready.least_workers c.law_of_image.ensures
    (omega (arith, c.len-start.ensures, c.args.self.now.log.ok.0))
    c.fetch_round.ensures.fetched.1
    c.carry_out.ensures.log c.carry_out.ensures.earlier c.carry_out.ensures.answers
    c.fetch_round.ensures.fetched.2
    (fetched_within c.args.number (length c.args.self.now.lanes.items) (map sent_for c.fetch_round.ensures.fetched.0) (omega (arith, c.requires.number)) c.fetch_round.ensures.fetched.4)
    (omega (arith, c.fetch_round.ensures.fetched.3, c.args.self.now.few))
    c.carry_out.ensures.image refl in
    left.earlier

pub returns-clause-fetched : goal.returns-clause-fetched
returns-clause-fetched g c =
    let log = c.args.self.now.log.items in
    let fetched = c.fetch_round.new.log.items in
    let now = c.carry_out.new.self.log.items in
    let entries = c.fetch_round.ensures.fetched.0 in
    let start_is : c.len-start.result ≡ length log = omega (arith, c.len-start.ensures, c.args.self.now.log.ok.0) in
    let front : take (length log) now ≡ take (length log) fetched =
    ap (λ n. take n now) (sym start_is) ∙ (c.carry_out.ensures.earlier ∙ ap (λ n. take n fetched) start_is) in
    let round = round_log log fetched now entries c.fetch_round.ensures.fetched.1 c.carry_out.ensures.log front in
    subst (IsFetchedUpTo c.args.number (length c.args.self.now.lanes.items)) (sym round.sent) c.fetch_round.ensures.fetched.4

pub returns-clause-image : goal.returns-clause-image
returns-clause-image g c =
    let left = round_left c.law_of_rounds.ensures.round c.args.self.now.engine.settings (length c.args.self.now.lanes.items) c.args.self.now.engine.image c.carry_out.new.self.engine.image
    c.args.self.now.log.items c.fetch_round.new.log.items c.carry_out.new.self.log.items c.fetch_round.ensures.fetched.0 c.fetch_round.new.jobs.items
    (records_of c.args.self.now.engine.image c.fetch_round.new.jobs.items c.args.self.now.engine.settings.staging) c.len-start.result
    c.args.self.now.ready.least_workers c.law_of_image.ensures
    (omega (arith, c.len-start.ensures, c.args.self.now.log.ok.0))
    c.fetch_round.ensures.fetched.1
    c.carry_out.ensures.log c.carry_out.ensures.earlier c.carry_out.ensures.answers
    c.fetch_round.ensures.fetched.2
    (fetched_within c.args.number (length c.args.self.now.lanes.items) (map sent_for c.fetch_round.ensures.fetched.0) (omega (arith, c.requires.number)) c.fetch_round.ensures.fetched.4)
    (omega (arith, c.fetch_round.ensures.fetched.3, c.args.self.now.few))
    c.carry_out.ensures.image refl in
    left.image

pub returns-clause-answers : goal.returns-clause-answers
returns-clause-answers g c =
    let left = round_left c.law_of_rounds.ensures.round c.args.self.now.engine.settings (length c.args.self.now.lanes.items) c.args.self.now.engine.image c.carry_out.new.self.engine.image
    c.args.self.now.log.items c.fetch_round.new.log.items c.carry_out.new.self.log.items c.fetch_round.ensures.fetched.0 c.fetch_round.new.jobs.items
    (records_of c.args.self.now.engine.image c.fetch_round.new.jobs.items c.args.self.now.engine.settings.staging) c.len-start.result
    c.args.self.now.ready.least_workers c.law_of_image.ensures
    (omega (arith, c.len-start.ensures, c.args.self.now.log.ok.0))
    c.fetch_round.ensures.fetched.1
    c.carry_out.ensures.log c.carry_out.ensures.earlier c.carry_out.ensures.answers
    c.fetch_round.ensures.fetched.2
    (fetched_within c.args.number (length c.args.self.now.lanes.items) (map sent_for c.fetch_round.ensures.fetched.0) (omega (arith, c.requires.number)) c.fetch_round.ensures.fetched.4)
    (omega (arith, c.fetch_round.ensures.fetched.3, c.args.self.now.few))
    c.carry_out.ensures.image refl in
    left.answers

pub returns-clause-steps : goal.returns-clause-steps
returns-clause-steps g c =
    let left = round_left c.law_of_rounds.ensures.round c.args.self.now.engine.settings (length c.args.self.now.lanes.items) c.args.self.now.engine.image c.carry_out.new.self.engine.image
    c.args.self.now.log.items c.fetch_round.new.log.items c.carry_out.new.self.log.items c.fetch_round.ensures.fetched.0 c.fetch_round.new.jobs.items
    (records_of c.args.self.now.engine.image c.fetch_round.new.jobs.items c.args.self.now.engine.settings.staging) c.len-start.result
    c.args.self.now.ready.least_workers c.law_of_image.ensures
    (omega (arith, c.len-start.ensures, c.args.self.now.log.ok.0))
    c.fetch_round.ensures.fetched.1
    c.carry_out.ensures.log c.carry_out.ensures.earlier c.carry_out.ensures.answers
    c.fetch_round.ensures.fetched.2
    (fetched_within c.args.number (length c.args.self.now.lanes.items) (map sent_for c.fetch_round.ensures.fetched.0) (omega (arith, c.requires.number)) c.fetch_round.ensures.fetched.4)
    (omega (arith, c.fetch_round.ensures.fetched.3, c.args.self.now.few))
    c.carry_out.ensures.image refl in
    left.steps

pub returns-clause-same : goal.returns-clause-same
returns-clause-same g c =
    let fetched = c.fetch_round.new.lanes.items in
    let pushed = c.carry_out.new.self.lanes.items in
    let now = c.push_all_late.new.lanes.items in
    same_lanes c.args.self.now.lanes.items fetched now c.fetch_round.ensures.same
    (same_lanes fetched pushed now c.carry_out.ensures.same c.push_all_late.ensures.same)

pub returns-clause-sent : goal.returns-clause-sent
returns-clause-sent g c =
    let start = c.args.self.now.lanes.items in
    let fetched = c.fetch_round.new.lanes.items in
    let pushed = c.carry_out.new.self.lanes.items in
    let now = c.push_all_late.new.lanes.items in
    sent_along start fetched now (c.push_all_late.ensures.same.0 ∙ c.carry_out.ensures.same.0) c.fetch_round.ensures.same.0 c.fetch_round.ensures.sent
    (sent_along fetched pushed now c.push_all_late.ensures.same.0 c.carry_out.ensures.same.0 c.carry_out.ensures.sent c.push_all_late.ensures.sent)

pub returns-clause-taken : goal.returns-clause-taken
returns-clause-taken g c =
    let log = c.args.self.now.log.items in
    let fetched = c.fetch_round.new.log.items in
    let now = c.carry_out.new.self.log.items in
    let entries = c.fetch_round.ensures.fetched.0 in
    let start_is : c.len-start.result ≡ length log = omega (arith, c.len-start.ensures, c.args.self.now.log.ok.0) in
    let front : take (length log) now ≡ take (length log) fetched =
    ap (λ n. take n now) (sym start_is) ∙ (c.carry_out.ensures.earlier ∙ ap (λ n. take n fetched) start_is) in
    let round = round_log log fetched now entries c.fetch_round.ensures.fetched.1 c.carry_out.ensures.log front in
    let start = c.args.self.now.lanes.items in
    let lanes = c.fetch_round.new.lanes.items in
    let pushed = c.carry_out.new.self.lanes.items in
    let last = c.push_all_late.new.lanes.items in
    held_along c.args.number c.args.most start start lanes last entries (added log now) refl c.fetch_round.ensures.same.0 (c.push_all_late.ensures.same.0 ∙ c.carry_out.ensures.same.0)
    refl (c.push_all_late.ensures.waiting ∙ c.carry_out.ensures.waiting) refl (sent_again start)
    (sent_along lanes pushed last c.push_all_late.ensures.same.0 c.carry_out.ensures.same.0 c.carry_out.ensures.sent c.push_all_late.ensures.sent)
    round.sent c.fetch_round.ensures.fetched.5

pub returns-clause-received : goal.returns-clause-received
returns-clause-received g c =
    let log = c.args.self.now.log.items in
    let fetched = c.fetch_round.new.log.items in
    let now = c.carry_out.new.self.log.items in
    let entries = c.fetch_round.ensures.fetched.0 in
    let start_is : c.len-start.result ≡ length log = omega (arith, c.len-start.ensures, c.args.self.now.log.ok.0) in
    let front : take (length log) now ≡ take (length log) fetched =
    ap (λ n. take n now) (sym start_is) ∙ (c.carry_out.ensures.earlier ∙ ap (λ n. take n fetched) start_is) in
    let round = round_log log fetched now entries c.fetch_round.ensures.fetched.1 c.carry_out.ensures.log front in
    let lanes = c.args.self.now.lanes.items in
    grown_between received_by (λ client. jobs_in (part_of client entries)) (λ client. jobs_in (part_of client (added log now)))
    lanes lanes c.fetch_round.new.lanes.items c.push_all_late.new.lanes.items
    (same_jobs entries (added log now) round.sent) refl c.fetch_round.ensures.same.0
    (c.push_all_late.ensures.same.0 ∙ c.carry_out.ensures.same.0) refl (c.push_all_late.ensures.received ∙ c.carry_out.ensures.received) c.fetch_round.ensures.fetched.7

pub returns-clause-answered : goal.returns-clause-answered
returns-clause-answered g c =
    let log = c.args.self.now.log.items in
    let fetched = c.fetch_round.new.log.items in
    let now = c.carry_out.new.self.log.items in
    let entries = c.fetch_round.ensures.fetched.0 in
    let start_is : c.len-start.result ≡ length log = omega (arith, c.len-start.ensures, c.args.self.now.log.ok.0) in
    let front : take (length log) now ≡ take (length log) fetched =
    ap (λ n. take n now) (sym start_is) ∙ (c.carry_out.ensures.earlier ∙ ap (λ n. take n fetched) start_is) in
    let round = round_log log fetched now entries c.fetch_round.ensures.fetched.1 c.carry_out.ensures.log front in
    let lanes = c.fetch_round.new.lanes.items in
    let blocks : AreBlocks lanes (drop c.len-start.result now) =
    subst (λ n. AreBlocks lanes (drop n now)) (sym start_is) (blocks_along lanes entries (added log now) round.sent c.fetch_round.ensures.fetched.6) in
    let pushed = c.carry_out.new.self.lanes.items in
    grown_between kept_by (λ client. answers_in (part_of client (drop c.len-start.result now))) (λ client. answers_in (part_of client (added log now)))
    c.args.self.now.lanes.items lanes pushed c.push_all_late.new.lanes.items
    (λ client. ap (λ n. answers_in (part_of client (drop n now))) start_is)
    c.fetch_round.ensures.same.0 c.carry_out.ensures.same.0 c.push_all_late.ensures.same.0 c.fetch_round.ensures.kept c.push_all_late.ensures.kept
    (blocks_answered lanes pushed now c.len-start.result (records_of c.args.self.now.engine.image c.fetch_round.new.jobs.items c.args.self.now.engine.settings.staging) c.carry_out.ensures.same.0 c.carry_out.ensures.answers blocks c.carry_out.ensures.blocks)

pub returns-clause-late_room : goal.returns-clause-late_room
returns-clause-late_room g c = c.push_all_late.ensures.late_room ∙ (c.carry_out.ensures.late_room ∙ c.fetch_round.ensures.late_room)
