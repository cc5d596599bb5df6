use Rattle.std.proofs.Common.{◌≡◌, ◌∙◌, length, take, drop, refl, sym, ap, subst, arith}
use Rattle.dml_portal.specs.Log.{added}
use Rattle.dml_portal.specs.Lanes.{ArePopped, ArePushed}
use Rattle.dml_portal.specs.Blocks.{AreBlocks}
use Rattle.dml_portal.proofs.BlockLemmas.{blocks_along}
use Rattle.dml_portal.proofs.LaneLemmas.{popped_along, pushed_along, same_lanes}
use Rattle.dml_portal.proofs.ServedLemmas.{front_is, round_left, round_log, whole_is}
use Rattle.dml_portal.proofs.TakenLemmas.{taken_along, taken_unheld}
use Rattle.dml_portal.proofs.servers.ServerOver.serve_in_room.Goals as goal

pub push_round-requires-clause-popped : goal.push_round-requires-clause-popped
push_round-requires-clause-popped g c =
    subst (ArePopped c.fetch_round.new.lanes.items) (sym c.as_slice-2.ensures.value)
    (popped_along c.fetch_round.new.lanes.items c.fetch_round.new.log.items c.answer_round.new.log.items c.answer_round.ensures.sent (c.fetch_round.ensures.popped c.args.self.now.popped))

pub push_round-requires-clause-pushed : goal.push_round-requires-clause-pushed
push_round-requires-clause-pushed g c =
    let log = c.args.self.now.log.items in
    let now = c.answer_round.new.log.items in
    let fetched = c.fetch_round.new.log.items in
    let start_is : c.len-start.result ≡ length log = omega (arith, c.len-start.ensures, c.args.self.now.log.ok.0) in
    let front : take (length log) now ≡ log =
    ap (λ n. take n now) (sym start_is)
    ∙ (c.answer_round.ensures.earlier
    ∙ (ap (λ n. take n fetched) start_is ∙ front_is log fetched c.fetch_round.ensures.fetched.0 c.fetch_round.ensures.fetched.1)) in
    subst (ArePushed c.fetch_round.new.lanes.items) (sym (whole_is log now front) ∙ sym c.as_slice-2.ensures.value)
    (pushed_along c.fetch_round.new.lanes.items log (added log now) (c.fetch_round.ensures.pushed c.args.self.now.pushed))

pub push_round-requires-clause-blocks : goal.push_round-requires-clause-blocks
push_round-requires-clause-blocks g c =
    let log = c.args.self.now.log.items in
    let now = c.answer_round.new.log.items in
    let fetched = c.fetch_round.new.log.items in
    let entries = c.fetch_round.ensures.fetched.0 in
    let start_is : c.len-start.result ≡ length log = omega (arith, c.len-start.ensures, c.args.self.now.log.ok.0) in
    let front : take (length log) now ≡ take (length log) fetched =
    ap (λ n. take n now) (sym start_is) ∙ (c.answer_round.ensures.earlier ∙ ap (λ n. take n fetched) start_is) in
    let round = round_log log fetched now entries c.fetch_round.ensures.fetched.1 c.answer_round.ensures.sent front in
    subst (λ xs. AreBlocks c.fetch_round.new.lanes.items (drop c.len-start.result xs)) (sym c.as_slice-2.ensures.value)
    (subst (λ n. AreBlocks c.fetch_round.new.lanes.items (drop n now)) (sym start_is)
    (blocks_along c.fetch_round.new.lanes.items entries (added log now) round.sent c.fetch_round.ensures.fetched.6))

pub returns-clause-earlier : goal.returns-clause-earlier
returns-clause-earlier g c =
    let left = round_left c.law_of_rounds.ensures.round c.args.self.now.engine.settings (length c.args.self.now.lanes.items) c.args.self.now.engine.image c.submit_into.new.self.image
    c.args.self.now.log.items c.fetch_round.new.log.items c.answer_round.new.log.items c.fetch_round.ensures.fetched.0 c.as_slice.result.now c.as_slice-records.result.now c.len-start.result
    c.args.self.now.ready.least_workers c.law_of_image.ensures
    (omega (arith, c.len-start.ensures, c.args.self.now.log.ok.0))
    c.fetch_round.ensures.fetched.1
    c.answer_round.ensures.sent c.answer_round.ensures.earlier c.answer_round.ensures.answers
    (c.as_slice.ensures.value ∙ c.fetch_round.ensures.fetched.2)
    c.fetch_round.ensures.fetched.4
    (omega (arith, c.fetch_round.ensures.fetched.3, c.args.self.now.few))
    c.submit_into.ensures.image
    (c.as_slice-records.ensures.value ∙ c.submit_into.ensures.records) in
    left.earlier

pub returns-clause-fetched : goal.returns-clause-fetched
returns-clause-fetched g c =
    let left = round_left c.law_of_rounds.ensures.round c.args.self.now.engine.settings (length c.args.self.now.lanes.items) c.args.self.now.engine.image c.submit_into.new.self.image
    c.args.self.now.log.items c.fetch_round.new.log.items c.answer_round.new.log.items c.fetch_round.ensures.fetched.0 c.as_slice.result.now c.as_slice-records.result.now c.len-start.result
    c.args.self.now.ready.least_workers c.law_of_image.ensures
    (omega (arith, c.len-start.ensures, c.args.self.now.log.ok.0))
    c.fetch_round.ensures.fetched.1
    c.answer_round.ensures.sent c.answer_round.ensures.earlier c.answer_round.ensures.answers
    (c.as_slice.ensures.value ∙ c.fetch_round.ensures.fetched.2)
    c.fetch_round.ensures.fetched.4
    (omega (arith, c.fetch_round.ensures.fetched.3, c.args.self.now.few))
    c.submit_into.ensures.image
    (c.as_slice-records.ensures.value ∙ c.submit_into.ensures.records) in
    left.fetched

pub returns-clause-image : goal.returns-clause-image
returns-clause-image g c =
    let left = round_left c.law_of_rounds.ensures.round c.args.self.now.engine.settings (length c.args.self.now.lanes.items) c.args.self.now.engine.image c.submit_into.new.self.image
    c.args.self.now.log.items c.fetch_round.new.log.items c.answer_round.new.log.items c.fetch_round.ensures.fetched.0 c.as_slice.result.now c.as_slice-records.result.now c.len-start.result
    c.args.self.now.ready.least_workers c.law_of_image.ensures
    (omega (arith, c.len-start.ensures, c.args.self.now.log.ok.0))
    c.fetch_round.ensures.fetched.1
    c.answer_round.ensures.sent c.answer_round.ensures.earlier c.answer_round.ensures.answers
    (c.as_slice.ensures.value ∙ c.fetch_round.ensures.fetched.2)
    c.fetch_round.ensures.fetched.4
    (omega (arith, c.fetch_round.ensures.fetched.3, c.args.self.now.few))
    c.submit_into.ensures.image
    (c.as_slice-records.ensures.value ∙ c.submit_into.ensures.records) in
    left.image

pub returns-clause-answers : goal.returns-clause-answers
returns-clause-answers g c =
    let left = round_left c.law_of_rounds.ensures.round c.args.self.now.engine.settings (length c.args.self.now.lanes.items) c.args.self.now.engine.image c.submit_into.new.self.image
    c.args.self.now.log.items c.fetch_round.new.log.items c.answer_round.new.log.items c.fetch_round.ensures.fetched.0 c.as_slice.result.now c.as_slice-records.result.now c.len-start.result
    c.args.self.now.ready.least_workers c.law_of_image.ensures
    (omega (arith, c.len-start.ensures, c.args.self.now.log.ok.0))
    c.fetch_round.ensures.fetched.1
    c.answer_round.ensures.sent c.answer_round.ensures.earlier c.answer_round.ensures.answers
    (c.as_slice.ensures.value ∙ c.fetch_round.ensures.fetched.2)
    c.fetch_round.ensures.fetched.4
    (omega (arith, c.fetch_round.ensures.fetched.3, c.args.self.now.few))
    c.submit_into.ensures.image
    (c.as_slice-records.ensures.value ∙ c.submit_into.ensures.records) in
    left.answers

pub returns-clause-steps : goal.returns-clause-steps
returns-clause-steps g c =
    let left = round_left c.law_of_rounds.ensures.round c.args.self.now.engine.settings (length c.args.self.now.lanes.items) c.args.self.now.engine.image c.submit_into.new.self.image
    c.args.self.now.log.items c.fetch_round.new.log.items c.answer_round.new.log.items c.fetch_round.ensures.fetched.0 c.as_slice.result.now c.as_slice-records.result.now c.len-start.result
    c.args.self.now.ready.least_workers c.law_of_image.ensures
    (omega (arith, c.len-start.ensures, c.args.self.now.log.ok.0))
    c.fetch_round.ensures.fetched.1
    c.answer_round.ensures.sent c.answer_round.ensures.earlier c.answer_round.ensures.answers
    (c.as_slice.ensures.value ∙ c.fetch_round.ensures.fetched.2)
    c.fetch_round.ensures.fetched.4
    (omega (arith, c.fetch_round.ensures.fetched.3, c.args.self.now.few))
    c.submit_into.ensures.image
    (c.as_slice-records.ensures.value ∙ c.submit_into.ensures.records) in
    left.steps

pub returns-clause-same : goal.returns-clause-same
returns-clause-same g c =
    let fetched = c.fetch_round.new.lanes.items in
    let pushed = c.push_round.new.lanes.items in
    let now = c.push_all_answers.new.lanes.items in
    same_lanes c.args.self.now.lanes.items fetched now c.fetch_round.ensures.same
    (same_lanes fetched pushed now c.push_round.ensures.same c.push_all_answers.ensures.same)

pub returns-clause-taken : goal.returns-clause-taken
returns-clause-taken g c =
    let log = c.args.self.now.log.items in
    let lanes = c.args.self.now.lanes.items in
    let start_is : c.len-start.result ≡ length log = omega (arith, c.len-start.ensures, c.args.self.now.log.ok.0) in
    let entries = c.fetch_round.ensures.fetched.0 in
    let front : take (length log) c.answer_round.new.log.items ≡ take (length log) c.fetch_round.new.log.items =
    ap (λ n. take n c.answer_round.new.log.items) (sym start_is)
    ∙ (c.answer_round.ensures.earlier ∙ ap (λ n. take n c.fetch_round.new.log.items) start_is) in
    let round = round_log log c.fetch_round.new.log.items c.answer_round.new.log.items entries
    c.fetch_round.ensures.fetched.1 c.answer_round.ensures.sent front in
    taken_along lanes lanes c.fetch_round.new.lanes.items c.push_all_answers.new.lanes.items
    entries (added log c.answer_round.new.log.items) refl (c.push_all_answers.ensures.waiting ∙ c.push_round.ensures.waiting) round.sent (taken_unheld lanes entries c.fetch_round.new.lanes.items c.fetch_round.ensures.fetched.5)
