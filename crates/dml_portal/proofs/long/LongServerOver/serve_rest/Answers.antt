use Rattle.std.proofs.Common.{◌∙◌, ◌++◌, length, refl, ap, subst, sym}
use Rattle.dml_portal.specs.Log.{added}
use Rattle.dml_portal.specs.Settled.{EachDone, IsSettled}
use Rattle.dml_portal.proofs.LaneLemmas.{same_lanes}
use Rattle.dml_portal.proofs.LookLemmas.{same_lanes_again, seats_same, unused_seats, unused_seats_again}
use Rattle.dml_portal.proofs.ServedLemmas.{exits, grown_none, grown_round, grown_still}
use Rattle.dml_portal.proofs.RingLeftLemmas.{fewer_left}
use Rattle.dml_portal.proofs.TakenLemmas.{taken_unheld}
use Rattle.dml_portal.proofs.WholeLemmas.{grown_whole, still_whole}
use Rattle.dml_portal.proofs.long.LongServerOver.serve_rest.Goals as goal

pub loop-alloc-init : goal.loop-alloc-init
loop-alloc-init g c =
    let start = c.args.self.now in (
      grown_none start.engine.settings (length start.lanes.items) start.engine.image start.log.items,
      refl,
      same_lanes_again start.lanes.items,
      c.requires,
      unused_seats_again c.args.dones.now.items,
      still_whole start.lanes.items start.log.items,
      refl,
    )

pub loop-alloc-preserved : goal.loop-alloc-preserved
loop-alloc-preserved g c =
    let start = c.args.self.now in
    let before = c.loop-alloc.invariant in
    let looked = c.is_drained.ensures in
    let round = c.serve_up_to.ensures in (
      grown_round c.law_of_folds.ensures.image_in_parts c.law_of_folds.ensures.records_in_parts start.engine.settings (length start.lanes.items) start.engine.image start.log.items
          c.loop-alloc.self.engine.image c.is_drained.new.self.engine.image c.serve_up_to.new.self.engine.image c.loop-alloc.self.log.items c.is_drained.new.self.log.items c.serve_up_to.new.self.log.items
          c.is_drained.new.self.engine.settings (length c.is_drained.new.self.lanes.items) before.0
          (ap (λ engine. engine.image) looked.engine) looked.log (ap (λ engine. engine.settings) looked.engine ∙ before.1) (looked.same.0 ∙ before.2.0)
          c.is_drained.new.self.few round.earlier round.image round.answers round.fetched round.most,
      round.settings ∙ (ap (λ engine. engine.settings) looked.engine ∙ before.1),
      same_lanes start.lanes.items c.is_drained.new.self.lanes.items c.serve_up_to.new.self.lanes.items
          (same_lanes start.lanes.items c.loop-alloc.self.lanes.items c.is_drained.new.self.lanes.items before.2 looked.same) round.same,
      seats_same c.is_drained.new.self.lanes.items c.serve_up_to.new.self.lanes.items c.is_drained.new.dones.items round.same looked.seats,
      unused_seats c.args.dones.now.items c.loop-alloc.dones.items c.is_drained.new.dones.items before.4 looked.unused,
      (λ earlier whole. grown_whole c.is_drained.new.self.lanes.items c.serve_up_to.new.self.lanes.items c.is_drained.new.self.log.items c.serve_up_to.new.self.log.items round.earlier round.same.0 round.received round.answered earlier (looked.whole earlier (before.5 earlier whole))),
      round.bound ∙ (looked.bound ∙ before.6),
    )

pub returns-in_err-serve_up_to-clause-steps : goal.returns-in_err-serve_up_to-clause-steps
returns-in_err-serve_up_to-clause-steps g c =
    let start = c.args.self.now in
    let before = c.loop-alloc.invariant in
    let looked = c.is_drained.ensures in
    let round = c.serve_up_to.ensures in
    let left = exits c.law_of_rounds.ensures.rounds start.engine.settings (length start.lanes.items) start.engine.image start.log.items c.serve_up_to.new.self.engine.image
    c.serve_up_to.new.self.log.items start.ready.least_workers c.law_of_image.ensures
    (grown_round c.law_of_folds.ensures.image_in_parts c.law_of_folds.ensures.records_in_parts start.engine.settings (length start.lanes.items) start.engine.image start.log.items
    c.loop-alloc.self.engine.image c.is_drained.new.self.engine.image c.serve_up_to.new.self.engine.image c.loop-alloc.self.log.items c.is_drained.new.self.log.items c.serve_up_to.new.self.log.items
    c.is_drained.new.self.engine.settings (length c.is_drained.new.self.lanes.items) before.0
    (ap (λ engine. engine.image) looked.engine) looked.log (ap (λ engine. engine.settings) looked.engine ∙ before.1) (looked.same.0 ∙ before.2.0)
    c.is_drained.new.self.few round.earlier round.image round.answers round.fetched round.most) in
    left.steps

pub returns-in_err-serve_up_to-clause-same : goal.returns-in_err-serve_up_to-clause-same
returns-in_err-serve_up_to-clause-same g c =
    let start = c.args.self.now.lanes.items in
    let looked = c.is_drained.new.self.lanes.items in
    same_lanes start looked c.serve_up_to.new.self.lanes.items
    (same_lanes start c.loop-alloc.self.lanes.items looked c.loop-alloc.invariant.2 c.is_drained.ensures.same) c.serve_up_to.ensures.same

pub returns-in_err-serve_up_to-clause-unused : goal.returns-in_err-serve_up_to-clause-unused
returns-in_err-serve_up_to-clause-unused g c =
    unused_seats c.args.dones.now.items c.loop-alloc.dones.items c.is_drained.new.dones.items c.loop-alloc.invariant.4 c.is_drained.ensures.unused

pub returns-clause-steps : goal.returns-clause-steps
returns-clause-steps g c =
    let start = c.args.self.now in
    let before = c.loop-alloc.invariant in
    let looked = c.is_drained.ensures in
    let left = exits c.law_of_rounds.ensures.rounds start.engine.settings (length start.lanes.items) start.engine.image start.log.items c.is_drained.new.self.engine.image
    c.is_drained.new.self.log.items start.ready.least_workers c.law_of_image.ensures
    (grown_still start.engine.settings (length start.lanes.items) start.engine.image start.log.items c.loop-alloc.self.engine.image c.is_drained.new.self.engine.image
    c.loop-alloc.self.log.items c.is_drained.new.self.log.items before.0 (ap (λ engine. engine.image) looked.engine) looked.log) in
    left.steps

pub returns-clause-same : goal.returns-clause-same
returns-clause-same g c =
    same_lanes c.args.self.now.lanes.items c.loop-alloc.self.lanes.items c.is_drained.new.self.lanes.items c.loop-alloc.invariant.2 c.is_drained.ensures.same

pub returns-clause-unused : goal.returns-clause-unused
returns-clause-unused g c =
    unused_seats c.args.dones.now.items c.loop-alloc.dones.items c.is_drained.new.dones.items c.loop-alloc.invariant.4 c.is_drained.ensures.unused

pub returns-clause-settled : goal.returns-clause-settled
returns-clause-settled g c = λ earlier whole.
    subst (λ log. EachDone (IsSettled (earlier ++ log)) c.is_drained.new.dones.items) (sym c.is_drained.ensures.log)
    (c.is_drained.ensures.settled c.loop-alloc-test.false earlier (c.loop-alloc.invariant.5 earlier whole))

pub returns-clause-whole : goal.returns-clause-whole
returns-clause-whole g c earlier whole = c.is_drained.ensures.whole earlier (c.loop-alloc.invariant.5 earlier whole)

pub returns-in_err-serve_up_to-clause-whole : goal.returns-in_err-serve_up_to-clause-whole
returns-in_err-serve_up_to-clause-whole g c earlier whole =
    let round = c.serve_up_to.ensures in
    grown_whole c.is_drained.new.self.lanes.items c.serve_up_to.new.self.lanes.items c.is_drained.new.self.log.items c.serve_up_to.new.self.log.items round.earlier round.same.0 round.received round.answered
    earlier (c.is_drained.ensures.whole earlier (c.loop-alloc.invariant.5 earlier whole))

pub loop-alloc-smaller : goal.loop-alloc-smaller
loop-alloc-smaller g c =
    let looked = c.is_drained.ensures in
    let round = c.serve_up_to.ensures in
    fewer_left c.loop-alloc.self.lanes.items c.is_drained.new.self.lanes.items c.serve_up_to.new.self.lanes.items
    (added c.is_drained.new.self.log.items c.serve_up_to.new.self.log.items) c.loop-alloc.dones.items c.is_drained.new.dones.items
    looked.lanes looked.unused looked.seats round.same.0 round.received
    (taken_unheld c.is_drained.new.self.lanes.items (added c.is_drained.new.self.log.items c.serve_up_to.new.self.log.items) c.serve_up_to.new.self.lanes.items c.in_ok-serve_up_to.ensures.taken) (looked.left c.loop-alloc-test.true)
