use Rattle.std.proofs.Common.{◌++◌, length, sym, subst}
use Rattle.dml_portal.specs.Settled.{EachDone, IsSettled}
use Rattle.dml_portal.proofs.LookLemmas.{all_settled, finished_same, same_lanes_again}
use Rattle.dml_portal.proofs.ServedLemmas.{exits, grown_none}
use Rattle.dml_portal.proofs.WholeLemmas.{still_whole}
use Rattle.dml_portal.proofs.long.LongServerOver.settle.Goals as goal

pub returns-then-not-have_finished-clause-kept_lanes :
    goal.returns-then-not-have_finished-clause-kept_lanes
returns-then-not-have_finished-clause-kept_lanes g c = same_lanes_again c.args.self.lanes.items

pub returns-clause-settled : goal.returns-clause-settled
returns-clause-settled g c = λ earlier whole.
    subst (λ log. EachDone (IsSettled (earlier ++ log)) c.args.dones.items) (sym c.give_up.ensures.log)
    (all_settled (earlier ++ c.serve_rest.new.self.log.items) c.args.dones.items c.serve_rest.new.dones.items c.serve_rest.ensures.unused (c.in-Ok.ensures.settled earlier whole))

pub returns-then-not-have_finished-clause-kept_steps :
    goal.returns-then-not-have_finished-clause-kept_steps
returns-then-not-have_finished-clause-kept_steps g c =
    let start = c.args.self in
    let left = exits c.law_of_rounds.ensures.rounds start.engine.settings (length start.lanes.items) start.engine.image start.log.items start.engine.image start.log.items
    start.ready.least_workers c.law_of_image.ensures
    (grown_none start.engine.settings (length start.lanes.items) start.engine.image start.log.items) in
    left.steps

pub returns-then-not-have_finished-clause-kept_whole :
    goal.returns-then-not-have_finished-clause-kept_whole
returns-then-not-have_finished-clause-kept_whole g c = still_whole c.args.self.lanes.items c.args.self.log.items

pub returns-in_default-clause-kept_finished : goal.returns-in_default-clause-kept_finished
returns-in_default-clause-kept_finished g c =
    finished_same (length c.args.self.lanes.items) (length c.serve_rest.new.self.lanes.items) c.args.dones.items c.serve_rest.new.dones.items c.serve_rest.ensures.same.0
    c.serve_rest.ensures.unused
