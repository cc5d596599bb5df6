use Rattle.dml_portal.proofs.LaneLemmas.{same_lanes}
use Rattle.dml_portal.proofs.LookLemmas.{same_lanes_again}
use Rattle.dml_portal_tests.proofs.tests.clients.served.Goals as goal

pub loop-init : goal.loop-init
loop-init g c = same_lanes_again c.args.server.lanes.items

pub loop-preserved : goal.loop-preserved
loop-preserved g c =
    same_lanes c.args.server.lanes.items c.loop.server.lanes.items c.serve.new.server.lanes.items c.loop.invariant c.serve.ensures
