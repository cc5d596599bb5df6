use Rattle.dml_portal.specs.Servers.{lanes_of}
use Rattle.dml_workloads.proofs.SeatLemmas.{seats_kept}
use Rattle.dml_workloads.proofs.clients.rounds.Goals as goal

pub loop-preserved : goal.loop-preserved
loop-preserved g c =
    let lanes = lanes_of c.loop.server in
    let submitted = c.submitted.ensures lanes c.loop.invariant in
    let served = seats_kept lanes (lanes_of c.served.new.server) c.submitted.new.seats.items c.served.ensures submitted in
    c.polled.ensures (lanes_of c.served.new.server) served
