use Rattle.std.proofs.Common.{List, ◌++◌, sym, subst}
use Rattle.std.specs.Prelude.{Err, IfOk, IfSome, Ok, Result}
use Rattle.std.specs.Result.{result_ok}
use Rattle.dml_portal.specs.Settled.{AreSeatsOf, EachDone, IsSettled}
use Rattle.dml_portal.specs.Whole.{AreWhole}
use Rattle.dml_portal.specs.declared.logs.LogEntry.{LogEntry}
use Rattle.dml_portal.proofs.LookLemmas.{seats_same}
use Rattle.dml_portal_tests.proofs.tests.parts.taken_and_settled.Goals as goal

-- what follows from what a clause says of the value in an `Ok`, where the value alone is kept
value_kept : {X E : Type 0} (r : Result X E) (P Q : X → Type 0) → ((x : X) → P x → Q x) → IfOk r P → IfSome (result_ok r) Q
value_kept (Ok x) P Q more known = more x known
value_kept (Err e) P Q more known = known

pub settle-requires-clause-seats : goal.settle-requires-clause-seats
settle-requires-clause-seats g c κs within =
    subst (λ lanes. AreSeatsOf lanes c.args.dones.items) (sym c.take_log.ensures.lanes)
    (seats_same c.args.server.lanes.items c.serve_round.new.self.lanes.items c.args.dones.items c.serve_round.ensures.same c.requires.seats)

pub returns : goal.returns
returns g c =
    let left = c.take_log.new.self in
    let earlier = c.args.into.now.items in
    let all = c.take_log.new.into.items in
    let whole : AreWhole left.lanes.items (all ++ left.log.items) =
    subst (λ log. AreWhole left.lanes.items (log ++ left.log.items)) (sym {A = List LogEntry} c.in-Ok-take_log.ensures.taken)
    (c.in-Ok-take_log.ensures.whole earlier (c.serve_round.ensures.whole earlier c.requires.whole)) in
    record {
      settled =
          subst (λ kept. IfSome kept (λ settled. EachDone (IsSettled (all ++ settled.log)) c.args.dones.items)) (sym c.ok.ensures.value)
          (value_kept c.settle.result _ _ (λ settled known. known all whole) c.settle.ensures.settled);
    }
