use Rattle.std.proofs.Common.{◌≤◌, arith, length, map, refl}
use Rattle.std.specs.Prelude.{Err, Ok, OnErr, OnOk, Result}
use Rattle.dml_portal.specs.Log.{added, sent_for}
use Rattle.dml_portal.proofs.FetchLemmas.{fetched_within}
use Rattle.dml_portal.proofs.HeldLemmas.{bounded, bounded_still}
use Rattle.dml_portal.proofs.WholeLemmas.{grown_whole, none_added}
use Rattle.dml_portal.proofs.long.LongServerOver.serve_some.Goals as goal

either_way : {T E : Type 0} (result : Result T E) (P Q R : Type 0) → OnOk result P → OnErr result Q → (P → R) → (Q → R) → R
either_way (Ok value) P Q R ok err from_ok from_err = from_ok ok
either_way (Err error) P Q R ok err from_ok from_err = from_err err

pub returns-clause-bounded : goal.returns-clause-bounded
returns-clause-bounded g c =
    let start = c.args.self.now in
    let now = c.serve_up_to.new.self in
    let round = c.serve_up_to.ensures in
    let entries = added start.log.items now.log.items in
    let number = c.min.result in
    let few : number ≤ 128 = omega (arith, c.min.ensures) in
    either_way c.serve_up_to.result _ _ _ round.taken round.nothing_fetched
    (bounded number start.most (length start.lanes.items) start.lanes.items now.lanes.items entries
    (fetched_within number (length start.lanes.items) (map sent_for entries) few round.fetched) round.sent round.answered)
    (λ same. bounded_still start.most start.lanes.items now.lanes.items entries (none_added start.log.items now.log.items same) round.sent round.answered)

pub returns-clause-whole : goal.returns-clause-whole
returns-clause-whole g c =
    let start = c.args.self.now in
    let now = c.serve_up_to.new.self in
    let round = c.serve_up_to.ensures in
    grown_whole start.lanes.items now.lanes.items start.log.items now.log.items round.earlier round.same.0 round.received round.answered

pub returns-clause-late_room : goal.returns-clause-late_room
returns-clause-late_room g c = c.serve_up_to.ensures.late_room c.args.self.now.most refl
