use Rattle.std.proofs.Common.{◌≡◌, true, ◌++◌, ◌∙◌, length, take, drop, refl, sym, ap, arith, rules}
use Rattle.std.proofs.Math.Nat.{add-sub_cancel_left}
use Rattle.std.specs.Prelude.{Err, Ok, OnOk, Result}
use Rattle.std.specs.Result.{is_ok}
use Rattle.rtrb.specs.Ring.{sent}
use Rattle.dml_portal.specs.declared.lanes.Lane.{Lane}
use Rattle.dml_portal.proofs.BlockLemmas.{block_fits, block_pushed}
use Rattle.dml_portal.proofs.answering.push_block.Goals as goal

pub overflow_add-block : goal.overflow_add-block
overflow_add-block c =
    search (rules, block_fits c.args.log.now c.args.client c.args.lane.now c.args.start c.args.records.now c.requires.answers c.requires.block)

pub offset_bounds-records-lane : goal.offset_bounds-records-lane
offset_bounds-records-lane c =
    search (rules, block_fits c.args.log.now c.args.client c.args.lane.now c.args.start c.args.records.now c.requires.answers c.requires.block)

pub slice_bounds-block-end : goal.slice_bounds-block-end
slice_bounds-block-end c =
    search (rules, block_fits c.args.log.now c.args.client c.args.lane.now c.args.start c.args.records.now c.requires.answers c.requires.block)

on_ok : {T E : Type 0} (result : Result T E) (P : Type 0) → OnOk result P → is_ok result ≡ true → P
on_ok (Ok value) P held is = held
on_ok (Err error) P held is = absurd (search rules)

pub returns-then-is_ok-clause-pushed : goal.returns-then-is_ok-clause-pushed
returns-then-is_ok-clause-pushed c =
    let lane = c.args.lane.now in
    let log = c.args.log.now in
    let records = c.args.records.now in
    let ok = on_ok c.push_entire_slice.result _ c.push_entire_slice.ensures.ok (sym c.is_ok.ensures.value ∙ c.if-is_ok.true) in
    let now : Lane = record { jobs = lane.jobs; records = c.push_entire_slice.new.self; answered = length log; late = lane.late; before = lane.before; fetched = lane.fetched } in
    block_pushed log c.args.client lane now c.args.start records c.requires.answers c.requires.block c.requires.pushed (omega (arith, c.if-lane-start.true))
    (ok.0 ∙ ap (λ n. sent lane.records ++ take n (drop lane.before records)) (add-sub_cancel_left lane.before lane.fetched))
    refl
