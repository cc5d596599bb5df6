use Rattle.std.proofs.Common.{refl, ◌≡◌, ◌+◌, ◌∙◌, ◌++◌, drop, length, map, take, ap, subst, arith, inr}
use Rattle.std.proofs.lemmas.List.{length-take-le, nil_from_length, take-append-le}
use Rattle.rtrb.specs.Ring.{known_items, received}
use Rattle.dml_portal.specs.Lanes.{waiting}
use Rattle.dml_portal.specs.Blank.{blank}
use Rattle.dml_portal.specs.declared.lanes.Lane.{Lane}
use Rattle.dml_portal.proofs.LaneLemmas.{same_lane}
use Rattle.dml_portal.proofs.TakenLemmas.{FetchedSoFar, batch_fetched}
use Rattle.dml_portal.proofs.fetching.fetch_batches.Goals as goal

pub returns-then-count-most-clause-fetched : goal.returns-then-count-most-clause-fetched
returns-then-count-most-clause-fetched c =
    let before = c.loop-left.invariant in
    let start = c.args.lane.now in
    let lane = c.loop-left.lane in
    let popped = c.pop_partial_slice-count.ensures in
    let ring = c.pop_partial_slice-count.new.self in
    let more = take c.pop_partial_slice-count.result c.pop_partial_slice-count.new.slice in
    let room : length (take c.min-most.result c.loop-left.batch) ≡ c.min-most.result = length-take-le c.min-most.result c.loop-left.batch (omega (arith, c.min-most.ensures)) in
    let mine = take-append-le c.pop_partial_slice-count.result c.pop_partial_slice-count.new.slice (drop c.min-most.result c.loop-left.batch) (omega (arith, popped.received.0)) in
    let log_is = c.add_batch.ensures.log ∙ ap (λ xs. c.loop-left.log.items ++ map (blank c.args.client) xs) mine in
    let jobs_are = c.add_batch.ensures.jobs ∙ ap (λ xs. c.loop-left.jobs.items ++ xs) mine in
    let done =
    batch_fetched c.args.client lane.fetched (received start.jobs) (received lane.jobs) (received ring) c.args.log.now.items c.loop-left.log.items c.add_batch.new.log.items
    c.args.jobs.now.items c.loop-left.jobs.items c.add_batch.new.jobs.items (waiting start) (waiting lane) (known_items ring) more
    before.0 popped.received.1 log_is jobs_are popped.known in
    let few : length more ≡ c.pop_partial_slice-count.result = length-take-le c.pop_partial_slice-count.result c.pop_partial_slice-count.new.slice (omega (arith, popped.received.0)) in (
      done.0,
      done.1,
      done.2,
      done.3,
      omega (arith, done.4, few, before.8, c.if-count-most.true, c.min-most.ensures),
      record { first = done.5; most = inr (nil_from_length (known_items ring) (popped.most (omega (arith, c.if-count-most.true, room)))) },
    )

pub loop-left-preserved : goal.loop-left-preserved
loop-left-preserved c =
    let before = c.loop-left.invariant in
    let start = c.args.lane.now in
    let lane = c.loop-left.lane in
    let popped = c.pop_partial_slice-count.ensures in
    let ring = c.pop_partial_slice-count.new.self in
    let count = c.pop_partial_slice-count.result in
    let more = take count c.pop_partial_slice-count.new.slice in
    let room : length (take c.min-most.result c.loop-left.batch) ≡ c.min-most.result = length-take-le c.min-most.result c.loop-left.batch (omega (arith, c.min-most.ensures)) in
    let mine = take-append-le count c.pop_partial_slice-count.new.slice (drop c.min-most.result c.loop-left.batch) (omega (arith, popped.received.0)) in
    let log_is = c.add_batch.ensures.log ∙ ap (λ xs. c.loop-left.log.items ++ map (blank c.args.client) xs) mine in
    let jobs_are = c.add_batch.ensures.jobs ∙ ap (λ xs. c.loop-left.jobs.items ++ xs) mine in
    let after : Lane = record { jobs = ring; records = lane.records; answered = lane.answered; late = lane.late; before = lane.before; fetched = lane.fetched + count } in
    let all : length more ≡ count = length-take-le count c.pop_partial_slice-count.new.slice (omega (arith, popped.received.0)) in
    let number : lane.fetched + length more ≡ lane.fetched + count = omega (arith, all) in (
      subst (λ n. FetchedSoFar c.args.client n (received start.jobs) (received ring) c.args.log.now.items c.add_batch.new.log.items c.args.jobs.now.items c.add_batch.new.jobs.items (waiting start) (known_items ring)) number
          (batch_fetched c.args.client lane.fetched (received start.jobs) (received lane.jobs) (received ring) c.args.log.now.items c.loop-left.log.items c.add_batch.new.log.items
          c.args.jobs.now.items c.loop-left.jobs.items c.add_batch.new.jobs.items (waiting start) (waiting lane) (known_items ring) more
          before.0 popped.received.1 log_is jobs_are popped.known),
      before.1,
      before.2,
      before.3,
      same_lane start lane after before.4 (popped.ring, ((refl, refl, refl, refl), refl)),
      c.add_batch.ensures.log_capacity ∙ before.5,
      c.add_batch.ensures.jobs_capacity ∙ before.6,
      before.7,
      omega (arith, before.8, popped.received.0, room, c.if-count-most.false),
    )
