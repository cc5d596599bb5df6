use Rattle.std.proofs.Common.{◌≡◌, sym, ◌+◌, ◌-◌, ◌<◌, ◌≤◌, length, get_or, arith}
use Rattle.dml_levels.proofs.StartLemmas.{read_at, same_count, sought_before, sought_from, sought_on}
use Rattle.dml_levels.proofs.starts.Starts.part_from.Goals as goal
use Rattle.dml_levels.proofs.starts.Starts.part_from.Goals.{then-loop-step-test+else-index-address, else-loop-step-test}

pub loop-step-init : goal.loop-step-init
loop-step-init c = record { sought = sought_from c.args.self.now c.args.address c.args.cell c.requires.sorted c.requires.from; some = omega arith; near = omega arith }

pub loop-step-preserved : goal.loop-step-preserved
loop-step-preserved c =
    let starts = c.args.self.now in
    let known = c.loop-step.invariant in
    let count : length starts ≡ length c.self.inside.list.items = same_count starts c.self.inside.list.items (sym c.self.view_is) in
    let here : get_or starts (c.loop-step.first + c.loop-step.step - 1) 0 ≡ c.index.result.now.address =
    read_at starts c.self.inside.list.items (c.loop-step.first + c.loop-step.step - 1) c.index.result.now (sym c.self.view_is) (omega (arith, count, known.some, c.loop-step-test.true, c.len.ensures)) c.index.ensures in
    record {
      sought = sought_on starts c.args.address c.loop-step.first c.loop-step.step (c.loop-step.first + c.loop-step.step) c.requires.sorted known.sought known.some (omega (arith, count, c.loop-step-test.true, c.len.ensures)) (omega (arith, here, c.if-index-address.true)) (omega arith);
      some = omega (arith, known.some);
      near = omega (arith, known.near);
    }

pub returns-clause-sought : goal.returns-clause-sought
returns-clause-sought c =
    let starts = c.args.self.now in
    let known = c.loop-step.invariant in
    let first = c.loop-step.first in
    let step = c.loop-step.step in
    let count : length starts ≡ length c.self.inside.list.items = same_count starts c.self.inside.list.items (sym c.self.view_is) in
    let far : step ≤ length starts - first → c.args.address < get_or starts (first + step - 1) 0 =
    elim c.loop-step-test.branch [
      | then-loop-step-test+else-index-address w ↦ λ room.
          let here : get_or starts (first + step - 1) 0 ≡ w.index.result.now.address =
          read_at starts c.self.inside.list.items (first + step - 1) w.index.result.now (sym c.self.view_is) (omega (arith, room, known.some, known.sought.within)) w.index.ensures in
          omega (arith, here, w.if-index-address.false)
      | else-loop-step-test w ↦ λ room. absurd (omega (arith, count, room, c.len.ensures, w.loop-step-test.false))
    ] in
    sought_before starts c.args.address first step c.min.result c.requires.sorted known.sought known.some far (omega (arith, count, c.len-2.ensures, c.min.ensures))
