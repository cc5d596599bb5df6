use Rattle.std.proofs.Common.{◌≡◌, ◌<◌, None, Some, length, get_or, drop, rules, sym, ap, arith, ◌∙◌}
use Rattle.std.proofs.lemmas.List.{get_or_read, length-set}
use Rattle.dml_core.specs.Types.{Finish}
use Rattle.dml_core.specs.Gather.{jobs_sent}
use Rattle.dml_core.specs.World.{World, after}
use Rattle.dml_core.proofs.HandLemmas.{finish_view, held_less}
use Rattle.dml_core.proofs.worlds.World.finish.Goals as goal

pub index_mut-requires : goal.index_mut-requires
index_mut-requires c =
    let s = c.self.inside in
    let below : c.args.worker < length s.hands.items = search rules in
    let held : get_or s.hands.items c.args.worker None ≡ Some c.in-Some.task =
    sym (get_or_read s.hands.items c.args.worker c.index.result.now below c.index.ensures None) ∙ c.in-Some.is in
    let less = held_less s.hands.items c.args.worker c.in-Some.task below held in
    omega (arith, less, c.self.invariant.3, c.self.invariant.8)

pub invariant_of-self : goal.invariant_of-self
invariant_of-self c =
    let s = c.self.inside in
    let below : c.args.worker < length s.hands.items = search rules in
    let held : get_or s.hands.items c.args.worker None ≡ Some c.in-Some.task =
    sym (get_or_read s.hands.items c.args.worker c.index.result.now below c.index.ensures None) ∙ c.in-Some.is in
    let less = held_less s.hands.items c.args.worker c.in-Some.task below held in
    let size = length-set s.tasks.items s.finished c.in-Some.task in
    (c.self.invariant.0, c.self.invariant.1, c.self.invariant.2, omega (arith, size, c.self.invariant.3), c.self.invariant.4, c.self.invariant.5, c.self.invariant.6, c.self.invariant.7, omega (arith, less, c.self.invariant.8))

pub returns-clause-ok : goal.returns-clause-ok
returns-clause-ok c =
    let s = c.self.inside in
    let below : c.args.worker < length s.hands.items = search rules in
    let held : get_or s.hands.items c.args.worker None ≡ Some c.in-Some.task =
    sym (get_or_read s.hands.items c.args.worker c.index.result.now below c.index.ensures None) ∙ c.in-Some.is in
    let less = held_less s.hands.items c.args.worker c.in-Some.task below held in
    let low : s.finished < s.taken = omega (arith, less, c.self.invariant.8) in
    finish_view s.settings s.image (jobs_sent s.sent.items) s.fetched.items (drop s.committed s.waves.items) s.tasks.items s.taken s.finished s.hands.items c.args.worker c.in-Some.task low c.self.invariant.3 held
    ∙ ap (λ (w : World). after w (Finish c.args.worker)) c.self.view_is
