use Rattle.std.proofs.Common.{◌≡◌, ◌+◌, ◌<◌, ◌≤◌, false, None, length, get_or, rules, sym, arith, ◌∙◌}
use Rattle.std.proofs.lemmas.List.{get_or_read}
use Rattle.std.specs.Prelude.{is_some}
use Rattle.dml_core.proofs.HandLemmas.{held_more, none_there}
use Rattle.dml_core.proofs.worlds.World.take.Goals as goal

pub invariant_of-self : goal.invariant_of-self
invariant_of-self c =
    let s = c.self.inside in
    let below : c.args.worker < length s.hands.items = search rules in
    let gone : is_some c.index.result.now ≡ false = search rules in
    let empty : get_or s.hands.items c.args.worker None ≡ None =
    sym (get_or_read s.hands.items c.args.worker c.index.result.now below c.index.ensures None) ∙ none_there c.index.result.now gone in
    let more = held_more s.hands.items c.args.worker c.index-2.result.now below empty in
    let left : s.taken + 1 ≤ length s.tasks.items = search rules in
    (c.self.invariant.0, c.self.invariant.1, c.self.invariant.2, left, c.self.invariant.4, c.self.invariant.5, c.self.invariant.6, c.self.invariant.7, omega (arith, more, c.self.invariant.8))
