use Rattle.std.proofs.Common.{◌≡◌, ◌<◌, List, [], ◌∷◌, ◌++◌, length, get_or, map, drop, take, set, rules, refl, ap, ◌∙◌}
use Rattle.dml_core.specs.Types.{Job, Submit}
use Rattle.dml_core.specs.Gather.{AreParts, Counted, counts_of, jobs_sent}
use Rattle.dml_core.specs.World.{World, after, kept_task}
use Rattle.dml_core.proofs.CountLemmas.{counts_either, jobs_turned, parts_same}
use Rattle.dml_core.proofs.StepFacts.{world}
use Rattle.dml_core.proofs.worlds.World.submit.Goals as goal

pub invariant_of-self : goal.invariant_of-self
invariant_of-self c =
    let s = c.self.inside in
    let same : counts_of (set s.sent.items c.args.client c.push.new.self) ≡ counts_of s.sent.items =
    counts_either c.push.result s.sent.items c.args.client c.index_mut.result.now c.push.new.self c.args.job c.index_mut.ensures.value c.push.ensures.ok c.push.ensures.err in
    let kept : AreParts (counts_of (set s.sent.items c.args.client c.push.new.self)) s.fetched.items =
    parts_same (counts_of s.sent.items) (counts_of (set s.sent.items c.args.client c.push.new.self)) s.fetched.items s.fetched.items c.self.invariant.5 same refl in
    (c.self.invariant.0, c.self.invariant.1, c.self.invariant.2, c.self.invariant.3, c.self.invariant.4, kept, c.self.invariant.6, c.self.invariant.7, c.self.invariant.8)

pub invariant_of-self-2 : goal.invariant_of-self-2
invariant_of-self-2 c =
    let s = c.self.inside in
    let same : counts_of (set s.sent.items c.args.client c.push.new.self) ≡ counts_of s.sent.items =
    counts_either c.push.result s.sent.items c.args.client c.index_mut.result.now c.push.new.self c.args.job c.index_mut.ensures.value c.push.ensures.ok c.push.ensures.err in
    let kept : AreParts (counts_of (set s.sent.items c.args.client c.push.new.self)) s.fetched.items =
    parts_same (counts_of s.sent.items) (counts_of (set s.sent.items c.args.client c.push.new.self)) s.fetched.items s.fetched.items c.self.invariant.5 same refl in
    (c.self.invariant.0, c.self.invariant.1, c.self.invariant.2, c.self.invariant.3, c.self.invariant.4, kept, c.self.invariant.6, c.self.invariant.7, c.self.invariant.8)

pub returns-clause-ok : goal.returns-clause-ok
returns-clause-ok c =
    let s = c.self.inside in
    let below : c.args.client < length s.sent.items = search rules in
    let more : jobs_sent (set s.sent.items c.args.client c.push.new.self) ≡ set (jobs_sent s.sent.items) c.args.client (get_or (jobs_sent s.sent.items) c.args.client [] ++ c.args.job ∷ []) =
    jobs_turned (λ (list : List Job). list ++ c.args.job ∷ []) s.sent.items c.args.client c.index_mut.result.now c.push.new.self below c.index_mut.ensures.value (ap (λ (own : Counted). own.jobs) c.in-Ok.ensures.ok) in
    ap (λ (sent : List (List Job)). world s.settings s.image sent s.fetched.items (drop s.committed s.waves.items) (drop s.taken s.tasks.items) s.hands.items (map (kept_task s.fetched.items s.image) (take s.finished s.tasks.items))) more
    ∙ ap (λ (w : World). after w (Submit c.args.client c.args.job)) c.self.view_is
