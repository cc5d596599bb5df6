use Rattle.std.proofs.Common.{◌≡◌, ◌<◌, ◌+◌, List, ℕ, true, [], length, get_or, map, drop, take, rules, set, ap, ◌∙◌, arith}
use Rattle.std.specs.Prelude.{is_none}
use Rattle.std.specs.List.{list_all}
use Rattle.std.proofs.lemmas.List.{drop-set-lt, get_or_read}
use Rattle.dml_core.specs.Types.{Fetched, Commit}
use Rattle.dml_core.specs.Gather.{counts_of, jobs_sent}
use Rattle.dml_core.specs.Plan.{jobs_of, tasks_of}
use Rattle.dml_core.specs.World.{Kept, World, after, kept_task}
use Rattle.dml_core.proofs.CountLemmas.{parts_after}
use Rattle.dml_core.proofs.HandLemmas.{none_held}
use Rattle.dml_core.proofs.OpenLemmas.{held_after}
use Rattle.dml_core.proofs.StepFacts.{commit_view, forgotten_inside, world}
use Rattle.dml_core.proofs.worlds.World.commit.Goals as goal

pub returns-clause-ok : goal.returns-clause-ok
returns-clause-ok c =
    let s = c.self.inside in
    let image = c.carry_out_wave.new.image in
    let fetched = c.carry_out_wave.new.fetched.items in
    let waves = s.waves.items in
    let below : s.committed < length waves = omega (arith, c.self.invariant.2) in
    let own : c.as_slice-4.result.now ≡ get_or waves s.committed [] =
    c.as_slice-4.ensures.value ∙ (c.behind-self.view_is ∙ get_or_read waves s.committed c.index.result.now below c.index.ensures []) in
    let tasks : c.in-Ok.tasks.items ≡ tasks_of (jobs_of s.fetched.items) s.settings.staging s.settings.chunk (get_or waves (s.committed + 1) []) =
    c.in-Ok.ensures
    ∙ (ap (λ (list : List Fetched). tasks_of (jobs_of list) s.settings.staging s.settings.chunk (get_or c.as_slice-3.result.now (s.committed + 1) [])) c.as_slice-2.ensures.value
    ∙ ap (λ (list : List (List ℕ)). tasks_of (jobs_of s.fetched.items) s.settings.staging s.settings.chunk (get_or list (s.committed + 1) [])) c.as_slice-3.ensures.value) in
    let cleared : List Kept = [] in
    let forgotten : drop (s.committed + 1) (set waves s.committed c.forget.new.self) ≡ drop (s.committed + 1) waves = drop-set-lt (s.committed + 1) waves s.committed c.forget.new.self (omega arith) in
    let made =
    commit_view s.settings s.image (jobs_sent s.sent.items) s.fetched.items waves s.committed (drop s.taken s.tasks.items) s.hands.items (map (kept_task s.fetched.items s.image) (take s.finished s.tasks.items)) image fetched c.in-Ok.tasks.items c.as_slice-4.result.now
    c.carry_out_wave.ensures.done own tasks in
    ap (λ (left : List (List ℕ)). world s.settings image (jobs_sent s.sent.items) fetched left c.in-Ok.tasks.items s.hands.items cleared) forgotten
    ∙ (made ∙ ap (λ (w : World). after w Commit) c.self.view_is)

pub invariant_of-self : goal.invariant_of-self
invariant_of-self c =
    let s = c.self.inside in
    let wave = c.as_slice-4.result.now in
    let done = c.carry_out_wave.ensures.done in
    let free : list_all is_none s.hands.items ≡ true = search rules in
    let none = none_held s.hands.items free in (
      search rules,
      search rules,
      search rules,
      search rules,
      forgotten_inside s.waves.items s.committed (length s.fetched.items) (length c.carry_out_wave.new.fetched.items) c.forget.new.self c.forget.ensures c.carry_out_wave.ensures.count c.self.invariant.4,
      parts_after (counts_of s.sent.items) s.settings.staging wave s.image c.carry_out_wave.new.image s.fetched.items c.carry_out_wave.new.fetched.items done c.self.invariant.5,
      held_after s.places.items s.settings.staging wave s.image c.carry_out_wave.new.image s.fetched.items c.carry_out_wave.new.fetched.items done c.self.invariant.6,
      search rules,
      omega (arith, none),
    )
