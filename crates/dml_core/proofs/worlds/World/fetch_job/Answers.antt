use Rattle.std.proofs.Common.{◌≡◌, true, ◌∷◌, ◌++◌, ◌+◌, All, List, ◌<◌, ◌≤◌, [], None, Some, get_or, length, map, drop, refl, rules, subst, sym, take, ap, arith, ◌∙◌}
use Rattle.std.proofs.Math.Seq.{take-append_seam}
use Rattle.dml_core.specs.Types.{Job, Fetched, Fetch}
use Rattle.dml_core.specs.Gather.{counts_of, in_hands, is_idle, jobs_sent}
use Rattle.dml_core.specs.Plan.{jobs_of, plan_of, tasks_of}
use Rattle.dml_core.specs.World.{Kept, World, after, kept_task, next_job}
use Rattle.dml_core.proofs.CountLemmas.{part_small, parts_more, parts_same}
use Rattle.dml_core.proofs.HandLemmas.{idle_hands}
use Rattle.dml_core.proofs.OpenLemmas.{held_back, held_longer, open_held_by, pushed_longer}
use Rattle.dml_core.proofs.StepFacts.{fetch_view, none_finished, world}
use Rattle.dml_core.proofs.worlds.World.fetch_job.Goals as goal

pub set_out-requires-clause-known : goal.set_out-requires-clause-known
set_out-requires-clause-known c =
    let s = c.self.inside in
    let entry : Fetched = record { client = c.args.client; job = c.args.job; answer = None } in
    let more = s.fetched.items ++ entry ∷ [] in
    let pushed : c.push.new.self.items ≡ more = search rules in
    let from : c.len-from.result ≡ length s.fetched.items = search rules in
    held_longer s.places.items s.fetched.items more c.deref.result.now c.len-from.result (pushed_longer s.fetched.items entry) (c.deref.ensures.value ∙ pushed) from c.self.invariant.6

pub returns-in-Ok-clause-ok : goal.returns-in-Ok-clause-ok
returns-in-Ok-clause-ok c =
    let s = c.self.inside in
    let client = c.args.client in
    let job = c.args.job in
    let entry : Fetched = record { client = client; job = job; answer = None } in
    let more = s.fetched.items ++ entry ∷ [] in
    let pushed : c.push.new.self.items ≡ more = search rules in
    let old = world s.settings s.image (jobs_sent s.sent.items) s.fetched.items (drop s.committed s.waves.items) (drop s.taken s.tasks.items) s.hands.items (map (kept_task s.fetched.items s.image) (take s.finished s.tasks.items)) in
    let idle : is_idle old ≡ true = ap is_idle c.self.view_is ∙ c.requires.idle in
    let none : (take s.finished s.tasks.items) ≡ [] = none_finished s.hands.items (kept_task s.fetched.items s.image) (take s.finished s.tasks.items) idle in
    let listed : c.deref.result.now ≡ more = c.deref.ensures.value ∙ pushed in
    let next : next_job old client ≡ Some job = ap (λ (w : World). next_job w client) c.self.view_is ∙ c.requires.next in
    let plan = c.in-Ok.field-0.waves.items in
    let tasks = c.in-Ok.field-0.tasks.items in
    let planned : plan ≡ plan_of more s.settings.staging s.settings.chunk =
    c.in-Ok.ensures.waves ∙ ap (λ (list : List Fetched). plan_of list s.settings.staging s.settings.chunk) listed in
    let ready : tasks ≡ tasks_of (jobs_of more) s.settings.staging s.settings.chunk (get_or plan 0 []) =
    c.in-Ok.ensures.tasks ∙ ap (λ (list : List Fetched). tasks_of (jobs_of list) s.settings.staging s.settings.chunk (get_or plan 0 [])) listed in
    let cleared : List Kept = [] in
    let same : cleared ≡ map (kept_task s.fetched.items s.image) (take s.finished s.tasks.items) = sym (ap (map (kept_task s.fetched.items s.image)) none) in
    ap (λ (sent : List (List Job)). world s.settings s.image sent c.push.new.self.items plan tasks s.hands.items cleared) c.count_one.ensures.jobs
    ∙ (ap (λ (list : List Fetched). world s.settings s.image (jobs_sent s.sent.items) list plan tasks s.hands.items cleared) pushed
    ∙ (fetch_view s.settings s.image (jobs_sent s.sent.items) s.fetched.items (drop s.committed s.waves.items) (drop s.taken s.tasks.items) s.hands.items (map (kept_task s.fetched.items s.image) (take s.finished s.tasks.items)) cleared client job plan tasks next same planned ready
    ∙ ap (λ (w : World). after w (Fetch client)) c.self.view_is))

pub count_one-requires : goal.count_one-requires
count_one-requires c =
    part_small (counts_of c.self.inside.sent.items) c.self.inside.fetched.items c.args.client c.self.invariant.5 (omega (arith, c.push.ensures.len, c.push.ensures.upper_bound))

pub invariant_of-self-in-Ok : goal.invariant_of-self-in-Ok
invariant_of-self-in-Ok c =
    let s = c.self.inside in
    let entry : Fetched = record { client = c.args.client; job = c.args.job; answer = None } in
    let pushed : c.push.new.self.items ≡ s.fetched.items ++ entry ∷ [] = search rules in
    let idle : is_idle (world s.settings s.image (jobs_sent s.sent.items) s.fetched.items (drop s.committed s.waves.items) (drop s.taken s.tasks.items) s.hands.items (map (kept_task s.fetched.items s.image) (take s.finished s.tasks.items))) ≡ true = ap is_idle c.self.view_is ∙ c.requires.idle in
    let none_in_hand : 0 + in_hands s.hands.items ≤ 0 = idle_hands s.hands.items _ idle in (
      search rules,
      search rules,
      search rules,
      search rules,
      subst (λ (l : List Fetched). All (All (λ i. i < length l)) c.in-Ok.field-0.waves.items) c.deref.ensures.value c.in-Ok.ensures.inside,
      parts_more (counts_of s.sent.items) (counts_of c.count_one.new.sent.items) s.fetched.items c.push.new.self.items entry c.self.invariant.5 c.count_one.ensures.counts pushed,
      open_held_by c.set_out.new.places.items c.deref.result.now c.push.new.self.items c.deref.ensures.value c.in-Ok.ensures.all_open,
      c.in-Ok.ensures.few_waves,
      none_in_hand,
    )

pub invariant_of-self-in-Err : goal.invariant_of-self-in-Err
invariant_of-self-in-Err c =
    let s = c.self.inside in
    let entry : Fetched = record { client = c.args.client; job = c.args.job; answer = None } in
    let more = s.fetched.items ++ entry ∷ [] in
    let pushed : c.push.new.self.items ≡ more = search rules in
    let from : c.len-from.result ≡ length s.fetched.items = search rules in
    let list = c.shrink_to.new.self.items in
    let again : list ≡ s.fetched.items =
    c.shrink_to.ensures.items
    ∙ (c.truncate.ensures.items
    ∙ (ap (take c.len-from.result) pushed ∙ (ap (λ n. take n more) from ∙ take-append_seam s.fetched.items (entry ∷ [])))) in (
      search rules,
      search rules,
      search rules,
      search rules,
      subst (λ (l : List Fetched). All (All (λ i. i < length l)) s.waves.items) (sym again) c.self.invariant.4,
      parts_same (counts_of s.sent.items) (counts_of s.sent.items) s.fetched.items list c.self.invariant.5 refl again,
      held_back c.set_out.new.places.items s.fetched.items more c.deref.result.now list c.len-from.result (pushed_longer s.fetched.items entry) (c.deref.ensures.value ∙ pushed) from again c.in-Err.ensures.before,
      c.self.invariant.7,
      c.self.invariant.8,
    )
