use Rattle.std.proofs.Common.{◌≡◌, ◌<◌, ℕ, All, arith, true, false, List, [], length, get_or, map, drop, rules, take, refl, sym, ap, subst, ◌∙◌}
use Rattle.std.proofs.lemmas.Grind.{common_steps}
use Rattle.std.proofs.lemmas.List.{length-take-le, take-take}
use Rattle.std.specs.Prelude.{IfSome, slice_get}
use Rattle.dml_core.specs.Types.{Job, Step, Fetched}
use Rattle.dml_core.specs.Plan.{jobs_of, plan_of, tasks_of}
use Rattle.dml_core.specs.World.{Kept, World, Reaches, is_allowed, kept_task}
use Rattle.dml_core.specs.Gather.{AreGathered, EndsWithLastFetch, HoldOpen, IsRefused, Lists, counts_of, gathered, is_idle, jobs_sent, listed, lists}
use Rattle.dml_core.proofs.CountLemmas.{parts_same}
use Rattle.dml_core.proofs.GatherLemmas.{begins_first, ended_reaches, gather_made, gathered_longer, row_refused, stops_below}
use Rattle.dml_core.proofs.HandLemmas.{idle_hands}
use Rattle.dml_core.proofs.OpenLemmas.{held_back, held_longer, open_held_by}
use Rattle.dml_core.proofs.StepFacts.{none_finished, world}
use Rattle.dml_core.proofs.worlds.World.gather_row.Goals as goal

pub end_with_fetch-end-requires-clause-fetch : goal.end_with_fetch-end-requires-clause-fetch
end_with_fetch-end-requires-clause-fetch c =
    begins_first c.args.steps.now c.push_steps-row.result.count (omega arith) c.push_steps-row.ensures.within c.requires.fetch

pub returns-in-Ok-clause-reached : goal.returns-in-Ok-clause-reached
returns-in-Ok-clause-reached c =
    let s = c.self.inside in
    let row = c.push_steps-row in
    let end = c.end_with_fetch-end.result in
    let steps = c.args.steps.now in
    let sent = jobs_sent c.end_with_fetch-end.new.sent.items in
    let fetched = c.end_with_fetch-end.new.fetched.items in
    let plan = c.in-Ok.field-0.waves.items in
    let tasks = c.in-Ok.field-0.tasks.items in
    let kept = map (kept_task s.fetched.items s.image) (take s.finished s.tasks.items) in
    let old = world s.settings s.image (jobs_sent s.sent.items) s.fetched.items (drop s.committed s.waves.items) (drop s.taken s.tasks.items) s.hands.items kept in
    let idle : is_idle old ≡ true = ap is_idle c.self.view_is ∙ c.requires.idle in
    let none : (take s.finished s.tasks.items) ≡ [] = none_finished s.hands.items (kept_task s.fetched.items s.image) (take s.finished s.tasks.items) idle in
    let cleared : List Kept = [] in
    let same : cleared ≡ kept = sym (ap (map (kept_task s.fetched.items s.image)) none) in
    let planned : plan ≡ plan_of fetched s.settings.staging s.settings.chunk =
    c.in-Ok.ensures.waves ∙ ap (λ (list : List Fetched). plan_of list s.settings.staging s.settings.chunk) c.deref-2.ensures.value in
    let ready : tasks ≡ tasks_of (jobs_of fetched) s.settings.staging s.settings.chunk (get_or plan 0 []) =
    c.in-Ok.ensures.tasks ∙ ap (λ (list : List Fetched). tasks_of (jobs_of list) s.settings.staging s.settings.chunk (get_or plan 0 [])) c.deref-2.ensures.value in
    let new = world s.settings s.image sent fetched plan tasks s.hands.items cleared in
    let made : new ≡ gathered old (lists sent fetched) true =
    gather_made s.settings s.image (jobs_sent s.sent.items) sent s.fetched.items fetched (drop s.committed s.waves.items) (drop s.taken s.tasks.items) s.hands.items kept cleared plan tasks true refl same planned ready in
    let ends = c.end_with_fetch-end.ensures.ends in
    let size = length-take-le row.result.count steps row.ensures.within in
    let joined : AreGathered (listed s.sent.items s.fetched.items) (take end (take row.result.count steps)) (lists sent fetched) =
    c.end_with_fetch-end.ensures.gathered (listed s.sent.items s.fetched.items) row.ensures.gathered in
    let reached : Reaches old (take end steps) (gathered old (lists sent fetched) true) =
    ended_reaches old (lists sent fetched) steps row.result.count end idle row.ensures.within ends.onward (omega (arith, ends.within, size)) c.requires.fetch joined in
    let taken = c.planned.result.taken in
    let ended : Reaches old (take taken steps) (gathered old (lists sent fetched) true) =
    subst (λ (k : ℕ). Reaches old (take k steps) (gathered old (lists sent fetched) true)) (sym c.planned.ensures.taken) reached in
    subst (λ (w : World). Reaches w (take taken steps) new) c.self.view_is
    (subst (λ (w : World). Reaches old (take taken steps) w) (sym made) ended)

pub returns-in-Ok-clause-refused : goal.returns-in-Ok-clause-refused
returns-in-Ok-clause-refused c = λ is.
    let s = c.self.inside in
    let row = c.push_steps-row in
    let end = c.end_with_fetch-end.result in
    let steps = c.args.steps.now in
    let sent = jobs_sent c.end_with_fetch-end.new.sent.items in
    let fetched = c.end_with_fetch-end.new.fetched.items in
    let plan = c.in-Ok.field-0.waves.items in
    let tasks = c.in-Ok.field-0.tasks.items in
    let kept = map (kept_task s.fetched.items s.image) (take s.finished s.tasks.items) in
    let old = world s.settings s.image (jobs_sent s.sent.items) s.fetched.items (drop s.committed s.waves.items) (drop s.taken s.tasks.items) s.hands.items kept in
    let idle : is_idle old ≡ true = ap is_idle c.self.view_is ∙ c.requires.idle in
    let none : (take s.finished s.tasks.items) ≡ [] = none_finished s.hands.items (kept_task s.fetched.items s.image) (take s.finished s.tasks.items) idle in
    let cleared : List Kept = [] in
    let same : cleared ≡ kept = sym (ap (map (kept_task s.fetched.items s.image)) none) in
    let planned : plan ≡ plan_of fetched s.settings.staging s.settings.chunk =
    c.in-Ok.ensures.waves ∙ ap (λ (list : List Fetched). plan_of list s.settings.staging s.settings.chunk) c.deref-2.ensures.value in
    let ready : tasks ≡ tasks_of (jobs_of fetched) s.settings.staging s.settings.chunk (get_or plan 0 []) =
    c.in-Ok.ensures.tasks ∙ ap (λ (list : List Fetched). tasks_of (jobs_of list) s.settings.staging s.settings.chunk (get_or plan 0 [])) c.deref-2.ensures.value in
    let new = world s.settings s.image sent fetched plan tasks s.hands.items cleared in
    let made : new ≡ gathered old (lists sent fetched) true =
    gather_made s.settings s.image (jobs_sent s.sent.items) sent s.fetched.items fetched (drop s.committed s.waves.items) (drop s.taken s.tasks.items) s.hands.items kept cleared plan tasks true refl same planned ready in
    let count = row.result.count in
    let stop = c.planned.ensures.is_refused is in
    let all : count ≡ end = c.planned.ensures.all is in
    let size = length-take-le count steps row.ensures.within in
    let whole : sent ≡ jobs_sent row.new.sent.items = ap jobs_sent (c.end_with_fetch-end.ensures.whole (omega (arith, all, size))) in
    let kept_lists : listed row.new.sent.items row.new.fetched.items ≡ lists sent fetched =
    ap (λ (l : List (List Job)). lists l row.new.fetched.items) (sym whole) ∙ ap (lists sent) (sym c.end_with_fetch-end.ensures.fetched) in
    let stopped : IfSome (slice_get steps count) (λ (x : Step). is_allowed new x ≡ false) =
    subst (λ (w : World). IfSome (slice_get steps count) (λ (x : Step). is_allowed w x ≡ false)) (ap (λ (l : Lists). gathered old l true) kept_lists ∙ sym made)
    (row_refused old (listed row.new.sent.items row.new.fetched.items) true row.result.is_refused (slice_get steps count) idle stop row.ensures.refused) in
    subst (IsRefused new steps) (all ∙ sym c.planned.ensures.taken)
    (stops_below count (length steps) row.result.wants_memory row.result.is_refused row.ensures.within row.ensures.stops stop, stopped)

pub without_plan-requires-clause-fetch : goal.without_plan-requires-clause-fetch
without_plan-requires-clause-fetch c =
    let ends = c.end_with_fetch-end.ensures.ends in
    let size = length-take-le c.push_steps-row.result.count c.args.steps.now c.push_steps-row.ensures.within in
    begins_first c.args.steps.now c.end_with_fetch-end.result ends.onward (omega (arith, ends.within, size, c.push_steps-row.ensures.within)) c.requires.fetch

pub returns-in-Err-clause-tried : goal.returns-in-Err-clause-tried
returns-in-Err-clause-tried c =
    let steps = c.args.steps.now in
    let n = c.end_with_fetch-end.result in
    let ends = c.end_with_fetch-end.ensures.ends in
    let within = length-take-le c.push_steps-row.result.count steps c.push_steps-row.ensures.within in
    let size : length (take n steps) ≡ n = length-take-le n steps (omega (arith, ends.within, within, c.push_steps-row.ensures.within)) in
    let same : take n steps ≡ take c.without_plan.result.tried steps =
    ap (λ (k : ℕ). take k steps) (sym (c.without_plan.ensures.tried ∙ size)) in
    λ taken tried. subst (λ (list : List Step). EndsWithLastFetch list c.without_plan.result.alone) same c.without_plan.ensures.alone

pub set_out-requires-clause-known : goal.set_out-requires-clause-known
set_out-requires-clause-known c =
    let s = c.self.inside in
    let row = c.push_steps-row in
    let first = listed s.sent.items s.fetched.items in
    let last = listed c.end_with_fetch-end.new.sent.items c.end_with_fetch-end.new.fetched.items in
    let longer = gathered_longer (take c.end_with_fetch-end.result (take row.result.count c.args.steps.now)) first last (c.end_with_fetch-end.ensures.gathered first row.ensures.gathered) in
    let from : c.len-from.result ≡ length s.fetched.items = search rules in
    held_longer s.places.items s.fetched.items last.fetched c.deref-2.result.now c.len-from.result longer c.deref-2.ensures.value from c.self.invariant.6

pub set_out-requires-clause-from : goal.set_out-requires-clause-from
set_out-requires-clause-from c =
    let s = c.self.inside in
    let row = c.push_steps-row in
    let first = listed s.sent.items s.fetched.items in
    let last = listed c.end_with_fetch-end.new.sent.items c.end_with_fetch-end.new.fetched.items in
    let longer = gathered_longer (take c.end_with_fetch-end.result (take row.result.count c.args.steps.now)) first last (c.end_with_fetch-end.ensures.gathered first row.ensures.gathered) in
    let from : c.len-from.result ≡ length s.fetched.items = search rules in
    let size : length c.deref-2.result.now ≡ length last.fetched = ap length c.deref-2.ensures.value in
    omega (arith, longer.0, from, size)

pub invariant_of-self : goal.invariant_of-self
invariant_of-self c =
    let s = c.self.inside in
    let row = c.push_steps-row in
    let same : row.new.fetched.items ≡ s.fetched.items = row.ensures.fixed (grind (arith, common_steps)) in (
      search rules,
      search rules,
      search rules,
      search rules,
      subst (λ (l : List Fetched). All (All (λ i. i < length l)) s.waves.items) (sym same) c.self.invariant.4,
      row.ensures.parts,
      subst (λ (l : List Fetched). HoldOpen s.places.items l (length l)) (sym same) c.self.invariant.6,
      c.self.invariant.7,
      c.self.invariant.8,
    )

pub invariant_of-self-in-Ok : goal.invariant_of-self-in-Ok
invariant_of-self-in-Ok c =
    let s = c.self.inside in
    let row = c.push_steps-row in
    let steps = c.args.steps.now in
    let sent = jobs_sent c.end_with_fetch-end.new.sent.items in
    let fetched = c.end_with_fetch-end.new.fetched.items in
    let idle : is_idle (world s.settings s.image (jobs_sent s.sent.items) s.fetched.items (drop s.committed s.waves.items) (drop s.taken s.tasks.items) s.hands.items (map (kept_task s.fetched.items s.image) (take s.finished s.tasks.items))) ≡ true = ap is_idle c.self.view_is ∙ c.requires.idle in (
      search rules,
      search rules,
      search rules,
      search rules,
      subst (λ (l : List Fetched). All (All (λ i. i < length l)) c.in-Ok.field-0.waves.items) c.deref-2.ensures.value c.in-Ok.ensures.inside,
      c.end_with_fetch-end.ensures.parts,
      open_held_by c.set_out.new.places.items c.deref-2.result.now fetched c.deref-2.ensures.value c.in-Ok.ensures.all_open,
      c.in-Ok.ensures.few_waves,
      idle_hands s.hands.items _ idle,
    )

pub invariant_of-self-in-Err : goal.invariant_of-self-in-Err
invariant_of-self-in-Err c =
    let s = c.self.inside in
    let row = c.push_steps-row in
    let steps = c.args.steps.now in
    let count = row.result.count in
    let end = c.end_with_fetch-end.result in
    let sent = jobs_sent c.end_with_fetch-end.new.sent.items in
    let fetched = c.end_with_fetch-end.new.fetched.items in
    let first = listed s.sent.items s.fetched.items in
    let joined : AreGathered first (take end (take count steps)) (lists sent fetched) = c.end_with_fetch-end.ensures.gathered first row.ensures.gathered in
    let size = length-take-le count steps row.ensures.within in
    let ends = c.end_with_fetch-end.ensures.ends.within in
    let cut : take end (take count steps) ≡ take end steps = take-take end count steps (omega (arith, ends, size)) in
    let back : first ≡ listed c.take_back.new.sent.items c.take_back.new.fetched.items =
    c.take_back.ensures.gathered first (subst (λ (l : List Step). AreGathered first l (lists sent fetched)) cut joined) in
    let again : c.give_back.new.fetched.items ≡ s.fetched.items = c.give_back.ensures.fetched ∙ sym (ap (λ (l : Lists). l.fetched) back) in
    let from : c.len-from.result ≡ length s.fetched.items = search rules in (
      search rules,
      search rules,
      search rules,
      search rules,
      subst (λ (l : List Fetched). All (All (λ i. i < length l)) s.waves.items) (sym again) c.self.invariant.4,
      parts_same (counts_of c.take_back.new.sent.items) (counts_of c.give_back.new.sent.items) c.take_back.new.fetched.items c.give_back.new.fetched.items c.take_back.ensures.parts (ap counts_of c.give_back.ensures.sent) c.give_back.ensures.fetched,
      held_back c.set_out.new.places.items s.fetched.items fetched c.deref-2.result.now c.give_back.new.fetched.items c.len-from.result (gathered_longer (take end (take count steps)) first (lists sent fetched) joined) c.deref-2.ensures.value from again c.in-Err.ensures.before,
      c.self.invariant.7,
      c.self.invariant.8,
    )
