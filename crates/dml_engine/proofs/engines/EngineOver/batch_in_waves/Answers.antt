use Rattle.std.proofs.Common.{◌≡◌, ℕ, ◌+◌, ◌<◌, ◌≤◌, true, false, Bool, List, get_or, length, map, take, refl, ap, sym, subst, ◌∙◌, arith, All}
use Rattle.std.proofs.lemmas.List.{length-map}
use Rattle.std.specs.List.{list_any}
use Rattle.std.specs.Prelude.{nat_le}
use Rattle.dml_types.specs.declared.jobs.Job.{Job}
use Rattle.dml_types.specs.declared.limits.Settings.{Settings}
use Rattle.dml_types.specs.Job.{unfenced}
use Rattle.dml_types.specs.Memory.{IsMemory}
use Rattle.dml_order.specs.Order.{run_all}
use Rattle.dml_order.specs.Waves.{joined}
use Rattle.dml_levels.specs.Fences.{IsFence}
use Rattle.dml_levels.specs.Laws.{Progress, begun, carried, unless_refused}
use Rattle.dml_levels.specs.Pieces.{fenced_unless_refused, one_list, waves_by_levels}
use Rattle.dml_levels.proofs.PieceLaws.{all_free_kept}
use Rattle.dml_wave.specs.Waves.{busy}
use Rattle.dml_engine.specs.Lists.{AreOpened, IsReady}
use Rattle.dml_engine.proofs.FenceWalks.{Reached, carried_all, carried_to_fence, fence_below, goes_on, is_fence, none_reached, reaching, run_more, stays}
use Rattle.dml_engine.proofs.IdleLemmas.{checked_run, opened_after}
use Rattle.dml_engine.proofs.engines.EngineOver.batch_in_waves.Goals as goal
use Rattle.dml_engine.proofs.engines.EngineOver.batch_in_waves.Goals.{then-reaches+else-ends_before, else-reaches}

pub loop-wave-init : goal.loop-wave-init
loop-wave-init g c =
    let jobs = c.args.jobs.now in
    let records = c.open_all.new.records in
    let fence = c.next_fence-fence in (
      refl,
      none_reached c.args.self.now.image jobs c.args.self.now.settings.staging fence.result fence.ensures.within.1 fence.ensures.fenced fence.ensures.none_before,
      subst (λ (s : Settings). AreOpened (map unfenced jobs) s.staging records) c.settings-settings.ensures.value c.in-Ok.ensures.opened,
      refl,
      refl,
    )

pub loop-wave-preserved : goal.loop-wave-preserved
loop-wave-preserved g c =
    let memory = c.args.self.now.image in
    let jobs = c.args.jobs.now in
    let free = map unfenced jobs in
    let staging = c.args.self.now.settings.staging in
    let settings = c.settings-settings.result in
    let same_settings = c.settings-settings.ensures.value in
    let blank = c.open_all.new.records in
    let after = carried free staging in
    let waves = c.deref-wave-items.result.now in
    let at = c.loop-wave.wave-index in
    let below : at < length waves = omega arith in
    let wave = c.wave-item.result in
    let now = begun c.loop-wave.self.image c.loop-wave.records in
    let next = begun c.next_wave-alone.new.self.image c.next_wave-alone.new.records in
    let known = c.loop-wave.invariant in
    let whole = (subst IsMemory c.image.ensures c.pages-pages.ensures.memory).whole in
    let size : length blank ≡ length jobs = c.in-Ok.ensures.opened.size ∙ length-map jobs unfenced in
    let checked = c.as_slice-checked.result.now in
    let is_list : checked ≡ one_list settings.staging jobs = c.as_slice-checked.ensures.value ∙ c.in-Ok.ensures.checked in
    let cut : waves ≡ waves_by_levels staging settings.chunk (one_list staging jobs) =
    c.deref-wave-items.ensures.value
    ∙ (c.in-Some.ensures.cut
    ∙ (ap (λ (list : List Job). waves_by_levels settings.staging settings.chunk list) is_list
    ∙ ap (λ (s : Settings). waves_by_levels s.staging settings.chunk (one_list s.staging jobs)) same_settings)) in
    let same_wave : c.as_slice-places.result.now ≡ wave = c.as_slice-places.ensures.value ∙ c.wave.view_is in
    let all : All (IsReady checked settings.staging settings.chunk) waves =
    subst (All (IsReady checked settings.staging settings.chunk)) (sym c.deref-wave-items.ensures.value) c.in-Some.ensures.ready in
    let ready : IsReady checked settings.staging settings.chunk wave =
    subst (IsReady checked settings.staging settings.chunk) (sym c.wave-item.is) (all at wave below) in
    let count : length checked ≡ length jobs = ap length is_list ∙ length-map jobs (fenced_unless_refused settings.staging) in
    let places : All (λ i. i < length jobs) wave = subst (λ n. All (λ i. i < n) wave) count ready.places in
    let own = subst (λ n. All (λ i. i < n) wave) (sym (length-map jobs unfenced)) places in
    let freed : map unfenced checked ≡ map (unless_refused staging) free =
    ap (map unfenced) is_list
    ∙ (ap (λ (s : Settings). map unfenced (one_list s.staging jobs)) same_settings ∙ all_free_kept staging jobs) in
    let busy_after = carried (map unfenced checked) in
    let done : next ≡ run_all after now wave =
    c.next_wave-alone.ensures.done
    ∙ (ap (λ (s : Settings). run_all (busy_after s.staging) now (busy checked c.as_slice-places.result.now)) known.3
    ∙ (ap (λ (these : List ℕ). run_all (busy_after staging) now (busy checked these)) same_wave
    ∙ checked_run free checked staging wave now freed known.2 ready.places)) in
    let more = run_more after waves at wave (begun memory blank) now next below known.0 (done ∙ ap (run_all after now) c.wave-item.is) in
    let opened = subst (λ (state : Progress). AreOpened free staging state.records) (sym done) (opened_after free staging wave now known.2 own) in
    let here : c.as_slice-places.result.now ≡ get_or waves at wave = same_wave ∙ c.wave-item.is in
    let test : List ℕ → Bool = λ these. list_any (λ i. nat_le c.loop-wave.fence i) these in
    let settled = c.next_wave-alone.ensures.settings ∙ known.3 in
    let watched = c.next_wave-alone.ensures.watched ∙ known.4 in
    let Next : ℕ → Type 0 = λ fence. Reached memory jobs staging fence (joined (take (at + 1) waves)) in
    elim c.if-reaches.branch [
      | else-reaches w ↦
          let none : test (get_or waves at wave) ≡ false = sym (ap test here) ∙ (sym c.reaches.ensures ∙ w.if-reaches.false) in
          let reached = stays memory jobs staging settings.chunk blank waves whole size cut at c.loop-wave.fence wave below known.1 none in
          (more, subst Next (sym w.fence-is) reached, opened, settled, watched)
      | then-reaches+else-ends_before w ↦
          let found : test (get_or waves at wave) ≡ true = sym (ap test here) ∙ (sym c.reaches.ensures ∙ w.if-reaches.true) in
          let reach = reaching (get_or waves at wave) c.loop-wave.fence found in
          let inside = subst (All (λ i. i < length jobs)) c.wave-item.is places in
          let fence_is = is_fence memory jobs staging settings.chunk blank waves whole size cut at c.loop-wave.fence (length jobs) wave known.1 reach inside refl in
          let carried = carried_to_fence memory jobs staging settings.chunk blank waves whole size cut at c.loop-wave.fence wave now c.law_of_fences.ensures.meet below known.0 known.1 fence_is reach (known.2.size ∙ length-map jobs unfenced) in
          let tested = sym w.ends_before.ensures ∙ w.if-ends_before.false in
          let fence = w.next_fence-fence-then-reaches in
          let reached =
          goes_on memory jobs staging settings.chunk blank waves whole size cut at c.loop-wave.fence fence.result wave now c.law_of_fences.ensures.meet below known.1 carried tested fence.ensures.within.0 fence.ensures.within.1 fence.ensures.fenced fence.ensures.none_before inside in
          (more, subst Next (sym w.fence-is) reached, opened, settled, watched)
    ]

pub ends_before-requires-clause-place : goal.ends_before-requires-clause-place
ends_before-requires-clause-place g c =
    let jobs = c.args.jobs.now in
    let settings = c.settings-settings.result in
    let waves = c.deref-wave-items.result.now in
    let at = c.loop-wave.wave-index in
    let below : at < length waves = omega arith in
    let wave = c.wave-item.result in
    let checked = c.as_slice-checked.result.now in
    let is_list : checked ≡ one_list settings.staging jobs = c.as_slice-checked.ensures.value ∙ c.in-Ok.ensures.checked in
    let count : length checked ≡ length jobs = ap length is_list ∙ length-map jobs (fenced_unless_refused settings.staging) in
    let same_wave : c.as_slice-places.result.now ≡ wave = c.as_slice-places.ensures.value ∙ c.wave.view_is in
    let all : All (IsReady checked settings.staging settings.chunk) waves =
    subst (All (IsReady checked settings.staging settings.chunk)) (sym c.deref-wave-items.ensures.value) c.in-Some.ensures.ready in
    let ready : IsReady checked settings.staging settings.chunk wave =
    subst (IsReady checked settings.staging settings.chunk) (sym c.wave-item.is) (all at wave below) in
    let places = subst (All (λ i. i < length checked)) (sym same_wave) ready.places in
    let low : c.loop-wave.fence < length jobs =
    fence_below c.as_slice-places.result.now c.loop-wave.fence (length checked) (length jobs) (sym c.reaches.ensures ∙ c.if-reaches.true) places count in
    low

pub next_fence-fence-requires-then-reaches : goal.next_fence-fence-requires-then-reaches
next_fence-fence-requires-then-reaches g c =
    let jobs = c.args.jobs.now in
    let settings = c.settings-settings.result in
    let waves = c.deref-wave-items.result.now in
    let at = c.loop-wave.wave-index in
    let below : at < length waves = omega arith in
    let wave = c.wave-item.result in
    let checked = c.as_slice-checked.result.now in
    let is_list : checked ≡ one_list settings.staging jobs = c.as_slice-checked.ensures.value ∙ c.in-Ok.ensures.checked in
    let count : length checked ≡ length jobs = ap length is_list ∙ length-map jobs (fenced_unless_refused settings.staging) in
    let same_wave : c.as_slice-places.result.now ≡ wave = c.as_slice-places.ensures.value ∙ c.wave.view_is in
    let all : All (IsReady checked settings.staging settings.chunk) waves =
    subst (All (IsReady checked settings.staging settings.chunk)) (sym c.deref-wave-items.ensures.value) c.in-Some.ensures.ready in
    let ready : IsReady checked settings.staging settings.chunk wave =
    subst (IsReady checked settings.staging settings.chunk) (sym c.wave-item.is) (all at wave below) in
    let places = subst (All (λ i. i < length checked)) (sym same_wave) ready.places in
    let low : c.loop-wave.fence < length jobs =
    fence_below c.as_slice-places.result.now c.loop-wave.fence (length checked) (length jobs) (sym c.reaches.ensures ∙ c.if-reaches.true) places count in
    omega (arith, low)

pub returns-then-ends_before-clause-carried : goal.returns-then-ends_before-clause-carried
returns-then-ends_before-clause-carried g c =
    let memory = c.args.self.now.image in
    let staging = c.args.self.now.settings.staging in
    let blank = c.open_all.new.records in
    let now = begun c.loop-wave.self.image c.loop-wave.records in
    let known = c.loop-wave.invariant in
    let jobs = c.args.jobs.now in
    let settings = c.settings-settings.result in
    let waves = c.deref-wave-items.result.now in
    let at = c.loop-wave.wave-index in
    let below : at < length waves = omega arith in
    let wave = c.wave-item.result in
    let checked = c.as_slice-checked.result.now in
    let is_list : checked ≡ one_list settings.staging jobs = c.as_slice-checked.ensures.value ∙ c.in-Ok.ensures.checked in
    let count : length checked ≡ length jobs = ap length is_list ∙ length-map jobs (fenced_unless_refused settings.staging) in
    let same_wave : c.as_slice-places.result.now ≡ wave = c.as_slice-places.ensures.value ∙ c.wave.view_is in
    let all : All (IsReady checked settings.staging settings.chunk) waves =
    subst (All (IsReady checked settings.staging settings.chunk)) (sym c.deref-wave-items.ensures.value) c.in-Some.ensures.ready in
    let ready : IsReady checked settings.staging settings.chunk wave =
    subst (IsReady checked settings.staging settings.chunk) (sym c.wave-item.is) (all at wave below) in
    let places = subst (All (λ i. i < length checked)) (sym same_wave) ready.places in
    let low : c.loop-wave.fence < length jobs =
    fence_below c.as_slice-places.result.now c.loop-wave.fence (length checked) (length jobs) (sym c.reaches.ensures ∙ c.if-reaches.true) places count in
    let whole = (subst IsMemory c.image.ensures c.pages-pages.ensures.memory).whole in
    let size : length blank ≡ length jobs = c.in-Ok.ensures.opened.size ∙ length-map jobs unfenced in
    let cut : waves ≡ waves_by_levels staging settings.chunk (one_list staging jobs) =
    c.deref-wave-items.ensures.value
    ∙ (c.in-Some.ensures.cut
    ∙ (ap (λ (list : List Job). waves_by_levels settings.staging settings.chunk list) is_list
    ∙ ap (λ (s : Settings). waves_by_levels s.staging settings.chunk (one_list s.staging jobs)) c.settings-settings.ensures.value)) in
    let here : c.as_slice-places.result.now ≡ get_or waves at wave = same_wave ∙ c.wave-item.is in
    let test : List ℕ → Bool = λ these. list_any (λ i. nat_le c.loop-wave.fence i) these in
    let reach = reaching (get_or waves at wave) c.loop-wave.fence (sym (ap test here) ∙ (sym c.reaches.ensures ∙ c.if-reaches.true)) in
    let fence_is : IsFence jobs c.loop-wave.fence = record { below = low; fenced = known.1.fenced low } in
    carried_to_fence memory jobs staging settings.chunk blank waves whole size cut at c.loop-wave.fence wave now c.law_of_fences.ensures.meet below known.0 known.1 fence_is reach (known.2.size ∙ length-map jobs unfenced)

pub returns-clause-carried : goal.returns-clause-carried
returns-clause-carried g c =
    let memory = c.args.self.now.image in
    let jobs = c.args.jobs.now in
    let staging = c.args.self.now.settings.staging in
    let settings = c.settings-settings.result in
    let blank = c.open_all.new.records in
    let now = begun c.loop-wave.self.image c.loop-wave.records in
    let known = c.loop-wave.invariant in
    let waves = c.deref-wave-items.result.now in
    let checked = c.as_slice-checked.result.now in
    let is_list : checked ≡ one_list settings.staging jobs = c.as_slice-checked.ensures.value ∙ c.in-Ok.ensures.checked in
    let whole = (subst IsMemory c.image.ensures c.pages-pages.ensures.memory).whole in
    let size : length blank ≡ length jobs = c.in-Ok.ensures.opened.size ∙ length-map jobs unfenced in
    let cut : waves ≡ waves_by_levels staging settings.chunk (one_list staging jobs) =
    c.deref-wave-items.ensures.value
    ∙ (c.in-Some.ensures.cut
    ∙ (ap (λ (list : List Job). waves_by_levels settings.staging settings.chunk list) is_list
    ∙ ap (λ (s : Settings). waves_by_levels s.staging settings.chunk (one_list s.staging jobs)) c.settings-settings.ensures.value)) in
    let past : length waves ≤ c.loop-wave.wave-index = omega arith in
    carried_all memory jobs staging settings.chunk blank waves whole size cut c.loop-wave.wave-index c.loop-wave.fence now c.law_of_fences.ensures.one_list past known.0 known.1 (known.2.size ∙ length-map jobs unfenced)
