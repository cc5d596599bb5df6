use Rattle.std.proofs.Common.{◌≡◌, ℕ, ◌<◌, ◌≤◌, List, length, map, refl, ap, sym, subst, ◌∙◌, arith, All}
use Rattle.std.proofs.lemmas.List.{length-map}
use Rattle.dml_types.specs.declared.jobs.Job.{Job}
use Rattle.dml_types.specs.declared.limits.Settings.{Settings}
use Rattle.dml_types.specs.Job.{unfenced}
use Rattle.dml_types.specs.Memory.{IsMemory}
use Rattle.dml_order.specs.Order.{run_all}
use Rattle.dml_levels.specs.Laws.{Progress, begun, carried, in_list_order, unless_refused}
use Rattle.dml_wave.specs.Waves.{busy}
use Rattle.dml_engine.specs.Lists.{AreOpened, IsReady}
use Rattle.dml_engine.proofs.IdleLemmas.{checked_run, free_checked, opened_after}
use Rattle.dml_engine.proofs.ListLemmas.{judged_same, wave_done, waves_done, waves_give}
use Rattle.dml_engine.proofs.engines.EngineOver.in_waves.Goals as goal

pub loop-wave-init : goal.loop-wave-init
loop-wave-init g c =
    let jobs = c.args.jobs.now in
    let records = c.open_all.new.records in
    let opened : AreOpened jobs c.settings-settings.result.staging records =
    subst (λ (list : List Job). AreOpened list c.settings-settings.result.staging records) (judged_same jobs) c.in-Ok.ensures.opened in
    (refl, subst (λ (s : Settings). AreOpened jobs s.staging records) c.settings-settings.ensures.value opened, refl, refl)

pub loop-wave-preserved : goal.loop-wave-preserved
loop-wave-preserved g c =
    let jobs = c.args.jobs.now in
    let staging = c.args.self.now.settings.staging in
    let after = carried jobs staging in
    let waves = c.deref-wave-items.result.now in
    let at = c.loop-wave.wave-index in
    let below : at < length waves = omega arith in
    let wave = c.wave-item.result in
    let now = begun c.loop-wave.self.image c.loop-wave.records in
    let next = begun c.next_wave-alone.new.self.image c.next_wave-alone.new.records in
    let same_settings = c.loop-wave.invariant.2 in
    let same_wave : c.deref.result.now ≡ wave = c.deref.ensures.value ∙ c.wave.view_is in
    let checked = c.as_slice-checked.result.now in
    let settings = c.settings-settings.result in
    let all : All (IsReady checked settings.staging settings.chunk) waves =
    subst (All (IsReady checked settings.staging settings.chunk)) (sym c.deref-wave-items.ensures.value) c.in-Some.ensures.ready in
    let ready : IsReady checked settings.staging settings.chunk wave =
    subst (IsReady checked settings.staging settings.chunk) (sym c.wave-item.is) (all at wave below) in
    let size : length checked ≡ length jobs =
    ap length (c.as_slice-checked.ensures.value ∙ c.in-Ok.ensures.checked) ∙ length-map jobs (unless_refused settings.staging) in
    let places = subst (λ n. All (λ i. i < n) wave) size ready.places in
    let same_checked : checked ≡ map (unless_refused staging) jobs =
    c.as_slice-checked.ensures.value
    ∙ (c.in-Ok.ensures.checked
    ∙ ap (λ (settings : Settings). map (unless_refused settings.staging) jobs) c.settings-settings.ensures.value) in
    let free : map unfenced checked ≡ map (unless_refused staging) jobs = ap (map unfenced) same_checked ∙ free_checked jobs staging in
    let busy_after = carried (map unfenced checked) in
    let done : next ≡ run_all after now wave =
    c.next_wave-alone.ensures.done
    ∙ (ap (λ (settings : Settings). run_all (busy_after settings.staging) now (busy checked c.deref.result.now)) same_settings
    ∙ (ap (λ (places : List ℕ). run_all (busy_after staging) now (busy checked places)) same_wave
    ∙ checked_run jobs checked staging wave now free c.loop-wave.invariant.1 ready.places)) in (
      wave_done after waves at wave now next (begun c.args.self.now.image c.open_all.new.records) below c.wave-item.is done c.loop-wave.invariant.0,
      subst (λ (state : Progress). AreOpened jobs staging state.records) (sym done) (opened_after jobs staging wave now c.loop-wave.invariant.1 places),
      c.next_wave-alone.ensures.settings ∙ same_settings,
      c.next_wave-alone.ensures.watched ∙ c.loop-wave.invariant.3,
    )

pub returns-clause-image : goal.returns-clause-image
returns-clause-image g c =
    let jobs = c.args.jobs.now in
    let memory = c.args.self.now.image in
    let staging = c.args.self.now.settings.staging in
    let settings = c.settings-settings.result in
    let waves = c.deref-wave-items.result.now in
    let checked = c.as_slice-checked.result.now in
    let whole = (subst IsMemory c.image.ensures c.pages-pages.ensures.memory).whole in
    let size : length c.open_all.new.records ≡ length jobs =
    subst (λ (list : List Job). length c.open_all.new.records ≡ length list) (judged_same jobs) c.in-Ok.ensures.opened.size in
    let same : checked ≡ map (unless_refused staging) jobs =
    c.as_slice-checked.ensures.value
    ∙ (c.in-Ok.ensures.checked
    ∙ ap (λ (settings : Settings). map (unless_refused settings.staging) jobs) c.settings-settings.ensures.value) in
    let given =
    waves_give c.law_of_waves.ensures.in_order c.law_of_conflicts.ensures.without_refused c.law_of_fences.ensures.only_add memory jobs checked staging settings.staging
    settings.chunk c.open_all.new.records waves whole size same
    (c.deref-wave-items.ensures.value ∙ c.in-Some.ensures.cut) in
    let past : length waves ≤ c.loop-wave.wave-index = omega arith in
    let end : begun c.loop-wave.self.image c.loop-wave.records ≡ in_list_order memory jobs staging =
    waves_done (carried jobs staging) waves c.loop-wave.wave-index (begun c.loop-wave.self.image c.loop-wave.records)
    (in_list_order memory jobs staging) past (c.loop-wave.invariant.0 ∙ given) in
    ap (λ (now : Progress). now.image) end

pub returns-clause-records : goal.returns-clause-records
returns-clause-records g c =
    let jobs = c.args.jobs.now in
    let memory = c.args.self.now.image in
    let staging = c.args.self.now.settings.staging in
    let settings = c.settings-settings.result in
    let waves = c.deref-wave-items.result.now in
    let checked = c.as_slice-checked.result.now in
    let whole = (subst IsMemory c.image.ensures c.pages-pages.ensures.memory).whole in
    let size : length c.open_all.new.records ≡ length jobs =
    subst (λ (list : List Job). length c.open_all.new.records ≡ length list) (judged_same jobs) c.in-Ok.ensures.opened.size in
    let same : checked ≡ map (unless_refused staging) jobs =
    c.as_slice-checked.ensures.value
    ∙ (c.in-Ok.ensures.checked
    ∙ ap (λ (settings : Settings). map (unless_refused settings.staging) jobs) c.settings-settings.ensures.value) in
    let given =
    waves_give c.law_of_waves.ensures.in_order c.law_of_conflicts.ensures.without_refused c.law_of_fences.ensures.only_add memory jobs checked staging settings.staging
    settings.chunk c.open_all.new.records waves whole size same
    (c.deref-wave-items.ensures.value ∙ c.in-Some.ensures.cut) in
    let past : length waves ≤ c.loop-wave.wave-index = omega arith in
    let end : begun c.loop-wave.self.image c.loop-wave.records ≡ in_list_order memory jobs staging =
    waves_done (carried jobs staging) waves c.loop-wave.wave-index (begun c.loop-wave.self.image c.loop-wave.records)
    (in_list_order memory jobs staging) past (c.loop-wave.invariant.0 ∙ given) in
    ap (λ (now : Progress). now.records) end
