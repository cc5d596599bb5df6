use Rattle.std.proofs.Common.{◌≡◌, ℕ, ◌+◌, ◌-◌, ◌<◌, ◌++◌, length, ap, sym, ◌∙◌, arith, rules}
use Rattle.std.specs.Prelude.{slice_index}
use Rattle.dml_order.specs.Waves.{cut_behind, later_places, level_places}
use Rattle.dml_order.proofs.WaveSteps.{places_here}
use Rattle.dml_levels.specs.Links.{first_from}
use Rattle.dml_levels.specs.Waves.{fits_wave}
use Rattle.dml_levels.proofs.FillingLemmas.{none_left, small_pushed, where_ok}
use Rattle.dml_levels.proofs.LinkLemmas.{IsNext, is_next}
use Rattle.dml_levels.proofs.waving.cut_linked_level.Goals as goal

pub loop-place-init : goal.loop-place-init
loop-place-init c =
    let fits = fits_wave c.args.jobs.now c.args.staging c.args.chunk in
    let levels = c.args.levels.now in
    let level = c.args.level in
    let waves = c.args.waves.now.items in
    let place = c.link-place.result in
    let next : IsNext levels level 0 place = is_next levels level 0 place (omega arith) (c.link-place.ensures ∙ c.requires.linked.first level c.requires.level) in
    let all : level_places levels level ≡ later_places levels level place (length levels - place) =
    ap (later_places levels level 0) (let e : length levels ≡ length levels - 0 = omega arith in e) ∙ next.rest in (
      ap (λ places. waves ++ cut_behind fits c.args.filling.now.room.wave places) (sym all)
          ∙ ap (λ wave. waves ++ cut_behind fits wave (level_places levels level)) c.requires.empty.wave,
      search rules,
      c.requires.fit,
      search rules,
      next.most,
      next.same,
    )

pub loop-place-smaller : goal.loop-place-smaller
loop-place-smaller c =
    let levels = c.args.levels.now in
    let level = c.args.level in
    let old = c.loop-place in
    let place : ℕ = old.place in
    let below : place < length levels = omega arith in
    let found : c.link-place-in-loop-place.result ≡ first_from levels level (place + 1) =
    c.link-place-in-loop-place.ensures
    ∙ (ap (λ links. slice_index links place) (c.in_ok-take.ensures.links ∙ old.invariant.3)
    ∙ (c.requires.linked.next place (omega arith) below ∙ ap (λ own. first_from levels own (place + 1)) (old.invariant.5 below))) in
    let next : IsNext levels level (place + 1) c.link-place-in-loop-place.result = is_next levels level (place + 1) _ (omega arith) found in
    omega (arith, next.least, below)

pub loop-place-preserved : goal.loop-place-preserved
loop-place-preserved c =
    let fits = fits_wave c.args.jobs.now c.args.staging c.args.chunk in
    let levels = c.args.levels.now in
    let level = c.args.level in
    let old = c.loop-place in
    let place : ℕ = old.place in
    let below : place < length levels = omega arith in
    let found : c.link-place-in-loop-place.result ≡ first_from levels level (place + 1) =
    c.link-place-in-loop-place.ensures
    ∙ (ap (λ links. slice_index links place) (c.in_ok-take.ensures.links ∙ old.invariant.3)
    ∙ (c.requires.linked.next place (omega arith) below ∙ ap (λ own. first_from levels own (place + 1)) (old.invariant.5 below))) in
    let next : IsNext levels level (place + 1) c.link-place-in-loop-place.result = is_next levels level (place + 1) _ (omega arith) found in
    let rest = later_places levels level (place + 1) (length levels - (place + 1)) in
    let here = places_here levels level place below (old.invariant.5 below) in (
      ap (λ places. c.take.new.waves.items ++ cut_behind fits c.take.new.self.room.wave places) (sym next.rest)
          ∙ (c.in_ok-take.ensures.cut rest
          ∙ (ap (λ places. old.waves.items ++ cut_behind fits old.filling.room.wave places) (sym here) ∙ old.invariant.0)),
      c.in_ok-take.ensures.filling,
      c.in_ok-take.ensures.small old.invariant.2,
      c.in_ok-take.ensures.links ∙ old.invariant.3,
      next.most,
      next.same,
    )

pub returns-clause-cut : goal.returns-clause-cut
returns-clause-cut c =
    let fits = fits_wave c.args.jobs.now c.args.staging c.args.chunk in
    let levels = c.args.levels.now in
    let old = c.loop-place in
    let ended : old.place ≡ length levels = omega (arith, old.invariant.4) in
    where_ok c.finish.result _ _
    (λ last.
    last fits
    ∙ (ap (λ places. old.waves.items ++ cut_behind fits old.filling.room.wave places) (sym (none_left levels c.args.level old.place ended)) ∙ old.invariant.0))
    c.finish.ensures.cut

pub returns-clause-fit : goal.returns-clause-fit
returns-clause-fit c =
    let old = c.loop-place in
    where_ok c.finish.result _ _
    (small_pushed c.args.jobs.now c.args.staging c.args.chunk old.waves.items c.finish.new.waves.items old.filling old.invariant.1 old.invariant.2)
    c.finish.ensures.pushed
