use Rattle.std.proofs.Common.{◌≡◌, ◌+◌, ◌-◌, ◌<◌, ◌++◌, length, ap, subst, sym, ◌∙◌, arith, All}
use Rattle.dml_order.specs.Waves.{cut_behind, later_places}
use Rattle.dml_order.proofs.WaveSteps.{places_here, places_past}
use Rattle.dml_levels.specs.Waves.{fits_wave, IsFilling, IsSmall}
use Rattle.dml_levels.proofs.FillingLemmas.{none_left, small_pushed, where_ok}
use Rattle.dml_levels.proofs.waving.cut_level.Goals as goal
use Rattle.dml_levels.proofs.waving.cut_level.Goals.{then-from-level+in_ok-take, else-from-level}

pub loop-place-preserved : goal.loop-place-preserved
loop-place-preserved c =
    let jobs = c.args.jobs.now in
    let fits = fits_wave jobs c.args.staging c.args.chunk in
    let levels = c.args.levels.now in
    let place = c.loop-place.place in
    let below : place < length levels = omega arith in
    let rest = later_places levels c.args.level (place + 1) (length levels - (place + 1)) in
    let old = c.loop-place in
    elim c.if-from-level.branch [
      | then-from-level+in_ok-take w ↦
          let here = places_here levels c.args.level place below (sym c.from.ensures ∙ w.if-from-level.true) in (
            ap (λ list. list.items ++ cut_behind fits c.if-from-level.filling.room.wave rest) w.waves-is
                ∙ (ap (λ filling. w.take.new.waves.items ++ cut_behind fits filling.room.wave rest) w.filling-is
                ∙ (w.in_ok-take.ensures.cut rest
                ∙ (ap (λ places. old.waves.items ++ cut_behind fits old.filling.room.wave places) (sym here) ∙ old.invariant.0))),
            subst (IsFilling jobs c.args.staging c.args.chunk) (sym w.filling-is) w.in_ok-take.ensures.filling,
            subst (λ list. All (IsSmall jobs c.args.staging c.args.chunk) list.items) (sym w.waves-is) (w.in_ok-take.ensures.small old.invariant.2),
          )
      | else-from-level w ↦
          let past = places_past levels c.args.level place below (λ same. w.if-from-level.false (c.from.ensures ∙ same)) in (
            ap (λ list. list.items ++ cut_behind fits c.if-from-level.filling.room.wave rest) w.waves-is
                ∙ (ap (λ filling. old.waves.items ++ cut_behind fits filling.room.wave rest) w.filling-is
                ∙ (ap (λ places. old.waves.items ++ cut_behind fits old.filling.room.wave places) (sym past) ∙ old.invariant.0)),
            subst (IsFilling jobs c.args.staging c.args.chunk) (sym w.filling-is) old.invariant.1,
            subst (λ list. All (IsSmall jobs c.args.staging c.args.chunk) list.items) (sym w.waves-is) old.invariant.2,
          )
    ]

pub returns-clause-cut : goal.returns-clause-cut
returns-clause-cut c =
    let fits = fits_wave c.args.jobs.now c.args.staging c.args.chunk in
    let levels = c.args.levels.now in
    let old = c.loop-place in
    let ended : old.place ≡ length levels = omega arith in
    where_ok c.finish.result _ _
    (λ last.
    last fits
    ∙ (ap (λ places. old.waves.items ++ cut_behind fits old.filling.room.wave places) (sym (none_left levels c.args.level old.place ended)) ∙ old.invariant.0))
    c.finish.ensures.cut

pub returns-clause-fit : goal.returns-clause-fit
returns-clause-fit c =
    let old = c.loop-place in
    where_ok c.finish.result _ _
    (small_pushed c.args.jobs.now c.args.staging c.args.chunk old.waves.items c.finish.new.waves.items old.filling old.invariant.1 old.invariant.2)
    c.finish.ensures.pushed
