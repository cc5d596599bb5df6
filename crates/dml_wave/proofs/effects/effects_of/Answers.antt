use Rattle.std.proofs.Common.{◌≡◌, ◌+◌, ◌<◌, ◌-◌, true, false, Option, List, Vec, Global, drop, take, get_or, map, vec_len, vec_capacity, length, refl, sym, ◌∙◌, ap, subst, arith}
use Rattle.std.specs.Prelude.{unwrap_or}
use Rattle.std.specs.List.{AllZip}
use Rattle.std.proofs.lemmas.List.{drop-map, get_or_default, length-map}
use Rattle.std.proofs.lemmas.Slice.{drop-put_mid}
use Rattle.dml_types.specs.declared.jobs.Job.{Job}
use Rattle.dml_types.specs.declared.operations.Op.{Op}
use Rattle.dml_types.specs.declared.operations.Op.TheVariants.{NoOp}
use Rattle.dml_types.specs.Job.{no_op_job}
use Rattle.dml_desc.specs.Checked.{operation_of}
use Rattle.dml_levels.specs.Tasks.{task_count}
use Rattle.dml_levels.specs.Waves.{job_at}
use Rattle.dml_pool.specs.Slots.{behind}
use Rattle.dml_wave.specs.declared.effects.JobEffect.{JobEffect}
use Rattle.dml_wave.specs.Effects.{HoldWave, IsEffectAt, IsEffectOf}
use Rattle.dml_wave.specs.Waves.{busy, is_busy}
use Rattle.dml_wave.proofs.WaveLemmas.{held_within, held_behind, held_next, found_more, found_same}
use Rattle.dml_wave.proofs.effects.effects_of.Goals.{then-is_busy, else-is_busy}
use Rattle.dml_wave.proofs.effects.effects_of.Goals as goal

pub effect_of-effect-requires : goal.effect_of-effect-requires
effect_of-effect-requires c =
    let jobs = c.args.jobs.now in
    let chunk = c.args.chunk in
    let wave = c.args.wave.now in
    let index = c.loop-place.place-index in
    let below : index < length wave = omega (arith, c.loop-place-test.true) in
    let place = get_or wave index 0 in
    let from = c.loop-place.from in
    let job : c.index-jobs-place.result ≡ job_at jobs place =
    c.index-jobs-place.is ∙ get_or_default jobs place c.index-jobs-place.result no_op_job (c.requires.places index 0 below) in
    let ends : from + c.task_count.result ≡ from + task_count (job_at jobs place) chunk =
    ap (λ n. from + n) (c.task_count.ensures.count ∙ ap (λ (j : Job). task_count j chunk) job) in record {
      slots =
          held_next c.args.image.now jobs chunk wave index below c.loop-place.slots from (from + c.task_count.result) c.index-jobs-place.result job
          c.loop-place.invariant.slots ends;
    }

pub loop-place-preserved : goal.loop-place-preserved
loop-place-preserved c =
    let memory = c.args.image.now in
    let jobs = c.args.jobs.now in
    let chunk = c.args.chunk in
    let wave = c.args.wave.now in
    let index = c.loop-place.place-index in
    let slots = map behind c.loop-place.slots in
    let length_of : length slots ≡ length c.loop-place.slots = length-map c.loop-place.slots behind in
    let new = map behind c.if-is_busy.slots in
    let from = c.loop-place.from in
    let to = c.loop-place.from + c.task_count.result in
    let hold = c.loop-place.invariant.slots in
    let below : index < length wave = omega (arith, c.loop-place-test.true) in
    let place = get_or wave index 0 in
    let job : c.index-jobs-place.result ≡ job_at jobs place =
    c.index-jobs-place.is ∙ get_or_default jobs place c.index-jobs-place.result no_op_job (c.requires.places index 0 below) in
    let ends : to ≡ from + task_count (job_at jobs place) chunk =
    ap (λ n. from + n) (c.task_count.ensures.count ∙ ap (λ (j : Job). task_count j chunk) job) in
    let operation : operation_of (job_at jobs place) ≡ c.op.result =
    ap operation_of (sym job) ∙ ap (λ (o : Option Op). unwrap_or o NoOp) c.op.ensures.rules.operation in
    let inside = held_within memory jobs chunk wave index below slots from to hold (omega (arith, c.loop-place.invariant.within, length_of)) ends in
    elim c.if-is_busy.branch [
      | else-is_busy w ↦
          let idle : is_busy (operation_of (job_at jobs place)) ≡ false =
          ap is_busy operation ∙ (sym c.is_busy.ensures ∙ w.if-is_busy.false) in
          record {
            slots =
                subst (λ n. HoldWave memory jobs chunk (drop (index + 1) wave) (drop n new)) (sym w.from-is)
                (held_behind memory jobs chunk wave index below slots new from to hold ends (ap (λ l. drop to (map behind l)) w.slots-is));
            within = omega (arith, inside, length_of, w.from-is, c.if-is_busy.auto.slots);
            found =
                subst (λ (v : Vec JobEffect Global). AllZip (IsEffectAt memory jobs) (busy jobs (take (index + 1) wave)) v.items) (sym w.effects-is)
                (found_same memory jobs chunk wave index below c.loop-place.effects.items c.loop-place.invariant.found idle);
            few = omega (arith, ap (λ (v : Vec JobEffect Global). vec_len v) w.effects-is, c.loop-place.invariant.few);
            room = omega (arith, ap (λ (v : Vec JobEffect Global). vec_capacity v) w.effects-is, c.loop-place.invariant.room);
          }
      | then-is_busy w ↦
          let before = c.loop-place.slots in
          let same : drop to c.if-is_busy.slots ≡ drop to before =
          ap (drop to) w.slots-is ∙ drop-put_mid from (to - from) before w.effect_of-effect.new.slots to (omega arith) c.loop-place.invariant.within (omega (arith, inside, length_of, w.effect_of-effect.auto.slots)) in
          let kept : drop to new ≡ drop to slots = drop-map behind to c.if-is_busy.slots ∙ (ap (map behind) same ∙ sym (drop-map behind to before)) in
          let is : IsEffectAt memory jobs place (record { place = place; effect = w.effect_of-effect.result }) =
          record { place = refl; effect = subst (λ (j : Job). IsEffectOf memory j w.effect_of-effect.result) job w.effect_of-effect.ensures } in
          let some : is_busy (operation_of (job_at jobs place)) ≡ true =
          ap is_busy operation ∙ (sym c.is_busy.ensures ∙ w.if-is_busy.true) in
          record {
            slots =
                subst (λ n. HoldWave memory jobs chunk (drop (index + 1) wave) (drop n new)) (sym w.from-is)
                (held_behind memory jobs chunk wave index below slots new from to hold ends kept);
            within = omega (arith, inside, length_of, w.from-is, c.if-is_busy.auto.slots);
            found =
                subst (λ (l : List JobEffect). AllZip (IsEffectAt memory jobs) (busy jobs (take (index + 1) wave)) l)
                (sym (ap (λ (v : Vec JobEffect Global). v.items) w.effects-is ∙ w.push_reserved.ensures.items))
                (found_more memory jobs chunk wave index below c.loop-place.effects.items _ c.loop-place.invariant.found some is);
            few = omega (arith, ap (λ (v : Vec JobEffect Global). vec_len v) w.effects-is, w.push_reserved.ensures.len, c.loop-place.invariant.few);
            room = omega (arith, ap (λ (v : Vec JobEffect Global). vec_capacity v) w.effects-is, w.push_reserved.ensures.capacity, c.loop-place.invariant.room);
          }
    ]
