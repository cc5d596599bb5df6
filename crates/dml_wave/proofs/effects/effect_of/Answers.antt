use Rattle.std.proofs.Common.{◌≡◌, ◌≢◌, Some, map, refl, sym, ◌∙◌}
use Rattle.std.specs.List.{filter_map}
use Rattle.std.specs.Slice.Iter.{iter_mut_rest, iter_mut_steps}
use Rattle.dml_types.specs.declared.operations.Op.TheVariants.{CreateDelta, ApplyDelta}
use Rattle.dml_types.specs.Job.{op_of}
use Rattle.dml_pool.specs.Slots.{behind}
use Rattle.dml_wave.specs.Effects.{slot_scan, slot_create, slot_apply}
use Rattle.dml_wave.proofs.PieceLemmas.{scans_in, creates_in, applies_in, slots_yield}
use Rattle.dml_wave.proofs.effects.effect_of.Goals as goal

pub join_create-requires : goal.join_create-requires
join_create-requires c κs =
    let slots = c.args.slots.now in
    let operation : op_of c.args.job.now ≡ Some CreateDelta = cc (c.op.ensures.rules.operation, c.in-CreateDelta.is) in (
      (refl, tt),
      (
        operation,
        (
          (tt, tt, record { at = λ xs t q x u before folded step. tt }),
          (
            tt,
            record {
              chunks = filter_map slot_create (map behind slots);
              yields = slots_yield iter_mut_steps behind iter_mut_rest (λ a b h. h.0) (λ a x b h. h) _ slot_create c.filter_map.result c.iter_mut.result slots c.filter_map.ensures.source c.iter_mut.ensures.rest (λ x r q k. (refl, k.met.1));
              values = creates_in c.args.image.now c.args.job.now (map behind slots) operation c.requires.slots;
            },
          ),
        ),
      ),
    )

pub join_apply-requires : goal.join_apply-requires
join_apply-requires c κs =
    let slots = c.args.slots.now in
    let operation : op_of c.args.job.now ≡ Some ApplyDelta = cc (c.op.ensures.rules.operation, c.in-ApplyDelta.is) in (
      (refl, tt),
      (
        operation,
        (
          (tt, tt, record { at = λ xs t q x u before folded step. tt }),
          (
            tt,
            record {
              chunks = filter_map slot_apply (map behind slots);
              yields = slots_yield iter_mut_steps behind iter_mut_rest (λ a b h. h.0) (λ a x b h. h) _ slot_apply c.filter_map-in-ApplyDelta.result c.iter_mut-in-ApplyDelta.result slots c.filter_map-in-ApplyDelta.ensures.source c.iter_mut-in-ApplyDelta.ensures.rest (λ x r q k. (refl, k.met.1));
              values = applies_in c.args.image.now c.args.job.now (map behind slots) operation c.requires.slots;
            },
          ),
        ),
      ),
    )

pub join_found-requires : goal.join_found-requires
join_found-requires c κs =
    let slots = c.args.slots.now in
    let operation = c.op.ensures.rules.operation in
    let no_create : c.op.result ≢ CreateDelta = c.in_default.not-CreateDelta in
    let no_apply : c.op.result ≢ ApplyDelta = c.in_default.not-ApplyDelta in (
      (refl, tt),
      (
        (λ e. no_create (cc (sym operation ∙ e)), λ e. no_apply (cc (sym operation ∙ e))),
        (
          (tt, tt, record { at = λ xs t q x u before folded step. tt }),
          (
            tt,
            record {
              op = c.op.result;
              operation = operation;
              chunks = filter_map slot_scan (map behind slots);
              yields = slots_yield iter_mut_steps behind iter_mut_rest (λ a b h. h.0) (λ a x b h. h) _ slot_scan c.filter_map-in_default.result c.iter_mut-in_default.result slots c.filter_map-in_default.ensures.source c.iter_mut-in_default.ensures.rest (λ x r q k. (refl, k.met.1));
              values = scans_in c.args.image.now c.args.job.now c.op.result (map behind slots) operation no_create no_apply c.requires.slots;
            },
          ),
        ),
      ),
    )
