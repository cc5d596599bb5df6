use Rattle.std.proofs.Common.{◌≡◌, ℕ, ◌/◌, [], ◌∷◌, refl, sym, ◌∙◌, ap, subst, arith}
use Rattle.std.specs.Array.Iter.{array_into_iter_items}
use Rattle.dml_types.specs.declared.jobs.Job.{Job}
use Rattle.dml_effect.specs.Chunks.{IsApplyFrom}
use Rattle.dml_effect.proofs.ApplyChunkLemmas.{scanned_value}
use Rattle.dml_effect.proofs.JoinLemmas.{array_yields}
use Rattle.dml_effect_tests.proofs.uses.applied_in_three.Goals as goal

pub join_apply-requires : goal.join_apply-requires
join_apply-requires c =
    let memory = c.args.image.now in
    let job = c.args.job.now in
    let pieces = c.scan_apply-first.result ∷ c.scan_apply-second.result ∷ c.scan_apply-third.result ∷ [] in
    let items : array_into_iter_items c.into_iter.result ≡ pieces = c.into_iter.ensures.into_iter_gives.0 in
    let first = c.scan_apply-first.ensures in
    let second = c.scan_apply-second.ensures in
    let third = c.scan_apply-third.ensures in
    let size : c.job.result.now.delta_size / 10 ≡ job.delta_size / 10 = ap (λ (j : Job). j.delta_size / 10) c.job.ensures.job in
    let front = c.cut-front.ensures in
    let back = c.cut-middle.ensures in
    let low = scanned_value memory job 0 c.args.low c.scan_apply-first.result (omega arith) first.chunk first.bad first.first first.last first.staged in
    let middle = scanned_value memory job c.args.low c.args.high c.scan_apply-second.result c.requires.edges.0 second.chunk second.bad second.first second.last second.staged in
    let high = scanned_value memory job c.args.high _ c.scan_apply-third.result (omega (arith, size, c.requires.edges.1)) third.chunk third.bad third.first third.last third.staged in
    λ k. (
      (refl, tt),
      (
        c.requires.operation,
        (
          tt,
          (
            tt,
            record {
              chunks = pieces;
              yields = array_yields array_into_iter_items c.into_iter.result pieces items;
              values = (
                low,
                (
                  second.place.opening ∙ (back.opening.0 ∙ (front.opening.1 ∙ sym (first.place.opening ∙ front.opening.0))),
                  omega (arith, first.place.start, first.place.room, second.place.start, front.front.0, front.front.1, front.back.0, back.front.0),
                ),
                (
                  subst (λ (n : ℕ). IsApplyFrom memory job n c.scan_apply-second.result) (sym first.chunk.1) middle,
                  (
                    third.place.opening ∙ (back.opening.1 ∙ sym (second.place.opening ∙ back.opening.0)),
                    omega (arith, second.place.start, second.place.room, third.place.start, back.front.0, back.front.1, back.back.0),
                  ),
                  (subst (λ (n : ℕ). IsApplyFrom memory job n c.scan_apply-third.result) (sym second.chunk.1) high, tt, third.chunk.1 ∙ size),
                ),
              );
            },
          ),
        ),
      ),
    )
