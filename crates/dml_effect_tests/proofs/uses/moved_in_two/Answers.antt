use Rattle.std.proofs.Common.{◌≡◌, [], ◌∷◌, refl, ◌∙◌, ap, arith}
use Rattle.std.specs.Array.Iter.{array_into_iter_items}
use Rattle.dml_types.specs.declared.operations.Op.TheVariants.{Move}
use Rattle.dml_effect.proofs.JoinLemmas.{array_yields}
use Rattle.dml_effect_tests.proofs.uses.moved_in_two.Goals as goal

pub join_found-requires : goal.join_found-requires
join_found-requires c =
    let pieces = c.scan_move-below.result ∷ c.scan_move-above.result ∷ [] in
    let items : array_into_iter_items c.into_iter.result ≡ pieces = c.into_iter.ensures.into_iter_gives.0 in
    let below = c.scan_move-below.ensures in
    let above = c.scan_move-above.ensures in
    let cut = c.cut-low.ensures in
    let size = ap (λ j. j.size) c.job.ensures.job in
    λ k. (
      (refl, tt),
      (
        (λ e. absurd (cc (e, c.requires.operation)), λ e. absurd (cc (e, c.requires.operation))),
        (
          tt,
          (
            tt,
            record {
              op = Move;
              operation = c.requires.operation;
              chunks = pieces;
              yields = array_yields array_into_iter_items c.into_iter.result pieces items;
              values = (
                record { begins = below.chunk.0; order = omega arith; found = rw below.chunk.1 below.found; staged = rw below.chunk.1 below.staged },
                (cc, omega (arith, below.place.start, below.place.room, above.place.start, cut.front.0, cut.front.1, cut.back.0)),
                (record { begins = cc; order = omega (arith, below.chunk.1, above.chunk.1, size); found = rw (below.chunk.1, above.chunk.1) above.found; staged = rw (below.chunk.1, above.chunk.1) above.staged }, tt, above.chunk.1 ∙ size),
              );
            },
          ),
        ),
      ),
    )
