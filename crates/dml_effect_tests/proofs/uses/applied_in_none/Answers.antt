use Rattle.std.proofs.Common.{◌≡◌, [], Option, None, Some, refl, ◌∙◌, arith}
use Rattle.dml_delta.specs.declared.applies.ApplyPiece.{ApplyPiece}
use Rattle.dml_effect_tests.proofs.uses.applied_in_none.Goals as goal

pub join_apply-requires : goal.join_apply-requires
join_apply-requires c =
    λ k. (
      (refl, tt),
      (
        c.requires.operation,
        (
          tt,
          (
            tt,
            record {
              chunks = [];
              yields = λ x j step. let none : ◌≡◌ {A = Option ApplyPiece} (Some x) None = step.0 ∙ c.empty.ensures.item in absurd (cc);
              values = omega (arith, c.requires.nothing);
            },
          ),
        ),
      ),
    )
