use Rattle.std.proofs.Common.{◌≡◌, Bool, cond, eqb, sym, ◌∙◌, ap}
use Rattle.std.proofs.lemmas.Bool.{eq-eqb, ne_eqb}
use Rattle.dml_effect.proofs.ApplyChunkLemmas.{stopped_value, joined_value}
use Rattle.dml_effect.proofs.applying.join_neighbours.Goals.{then-from-above, else-from-above}
use Rattle.dml_effect.proofs.applying.join_neighbours.Goals as goal

pub returns-then-is_some-clause-value : goal.returns-then-is_some-clause-value
returns-then-is_some-clause-value c =
    stopped_value c.args._image.now c.args._job.now c.args.below c.args.above c.requires.below c.requires.above c.stop_before-stop.result c.stop_before-stop.ensures (sym c.is_some.ensures ∙ c.if-is_some.true)

pub returns-clause-value : goal.returns-clause-value
returns-clause-value c =
    let below = c.args.below in
    let above = c.args.above in
    let first : c.if-from-above.result ≡ cond (eqb below.from above.from) above.first below.first =
    elim c.if-from-above.branch [
      | then-from-above w ↦ w.result-is ∙ sym (ap (λ (b : Bool). cond b above.first below.first) (eq-eqb below.from above.from w.if-from-above.true))
      | else-from-above w ↦ w.result-is ∙ sym (ap (λ (b : Bool). cond b above.first below.first) (ne_eqb below.from above.from w.if-from-above.false))
    ] in
    joined_value c.args._image.now c.args._job.now below above c.requires.below c.requires.above c.stop_before-stop.result c.join.result c.if-from-above.result c.or.result c.or.ensures first c.stop_before-stop.ensures (sym c.is_some.ensures ∙ c.if-is_some.false) c.join.ensures.bytes
