use Rattle.std.proofs.Common.{sym, ◌∙◌}
use Rattle.dml_scan.proofs.VectorLemmas.{step_repeated}
use Rattle.dml_scan.proofs.lanes.repeated_step.Goals as goal

pub returns : goal.returns
returns c =
    let step = step_repeated c.args.bytes.now c.args.repeated c.args.at c.requires c.fits-repeated.0 in (
      λ full. (let parts = c.all_of.ensures.0 full in
          step.0 (
            sym c.load.ensures ∙ c.alike-first.ensures.0 parts.0,
            sym c.load-2.ensures ∙ c.alike-second.ensures.0 parts.1,
            sym c.load-3.ensures ∙ c.alike-third.ensures.0 parts.2,
            sym c.load-4.ensures ∙ c.alike-fourth.ensures.0 parts.3,
          )),
      λ alike. (let parts = step.1 alike in
          c.all_of.ensures.1 (
            c.alike-first.ensures.1 (c.load.ensures ∙ parts.0),
            c.alike-second.ensures.1 (c.load-2.ensures ∙ parts.1),
            c.alike-third.ensures.1 (c.load-3.ensures ∙ parts.2),
            c.alike-fourth.ensures.1 (c.load-4.ensures ∙ parts.3),
          )),
    )
