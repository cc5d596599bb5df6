use Rattle.dml_scan.proofs.VectorLemmas.{loaded, step_alike}
use Rattle.dml_scan.proofs.lanes.alike_step.Goals as goal

pub returns : goal.returns
returns c =
    let step = step_alike c.args.a.now c.args.b.now c.args.at c.requires.first c.requires.second in
    let first = loaded _ _ _ _ c.load.ensures c.load-2.ensures in
    let second = loaded _ _ _ _ c.load-3.ensures c.load-4.ensures in
    let third = loaded _ _ _ _ c.load-5.ensures c.load-6.ensures in
    let fourth = loaded _ _ _ _ c.load-7.ensures c.load-8.ensures in (
      λ full. (let parts = c.all_of.ensures.0 full in
          step.0 (
            first.0 (c.alike-first.ensures.0 parts.0),
            second.0 (c.alike-second.ensures.0 parts.1),
            third.0 (c.alike-third.ensures.0 parts.2),
            fourth.0 (c.alike-fourth.ensures.0 parts.3),
          )),
      λ alike. (let parts = step.1 alike in
          c.all_of.ensures.1 (
            c.alike-first.ensures.1 (first.1 parts.0),
            c.alike-second.ensures.1 (second.1 parts.1),
            c.alike-third.ensures.1 (third.1 parts.2),
            c.alike-fourth.ensures.1 (fourth.1 parts.3),
          )),
    )
