use Rattle.std.proofs.Common.{◌≤◌, length, sym, ◌∙◌, subst}
use Rattle.dml_types.specs.Memory.{Memory}
use Rattle.dml_image.proofs.images.Image.into_segments.Goals as goal

pub returns-clause-segments : goal.returns-clause-segments
returns-clause-segments c =
    let same = c.into_list.ensures.memory ∙ c.in-Segments.ensures.pages in
    record {
      order = c.into_list.ensures.order;
      least_pages = subst (λ (m : Memory). 1 ≤ length m.present) (sym same) c.in-Segments.ensures.memory.least_pages;
      most_pages = subst (λ (m : Memory). length m.present ≤ 4294967295) (sym same) c.in-Segments.ensures.memory.most_pages;
    }
