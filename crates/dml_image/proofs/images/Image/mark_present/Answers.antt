use Rattle.std.proofs.Common.{false, get_or, get_or-set_other, get_or-set_same, below_more, ◌∙◌, ap, arith}
use Rattle.dml_image.proofs.images.Image.mark_present.Goals as goal

pub loop-i-preserved : goal.loop-i-preserved
loop-i-preserved c =
    below_more _ _
    (λ k low. get_or-set_other c.loop-i.marks c.loop-i.i k c.has_page.result false (omega arith) ∙ c.loop-i.invariant k low)
    (get_or-set_same c.loop-i.marks c.loop-i.i c.has_page.result false (omega arith)
    ∙ (c.has_page.ensures ∙ ap (λ page. get_or c.args.self.now.present page false) (omega arith)))
