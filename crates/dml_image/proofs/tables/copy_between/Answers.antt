use Rattle.std.proofs.Common.{sym, ◌∙◌, ap₂, arith}
use Rattle.dml_image.proofs.TableLemmas.{copied_page, copied_to_back, copied_to_front}
use Rattle.dml_image.proofs.tables.copy_between.Goals as goal

pub returns-then-source-target : goal.returns-then-source-target
returns-then-source-target c =
    copied_to_back c.args.pages.now _ _ c.args.source c.args.target c.args.from c.args.to c.args.len c.index-front-source.result c.index-behind-0.result _ (omega (arith, c.if-source-target.true)) c.requires.target.0
    c.split_at_mut-front.ensures.front c.split_at_mut-front.ensures.back c.index-front-source.is c.index-behind-0.is
    (c.copy_over.ensures ∙ ap₂ (λ x y. copied_page x y c.args.from c.args.to c.args.len) (sym c.index-front-source.is) (sym c.index-behind-0.is))

pub returns-else-source-target : goal.returns-else-source-target
returns-else-source-target c =
    copied_to_front c.args.pages.now _ _ c.args.source c.args.target c.args.from c.args.to c.args.len c.index-behind-0-else-source-target.result c.index-front-target.result _ (omega (arith, c.if-source-target.false, c.requires.apart)) c.requires.source.0
    c.split_at_mut-front-else-source-target.ensures.front c.split_at_mut-front-else-source-target.ensures.back c.index-behind-0-else-source-target.is c.index-front-target.is
    (c.copy_over-else-source-target.ensures ∙ ap₂ (λ x y. copied_page x y c.args.from c.args.to c.args.len) (sym c.index-behind-0-else-source-target.is) (sym c.index-front-target.is))
