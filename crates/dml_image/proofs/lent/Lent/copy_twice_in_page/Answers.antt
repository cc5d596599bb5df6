use Rattle.std.proofs.Common.{refl, sym, ◌∙◌, ap}
use Rattle.dml_types.specs.Memory.{Memory, has_all}
use Rattle.dml_image.specs.Kept.{loan_memory}
use Rattle.dml_image.proofs.MoveLemmas.{both_in_page, kept_after_move}
use Rattle.dml_image.proofs.RunLemmas.{has_all_of_page}
use Rattle.dml_image.proofs.lent.Lent.copy_twice_in_page.Goals as goal

pub copy_part-requires-clause-memory : goal.copy_part-requires-clause-memory
copy_part-requires-clause-memory c =
    let both = both_in_page (loan_memory c.args.self.now) c.args.from c.args.first c.args.len c.requires.within.0 c.requires.within.1 c.if-not-copy_in_page.ensures.present in
    kept_after_move _ _ _ c.args.from c.args.first c.args.len refl c.requires.memory both.0 both.1 (c.if-not-copy_in_page.ensures.copied refl)

pub copy_part-requires-clause-from : goal.copy_part-requires-clause-from
copy_part-requires-clause-from c =
    let both = both_in_page (loan_memory c.args.self.now) c.args.from c.args.first c.args.len c.requires.within.0 c.requires.within.1 c.if-not-copy_in_page.ensures.present in
    ap (λ (m : Memory). has_all m c.args.from c.args.len) (c.if-not-copy_in_page.ensures.copied refl) ∙ both.0

pub copy_part-requires-clause-to : goal.copy_part-requires-clause-to
copy_part-requires-clause-to c =
    ap (λ (m : Memory). has_all m c.args.second c.args.len) (c.if-not-copy_in_page.ensures.copied refl)
    ∙ has_all_of_page (loan_memory c.args.self.now) c.args.second c.args.len c.requires.within.2 (sym c.has.ensures ∙ c.if-not-has.false)
