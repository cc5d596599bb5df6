use Rattle.std.proofs.Common.{◌/◌, ◌%◌, None, get_or, set, sym, ◌∙◌, ap, subst}
use Rattle.std.proofs.lemmas.List.{with_items_is}
use Rattle.dml_image.specs.Table.{AreWhole, table_memory}
use Rattle.dml_image.proofs.TableLemmas.{copied_between, copied_inside, copied_page, page_here, whole_after, whole_copied}
use Rattle.dml_image.proofs.tables.Table.copy_part.Goals as goal

pub invariant_of-self : goal.invariant_of-self
invariant_of-self c = whole_after _ _ _ c.self.invariant c.copy.ensures.length

pub returns-in-Some : goal.returns-in-Some
returns-in-Some c =
    copied_inside c.self.inside.pages.items _ c.args.from _ _ _ _ c.index_mut.result.now
    c.self.view_is c.self.invariant c.requires.present.0 c.requires.present.1 c.if-from_page-to_page.true
    c.index_mut.ensures.value c.in-Some.is c.requires.within.0 c.requires.within.1 c.copy.ensures.bytes

pub invariant_of-self-else-from_page-to_page : goal.invariant_of-self-else-from_page-to_page
invariant_of-self-else-from_page-to_page c =
    let same = with_items_is c.self.inside.pages c.copy_between.new.pages (c.copy_between.auto.pages ∙ c.as_mut_slice.ensures.len) in
    let is = same ∙ (c.copy_between.ensures
    ∙ ap (λ pages. set pages (c.args.to / 4096) (copied_page (get_or pages (c.args.from / 4096) None) (get_or pages (c.args.to / 4096) None) (c.args.from % 4096) (c.args.to % 4096) c.args.len)) c.as_mut_slice.ensures.value) in
    let here = page_here c.self.inside.pages.items c.args.self.now c.args.to c.self.view_is c.requires.present.1 in
    subst AreWhole (sym is) (whole_copied c.self.inside.pages.items (c.args.to / 4096) _ _ c.args.len (get_or c.self.inside.pages.items (c.args.from / 4096) None) c.self.invariant here.0 c.requires.within.0 c.requires.within.1)

pub returns-else-from_page-to_page : goal.returns-else-from_page-to_page
returns-else-from_page-to_page c =
    let same = with_items_is c.self.inside.pages c.copy_between.new.pages (c.copy_between.auto.pages ∙ c.as_mut_slice.ensures.len) in
    let is = same ∙ (c.copy_between.ensures
    ∙ ap (λ pages. set pages (c.args.to / 4096) (copied_page (get_or pages (c.args.from / 4096) None) (get_or pages (c.args.to / 4096) None) (c.args.from % 4096) (c.args.to % 4096) c.args.len)) c.as_mut_slice.ensures.value) in
    ap table_memory is
    ∙ copied_between c.self.inside.pages.items c.args.self.now c.args.from c.args.to c.args.len c.self.view_is c.self.invariant c.requires.present.0 c.requires.present.1 c.requires.within.0 c.requires.within.1
