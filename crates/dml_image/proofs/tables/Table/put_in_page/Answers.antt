use Rattle.std.proofs.Common.{◌/◌, ◌<◌, length, ◌∙◌, ap}
use Rattle.dml_types.specs.Memory.{Memory, has}
use Rattle.dml_image.proofs.TableLemmas.{made_in_page, page_of_byte, whole_after}
use Rattle.dml_image.proofs.tables.Table.put_in_page.Goals as goal

pub invariant_of-self : goal.invariant_of-self
invariant_of-self c = whole_after _ _ _ c.self.invariant c.put_blocks.ensures.length

pub returns-clause-made : goal.returns-clause-made
returns-clause-made c =
    let pages = c.self.inside.pages.items in
    let below : c.args.addr / 4096 < length pages =
    page_of_byte pages c.args.addr (ap (λ (m : Memory). has m c.args.addr) c.self.view_is ∙ c.requires.present) in
    made_in_page pages _ (c.args.addr / 4096) _ _ c.index_mut.result.now _
    c.self.view_is c.self.invariant below c.index_mut.ensures.value c.in-Some.is c.put_blocks.ensures.inside c.put_blocks.ensures.bytes
