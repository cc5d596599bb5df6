use Rattle.std.proofs.Common.{rules}
use Rattle.dml_image.proofs.TableLemmas.{page_brought, page_renewed, page_whole, whole_after}
use Rattle.dml_image.proofs.tables.Table.bring.Goals as goal

pub invariant_of-self : goal.invariant_of-self
invariant_of-self c = whole_after _ _ _ c.self.invariant c.write.ensures.length

pub returns-in-Some-clause-ok : goal.returns-in-Some-clause-ok
returns-in-Some-clause-ok c =
    page_renewed c.self.inside.pages.items _ _ c.index_mut.result.now _ _ _
    c.self.view_is c.self.invariant c.requires c.index_mut.ensures.value c.in-Some.is (search rules) c.write.ensures.bytes

pub invariant_of-self-2 : goal.invariant_of-self-2
invariant_of-self-2 c =
    page_whole c.self.inside.pages.items _ _ c.index_mut.result.now _
    c.self.view_is c.self.invariant c.requires c.index_mut.ensures.value c.in_ok-made.ensures.length

pub returns-clause-ok : goal.returns-clause-ok
returns-clause-ok c =
    rw c.in_ok-made.ensures.bytes (page_brought c.self.inside.pages.items _ _ c.index_mut.result.now _
    c.self.view_is c.self.invariant c.requires c.index_mut.ensures.value (search rules))
