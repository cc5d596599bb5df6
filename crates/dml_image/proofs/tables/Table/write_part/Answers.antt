use Rattle.dml_image.proofs.TableLemmas.{part_written, whole_after}
use Rattle.dml_image.proofs.tables.Table.write_part.Goals as goal

pub invariant_of-self : goal.invariant_of-self
invariant_of-self c = whole_after _ _ _ c.self.invariant c.write.ensures.length

pub returns : goal.returns
returns c =
    part_written c.self.inside.pages.items _ _ _ _ _ c.index_mut.result.now
    c.self.view_is c.self.invariant c.requires.present c.index_mut.ensures.value c.in-Some.is c.requires.within c.write.ensures.bytes
