use Rattle.dml_segments.proofs.PatternLemmas.{length_pattern_bytes}
use Rattle.dml_image.proofs.TableLemmas.{part_written, whole_after}
use Rattle.dml_image.proofs.tables.Table.fill_part.Goals as goal

pub invariant_of-self : goal.invariant_of-self
invariant_of-self c = whole_after _ _ _ c.self.invariant c.fill.ensures.length

pub returns : goal.returns
returns c =
    part_written c.self.inside.pages.items _ _ _ _ _ c.index_mut.result.now
    c.self.view_is c.self.invariant c.requires.present c.index_mut.ensures.value c.in-Some.is (rw length_pattern_bytes c.requires.within) c.fill.ensures.bytes
