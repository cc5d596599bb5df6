use Rattle.std.proofs.Common.{arith}
use Rattle.dml_image.proofs.TableLemmas.{part_shown}
use Rattle.dml_image.proofs.tables.Table.part.Goals as goal

pub returns-clause-bytes : goal.returns-clause-bytes
returns-clause-bytes c =
    part_shown c.self.inside.pages.items _ _ _ _ _ c.index.result.now
    c.self.view_is c.self.invariant c.requires c.index.ensures c.in-Some.is c.bytes.ensures.bytes c.bytes.ensures.length (omega arith)
