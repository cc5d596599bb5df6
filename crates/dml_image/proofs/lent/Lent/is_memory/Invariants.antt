use Rattle.dml_image.proofs.LentLemmas.{AreBlank}
use Rattle.dml_image.proofs.lent.Lent.is_memory.Given as goal

abbrev pub invariant-loop-page : goal.invariant-loop-page
invariant-loop-page l = AreBlank l.self.present.now l.self.content.now l.page
