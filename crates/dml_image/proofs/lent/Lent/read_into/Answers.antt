use Rattle.dml_image.proofs.WriteLemmas.{read_behind}
use Rattle.dml_image.proofs.lent.Lent.read_into.Goals as goal

pub returns-then-place-self : goal.returns-then-place-self
returns-then-place-self c = read_behind _ _ _ c.requires.memory c.requires.present c.if-place-self.true
