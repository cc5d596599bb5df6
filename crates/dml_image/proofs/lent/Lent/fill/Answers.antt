use Rattle.dml_segments.proofs.PatternLemmas.{length_pattern_bytes}
use Rattle.dml_image.proofs.WriteLemmas.{put_behind}
use Rattle.dml_image.proofs.lent.Lent.fill.Goals as goal

pub returns-then-place-self : goal.returns-then-place-self
returns-then-place-self c = put_behind _ _ _ c.requires.memory (rw length_pattern_bytes c.requires.present) c.if-place-self.true
