use Rattle.std.proofs.Common.{sym, subst}
use Rattle.dml_types.specs.Memory.{IsMemory}
use Rattle.dml_segments.specs.Pieces.{pieces_of}
use Rattle.dml_segments.proofs.PieceLemmas.{pieces_kept}
use Rattle.dml_image.proofs.images.Image.over_segments.Goals as goal

pub invariant_of-result : goal.invariant_of-result
invariant_of-result c = subst IsMemory (sym c.of.ensures) (pieces_kept (pieces_of c.args.list.items) c.requires)
