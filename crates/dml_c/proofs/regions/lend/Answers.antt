use Rattle.std.proofs.Common.{sym, subst}
use Rattle.dml_image.specs.Pieces.{AreSegments}
use Rattle.dml_c.proofs.RegionLemmas.{no_first_fault, sound_table}
use Rattle.dml_c.proofs.regions.lend.Goals as goal

pub take_out-requires-clause-sound : goal.take_out-requires-clause-sound
take_out-requires-clause-sound c = no_first_fault c.args.regions.now c.requires

pub over_segments-requires : goal.over_segments-requires
over_segments-requires c = subst AreSegments (sym c.take_out.ensures.taken) (sound_table c.args.regions.now c.requires)
