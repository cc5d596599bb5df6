use Rattle.dml_scan.proofs.VectorLemmas.{both_full}
use Rattle.dml_scan.proofs.lanes.both.Goals as goal

pub returns : goal.returns
returns c = both_full 32 c.args.a c.args.b c.fits-a.0 c.fits-b.0 c.fits-a.1 c.fits-b.1
