use Rattle.std.proofs.Common.{length, get_or, arith}
use Rattle.dml_types.proofs.FirstLemmas.{first_le}
use Rattle.dml_scan.proofs.VectorLemmas.{no_lane, some_lane}
use Rattle.dml_scan.proofs.LaneLemmas.{unequal}
use Rattle.dml_scan.proofs.lanes.first_lane.Goals as goal

pub returns-then-unequal-eq0-clause-value : goal.returns-then-unequal-eq0-clause-value
returns-then-unequal-eq0-clause-value c = no_lane c.args.a c.args.b c.fits-a.0 c.fits-b.0 c.if-unequal-eq0.true

pub returns-else-unequal-eq0-clause-value : goal.returns-else-unequal-eq0-clause-value
returns-else-unequal-eq0-clause-value c = some_lane c.args.a c.args.b c.fits-a.0 c.fits-b.0 c.if-unequal-eq0.false

pub returns-else-unequal-eq0-clause-within : goal.returns-else-unequal-eq0-clause-within
returns-else-unequal-eq0-clause-within c =
    omega (arith, some_lane c.args.a c.args.b c.fits-a.0 c.fits-b.0 c.if-unequal-eq0.false, first_le (length c.args.a) (unequal (λ i. get_or c.args.a i 0) (λ i. get_or c.args.b i 0)), c.fits-a.0)
