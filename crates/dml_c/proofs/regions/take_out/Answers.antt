use Rattle.std.proofs.Common.{◌<◌, subst, sym, arith}
use Rattle.dml_c.specs.declared.regions.CRegion.{CRegion}
use Rattle.dml_c.proofs.RegionLemmas.{same_addresses, sound_at}
use Rattle.dml_c.proofs.regions.take_out.Goals as goal

pub lend-segment-requires : goal.lend-segment-requires
lend-segment-requires c =
    subst (λ (r : CRegion). r.address < 17592186044416) (sym (c.loop-k.invariant.rest c.loop-k.k _ (omega arith)))
    (sound_at 0 c.args.regions.now c.loop-k.k _ c.requires.sound c.loop-k-test.true).1

pub returns-clause-addresses : goal.returns-clause-addresses
returns-clause-addresses c = same_addresses c.loop-k.regions c.args.regions.now c.loop-k.invariant.size c.loop-k.invariant.addresses
