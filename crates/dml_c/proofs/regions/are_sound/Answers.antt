use Rattle.std.proofs.Common.{◌≡◌, ◌+◌, ◌%◌, length, sym, ◌∙◌, arith}
use Rattle.dml_c.proofs.RegionLemmas.{next_sound, next_whole, one_more_sound}
use Rattle.dml_c.proofs.regions.are_sound.Goals as goal

pub loop-region-preserved : goal.loop-region-preserved
loop-region-preserved c =
    let regions = c.args.regions.now in
    let k = c.loop-region.region-index in
    let region = c.region-item.result in
    let next = (region.address + length region.bytes.now) % 18446744073709551616 in
    let is : next ≡ region.address + length region.bytes.now = omega (arith, c.if-next-region.false, c.well_formed) in
    let before = c.loop-region.invariant in
    record {
      front = λ whole most.
          one_more_sound regions c.loop-region.end c.loop-region.bits next k region c.loop-region-test.true (sym c.region-item.is) before.front
          (omega (arith, c.if-region-end.false)) (omega (arith, c.if-next-region.false)) is whole most;
      sound = λ none.
          let passed = before.sound none in
          let here = next_sound regions c.loop-region.end k region c.loop-region-test.true (sym c.region-item.is) (sym (before.front passed.0 passed.1) ∙ none) in
          next_whole c.loop-region.bits c.loop-region.end next region passed.0 here is;
    }
