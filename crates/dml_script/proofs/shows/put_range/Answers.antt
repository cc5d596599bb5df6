use Rattle.dml_script.proofs.ShowLemmas.{part_more}
use Rattle.std.proofs.Common.{◌≡◌, ◌≤◌, ◌+◌, ◌*◌, ◌-◌, arith, length, refl}
use Rattle.dml_script.proofs.shows.put_range.Goals as goal

pub loop-done-preserved : goal.loop-done-preserved
loop-done-preserved c =
    let done = c.loop-done.done in
    let count = c.next_part-at.result.1 in
    let room : 2 * (done + count) ≤ length c.loop-done.text = omega (arith, c.loop-done.auto.text, c.requires.room, c.next_part-at.ensures.within) in
    let long : length c.put_part.new.text ≡ 2 * count = omega (arith, c.put_part.auto.text, room) in
    record {
      within = c.next_part-at.ensures.within;
      so_far =
          part_more c.args.image.now c.args.addr c.next_part-at.result.0 done count (2 * done) (2 * (done + count) - 2 * done) (2 * (done + count)) c.loop-done.text c.put_part.new.text
          c.next_part-at.ensures.place refl refl room long c.loop-done.invariant.so_far c.put_part.ensures;
    }
