use Rattle.std.proofs.Common.{◌≡◌, ℕ, ◌+◌, ◌-◌, ◌<◌, ◌≤◌, ◌++◌, List, length, ap, sym, ◌∙◌, arith, append_assoc}
use Rattle.dml_types.specs.Memory.{bytes_at}
use Rattle.dml_types.proofs.MemoryLemmas.{has_all_within}
use Rattle.dml_segments.proofs.RangeLemmas.{bytes_at_append}
use Rattle.dml_scan.proofs.StageLemmas.{part_here}
use Rattle.dml_scan.proofs.staging.stage.Goals as goal

pub overflow_add-place : goal.overflow_add-place
overflow_add-place c =
    let memory = c.part-part.ensures.memory in
    let some : 0 < c.args.len = omega (arith, c.loop-left.invariant.within, c.loop-left-test.true) in
    let within = has_all_within c.args.image.now c.args.addr c.args.len memory.whole c.requires.present some in
    omega (arith, within, memory.whole.each_page, memory.most_pages, c.loop-left.invariant.at, c.loop-left.invariant.within, c.part-part.ensures.length)

pub part-part-requires : goal.part-part-requires
part-part-requires c =
    part_here c.args.image.now c.args.addr c.args.len (c.args.len - c.loop-left.left) c.loop-left.place c.requires.present
    (omega (arith, c.loop-left.invariant.within, c.loop-left-test.true)) c.loop-left.invariant.at

pub loop-left-preserved : goal.loop-left-preserved
loop-left-preserved c =
    let memory = c.part-part.ensures.memory in
    let left = c.loop-left.left in
    let done = c.args.len - left in
    let count = length c.part-part.result.now in
    let some : 0 < c.args.len = omega (arith, c.loop-left.invariant.within, c.loop-left-test.true) in
    let within = has_all_within c.args.image.now c.args.addr c.args.len memory.whole c.requires.present some in
    let short : count ≤ left = omega (arith, c.part-part.ensures.length) in
    let next : c.args.len - (left - count) ≡ done + count = omega (arith, short, c.loop-left.invariant.within) in
    record {
      within = omega (arith, short, c.loop-left.invariant.within);
      at = omega (arith, next, c.loop-left.invariant.at);
      place = record {
        opening = c.push.ensures.place.opening ∙ c.loop-left.invariant.place.opening;
        start = c.push.ensures.place.start ∙ c.loop-left.invariant.place.start;
        room = c.push.ensures.place.room ∙ c.loop-left.invariant.place.room;
      };
      bytes =
          let old : List ℕ = c.args.room.now.bytes in
          let before : List ℕ = bytes_at c.args.image.now c.args.addr done in
          let here : c.part-part.result.now ≡ bytes_at c.args.image.now (c.args.addr + done) count =
          c.part-part.ensures.bytes ∙ ap (λ (place : ℕ). bytes_at c.args.image.now place count) c.loop-left.invariant.at in
          c.push.ensures.bytes
          ∙ (ap (λ (bytes : List ℕ). bytes ++ c.part-part.result.now) c.loop-left.invariant.bytes
          ∙ (append_assoc old before c.part-part.result.now
          ∙ (ap (λ (bytes : List ℕ). old ++ (before ++ bytes)) here
          ∙ (ap (λ (bytes : List ℕ). old ++ bytes) (bytes_at_append c.args.image.now c.args.addr done count (omega (arith, within, short, c.loop-left.invariant.within)))
          ∙ ap (λ (n : ℕ). old ++ bytes_at c.args.image.now c.args.addr n) (sym next)))));
    }
