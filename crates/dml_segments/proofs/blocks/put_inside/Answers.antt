use Rattle.std.proofs.Common.{◌≡◌, ℕ, ◌+◌, ◌-◌, length, refl, ◌∙◌, subst, arith}
use Rattle.dml_segments.specs.Blocks.{after_puts, block_puts_from, AreInside}
use Rattle.dml_segments.proofs.BlockLemmas.{after_to, inside_to}
use Rattle.dml_segments.proofs.blocks.put_inside.Goals.{else-loop-done-test, then-loop-done-test+then-not-put_four}
use Rattle.dml_segments.proofs.blocks.put_inside.Goals as goal

pub loop-done-preserved : goal.loop-done-preserved
loop-done-preserved c =
    let target = c.args.target in
    let entries = c.args.entries.now in
    let first = c.args.first in
    let done = c.loop-done.done in
    let begin = c.args.begin in
    let four = block_puts_from target entries done 4 in
    let inside : AreInside begin (length c.args.bytes.now) four =
    subst (λ (m : ℕ). AreInside begin m four) c.loop-done.auto.bytes (c.if-not-put_four.ensures.inside refl) in
    record {
      order = omega (arith, c.loop-done.invariant.order);
      within = omega (arith, c.loop-done-test.true);
      inside =
          inside_to target entries begin (length c.args.bytes.now) first done 4 (done + 4) c.loop-done.invariant.order (omega arith)
          c.loop-done.invariant.inside inside;
      bytes =
          after_to target entries begin first done 4 (done + 4) c.args.bytes.now c.loop-done.bytes c.put_four.new.bytes
          c.loop-done.invariant.order (omega arith) c.loop-done.invariant.bytes (c.if-not-put_four.ensures.bytes refl);
    }

pub returns-clause-inside : goal.returns-clause-inside
returns-clause-inside c =
    let done = c.loop-done.done in
    let singly = block_puts_from c.args.target c.args.entries.now done (c.put_singly.result - done) in
    let size : length c.loop-done-test.bytes ≡ length c.args.bytes.now = c.loop-done-test.auto.bytes ∙ c.loop-done.auto.bytes in
    inside_to c.args.target c.args.entries.now c.args.begin (length c.args.bytes.now) c.args.first done (c.put_singly.result - done) c.put_singly.result
    c.loop-done.invariant.order (omega (arith, c.put_singly.ensures.within)) c.loop-done.invariant.inside
    (subst (λ (m : ℕ). AreInside c.args.begin m singly) size c.put_singly.ensures.inside)

pub returns-clause-bytes : goal.returns-clause-bytes
returns-clause-bytes c =
    let done = c.loop-done.done in
    let before : c.loop-done-test.bytes ≡ after_puts c.args.begin c.args.bytes.now (block_puts_from c.args.target c.args.entries.now c.args.first (done - c.args.first)) =
    elim c.loop-done-test.branch [
      | else-loop-done-test w ↦ w.bytes-is ∙ c.loop-done.invariant.bytes
      | then-loop-done-test+then-not-put_four w ↦ w.bytes-is ∙ (w.if-not-put_four.ensures.kept refl ∙ c.loop-done.invariant.bytes)
    ] in
    after_to c.args.target c.args.entries.now c.args.begin c.args.first done (c.put_singly.result - done) c.put_singly.result c.args.bytes.now c.loop-done-test.bytes
    c.put_singly.new.bytes c.loop-done.invariant.order (omega (arith, c.put_singly.ensures.within)) before c.put_singly.ensures.bytes
