use Rattle.std.proofs.Common.{◌≡◌, ℕ, ◌+◌, ◌-◌, ◌*◌, List, ◌++◌, ◌∷◌, [], length, slice_range, sym, ◌∙◌, ap, ap₂, subst, arith}
use Rattle.dml_types.specs.Memory.{overwrite}
use Rattle.dml_types.specs.Delta.{block_number}
use Rattle.dml_segments.specs.Blocks.{after_puts, block_put, block_puts_from, AreInside}
use Rattle.dml_segments.proofs.BlockLemmas.{after_more, inside_more, length_block, puts_more}
use Rattle.dml_segments.proofs.blocks.put_singly.Goals as goal

pub loop-i-preserved : goal.loop-i-preserved
loop-i-preserved c =
    let target = c.args.target in
    let entries = c.args.entries.now in
    let i = c.loop-i.i in
    let begin = c.args.begin in
    let bytes = c.args.bytes.now in
    let before = block_puts_from target entries c.args.first (i - c.args.first) in
    let number : c.from.result ≡ block_number entries i = c.from.ensures ∙ c.block_number.ensures in
    let long : length (slice_range entries (10 * i + 2) (10 * i + 10)) ≡ 8 = length_block target entries i c.loop-i-test.true in
    let more : block_puts_from target entries c.args.first (i + 1 - c.args.first) ≡ before ++ block_put target entries i ∷ [] =
    puts_more target entries c.args.first (i - c.args.first) i c.loop-i.auto.i (omega arith) in
    record {
      inside =
          subst (AreInside begin (length bytes)) (sym more)
          (inside_more begin (length bytes) before (block_put target entries i) c.loop-i.invariant.inside
          (omega (arith, number), omega (arith, number, long, c.loop-i.auto.bytes)));
      bytes =
          c.write_at.ensures
          ∙ (ap₂ (λ (xs ys : List ℕ). overwrite xs (target + 8 * c.from.result - begin) ys) c.loop-i.invariant.bytes c.entry_block.ensures.bytes
          ∙ (ap (λ (n : ℕ). overwrite (after_puts begin bytes before) (target + 8 * n - begin) (slice_range entries (10 * i + 2) (10 * i + 10))) number
          ∙ (sym (after_more begin bytes before (block_put target entries i))
          ∙ ap (after_puts begin bytes) (sym more))));
    }
