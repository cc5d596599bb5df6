use Rattle.std.proofs.Common.{◌≡◌, ◌-◌, ◌++◌, sym, ◌∙◌, ap, subst, arith}
use Rattle.dml_types.specs.Memory.{Memory, IsMemory, puts_made}
use Rattle.dml_segments.specs.Blocks.{are_present, block_puts, block_puts_from}
use Rattle.dml_segments.proofs.BlockLemmas.{front_present, kept_after_puts, made_both, present_after, puts_split}
use Rattle.dml_image.proofs.tables.Table.put_blocks.Goals as goal

pub put_some-done-requires-clause-memory : goal.put_some-done-requires-clause-memory
put_some-done-requires-clause-memory c =
    let puts = block_puts_from c.args.target c.args.entries.now 0 c.loop-done.done in
    subst IsMemory (sym c.loop-done.invariant.made)
    (kept_after_puts c.args.self.now puts c.requires.memory
    (front_present c.args.target c.args.entries.now c.args.self.now c.requires.present c.loop-done.done c.loop-done.invariant.within))

pub put_some-done-requires-clause-present : goal.put_some-done-requires-clause-present
put_some-done-requires-clause-present c =
    let puts = block_puts_from c.args.target c.args.entries.now 0 c.loop-done.done in
    let all = block_puts c.args.target c.args.entries.now in
    ap (λ (m : Memory). are_present m all) c.loop-done.invariant.made
    ∙ (present_after c.args.self.now puts all ∙ c.requires.present)

pub loop-done-preserved : goal.loop-done-preserved
loop-done-preserved c =
    let target = c.args.target in
    let entries = c.args.entries.now in
    let done = c.loop-done.done in
    let end = c.put_some-done.result in
    let more = block_puts_from target entries done (end - done) in
    let both : block_puts_from target entries 0 end ≡ block_puts_from target entries 0 done ++ more =
    ap (block_puts_from target entries 0) (omega arith) ∙ puts_split target entries 0 done (end - done) done (omega arith) in
    record {
      within = c.put_some-done.ensures.within.1;
      made =
          c.put_some-done.ensures.made
          ∙ (ap (λ (m : Memory). puts_made m more) c.loop-done.invariant.made
          ∙ (sym (made_both c.args.self.now (block_puts_from target entries 0 done) more)
          ∙ ap (puts_made c.args.self.now) (sym both)));
    }
