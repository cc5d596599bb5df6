use Rattle.std.proofs.Common.{◌≡◌, ◌+◌, ◌≤◌, length, take, rules, arith, sym, ◌∙◌, ap}
use Rattle.std.proofs.lemmas.List.{places}
use Rattle.std.proofs.lemmas.Slice.{overwrites}
use Rattle.dml_types.specs.Memory.{bytes_at}
use Rattle.dml_types.proofs.MemoryLemmas.{has_all_at}
use Rattle.dml_segments.proofs.RangeLemmas.{front_read, read_more}
use Rattle.dml_segments.proofs.segmented.Segments.read_into.Goals as goal

pub rest-rest-requires : goal.rest-rest-requires
rest-rest-requires c = has_all_at c.args.self.now _ _ _ c.requires.present (omega (arith, c.loop-done.invariant.size))

pub loop-done-preserved : goal.loop-done-preserved
loop-done-preserved c =
    let count = c.min-count.result in
    let rest = c.rest-rest.result.now in
    let long : count ≤ length rest = omega (arith, c.min-count.ensures) in
    let size : length (take count rest) ≡ count = search (rules, places, long) in
    let read : take count rest ≡ bytes_at c.args.self.now (c.args.addr + c.loop-done.done) (length (take count rest)) =
    front_read c.args.self.now (c.args.addr + c.loop-done.done) count rest c.rest-rest.ensures.bytes long ∙ ap (bytes_at c.args.self.now (c.args.addr + c.loop-done.done)) (sym size) in
    record {
      within = omega (arith, c.min-count.ensures, c.loop-done.invariant.size);
      size = search (rules, overwrites);
      front =
          read_more c.args.self.now c.args.addr c.loop-done.done count c.loop-done.buffer _ (take count rest)
          c.loop-done.invariant.front read (sym size) (search (rules, overwrites, size));
    }
