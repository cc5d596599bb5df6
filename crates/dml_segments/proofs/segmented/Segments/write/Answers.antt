use Rattle.std.proofs.Common.{◌≡◌, ◌+◌, ◌-◌, ◌≤◌, ℕ, List, length, take, drop, rules, arith, sym, ◌∙◌, ap}
use Rattle.std.proofs.lemmas.List.{places, same_lists}
use Rattle.dml_types.specs.Memory.{put}
use Rattle.dml_types.proofs.MemoryLemmas.{put_nil}
use Rattle.dml_segments.proofs.RangeLemmas.{next_present, range_fits, write_more}
use Rattle.dml_segments.proofs.segmented.Segments.write.Goals as goal

pub loop-done-init : goal.loop-done-init
loop-done-init c = record { within = omega arith; written = sym (put_nil _ _) }

pub overflow_add-addr : goal.overflow_add-addr
overflow_add-addr c = search (rules, range_fits _ _ _ _ c.requires.memory c.requires.present c.loop-done-test.true)

pub write_some-count-requires-clause-present : goal.write_some-count-requires-clause-present
write_some-count-requires-clause-present c =
    next_present _ _ _ _ _ _ c.loop-done.invariant.written c.requires.present c.loop-done-test.true

-- the next part of the bytes
rest_fits : (done count : ℕ) (bytes : List ℕ) → done ≤ length bytes → count ≤ length (take (length bytes - done) (drop done bytes)) → done + count ≤ length bytes
rest_fits done count bytes low most =
    let size : length (take (length bytes - done) (drop done bytes)) ≡ length bytes - done = search (rules, places) in
    omega (arith, low, most, size)

same_part : (done count : ℕ) (bytes : List ℕ) → done + count ≤ length bytes → take count (take (length bytes - done) (drop done bytes)) ≡ take (done + count - done) (drop done bytes)
same_part done count bytes within = same_lists _ _ (search (rules, places)) (λ k d h. grind (arith, places))

pub loop-done-preserved : goal.loop-done-preserved
loop-done-preserved c =
    let done = c.loop-done.done in
    let count = c.write_some-count.result in
    let bytes = c.args.bytes.now in
    let within : done + count ≤ length bytes = rest_fits done count bytes (omega arith) c.write_some-count.ensures.most in
    record {
      within = within;
      written =
          write_more _ _ _ _ done (done + count) bytes c.requires.memory c.requires.present c.loop-done.invariant.written
          (omega (arith, c.write_some-count.ensures.some)) within
          (c.write_some-count.ensures.written ∙ ap (put c.loop-done.self (c.args.addr + done)) (same_part done count bytes within));
    }
