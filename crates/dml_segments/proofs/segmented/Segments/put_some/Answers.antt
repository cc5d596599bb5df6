use Rattle.std.proofs.Common.{◌≡◌, ℕ, ◌+◌, ◌-◌, ◌*◌, List, length, sym, ◌∙◌, ap, ap₂, arith}
use Rattle.dml_types.specs.Memory.{Memory, has, has_all, put, puts_made}
use Rattle.dml_types.specs.Delta.{block_number}
use Rattle.dml_types.proofs.MemoryLemmas.{has_all_at}
use Rattle.dml_segments.specs.Blocks.{block_puts_from}
use Rattle.dml_segments.proofs.BlockLemmas.{address_fits, block_present}
use Rattle.dml_segments.proofs.segmented.Segments.put_some.Goals as goal

pub overflow_add-addr : goal.overflow_add-addr
overflow_add-addr c =
    let entries = c.args.entries.now in
    let number : c.from.result ≡ block_number entries c.args.first = c.from.ensures ∙ c.block_number.ensures in
    omega (arith, number, address_fits c.args.target entries c.args.self.now c.requires.present c.args.first c.requires.memory c.requires.first)

pub put_in_segment-end-requires-clause-present : goal.put_in_segment-end-requires-clause-present
put_in_segment-end-requires-clause-present c =
    let entries = c.args.entries.now in
    let memory = c.args.self.now in
    let first = c.args.first in
    let start : c.args.target + 8 * c.from.result ≡ c.args.target + 8 * block_number entries first + 0 =
    ap (λ (n : ℕ). c.args.target + 8 * n) (c.from.ensures ∙ c.block_number.ensures) ∙ omega arith in
    ap (has memory) start
    ∙ has_all_at memory (c.args.target + 8 * block_number entries first) 8 0 (block_present c.args.target entries memory c.requires.present first c.requires.first) (omega arith)

pub put_in_segment-end-requires-clause-target : goal.put_in_segment-end-requires-clause-target
put_in_segment-end-requires-clause-target c =
    let fits = address_fits c.args.target c.args.entries.now c.args.self.now c.requires.present c.args.first c.requires.memory c.requires.first in
    omega (arith, fits)

-- nothing was put before the block that is put alone
none_put : (c_old c_new : Memory) (target : ℕ) (entries : List ℕ) (first n : ℕ) → n ≡ 0 → c_new ≡ puts_made c_old (block_puts_from target entries first n) → c_new ≡ c_old
none_put before after target entries first n none made =
    made ∙ ap (λ (k : ℕ). puts_made before (block_puts_from target entries first k)) none

pub write-requires-clause-present : goal.write-requires-clause-present
write-requires-clause-present c =
    let entries = c.args.entries.now in
    let first = c.args.first in
    let same : c.put_in_segment-end.new.self ≡ c.args.self.now =
    none_put c.args.self.now c.put_in_segment-end.new.self c.args.target entries first (c.put_in_segment-end.result - first) (omega arith) c.put_in_segment-end.ensures.made in
    ap₂ (λ (m : Memory) (n : ℕ). has_all m (c.args.target + 8 * n) (length c.entry_block.result)) same (c.from.ensures ∙ c.block_number.ensures)
    ∙ (ap (has_all c.args.self.now (c.args.target + 8 * block_number entries first)) c.entry_block.ensures.length
    ∙ block_present c.args.target entries c.args.self.now c.requires.present first c.requires.first)

pub returns-clause-made : goal.returns-clause-made
returns-clause-made c =
    let entries = c.args.entries.now in
    let first = c.args.first in
    let same : c.put_in_segment-end.new.self ≡ c.args.self.now =
    none_put c.args.self.now c.put_in_segment-end.new.self c.args.target entries first (c.put_in_segment-end.result - first) (omega arith) c.put_in_segment-end.ensures.made in
    let one : first + 1 - first ≡ 1 = omega arith in
    c.write.ensures
    ∙ (ap₂ (λ (m : Memory) (n : ℕ). put m (c.args.target + 8 * n) c.entry_block.result) same (c.from.ensures ∙ c.block_number.ensures)
    ∙ (ap (put c.args.self.now (c.args.target + 8 * block_number entries first)) c.entry_block.ensures.bytes
    ∙ ap (λ (n : ℕ). puts_made c.args.self.now (block_puts_from c.args.target entries first n)) (sym one)))
