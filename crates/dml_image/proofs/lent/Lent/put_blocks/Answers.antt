use Rattle.std.proofs.Common.{◌≡◌, ℕ, ◌-◌, ◌/◌, Bool, true, List, [], ◌∷◌, None, length, replicate, refl, sym, ◌∙◌, ap, arith, ⊎_elim}
use Rattle.std.proofs.lemmas.Bool.{cases_lt}
use Rattle.dml_types.specs.Memory.{InOnePiece, puts_made}
use Rattle.dml_image.specs.Kept.{loan_memory, marked_memory}
use Rattle.dml_segments.specs.Blocks.{after_puts, block_puts, block_puts_from}
use Rattle.dml_segments.proofs.BlockLemmas.{block_fits, made_in_all}
use Rattle.dml_image.proofs.lent.Lent.put_blocks.Goals as goal

-- other bytes, as many as before
same_size : (marks : List Bool) (old new : List ℕ) (name : ℕ) → length new ≡ length old → marked_memory marks new name ≡ record (marked_memory marks old name) { bytes = new }
same_size [] old new name same =
    ap (λ (n : ℕ). record { present = replicate (n / 4096) true; bytes = new; home = None; loan = InOnePiece name }) same
same_size (mark ∷ marks) old new name same = refl

pub returns-then-target-self : goal.returns-then-target-self
returns-then-target-self c =
    let memory = loan_memory c.args.self.now in
    let entries = c.args.entries.now in
    let none : 0 ≡ length entries / 10 =
    ⊎_elim (λ some. absurd (omega (arith, c.if-target-self.true, block_fits c.args.target entries memory c.requires.present 0 c.requires.memory some))) (λ no. omega arith)
    (cases_lt 0 (length entries / 10)) in
    ap (λ (n : ℕ). puts_made memory (block_puts_from c.args.target entries 0 n)) none

pub returns : goal.returns
returns c =
    let memory = loan_memory c.args.self.now in
    let target = c.args.target in
    let entries = c.args.entries.now in
    let all : c.put_inside.result - 0 ≡ length entries / 10 =
    ⊎_elim (λ short. absurd (c.put_inside.ensures.stops short (omega arith, omega (arith, block_fits target entries memory c.requires.present c.put_inside.result c.requires.memory short))))
    (λ no. omega (arith, no, c.put_inside.ensures.within.1)) (cases_lt c.put_inside.result (length entries / 10)) in
    same_size c.args.self.now.present.now memory.bytes c.put_inside.new.bytes c.args.self.now.content.ghost_name c.put_inside.auto.bytes
    ∙ ap (λ (bytes : List ℕ). record memory { bytes = bytes })
    (c.put_inside.ensures.bytes ∙ ap (λ (n : ℕ). after_puts 0 memory.bytes (block_puts_from target entries 0 n)) all)
    ∙ sym (made_in_all memory (block_puts target entries))
