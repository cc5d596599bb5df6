use Rattle.std.proofs.Common.{◌≡◌, ℕ, ◌+◌, ◌-◌, ◌/◌, not, length, sym, ◌∙◌, ap, ap₂, arith}
use Rattle.dml_types.proofs.FirstLemmas.{first_is}
use Rattle.dml_types.specs.Delta.{block_number}
use Rattle.dml_delta.specs.Record.{is_allowed, least_in, AreBlocks}
use Rattle.dml_delta.proofs.RisingLemmas.{least_behind, next_allowed, rising_allowed}
use Rattle.dml_delta.proofs.record.judge.Goals as goal

pub returns-then-known-offset-clause-good : goal.returns-then-known-offset-clause-good
returns-then-known-offset-clause-good c =
    let memory = c.args.image.now in
    let job = c.args.job.now in
    let entries = c.args.entries.now in
    let i = c.loop-i.i in
    let bad = λ (i : ℕ). not (is_allowed memory job (least_in c.args.least entries i) (block_number entries i)) in
    let offset : c.from-offset.result ≡ block_number entries i = omega (arith, c.from-offset.ensures, c.block_number.ensures) in
    sym (first_is (length entries / 10) bad i (omega (arith, c.loop-i-test.true)) (λ k below. ap not (c.loop-i.invariant.allowed k below)) (λ below. ap not (sym (ap₂ (is_allowed memory job) c.loop-i.invariant.least offset) ∙ c.known_above-known.ensures.stops c.if-known-offset.true)))

pub loop-i-preserved : goal.loop-i-preserved
loop-i-preserved c =
    let memory = c.args.image.now in
    let job = c.args.job.now in
    let start = c.args.least in
    let entries = c.args.entries.now in
    let i = c.loop-i.i in
    let j = c.behind_rising-i.result in
    let known = c.known_above-known.result in
    let offset : c.from-offset.result ≡ block_number entries i = omega (arith, c.from-offset.ensures, c.block_number.ensures) in
    let here = sym (ap₂ (is_allowed memory job) c.loop-i.invariant.least offset) ∙ c.known_above-known.ensures.allowed (omega (arith, c.if-known-offset.false)) in
    let before = next_allowed memory job start entries i c.loop-i.invariant.allowed here in
    let last : i + 1 - 1 ≡ i = omega arith in
    let blocks : AreBlocks memory job (block_number entries (i + 1 - 1) + 1) known =
    λ b from below. c.known_above-known.ensures.known b (omega (arith, from, offset, ap (block_number entries) last)) below in
    let behind : c.from-least.result ≡ block_number entries (j - 1) =
    omega (arith, c.from-least.ensures, c.block_number-in-loop-i.ensures) in
    record {
      within = c.behind_rising-i.ensures.within.1;
      least = ap (λ (n : ℕ). n + 1) behind ∙ least_behind start entries j (omega (arith, c.behind_rising-i.ensures.within.0));
      allowed = rising_allowed memory job start entries (i + 1) j known (omega arith) before blocks c.behind_rising-i.ensures.rising;
    }

pub returns-clause-good : goal.returns-clause-good
returns-clause-good c =
    let entries = c.args.entries.now in
    let bad = λ (i : ℕ). not (is_allowed c.args.image.now c.args.job.now (least_in c.args.least entries i) (block_number entries i)) in
    sym (first_is (length entries / 10) bad (length entries / 10) (omega arith) (λ k below. ap not (c.loop-i.invariant.allowed k (omega (arith, below, c.loop-i-test.false)))) (λ below. absurd (omega (arith, below))))
