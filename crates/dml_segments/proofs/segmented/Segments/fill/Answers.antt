use Rattle.std.proofs.Common.{◌≡◌, ◌+◌, ◌-◌, ◌%◌, ◌≤◌, ℕ, rules, refl, arith, sym, ◌∙◌, ap, ap₂, inl, inr, ⊎_elim}
use Rattle.std.proofs.lemmas.Bool.{cases_lt}
use Rattle.dml_types.specs.Memory.{Memory, put}
use Rattle.dml_types.specs.Bytewise.{pattern_bytes}
use Rattle.dml_types.proofs.MemoryLemmas.{put_nil}
use Rattle.dml_segments.proofs.PatternLemmas.{length_pattern_bytes, pattern_bytes_none, word_front}
use Rattle.dml_segments.proofs.RangeLemmas.{fill_more, memory_after_put, next_present, part_present, range_fits}
use Rattle.dml_segments.proofs.segmented.Segments.fill.Goals as goal

-- no byte was filled
nothing_filled : (old now : Memory) (address pattern n : ℕ) → n ≤ 0 → now ≡ put old address (pattern_bytes pattern n) → now ≡ old
nothing_filled old now address pattern n none is =
    let zero : n ≡ 0 = omega arith in
    is ∙ (ap (λ k. put old address (pattern_bytes pattern k)) zero ∙ (ap (put old address) (sym (pattern_bytes_none pattern)) ∙ put_nil old address))

pub loop-done-init : goal.loop-done-init
loop-done-init c = record {
  within = omega arith;
  words = inl refl;
  filled = sym (put_nil _ _) ∙ ap (put c.args.self.now c.args.addr) (pattern_bytes_none c.args.pattern);
}

pub overflow_add-place : goal.overflow_add-place
overflow_add-place c = search (rules, range_fits _ _ _ _ c.requires.memory c.requires.present c.loop-done-test.true)

pub fill_some-count-requires : goal.fill_some-count-requires
fill_some-count-requires c = next_present _ _ _ _ _ _ c.loop-done.invariant.filled c.requires.present c.loop-done-test.true

pub loop-done-preserved-then-count-gt0 : goal.loop-done-preserved-then-count-gt0
loop-done-preserved-then-count-gt0 c =
    let words : c.loop-done.done % 8 ≡ 0 = ⊎_elim (λ whole. whole) (λ all. absurd (omega (arith, all, c.loop-done-test.true))) c.loop-done.invariant.words in
    record {
      within = omega (arith, c.fill_some-count.ensures.most);
      words = ⊎_elim (λ whole. inl (omega (arith, words, whole))) (λ all. inr (omega (arith, all, c.loop-done-test.true))) c.fill_some-count.ensures.words;
      filled =
          fill_more _ _ _ _ c.loop-done.done _ _ c.args.pattern c.requires.memory c.requires.present
          c.loop-done.invariant.filled words (omega (arith, c.if-count-gt0.true)) (omega (arith, c.fill_some-count.ensures.most)) c.fill_some-count.ensures.filled;
    }

pub write-requires-clause-memory : goal.write-requires-clause-memory
write-requires-clause-memory c =
    let same = nothing_filled c.loop-done.self c.fill_some-count.new.self _ _ _ c.if-count-gt0.false c.fill_some-count.ensures.filled in
    memory_after_put _ _ _ _ _ (same ∙ c.loop-done.invariant.filled) c.requires.memory c.requires.present
    (omega (arith, length_pattern_bytes c.args.pattern c.loop-done.done, c.loop-done-test.true))

pub write-requires-clause-present : goal.write-requires-clause-present
write-requires-clause-present c =
    let same = nothing_filled c.loop-done.self c.fill_some-count.new.self _ _ _ c.if-count-gt0.false c.fill_some-count.ensures.filled in
    part_present _ _ _ c.loop-done.done _ _ _ (same ∙ c.loop-done.invariant.filled) c.requires.present (search rules)

pub loop-done-preserved : goal.loop-done-preserved
loop-done-preserved c =
    let same = nothing_filled c.loop-done.self c.fill_some-count.new.self _ _ _ c.if-count-gt0.false c.fill_some-count.ensures.filled in
    let words : c.loop-done.done % 8 ≡ 0 = ⊎_elim (λ whole. whole) (λ all. absurd (omega (arith, all, c.loop-done-test.true))) c.loop-done.invariant.words in
    record {
      within = omega (arith, c.min-over_edge.ensures);
      words =
          ⊎_elim (λ whole. inl (omega (arith, words, c.min-over_edge.ensures))) (λ end. inr (omega (arith, c.min-over_edge.ensures)))
          (cases_lt 7 (c.args.len - c.loop-done.done));
      filled =
          fill_more _ _ _ _ c.loop-done.done c.min-over_edge.result _ c.args.pattern c.requires.memory c.requires.present
          c.loop-done.invariant.filled words (omega (arith, c.min-over_edge.ensures, c.loop-done-test.true)) (omega (arith, c.min-over_edge.ensures))
          (c.write.ensures
          ∙ ap₂ (λ (m : Memory) bytes. put m (c.args.addr + c.loop-done.done) bytes) same
          (word_front c.args.pattern c.min-over_edge.result _ c.to_le_bytes.ensures (omega (arith, c.min-over_edge.ensures))));
    }
