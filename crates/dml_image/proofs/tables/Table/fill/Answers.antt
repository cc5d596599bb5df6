use Rattle.std.proofs.Common.{◌≡◌, ◌+◌, ◌-◌, ◌%◌, rules, refl, arith, sym, ◌∙◌, ap, inl, inr, ⊎_elim}
use Rattle.std.proofs.lemmas.Bool.{cases_lt}
use Rattle.dml_types.specs.Memory.{put}
use Rattle.dml_types.specs.Bytewise.{pattern_bytes}
use Rattle.dml_types.proofs.MemoryLemmas.{put_nil}
use Rattle.dml_segments.proofs.PatternLemmas.{length_pattern_bytes, pattern_bytes_none, word_front}
use Rattle.dml_segments.proofs.RangeLemmas.{fill_more, memory_after_put, next_present, part_present, range_fits}
use Rattle.dml_image.proofs.tables.Table.fill.Goals as goal

pub loop-done-init : goal.loop-done-init
loop-done-init c = record {
  within = omega arith;
  words = inl refl;
  filled = sym (put_nil _ _) ∙ ap (put c.args.self.now c.args.addr) (pattern_bytes_none c.args.pattern);
}

pub overflow_add-place : goal.overflow_add-place
overflow_add-place c = search (rules, range_fits _ _ _ _ c.requires.memory c.requires.present c.loop-done-test.true)

pub fill_part-requires-clause-present : goal.fill_part-requires-clause-present
fill_part-requires-clause-present c =
    next_present _ _ _ _ _ _ c.loop-done.invariant.filled c.requires.present c.loop-done-test.true

pub loop-done-preserved-then-left-room : goal.loop-done-preserved-then-left-room
loop-done-preserved-then-left-room c = record {
  within = omega arith;
  words = inr refl;
  filled =
      let words : c.loop-done.done % 8 ≡ 0 = ⊎_elim (λ whole. whole) (λ all. absurd (omega (arith, all, c.loop-done-test.true))) c.loop-done.invariant.words in
      fill_more _ _ _ _ c.loop-done.done (c.args.len - c.loop-done.done) _ c.args.pattern c.requires.memory c.requires.present
      c.loop-done.invariant.filled words (omega (arith, c.loop-done-test.true)) (omega arith) c.fill_part.ensures
      ∙ ap (λ n. put c.args.self.now c.args.addr (pattern_bytes c.args.pattern n)) (omega arith);
}

pub fill_part-requires-then-words-gt0-clause-present : goal.fill_part-requires-then-words-gt0-clause-present
fill_part-requires-then-words-gt0-clause-present c =
    next_present _ _ _ _ _ _ c.loop-done.invariant.filled c.requires.present c.loop-done-test.true

pub loop-done-preserved-then-words-gt0 : goal.loop-done-preserved-then-words-gt0
loop-done-preserved-then-words-gt0 c =
    let words : c.loop-done.done % 8 ≡ 0 = ⊎_elim (λ whole. whole) (λ all. absurd (omega (arith, all, c.loop-done-test.true))) c.loop-done.invariant.words in
    record {
      within = omega (arith, c.if-left-room.false);
      words = inl (omega (arith, words));
      filled =
          fill_more _ _ _ _ c.loop-done.done _ _ c.args.pattern c.requires.memory c.requires.present
          c.loop-done.invariant.filled words (omega (arith, c.if-words-gt0.true)) (omega (arith, c.if-left-room.false)) c.fill_part-then-words-gt0.ensures;
    }

pub write-requires-clause-memory : goal.write-requires-clause-memory
write-requires-clause-memory c =
    memory_after_put _ _ _ _ _ c.loop-done.invariant.filled c.requires.memory c.requires.present
    (omega (arith, length_pattern_bytes c.args.pattern c.loop-done.done, c.loop-done-test.true))

pub write-requires-clause-present : goal.write-requires-clause-present
write-requires-clause-present c =
    part_present _ _ _ c.loop-done.done _ _ _ c.loop-done.invariant.filled c.requires.present (search rules)

pub loop-done-preserved : goal.loop-done-preserved
loop-done-preserved c =
    let words : c.loop-done.done % 8 ≡ 0 = ⊎_elim (λ whole. whole) (λ all. absurd (omega (arith, all, c.loop-done-test.true))) c.loop-done.invariant.words in
    record {
      within = omega (arith, c.min-over_edge.ensures);
      words =
          ⊎_elim (λ whole. inl (omega (arith, words, c.min-over_edge.ensures))) (λ end. inr (omega (arith, c.min-over_edge.ensures)))
          (cases_lt 7 (c.args.len - c.loop-done.done));
      filled =
          fill_more _ _ _ _ c.loop-done.done c.min-over_edge.result _ c.args.pattern c.requires.memory c.requires.present
          c.loop-done.invariant.filled words (omega (arith, c.min-over_edge.ensures, c.loop-done-test.true)) (omega (arith, c.min-over_edge.ensures))
          (c.write.ensures ∙ ap (put c.loop-done.self (c.args.addr + c.loop-done.done)) (word_front c.args.pattern c.min-over_edge.result _ c.to_le_bytes.ensures (omega (arith, c.min-over_edge.ensures))));
    }
