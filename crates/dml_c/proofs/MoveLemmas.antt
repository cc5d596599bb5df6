-- Moves whose two ranges lie within a caller's pages.
use Rattle.std.proofs.Common.{◌≡◌, ℕ, ◌+◌, ◌/◌, ◌%◌, true, false, List, length, slice_range, sym, None, ◌∙◌, ap, arith, rules}
use Rattle.std.proofs.lemmas.List.{get_or-replicate, places, same_lists}
use Rattle.dml_types.specs.declared.jobs.Job.{Job}
use Rattle.dml_types.specs.declared.records.Record.{Record}
use Rattle.dml_types.specs.Effect.{Effect}
use Rattle.dml_types.specs.Memory.{Memory, has, overwrite, put, puts_made}
use Rattle.dml_types.specs.Refusal.{refusal}
use Rattle.dml_types.specs.Step.{step}
use Rattle.dml_types.proofs.MemoryLemmas.{has_all_from}
use Rattle.dml_buffers.specs.Holds.{Holds}
use Rattle.dml_desc.specs.Checked.{checked_step}
use Rattle.dml_effect.specs.Pages.{all_present}
use Rattle.dml_effect.proofs.WholeLemmas.{effect_at_need}

-- pages hold their own bytes
all_of : (xs : List ℕ) → slice_range xs 0 (0 + length xs) ≡ xs
all_of xs = same_lists _ _ (search (rules, places)) (λ k d h. grind (arith, places))

pub held_by_pages : (content : List ℕ) → length content % 4096 ≡ 0 → Holds (all_present content) 0 content
held_by_pages content whole = record {
  present =
      has_all_from (all_present content) 0 (length content)
      (λ i below.
      let place : 0 + i ≡ i = omega arith in
      ap (has (all_present content)) place ∙ get_or-replicate (length content / 4096) (i / 4096) true false (omega (arith, whole, below)));
  content = all_of content;
}

-- all of them are written anew
written : (old new : List ℕ) → length new ≡ length old → overwrite old 0 new ≡ new
unfolding overwrite
written old new same = same_lists _ _ (search (rules, places, same)) (λ k d h. grind (arith, places, same))

module _ (content new : List ℕ) (job checked : Job) (staging : ℕ) (same : checked ≡ job) (accepted : refusal job staging ≡ None) where
  step_same : checked_step (all_present content) checked ≡ step (all_present content) job staging
  step_same =
      ap (checked_step (all_present content)) same
      ∙ ap (λ (done : Effect). (puts_made (all_present content) done.puts, done.answer))
      (sym (effect_at_need (all_present content) job staging accepted))

  pub answer_within : (answer : Record) → answer ≡ (checked_step (all_present content) checked).1 → answer ≡ (step (all_present content) job staging).1
  answer_within answer is = is ∙ ap (λ (done : Memory × Record). done.1) step_same

  pub bytes_within : length new ≡ length content → (checked_step (all_present content) checked).0 ≡ put (all_present content) 0 new → new ≡ (step (all_present content) job staging).0.bytes
  bytes_within long is =
      sym (written content new long)
      ∙ (ap (λ (m : Memory). m.bytes) (sym is) ∙ ap (λ (done : Memory × Record). done.0.bytes) step_same)
