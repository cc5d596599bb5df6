-- What a descriptor's job answers and leaves, by whether it is refused.
use Rattle.std.proofs.Common.{◌≡◌, ℕ, List, None, Some, sym, ◌∙◌, ap}
use Rattle.dml_types.specs.declared.jobs.Job.{Job}
use Rattle.dml_types.specs.declared.records.Record.{Record}
use Rattle.dml_types.specs.declared.statuses.Status.{Status}
use Rattle.dml_types.specs.Memory.{Memory, puts_made}
use Rattle.dml_types.specs.Effect.{Effect, ended}
use Rattle.dml_types.proofs.StepLemmas.{step_refused}
use Rattle.dml_desc.specs.Checked.{checked_step}
use Rattle.dml_desc.specs.Descriptor.{bytes_of_record, decoded}
use Rattle.dml_effect.proofs.WholeLemmas.{effect_at_need}
use Rattle.dml_c.specs.Direct.{refusal_of, step_of}

module _ (memory : Memory) (descriptor : List ℕ) where
  -- a refused one: its status alone, and nothing changes
  module _ (status : Status) (broken : refusal_of descriptor ≡ Some status) where
    pub refused_record : bytes_of_record (ended status 0 0 0) ≡ bytes_of_record (step_of memory descriptor).1
    refused_record =
        sym (ap (λ (done : Memory × Record). bytes_of_record done.1)
        (step_refused memory (decoded descriptor) 1048576 status broken))

    pub refused_memory : (step_of memory descriptor).0 ≡ memory
    refused_memory =
        ap (λ (done : Memory × Record). done.0) (step_refused memory (decoded descriptor) 1048576 status broken)

  -- an accepted one: what the checked job does
  module _ (job : Job) (same : job ≡ decoded descriptor) (accepted : refusal_of descriptor ≡ None) where
    step_same : checked_step memory job ≡ step_of memory descriptor
    step_same =
        ap (checked_step memory) same
        ∙ ap (λ (done : Effect). (puts_made memory done.puts, done.answer))
        (sym (effect_at_need memory (decoded descriptor) 1048576 accepted))

    pub carried_record : (answer : Record) → answer ≡ (checked_step memory job).1
        → bytes_of_record answer ≡ bytes_of_record (step_of memory descriptor).1
    carried_record answer is = ap bytes_of_record (is ∙ ap (λ (done : Memory × Record). done.1) step_same)

    pub carried_memory : (after : Memory) → (checked_step memory job).0 ≡ after → (step_of memory descriptor).0 ≡ after
    carried_memory after is = sym (ap (λ (done : Memory × Record). done.0) step_same) ∙ is
