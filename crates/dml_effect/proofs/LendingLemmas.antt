-- Lists and batches over memory that is lent in one piece: as over the caller's bytes.
use Rattle.std.proofs.Common.{◌≡◌, ℕ, ◌-◌, List, ◌++◌, length, map, take, ◌∙◌, ap, ap₂}
use Rattle.std.specs.Prelude.{replicate}
use Rattle.dml_types.specs.declared.statuses.Status.TheVariants.{Abandoned}
use Rattle.dml_types.specs.declared.jobs.Job.{Job}
use Rattle.dml_types.specs.declared.records.Record.{Record}
use Rattle.dml_types.specs.declared.records.BatchRecord.{BatchRecord}
use Rattle.dml_types.specs.Job.{unfenced}
use Rattle.dml_types.specs.Effect.{ended}
use Rattle.dml_types.specs.Memory.{Memory, Loan, InOnePiece, first, on_loan}
use Rattle.dml_types.specs.Step.{batch, batch_answer, batch_jobs, ends_before, memory_after, records_of}
use Rattle.dml_types.proofs.LoanLemmas.{jobs_otherwise, records_otherwise}
use Rattle.dml_effect.specs.Pages.{all_present}

-- a batch does the same however its memory is lent
module _ (memory : Memory) (loan : Loan) (jobs : List Job) (staging : ℕ) where
  same_jobs : batch_jobs (on_loan memory loan) jobs staging ≡ batch_jobs memory jobs staging
  same_jobs =
      ap (λ (records : List Record). take (first (length jobs) (ends_before jobs records)) (map unfenced jobs)) (records_otherwise memory loan (map unfenced jobs) staging)

  same_records : records_of (on_loan memory loan) (batch_jobs (on_loan memory loan) jobs staging) staging ≡ records_of memory (batch_jobs memory jobs staging) staging
  same_records =
      ap (λ (done : List Job). records_of (on_loan memory loan) done staging) same_jobs
      ∙ records_otherwise memory loan (batch_jobs memory jobs staging) staging

  pub batch_memory : (batch (on_loan memory loan) jobs staging).0 ≡ on_loan (batch memory jobs staging).0 loan
  batch_memory =
      ap (λ (done : List Job). memory_after (on_loan memory loan) done staging) same_jobs
      ∙ jobs_otherwise memory loan (batch_jobs memory jobs staging) staging

  pub batch_record : (batch (on_loan memory loan) jobs staging).1 ≡ (batch memory jobs staging).1
  batch_record = ap batch_answer same_records

  pub batch_records : (batch (on_loan memory loan) jobs staging).2 ≡ (batch memory jobs staging).2
  batch_records =
      ap₂ (λ (records : List Record) (done : List Job). records ++ replicate (length jobs - length done) (ended Abandoned 0 0 0)) same_records same_jobs

-- what a list and a batch leave and answer over a caller's bytes that are lent in one piece
module _ (content : List ℕ) (name : ℕ) (jobs : List Job) (staging limit : ℕ) (image : Memory) (is : image ≡ on_loan (all_present content) (InOnePiece name)) (same : limit ≡ staging) where
  pub list_after : (after : Memory) → after ≡ memory_after image jobs limit → after ≡ on_loan (memory_after (all_present content) jobs staging) (InOnePiece name)
  list_after after done =
      done
      ∙ (ap₂ (λ (memory : Memory) (n : ℕ). memory_after memory jobs n) is same
      ∙ jobs_otherwise (all_present content) (InOnePiece name) jobs staging)

  pub list_answers : (records : List Record) → records ≡ records_of image jobs limit → records ≡ records_of (all_present content) jobs staging
  list_answers records done =
      done
      ∙ (ap₂ (λ (memory : Memory) (n : ℕ). records_of memory jobs n) is same
      ∙ records_otherwise (all_present content) (InOnePiece name) jobs staging)

  pub batch_after : (after : Memory) → after ≡ (batch image jobs limit).0 → after ≡ on_loan (batch (all_present content) jobs staging).0 (InOnePiece name)
  batch_after after done =
      done
      ∙ (ap₂ (λ (memory : Memory) (n : ℕ). (batch memory jobs n).0) is same
      ∙ batch_memory (all_present content) (InOnePiece name) jobs staging)

  pub batch_answer_there : (answer : BatchRecord) → answer ≡ (batch image jobs limit).1 → answer ≡ (batch (all_present content) jobs staging).1
  batch_answer_there answer done =
      done
      ∙ (ap₂ (λ (memory : Memory) (n : ℕ). (batch memory jobs n).1) is same
      ∙ batch_record (all_present content) (InOnePiece name) jobs staging)

  pub batch_records_there : (records : List Record) → records ≡ (batch image jobs limit).2 → records ≡ (batch (all_present content) jobs staging).2
  batch_records_there records done =
      done
      ∙ (ap₂ (λ (memory : Memory) (n : ℕ). (batch memory jobs n).2) is same
      ∙ batch_records (all_present content) (InOnePiece name) jobs staging)
