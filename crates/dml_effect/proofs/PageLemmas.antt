-- In whole pages of a caller's bytes a job does the same as in an image of its own.
use Rattle.std.proofs.Common.{◌≡◌, ℕ, ◌/◌, Bool, true, List, length, replicate, Option, Some, ◌∙◌, ap, ap₂}
use Rattle.dml_types.specs.declared.jobs.Job.{Job}
use Rattle.dml_types.specs.Memory.{Memory, InOnePiece, at_home, memory_of, on_loan}
use Rattle.dml_types.specs.Step.{step}
use Rattle.dml_types.proofs.HomeLemmas.{record_elsewhere, step_elsewhere, home_after_step}
use Rattle.dml_types.proofs.LoanLemmas.{record_otherwise, step_otherwise, loan_after_step}
use Rattle.dml_effect.specs.Pages.{all_present}

-- the lent image is the caller's pages
pub lent_is : (content : List ℕ) (present : List Bool) (bytes : List ℕ) (memory : Memory) (name : ℕ) → memory ≡ memory_of present bytes (Some name) → present ≡ replicate (length content / 4096) true → bytes ≡ content → memory ≡ at_home (all_present content) (Some name)
lent_is content present bytes memory name is all same =
    is ∙ ap₂ (λ (p : List Bool) (b : List ℕ). memory_of p b (Some name)) all same

pub whole_is : (content bytes : List ℕ) (memory : Memory) (name : ℕ) → memory ≡ on_loan (all_present bytes) (InOnePiece name) → bytes ≡ content → memory ≡ on_loan (all_present content) (InOnePiece name)
whole_is content bytes memory name is same = is ∙ ap (λ (b : List ℕ). on_loan (all_present b) (InOnePiece name)) same

-- a memory that is the caller's pages, wherever it is
module _ (content : List ℕ) (memory : Memory) (home : Option ℕ) (job : Job) (staging : ℕ) (is : memory ≡ at_home (all_present content) home) where
  pub answer_there : (step memory job staging).1 ≡ (step (all_present content) job staging).1
  answer_there = ap (λ (m : Memory). (step m job staging).1) is ∙ record_elsewhere (all_present content) home job staging

  pub bytes_there : (step memory job staging).0.bytes ≡ (step (all_present content) job staging).0.bytes
  bytes_there = ap (λ (m : Memory). (step m job staging).0.bytes) is ∙ ap (λ (m : Memory). m.bytes) (step_elsewhere (all_present content) home job staging)

  pub home_there : (step memory job staging).0.home ≡ home
  home_there = home_after_step memory job staging ∙ ap (λ (m : Memory). m.home) is

-- a memory that is the caller's pages in one piece
module _ (content : List ℕ) (memory : Memory) (name : ℕ) (job : Job) (staging : ℕ) (is : memory ≡ on_loan (all_present content) (InOnePiece name)) where
  pub answer_of_whole : (step memory job staging).1 ≡ (step (all_present content) job staging).1
  answer_of_whole = ap (λ (m : Memory). (step m job staging).1) is ∙ record_otherwise (all_present content) (InOnePiece name) job staging

  pub bytes_of_whole : (step memory job staging).0.bytes ≡ (step (all_present content) job staging).0.bytes
  bytes_of_whole = ap (λ (m : Memory). (step m job staging).0.bytes) is ∙ ap (λ (m : Memory). m.bytes) (step_otherwise (all_present content) (InOnePiece name) job staging)

  pub loan_of_whole : (step memory job staging).0.loan ≡ InOnePiece name
  loan_of_whole = loan_after_step memory job staging ∙ ap (λ (m : Memory). m.loan) is
