-- What a job leaves of whose pages an image has, and jobs over a caller's pages, one after another.
use Rattle.std.proofs.Common.{◌≡◌, ℕ, ◌/◌, ◌&&◌, true, false, Bool, not, List, [], ◌∷◌, length, replicate, Option, None, refl, sym, ◌∙◌, ap, ap₂, subst}
use Rattle.std.specs.Prelude.{Result, Ok, Err, is_none}
use Rattle.dml_image.specs.declared.errors.ImageError.{ImageError}
use Rattle.dml_types.specs.declared.jobs.Job.{Job}
use Rattle.dml_types.specs.Memory.{Loan, Memory, are_segments, is_one_piece, is_own, memory_of, on_loan}
use Rattle.dml_types.specs.Step.{memory_after, step}
use Rattle.dml_types.proofs.HomeLemmas.{home_after_step}
use Rattle.dml_types.proofs.LoanLemmas.{loan_after_step}
use Rattle.dml_types.proofs.StepLemmas.{step_present}
use Rattle.dml_effect.specs.Pages.{all_present}

-- pages of an image's own stay so
pub own_after_step : (memory : Memory) (job : Job) (staging : ℕ) → is_own (step memory job staging).0 ≡ is_own memory
own_after_step memory job staging =
    ap₂ (λ (home : Option ℕ) (loan : Loan). is_none home && not (is_one_piece loan) && not (are_segments loan)) (home_after_step memory job staging) (loan_after_step memory job staging)

-- after a list of jobs the same pages are present, and they are the image's own still
pub present_after_jobs : (memory : Memory) (jobs : List Job) (staging : ℕ) → (memory_after memory jobs staging).present ≡ memory.present
present_after_jobs memory [] staging = refl
present_after_jobs memory (job ∷ jobs) staging =
    present_after_jobs (step memory job staging).0 jobs staging ∙ step_present memory job staging

pub own_after_jobs : (memory : Memory) (jobs : List Job) (staging : ℕ) → is_own (memory_after memory jobs staging) ≡ is_own memory
own_after_jobs memory [] staging = refl
own_after_jobs memory (job ∷ jobs) staging =
    own_after_jobs (step memory job staging).0 jobs staging ∙ own_after_step memory job staging

-- what holds of an image from which a page is gone, and of the one before, holds of what `evict` leaves
pub after_evict : (P : Memory → Type 0) (result : Result Bool ImageError) (new gone old : Memory) → (result ≡ Ok true → new ≡ gone) → ((result ≡ Ok true → ⊥) → new ≡ old) → P gone → P old → P new
after_evict P (Ok true) new gone old is kept of_gone of_old = subst P (sym (is refl)) of_gone
after_evict P (Ok false) new gone old is kept of_gone of_old = subst P (sym (kept (λ same. absurd (cc)))) of_old
after_evict P (Err error) new gone old is kept of_gone of_old = subst P (sym (kept (λ same. absurd (cc)))) of_old

-- the bytes that a job leaves are the image that it leaves
pub stepped : (content new : List ℕ) (job : Job) (staging : ℕ) → new ≡ (step (all_present content) job staging).0.bytes → length new ≡ length content → all_present new ≡ (step (all_present content) job staging).0
stepped content new job staging is same =
    let after = (step (all_present content) job staging).0 in
    ap (λ (p : List Bool). memory_of p new None) (ap (λ n. replicate (n / 4096) true) same ∙ sym (step_present (all_present content) job staging))
    ∙ (ap (λ (b : List ℕ). memory_of after.present b None) is
    ∙ (ap (λ (h : Option ℕ). memory_of after.present after.bytes h) (sym (home_after_step (all_present content) job staging))
    ∙ ap (λ (loan : Loan). on_loan (memory_of after.present after.bytes after.home) loan) (sym (loan_after_step (all_present content) job staging))))
