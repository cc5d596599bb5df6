-- Of the tests: a checked job needs no more than the staging that it was checked with.
use Rattle.std.proofs.Common.{◌≡◌, ℕ, ◌≤◌, Bool, true, false, cond, List, [], ◌∷◌, ◌++◌, All, Some, None, Result, Ok, Err, IfOk, subst, sym}
use Rattle.std.specs.Result.{result_ok}
use Rattle.std.proofs.lemmas.List.Elements.{All-push}
use Rattle.dml_types.specs.declared.jobs.Job.{Job}
use Rattle.dml_types.specs.declared.statuses.Status.{Status}
use Rattle.dml_types.specs.Refusal.{need, refusal}
use Rattle.dml_desc.proofs.CheckedLemmas.{need_within}

pub checked_need : (answer : Result Job Status) (job checked : Job) (staging : ℕ) → IfOk answer (λ c. c ≡ job) → IfOk answer (λ _. refusal job staging ≡ None) → Some checked ≡ result_ok answer → need checked ≤ staging
checked_need (Ok x) job checked staging same accepted is =
    let own : checked ≡ job = cc in subst (λ (j : Job). need j ≤ staging) (sym own) (need_within job staging accepted)
checked_need (Err status) job checked staging same accepted is = cc

pub needs_push : (jobs : List Job) (job : Job) (staging : ℕ) (pushed : Bool) → All (λ (j : Job). need j ≤ staging) jobs → need job ≤ staging → All (λ (j : Job). need j ≤ staging) (cond pushed (jobs ++ job ∷ []) jobs)
needs_push jobs job staging true all small = All-push (λ (j : Job). need j ≤ staging) jobs job all small
needs_push jobs job staging false all small = all
