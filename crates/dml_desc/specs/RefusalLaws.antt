-- That a job is answered by one status at most, and that it is the one of the first rule that the job breaks.
use Rattle.std.specs.Prelude.{◌≡◌, ◌↔◌, ◌⊎◌, ℕ, ◌<◌, Bool, true, false, List, None, Some, IfSome, slice_get}
use Rattle.dml_types.specs.declared.jobs.Job.{Job}
use Rattle.dml_types.specs.declared.operations.Op.{Op}
use Rattle.dml_types.specs.declared.statuses.Status.{Status}
use Rattle.dml_types.specs.declared.statuses.Status.TheVariants.{BadOpcode}
use Rattle.dml_types.specs.Job.{op_of}
use Rattle.dml_types.specs.Refusal.{rules_of, refusal}

-- the rule at a place of a list, if there is one, is not broken
abbrev pub IsKept : List (Bool × Status) → ℕ → Type 0
IsKept rules place = IfSome (slice_get rules place) (λ rule. rule.0 ≡ false)

-- a rule is broken that answers with this status, and no rule before it is
pub record IsFirstBroken (rules : List (Bool × Status)) (status : Status) : Type 0 where
  pub place : ℕ
  pub broken : slice_get rules place ≡ Some (true, status)
  pub earlier : (i : ℕ) → i < place → IsKept rules i

-- a job of a supported operation breaks a rule, and no rule before it
pub record BreaksFirst (job : Job) (staging : ℕ) (status : Status) : Type 0 where
  pub op : Op
  pub operation : op_of job ≡ Some op
  pub rule : IsFirstBroken (rules_of op job staging) status

-- it breaks none
pub record BreaksNone (job : Job) (staging : ℕ) : Type 0 where
  pub op : Op
  pub operation : op_of job ≡ Some op
  pub kept : (place : ℕ) → IsKept (rules_of op job staging) place

-- why a job is answered by a status: its opcode is unsupported, or it breaks a rule
abbrev pub IsRefusedBy : Job → ℕ → Status → Type 0
IsRefusedBy job staging status = ((op_of job ≡ None) × (status ≡ BadOpcode)) ⊎ BreaksFirst job staging status

abbrev pub RefusedByFirstBroken : Type 0
RefusedByFirstBroken =
    (job : Job) (staging : ℕ) (status : Status)
    → (refusal job staging ≡ Some status) ↔ IsRefusedBy job staging status

abbrev pub AcceptedWhereNoneBroken : Type 0
AcceptedWhereNoneBroken = (job : Job) (staging : ℕ) → (refusal job staging ≡ None) ↔ BreaksNone job staging

abbrev pub OneStatusAtMost : Type 0
OneStatusAtMost =
    (job : Job) (staging : ℕ) (a b : Status) → IsRefusedBy job staging a → IsRefusedBy job staging b → a ≡ b
