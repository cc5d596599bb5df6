-- The staging that jobs take, alone and in lists of descriptors.
use Rattle.std.specs.Prelude.{◌≡◌, ℕ, ◌<◌, ◌≤◌, List, Option}
use Rattle.std.specs.List.{All, Any}
use Rattle.std.specs.Option.{option_map_or}
use Rattle.dml_types.specs.declared.jobs.Job.{Job}
use Rattle.dml_types.specs.Refusal.{need}
use Rattle.dml_desc.specs.Descriptor.{decoded}
use Rattle.dml_arena.specs.Block.{Block}
use Rattle.dml_effect.specs.Straight.{TakesStaging}

-- the bytes of an arena; none where there is none
abbrev pub room_of : Option Block → ℕ
room_of arena = option_map_or (λ block. block.size) arena 0

-- just what a job needs where it takes staging, and 0 where it takes none
pub record IsOwnNeed (bytes : ℕ) (job : Job) (staging : ℕ) : Type 0 where
  pub exact : TakesStaging job staging → bytes ≡ need job
  pub only : 0 < bytes → TakesStaging job staging

-- some job takes staging at this limit
abbrev pub TakesSome : List (List ℕ) → ℕ → Type 0
TakesSome descriptors staging = Any (λ d. TakesStaging (decoded d) staging) descriptors

-- so many bytes are enough for each job that takes staging
abbrev pub IsEnough : ℕ → List (List ℕ) → ℕ → Type 0
IsEnough bytes descriptors staging = All (λ d. TakesStaging (decoded d) staging → need (decoded d) ≤ bytes) descriptors

-- the greatest need of the jobs that take staging, and 0 where none does
pub record IsGreatestNeed (bytes : ℕ) (descriptors : List (List ℕ)) (staging : ℕ) : Type 0 where
  pub enough : IsEnough bytes descriptors staging
  pub least : 0 < bytes → Any (λ d. TakesStaging (decoded d) staging × (need (decoded d) ≡ bytes)) descriptors
