-- When a job is refused.
use Rattle.std.specs.Prelude.{unwrap_or, option_map, ℕ, ◌*◌, ◌/◌, ◌%◌, Bool, false, not, ◌||◌, ◌==◌, List, [], ◌∷◌, ◌++◌, Option, None, Some, find, nat_lt, bit_and}
use Rattle.dml_types.specs.Types.{Job, Op, NoOp, Move, CreateDelta, ApplyDelta, Dualcast, Status, BadOpcode, BadFlags, BadSize, BadDeltaSize, Misaligned, DualcastBits, Overlap, RangePast, StagingRefused, list_any}
use Rattle.dml_types.specs.Job.{op_of, accepted_flags, span, shares, any_shares, is_past, reads, writes}

-- the staging that a job needs
abbrev pub operation_need : Op → Job → ℕ
operation_need Move job = job.size
operation_need CreateDelta job = 10 * (job.size / 8)
operation_need ApplyDelta job = job.delta_size
operation_need Dualcast job = job.size
operation_need _ job = 0

-- a job with an unsupported opcode needs none
abbrev pub need : Job → ℕ
need job = unwrap_or (option_map (λ op. operation_need op job) (op_of job)) 0

-- a flag bit that is not accepted is set
abbrev pub has_bad_flags : Job → Bool
has_bad_flags job = not (bit_and job.flags accepted_flags == job.flags)

abbrev pub has_bad_size : Op → Job → Bool
has_bad_size NoOp job = false
has_bad_size CreateDelta job = nat_lt 0x80000 job.size || not (job.size % 8 == 0)
has_bad_size ApplyDelta job = nat_lt 0x80000 job.size || not (job.size % 8 == 0)
has_bad_size _ job = nat_lt 1048576 job.size

abbrev pub has_bad_delta_size : Op → Job → Bool
has_bad_delta_size CreateDelta job =
    nat_lt job.delta_size 10 || nat_lt 655360 job.delta_size || not (job.delta_size % 10 == 0)
has_bad_delta_size ApplyDelta job = nat_lt 655360 job.delta_size || not (job.delta_size % 10 == 0)
has_bad_delta_size _ job = false

abbrev pub is_misaligned : Op → Job → Bool
is_misaligned CreateDelta job = not (job.source % 8 == 0) || not (job.target % 8 == 0)
is_misaligned ApplyDelta job = not (job.target % 8 == 0)
is_misaligned _ job = false

-- bits 11:0 of the two destinations differ
abbrev pub has_dualcast_bits : Op → Job → Bool
has_dualcast_bits Dualcast job = not (job.target % 4096 == job.extra % 4096)
has_dualcast_bits _ job = false

-- a written range shares a byte with a read one, or the two destinations share one
abbrev pub has_overlap : Op → Job → Bool
has_overlap CreateDelta job = any_shares (writes CreateDelta job) (reads CreateDelta job)
has_overlap ApplyDelta job = any_shares (writes ApplyDelta job) (reads ApplyDelta job)
has_overlap Dualcast job =
    any_shares (writes Dualcast job) (reads Dualcast job)
    || shares (span job.target job.size) (span job.extra job.size)
has_overlap _ job = false

abbrev pub has_range_past : Op → Job → Bool
has_range_past op job = list_any is_past (reads op job ++ writes op job)

-- the rules of a supported operation, in order, each with the status that answers where the job breaks it
abbrev pub rules_of : Op → Job → ℕ → List (Bool × Status)
rules_of op job staging =
    (has_bad_flags job, BadFlags) ∷ (has_bad_size op job, BadSize) ∷ (has_bad_delta_size op job, BadDeltaSize)
    ∷ (is_misaligned op job, Misaligned) ∷ (has_dualcast_bits op job, DualcastBits)
    ∷ (has_overlap op job, Overlap) ∷ (has_range_past op job, RangePast)
    ∷ (nat_lt staging (operation_need op job), StagingRefused) ∷ []

abbrev pub first_broken : List (Bool × Status) → Option Status
first_broken rules = option_map (λ rule. rule.1) (find (λ rule. rule.0) rules)

abbrev pub refusal_under : Option Op → Job → ℕ → Option Status
refusal_under None job staging = Some BadOpcode
refusal_under (Some op) job staging = first_broken (rules_of op job staging)

-- the status of the first rule that a job breaks, at a staging size
abbrev pub refusal : Job → ℕ → Option Status
refusal job staging = refusal_under (op_of job) job staging
