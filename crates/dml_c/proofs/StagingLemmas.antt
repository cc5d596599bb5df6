-- A mebibyte of staging is enough for every job.
use Rattle.std.proofs.Common.{◌≡◌, ℕ, ◌*◌, ◌/◌, Bool, true, false, List, [], ◌∷◌, Option, None, Some, refl, arith}
use Rattle.std.proofs.lemmas.Bool.{both_ways, le-ltb, ltb-false, or_parts}
use Rattle.std.specs.Prelude.{nat_lt}
use Rattle.dml_types.specs.declared.jobs.Job.{Job}
use Rattle.dml_types.specs.declared.operations.Op.{Op}
use Rattle.dml_types.specs.declared.operations.Op.TheVariants.{NoOp, Move, Fill, Compare, ComparePattern, CreateDelta, ApplyDelta, Dualcast}
use Rattle.dml_types.specs.declared.statuses.Status.TheVariants.{BadFlags, BadSize, BadDeltaSize, Misaligned, DualcastBits, Overlap, RangePast, StagingRefused}
use Rattle.dml_types.specs.Job.{op_of}
use Rattle.dml_types.specs.Refusal.{first_broken, has_bad_delta_size, has_dualcast_bits, has_bad_flags, has_bad_size, has_overlap, has_range_past, is_misaligned, operation_need, refusal_under}
use Rattle.dml_desc.specs.Descriptor.{decoded}
use Rattle.dml_c.specs.Direct.{refusal_of}

-- where the last rule is the first that is broken, those on sizes are kept
only_last : (flags size delta_size alignment bits overlap ranges staging : Bool)
    → first_broken ((flags, BadFlags) ∷ (size, BadSize) ∷ (delta_size, BadDeltaSize) ∷ (alignment, Misaligned) ∷ (bits, DualcastBits)
    ∷ (overlap, Overlap) ∷ (ranges, RangePast) ∷ (staging, StagingRefused) ∷ []) ≡ Some StagingRefused
    → (size ≡ false) × ((delta_size ≡ false) × (staging ≡ true))
only_last true b c d e f g h is = absurd (cc)
only_last false true c d e f g h is = absurd (cc)
only_last false false true d e f g h is = absurd (cc)
only_last false false false true e f g h is = absurd (cc)
only_last false false false false true f g h is = absurd (cc)
only_last false false false false false true g h is = absurd (cc)
only_last false false false false false false true h is = absurd (cc)
only_last false false false false false false false true is = (refl, (refl, refl))
only_last false false false false false false false false is = absurd (cc)

-- an operation needs no more than its sizes may be
need_fits : (op : Op) (job : Job) → has_bad_size op job ≡ false → has_bad_delta_size op job ≡ false → nat_lt 1048576 (operation_need op job) ≡ false
need_fits NoOp job size delta_size = refl
need_fits Move job size delta_size = size
need_fits Fill job size delta_size = refl
need_fits Compare job size delta_size = refl
need_fits ComparePattern job size delta_size = refl
need_fits CreateDelta job size delta_size =
    let most = ltb-false 0x80000 job.size (or_parts (nat_lt 0x80000 job.size) _ size).0 in
    le-ltb 1048576 (10 * (job.size / 8)) (omega (arith, most))
need_fits ApplyDelta job size delta_size =
    let most = ltb-false 655360 job.delta_size (or_parts (nat_lt 655360 job.delta_size) _ delta_size).0 in
    le-ltb 1048576 job.delta_size (omega (arith, most))
need_fits Dualcast job size delta_size = size

never_under : (o : Option Op) (job : Job) → refusal_under o job 1048576 ≡ Some StagingRefused → ⊥
never_under None job is = absurd (cc)
never_under (Some op) job is =
    let parts =
    only_last (has_bad_flags job) (has_bad_size op job) (has_bad_delta_size op job) (is_misaligned op job) (has_dualcast_bits op job)
    (has_overlap op job) (has_range_past op job) (nat_lt 1048576 (operation_need op job)) is in
    both_ways (nat_lt 1048576 (operation_need op job)) (need_fits op job parts.0 parts.1.0) parts.1.1

pub never_staging : (descriptor : List ℕ) → refusal_of descriptor ≡ Some StagingRefused → ⊥
never_staging descriptor is = never_under (op_of (decoded descriptor)) (decoded descriptor) is
