-- What is known of a job that passed the checks.
use Rattle.std.specs.Prelude.{◌≡◌, ◌↔◌, ◌+◌, ◌%◌, ◌^◌, ◌≤◌, false, None, Some, unwrap_or, ⊤}
use Rattle.dml_types.specs.declared.jobs.Job.{Job}
use Rattle.dml_types.specs.declared.operations.Op.{Op}
use Rattle.dml_types.specs.declared.operations.Op.TheVariants.{NoOp, Move, Fill, Compare, ComparePattern, CreateDelta, ApplyDelta, Dualcast}
use Rattle.dml_types.specs.declared.records.Record.{Record}
use Rattle.dml_types.specs.Memory.{Memory}
use Rattle.dml_types.specs.Effect.{Effect}
use Rattle.dml_types.specs.Step.{effect, step}
use Rattle.dml_types.specs.Job.{op_of, span, shares, unfenced}
use Rattle.dml_types.specs.Refusal.{refusal, need, has_bad_flags, has_bad_size, has_bad_delta_size, is_misaligned, has_dualcast_bits, has_overlap, has_range_past}

-- a job breaks no rule where there is as much staging as it needs, apart from its fence: that counts in a batch
-- alone
pub record IsChecked (job : Job) : Type 0 where
  pub accepted : refusal (unfenced job) (need job) ≡ None

-- the same, rule by rule, for its operation
pub record KeepsRules (op : Op) (job : Job) : Type 0 where
  pub operation : op_of job ≡ Some op
  pub flags : has_bad_flags (unfenced job) ≡ false
  pub size : has_bad_size op job ≡ false
  pub delta_size : has_bad_delta_size op job ≡ false
  pub alignment : is_misaligned op job ≡ false
  pub dualcast_bits : has_dualcast_bits op job ≡ false
  pub overlap : has_overlap op job ≡ false
  pub ranges : has_range_past op job ≡ false

-- the operation that it has
abbrev pub operation_of : Job → Op
operation_of job = unwrap_or (op_of job) NoOp

-- what that says of the sizes and addresses of each operation
pub record SourceLimits (job : Job) : Type 0 where
  pub size : job.size ≤ 1048576
  pub source : job.source + job.size ≤ 2 ^ 64

pub record TargetLimits (job : Job) : Type 0 where
  pub size : job.size ≤ 1048576
  pub target : job.target + job.size ≤ 2 ^ 64

pub record PairLimits (job : Job) : Type 0 where
  pub size : job.size ≤ 1048576
  pub source : job.source + job.size ≤ 2 ^ 64
  pub target : job.target + job.size ≤ 2 ^ 64

pub record CreateLimits (job : Job) : Type 0 where
  pub size : job.size ≤ 524288
  pub whole_blocks : job.size % 8 ≡ 0
  pub least_record : 10 ≤ job.delta_size
  pub most_record : job.delta_size ≤ 655360
  pub whole_entries : job.delta_size % 10 ≡ 0
  pub aligned_source : job.source % 8 ≡ 0
  pub aligned_target : job.target % 8 ≡ 0
  pub source_apart : shares (span job.extra job.delta_size) (span job.source job.size) ≡ false
  pub target_apart : shares (span job.extra job.delta_size) (span job.target job.size) ≡ false
  pub source : job.source + job.size ≤ 2 ^ 64
  pub target : job.target + job.size ≤ 2 ^ 64
  pub delta : job.extra + job.delta_size ≤ 2 ^ 64

pub record ApplyLimits (job : Job) : Type 0 where
  pub size : job.size ≤ 524288
  pub whole_blocks : job.size % 8 ≡ 0
  pub most_record : job.delta_size ≤ 655360
  pub whole_entries : job.delta_size % 10 ≡ 0
  pub aligned_target : job.target % 8 ≡ 0
  pub apart : shares (span job.target job.size) (span job.source job.delta_size) ≡ false
  pub delta : job.source + job.delta_size ≤ 2 ^ 64
  pub target : job.target + job.size ≤ 2 ^ 64

pub record DualcastLimits (job : Job) : Type 0 where
  pub size : job.size ≤ 1048576
  pub same_low_bits : job.target % 4096 ≡ job.extra % 4096
  pub target_apart : shares (span job.target job.size) (span job.source job.size) ≡ false
  pub second_apart : shares (span job.extra job.size) (span job.source job.size) ≡ false
  pub destinations_apart : shares (span job.target job.size) (span job.extra job.size) ≡ false
  pub source : job.source + job.size ≤ 2 ^ 64
  pub target : job.target + job.size ≤ 2 ^ 64
  pub second : job.extra + job.size ≤ 2 ^ 64

abbrev pub Limits : Op → Job → Type 0
Limits NoOp job = ⊤
Limits Move job = PairLimits job
Limits Fill job = TargetLimits job
Limits Compare job = PairLimits job
Limits ComparePattern job = SourceLimits job
Limits CreateDelta job = CreateLimits job
Limits ApplyDelta job = ApplyLimits job
Limits Dualcast job = DualcastLimits job

-- what the rules ask of a job of an operation: accepted flags, the fence apart, and these limits, and no more
abbrev pub CheckedWithinLimits : Type 0
CheckedWithinLimits =
    (op : Op) (job : Job) → op_of job ≡ Some op
    → IsChecked job ↔ ((has_bad_flags (unfenced job) ≡ false) × Limits op job)

-- what a checked job does: that of the job without its fence, with as much staging as it needs
abbrev pub checked_effect : Memory → Job → Effect
checked_effect memory job = effect memory (unfenced job) (need job)

abbrev pub checked_step : Memory → Job → Memory × Record
checked_step memory job = step memory (unfenced job) (need job)
