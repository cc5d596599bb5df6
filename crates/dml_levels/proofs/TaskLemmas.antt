-- No job has more than 131,072 chunks.
use Rattle.std.proofs.Common.{◌≡◌, ℕ, ◌+◌, ◌*◌, ◌/◌, ◌<◌, ◌≤◌, arith, ⊎_elim, ap, unwrap_or, option_map}
use Rattle.std.proofs.lemmas.Bool.{cases_lt, ltb-false, or_parts}
use Rattle.std.proofs.lemmas.Grind.{div_ceil_times}
use Rattle.std.proofs.Math.Nat.{mul-le-mul_right}
use Rattle.std.specs.Int.{div_ceil}
use Rattle.dml_types.specs.declared.jobs.Job.{Job}
use Rattle.dml_types.specs.declared.operations.Op.{Op}
use Rattle.dml_types.specs.declared.operations.Op.TheVariants.{NoOp, Move, Fill, Compare, ComparePattern, CreateDelta, ApplyDelta, Dualcast}
use Rattle.dml_desc.specs.Checked.{KeepsRules}
use Rattle.dml_levels.specs.Tasks.{IsChunk, task_count_by, task_count}

few_pieces : (n piece most : ℕ) → 0 < piece → n ≤ most * piece → div_ceil n piece ≤ most
few_pieces n piece most some within =
    ⊎_elim (λ over.
    let many = mul-le-mul_right piece (let e : most + 1 ≤ div_ceil n piece = omega (arith, over) in e) in
    absurd (omega (arith, many, (div_ceil_times n piece some).1, within)))
    (λ fine. fine) (cases_lt most (div_ceil n piece))

few_chunks : (n chunk : ℕ) → n ≤ 1048576 → IsChunk chunk → div_ceil n chunk ≤ 131072
few_chunks n chunk within valid = few_pieces n chunk 131072 (omega (arith, valid.least)) (omega (arith, valid.least))

few_by : (op : Op) (job : Job) (chunk : ℕ) → KeepsRules op job → IsChunk chunk → task_count_by op job chunk ≤ 131072
few_by NoOp job chunk rules valid = omega arith
few_by Move job chunk rules valid = few_chunks job.size chunk (ltb-false 1048576 job.size rules.size) valid
few_by Fill job chunk rules valid = few_chunks job.size chunk (ltb-false 1048576 job.size rules.size) valid
few_by Compare job chunk rules valid = few_chunks job.size chunk (ltb-false 1048576 job.size rules.size) valid
few_by ComparePattern job chunk rules valid = few_chunks job.size chunk (ltb-false 1048576 job.size rules.size) valid
few_by CreateDelta job chunk rules valid =
    few_chunks job.size chunk (omega (arith, ltb-false 0x80000 job.size (or_parts _ _ rules.size).0)) valid
few_by ApplyDelta job chunk rules valid =
    few_pieces (job.delta_size / 10) (chunk / 8) 131072 (omega (arith, valid.least))
    (omega (arith, ltb-false 655360 job.delta_size (or_parts _ _ rules.delta_size).0, valid.least))
few_by Dualcast job chunk rules valid = few_chunks job.size chunk (ltb-false 1048576 job.size rules.size) valid

pub task_count_at : (op : Op) (job : Job) (chunk : ℕ) → KeepsRules op job → task_count job chunk ≡ task_count_by op job chunk
task_count_at op job chunk rules = ap (λ o. unwrap_or (option_map (λ p. task_count_by p job chunk) o) 0) rules.operation

pub few_tasks : (op : Op) (job : Job) (chunk : ℕ) → KeepsRules op job → IsChunk chunk → task_count job chunk ≤ 131072
few_tasks op job chunk rules valid = omega (arith, task_count_at op job chunk rules, few_by op job chunk rules valid)
