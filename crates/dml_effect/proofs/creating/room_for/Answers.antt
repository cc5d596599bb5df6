use Rattle.std.proofs.Common.{◌≡◌, ℕ, ◌*◌, ◌/◌, min, ◌∙◌, ap}
use Rattle.dml_types.specs.declared.jobs.Job.{Job}
use Rattle.dml_types.specs.Memory.{Memory, present_bytes}
use Rattle.dml_effect.proofs.CreatedLemmas.{room_is, room_present}
use Rattle.dml_effect.proofs.creating.room_for.Goals as goal

-- the present bytes, by the job that was checked
present_there : (memory : Memory) (job given : Job) (entries most run : ℕ) → given ≡ job → most ≡ min entries (given.delta_size / 10) → run ≡ present_bytes memory given.extra (10 * most) → run ≡ present_bytes memory job.extra (10 * min entries (job.delta_size / 10))
present_there memory job given entries most run same least is =
    is
    ∙ (ap (λ (n : ℕ). present_bytes memory given.extra (10 * n)) least
    ∙ ap (λ (j : Job). present_bytes memory j.extra (10 * min entries (j.delta_size / 10))) same)

pub returns-clause-value : goal.returns-clause-value
returns-clause-value c =
    room_is c.args.image.now c.args.job.now c.args.entries c.present_bytes.result
    (present_there c.args.image.now c.args.job.now c.job-job.result.now c.args.entries c.min-most.result c.present_bytes.result c.job-job.ensures.job c.min-most.ensures c.present_bytes.ensures.count)

pub returns-clause-present : goal.returns-clause-present
returns-clause-present c =
    room_present c.args.image.now c.args.job.now c.args.entries c.present_bytes.result
    (present_there c.args.image.now c.args.job.now c.job-job.result.now c.args.entries c.min-most.result c.present_bytes.result c.job-job.ensures.job c.min-most.ensures c.present_bytes.ensures.count)
