-- Worked rows of fences in batches.
use Rattle.std.specs.Prelude.{◌≡◌, true, false, [], ◌∷◌, ◌++◌, replicate}
use Rattle.dml_types.specs.declared.statuses.Status.TheVariants.{Abandoned, Success, FalsePredicate, BatchFailed, BadOpcode, WriteFault}
use Rattle.dml_types.specs.declared.jobs.Job.{Job}
use Rattle.dml_types.specs.Job.{no_op_job, compare_job, fill_job}
use Rattle.dml_types.specs.Conflict.{fenced_levels}
use Rattle.dml_types.specs.Step.{batch}
use Rattle.dml_desc.specs.Descriptor.{decoded}
use Rattle.dml_plain.specs.Row.{hex, image, flagged, answer, AnswersBatch, Shows, usual_staging}

-- a fence is accepted in a batch
unfoldable pub fence_in_batch : Type 0
fence_in_batch = AnswersBatch (image (false ∷ [])) (flagged no_op_job 1 ∷ []) (answer Success 0 0 0 0 ∷ []) Success 1

unfoldable pub fence_orders : Type 0
fence_orders =
    let memory = image (true ∷ []) in
    let jobs = fill_job 1 0 8 ∷ flagged (fill_job 2 0 8) 1 ∷ [] in
    AnswersBatch memory jobs (answer Success 0 8 0 0 ∷ answer Success 0 8 0 0 ∷ []) Success 2
    × Shows (batch memory jobs usual_staging).0 0 (hex 8 0x0200000000000000)

-- the second job meets an absent page: the fenced one and the last are abandoned
unfoldable pub fence_abandons : Type 0
fence_abandons =
    let memory = image (true ∷ []) in
    let jobs = fill_job 1 0 8 ∷ fill_job 1 4096 8 ∷ flagged (fill_job 2 8 8) 1 ∷ fill_job 3 16 8 ∷ [] in
    AnswersBatch memory jobs
    (answer Success 0 8 0 0 ∷ answer WriteFault 0 0 4096 0 ∷ answer Abandoned 0 0 0 0 ∷ answer Abandoned 0 0 0 0 ∷ [])
    BatchFailed 2
    × Shows (batch memory jobs usual_staging).0 0 (hex 24 0x010000000000000000000000000000000000000000000000)

-- status 0x02 is another than 0x01
unfoldable pub fence_after_false_predicate : Type 0
fence_after_false_predicate =
    AnswersBatch (image (true ∷ []))
    (record (compare_job 0 0 8) { flags = 0x80; expected = 1 } ∷ flagged no_op_job 1 ∷ [])
    (answer FalsePredicate 0 8 0 0 ∷ answer Abandoned 0 0 0 0 ∷ []) BatchFailed 1

-- a fenced job that is refused itself: the first job of an unsupported opcode with a fence
abbrev fenced_stranger : Job
fenced_stranger = decoded (hex 8 0x0000000001000010 ++ replicate 56 0)

unfoldable pub refused_fenced_job : Type 0
refused_fenced_job =
    AnswersBatch (image (true ∷ [])) (fill_job 1 0 8 ∷ fenced_stranger ∷ fill_job 2 8 8 ∷ [])
    (answer Success 0 8 0 0 ∷ answer BadOpcode 0 0 0 0 ∷ answer Success 0 8 0 0 ∷ []) BatchFailed 3

unfoldable pub refused_fenced_job_after_fault : Type 0
refused_fenced_job_after_fault =
    AnswersBatch (image (true ∷ [])) (fill_job 1 4096 8 ∷ fenced_stranger ∷ fill_job 2 8 8 ∷ [])
    (answer WriteFault 0 0 4096 0 ∷ answer Abandoned 0 0 0 0 ∷ answer Abandoned 0 0 0 0 ∷ []) BatchFailed 1

-- two fills of other bytes than the first two: behind the fence they stand above both
unfoldable pub levels_behind_a_fence : Type 0
levels_behind_a_fence =
    fenced_levels (fill_job 1 0 8 ∷ fill_job 2 0 8 ∷ flagged (fill_job 3 16 8) 1 ∷ fill_job 4 24 8 ∷ [])
    ≡ 0 ∷ 1 ∷ 2 ∷ 2 ∷ []
