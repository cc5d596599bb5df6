-- Worked rows of lists and batches of jobs: staging, conflicts and levels, and a batch's own record.
use Rattle.std.specs.Prelude.{◌≡◌, true, false, [], ◌∷◌, ◌++◌, replicate}
use Rattle.dml_types.specs.declared.statuses.Status.TheVariants.{Success, BatchFailed, BadOpcode, BadFlags, BadSize, StagingRefused}
use Rattle.dml_types.specs.Memory.{put}
use Rattle.dml_types.specs.Job.{no_op_job, move_job, fill_job}
use Rattle.dml_types.specs.Conflict.{levels}
use Rattle.dml_desc.specs.Descriptor.{decoded}
use Rattle.dml_types.specs.Step.{records_of}
use Rattle.dml_plain.specs.Row.{hex, image, flagged, answer, Answers, AnswersBatch, Shows, after}

unfoldable pub batch_with_bad_opcode : Type 0
batch_with_bad_opcode =
    AnswersBatch (image (true ∷ []))
    (fill_job 1 0 8 ∷ decoded (hex 8 0x0000000000000010 ++ replicate 56 0) ∷ fill_job 2 8 8 ∷ [])
    (answer Success 0 8 0 0 ∷ answer BadOpcode 0 0 0 0 ∷ answer Success 0 8 0 0 ∷ []) BatchFailed 3

-- no job: no record, and the image as it was
unfoldable pub bare_image : Type 0
bare_image = let memory = image (false ∷ []) in Answers memory [] [] × (after memory [] ≡ memory)

-- staging of 64 bytes: each job alone is judged. The two that are not refused are of one level; that they make
-- two waves
-- is for the waves' definition
unfoldable pub staging_refusal_and_two_waves : Type 0
staging_refusal_and_two_waves =
    let one = move_job 0 256 64 in
    let other = move_job 0 1024 64 in
    (records_of (image (true ∷ [])) (one ∷ move_job 0 512 65 ∷ other ∷ []) 64
    ≡ answer Success 0 64 0 0 ∷ answer StagingRefused 0 0 0 0 ∷ answer Success 0 64 0 0 ∷ [])
    × (levels (one ∷ other ∷ []) ≡ 0 ∷ 0 ∷ [])

-- 1,025 no-ops
unfoldable pub more_lines_than_one_list : Type 0
more_lines_than_one_list =
    Answers (image (false ∷ [])) (replicate 1025 no_op_job) (replicate 1025 (answer Success 0 0 0 0))

-- the second job reads what the first wrote, and the third writes what the first read
unfoldable pub conflict_chain : Type 0
conflict_chain =
    let memory = put (image (true ∷ [])) 0 (hex 8 0x0102030405060708) in
    let jobs = move_job 0 64 16 ∷ move_job 64 128 16 ∷ fill_job 0xffffffffffffffff 0 16 ∷ [] in
    Answers memory jobs (answer Success 0 16 0 0 ∷ answer Success 0 16 0 0 ∷ answer Success 0 16 0 0 ∷ [])
    × Shows (after memory jobs) 0 (hex 8 0xffffffffffffffff)
    × Shows (after memory jobs) 64 (hex 8 0x0102030405060708)
    × Shows (after memory jobs) 128 (hex 8 0x0102030405060708)
    × (levels jobs ≡ 0 ∷ 1 ∷ 1 ∷ [])

unfoldable pub levels_of_four_jobs : Type 0
levels_of_four_jobs =
    levels (fill_job 1 0 8 ∷ move_job 0 64 8 ∷ fill_job 2 512 8 ∷ move_job 512 0 8 ∷ []) ≡ 0 ∷ 1 ∷ 0 ∷ 2 ∷ []

-- flags are judged before the size; an empty range of absent bytes is no fault; an empty batch is a success
unfoldable pub flags_before_size : Type 0
flags_before_size =
    let memory = image (false ∷ []) in
    Answers memory
    (flagged (move_job 0 0 1048577) 0x10 ∷ move_job 0 0 1048577 ∷ move_job 0 0 0 ∷ flagged no_op_job 1 ∷ [])
    (answer BadFlags 0 0 0 0 ∷ answer BadSize 0 0 0 0 ∷ answer Success 0 0 0 0 ∷ answer BadFlags 0 0 0 0 ∷ [])
    × AnswersBatch memory [] [] Success 0
