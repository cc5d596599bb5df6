-- Worked rows of the job that is left after a page fault.
use Rattle.std.specs.Prelude.{◌≡◌, true, false, [], ◌∷◌, None, Some}
use Rattle.dml_types.specs.declared.statuses.Status.TheVariants.{Success, ReadFault, WriteFault}
use Rattle.dml_types.specs.Memory.{put}
use Rattle.dml_types.specs.Job.{move_job, fill_job, compare_job, create_job}
use Rattle.dml_types.specs.Step.{rest}
use Rattle.dml_image.specs.Brought.{brought, padded}
use Rattle.dml_plain.specs.Row.{hex, image, answer, Answers, Shows, after}

-- the pattern of the rest is turned
unfoldable pub resume_a_fill : Type 0
resume_a_fill =
    let memory = image (true ∷ false ∷ []) in
    let job = fill_job 0x0807060504030201 4091 9 in
    let stopped = answer WriteFault 0 5 4096 0 in
    let left = fill_job 0x0504030201080706 4096 4 in
    let resumed = brought (after memory (job ∷ [])) 1 (padded []) in
    Answers memory (job ∷ []) (stopped ∷ [])
    × (rest job stopped ≡ Some left)
    × Answers resumed (left ∷ []) (answer Success 0 4 0 0 ∷ [])
    × Shows (after resumed (left ∷ [])) 4096 (hex 4 0x06070801)

-- the difference lies in the page that was brought
unfoldable pub resume_a_compare : Type 0
resume_a_compare =
    let memory = image (true ∷ false ∷ []) in
    let job = compare_job 0 4092 8 in
    let stopped = answer ReadFault 0 4 4096 0 in
    let left = compare_job 4 4096 4 in
    let page_one = padded (hex 2 0x0007) in
    Answers memory (job ∷ []) (stopped ∷ [])
    × (rest job stopped ≡ Some left)
    × Answers (brought (after memory (job ∷ [])) 1 page_one) (left ∷ []) (answer Success 1 1 0 0 ∷ [])
    × Answers (brought memory 1 page_one) (job ∷ []) (answer Success 1 5 0 0 ∷ [])

-- what is left of a backward move is its front
unfoldable pub resume_a_backward_move : Type 0
resume_a_backward_move =
    let memory = put (image (true ∷ false ∷ true ∷ [])) 8192 (hex 2 0x0102) in
    let job = move_job 0 8 12272 in
    let stopped = answer ReadFault 1 4080 8191 0 in
    let left = move_job 0 8 8192 in
    let resumed = brought (after memory (job ∷ [])) 1 (padded []) in
    Answers memory (job ∷ []) (stopped ∷ [])
    × (rest job stopped ≡ Some left)
    × Answers resumed (left ∷ []) (answer Success 1 8192 0 0 ∷ [])
    × Shows (after resumed (left ∷ [])) 8192 (hex 10 0x00000000000000000102)

-- moves both ways, with their records; and jobs of which nothing is left
unfoldable pub rest_of_moves : Type 0
rest_of_moves =
    let backward = move_job 0 4100 8192 in
    let forward = move_job 4088 0 50 in
    Answers (image (true ∷ true ∷ false ∷ true ∷ [])) (backward ∷ []) (answer WriteFault 1 4 12287 0 ∷ [])
    × (rest backward (answer WriteFault 1 4 12287 0) ≡ Some (move_job 0 4100 8188))
    × Answers (image (true ∷ false ∷ [])) (forward ∷ []) (answer ReadFault 0 8 4096 0 ∷ [])
    × (rest forward (answer ReadFault 0 8 4096 0) ≡ Some (move_job 4096 8 42))
    × (rest (create_job 0 64 32 128 20) (answer ReadFault 0 8 4096 10) ≡ None)
    × (rest forward (answer Success 0 8 0 0) ≡ None)
    × (rest forward (answer ReadFault 0 50 4096 0) ≡ None)
