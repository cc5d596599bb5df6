-- Worked rows of fill, and of every operation on an image without pages or over an empty range.
use Rattle.std.specs.Prelude.{ℕ, true, false, None, List, [], ◌∷◌, replicate}
use Rattle.dml_types.specs.declared.statuses.Status.TheVariants.{Success, ReadFault, WriteFault, OffsetRange, BadFlags, BadSize, RangePast}
use Rattle.dml_types.specs.Memory.{memory_of}
use Rattle.dml_types.specs.Job.{no_op_job, move_job, fill_job, compare_job, create_job, apply_job, dualcast_job}
use Rattle.dml_plain.specs.Row.{hex, image, flagged, answer, Answers, ShowsCut, after}

-- the low byte of a pattern comes first; the bytes before the absent page are written
unfoldable pub fill_into_absent_page : Type 0
fill_into_absent_page =
    let memory = image (true ∷ false ∷ []) in
    let jobs = fill_job 0x0807060504030201 4090 12 ∷ [] in
    Answers memory jobs (answer WriteFault 0 6 4096 0 ∷ [])
    × ShowsCut (after memory jobs) 4088 (hex 8 0x0000010203040506) 2

unfoldable pub fill_refusals : Type 0
fill_refusals =
    Answers (image (true ∷ []))
    (fill_job 0 0 1048577 ∷ flagged no_op_job 0x10 ∷ fill_job 0 0xfffffffffffffff8 9
    ∷ fill_job 0 0xfffffffffffffff8 8 ∷ [])
    (answer BadSize 0 0 0 0 ∷ answer BadFlags 0 0 0 0 ∷ answer RangePast 0 0 0 0
    ∷ answer WriteFault 0 0 18446744073709551608 0 ∷ [])

-- an empty range touches nothing; but an apply reads its record all the same
unfoldable pub empty_ranges : Type 0
empty_ranges =
    Answers (image (true ∷ [])) (apply_job 0 10 256 0 ∷ apply_job 0 0 256 32 ∷ create_job 0 64 0 128 10 ∷ [])
    (answer OffsetRange 0 0 0 0 ∷ answer Success 0 0 0 0 ∷ answer Success 0 0 0 0 ∷ [])

-- 4,096 pages, all absent; what stands for their bytes is never read
unfoldable pub every_page_absent : Type 0
every_page_absent =
    (bytes : List ℕ) →
    let memory = memory_of (replicate 4096 false) bytes None in
    let jobs =
    move_job 0 8 16 ∷ fill_job 1 0 8 ∷ compare_job 0 8 8 ∷ create_job 0 64 8 128 10 ∷ apply_job 0 10 256 8
    ∷ dualcast_job 0 4096 8192 8 ∷ no_op_job ∷ [] in
    Answers memory jobs
    (answer ReadFault 1 0 15 0 ∷ answer WriteFault 0 0 0 0 ∷ answer ReadFault 0 0 0 0
    ∷ answer ReadFault 0 0 0 0
    ∷ answer ReadFault 0 0 0 0 ∷ answer ReadFault 0 0 0 0 ∷ answer Success 0 0 0 0 ∷ [])
    × ShowsCut (after memory jobs) 0 [] 2
