-- Worked rows of create.
use Rattle.std.specs.Prelude.{true, false, Bool, List, [], ◌∷◌}
use Rattle.dml_types.specs.declared.statuses.Status.TheVariants.{Success, ReadFault, WriteFault}
use Rattle.dml_types.specs.Memory.{Memory, put}
use Rattle.dml_types.specs.Job.{create_job}
use Rattle.dml_plain.specs.Row.{hex, image, answer, Answers, Shows, after}

-- the blocks at 72 and 88 are no zeros
abbrev pub two_blocks : List Bool → Memory
two_blocks present = put (put (image present) 72 (hex 8 0x0102030405060708)) 88 (hex 8 0x1112131415161718)

-- and then also the one at 64
abbrev pub three_blocks : Memory → Memory
three_blocks memory = put memory 64 (hex 1 0xff)

-- two entries fit the maximum, a third does not
unfoldable pub delta_record_and_overflow : Type 0
delta_record_and_overflow =
    let jobs = create_job 0 64 32 128 20 ∷ [] in
    let memory = two_blocks (true ∷ []) in
    let crowded = three_blocks (after memory jobs) in
    Answers memory jobs (answer Success 1 32 0 20 ∷ [])
    × Shows (after memory jobs) 128 (hex 20 0x0100010203040506070803001112131415161718)
    × Answers crowded jobs (answer Success 2 24 0 20 ∷ [])
    × Shows (after crowded jobs) 128 (hex 20 0x0000ff0000000000000001000102030405060708)

-- an entry that passes the maximum overflows, whether or not its bytes are present
unfoldable pub overflow_before_write_fault : Type 0
overflow_before_write_fault =
    Answers (three_blocks (two_blocks (true ∷ false ∷ [])))
    (create_job 0 64 32 4076 20 ∷ create_job 0 64 32 4076 30 ∷ create_job 0 64 32 4080 20 ∷ [])
    (answer Success 2 24 0 20 ∷ answer WriteFault 0 24 4096 20 ∷ answer WriteFault 0 8 4096 10 ∷ [])

-- the entries before an absent source are written; an overflow that comes first decides, and no more is
-- written
unfoldable pub delta_stops_at_absent_source : Type 0
delta_stops_at_absent_source =
    let memory =
    put (put (put (image (true ∷ false ∷ [])) 4056 (hex 1 0x01)) 4072 (hex 1 0x02)) 4088 (hex 1 0x03) in
    let jobs = create_job 0 4056 64 128 80 ∷ create_job 0 4056 64 256 20 ∷ [] in
    Answers memory jobs (answer ReadFault 0 40 4096 30 ∷ answer Success 2 32 0 20 ∷ [])
    × Shows (after memory (create_job 0 4056 64 128 80 ∷ [])) 128
    (hex 30 0x000001000000000000000200020000000000000004000300000000000000)
    × Shows (after memory jobs) 276 (hex 3 0x000000)
