-- Worked rows of move and dualcast.
use Rattle.std.specs.Prelude.{true, false, [], ◌∷◌}
use Rattle.dml_types.specs.declared.statuses.Status.TheVariants.{Success, ReadFault, WriteFault, Overlap, DualcastBits, RangePast}
use Rattle.dml_types.specs.Memory.{put}
use Rattle.dml_types.specs.Job.{move_job, dualcast_job}
use Rattle.dml_image.specs.Brought.{brought, padded}
use Rattle.dml_plain.specs.Row.{hex, image, answer, Answers, Shows, after}

-- the destination begins inside the source: the move begins with its last byte, and that one is absent
unfoldable pub backward_move_into_absent_page : Type 0
backward_move_into_absent_page =
    let memory = put (image (true ∷ false ∷ [])) 0 (hex 5 0x0102030405) in
    let jobs = move_job 0 4 4096 ∷ [] in
    Answers memory jobs (answer WriteFault 1 0 4099 0 ∷ [])
    × Shows (after memory jobs) 0 (hex 8 0x0102030405000000)

-- the source begins inside the destination: the move goes forward
unfoldable pub forward_move_over_itself : Type 0
forward_move_over_itself =
    let memory =
    put (put (image (true ∷ [])) 0 (hex 12 0xa0a1a2a3a4a5a6a7a8a9aaab)) 100 (hex 6 0xd0d1d2d3d4d5) in
    let jobs = move_job 4 0 100 ∷ [] in
    Answers memory jobs (answer Success 0 100 0 0 ∷ [])
    × Shows (after memory jobs) 0 (hex 10 0xa4a5a6a7a8a9aaab0000)
    × Shows (after memory jobs) 94 (hex 12 0x0000d0d1d2d3d0d1d2d3d4d5)

-- a backward move does the bytes behind the last absent one
unfoldable pub backward_move_stops_at_page_edge : Type 0
backward_move_stops_at_page_edge =
    let memory = put (image (true ∷ false ∷ true ∷ [])) 8192 (hex 2 0x0102) in
    let jobs = move_job 0 8 12272 ∷ [] in
    Answers memory jobs (answer ReadFault 1 4080 8191 0 ∷ [])
    × Shows (after memory jobs) 8192 (hex 12 0x010200000000000001020000)

-- a range may end at 2^64, where it faults, and not above, where it is refused
unfoldable pub end_of_address_space : Type 0
end_of_address_space =
    Answers (image (true ∷ [])) (move_job 0xfffffffffffffff0 0 17 ∷ move_job 0xfffffffffffffff0 0 16 ∷ [])
    (answer RangePast 0 0 0 0 ∷ answer ReadFault 0 0 18446744073709551600 0 ∷ [])

-- the low bits of the destinations go before the overlap, and both before the fault
unfoldable pub dualcast_refusals : Type 0
dualcast_refusals =
    Answers (image (true ∷ false ∷ false ∷ false ∷ []))
    (dualcast_job 0 8 16 100 ∷ dualcast_job 0 4096 8192 4097 ∷ dualcast_job 0 4096 8192 4 ∷ [])
    (answer DualcastBits 0 0 0 0 ∷ answer Overlap 0 0 0 0 ∷ answer WriteFault 0 0 4096 0 ∷ [])

-- a dualcast writes the bytes before the first absent one to both destinations
unfoldable pub dualcast_write_fault : Type 0
dualcast_write_fault =
    let memory = put (image (true ∷ true ∷ false ∷ true ∷ [])) 0 (hex 5 0x0102030405) in
    let jobs = dualcast_job 0 8190 16382 5 ∷ [] in
    Answers memory jobs (answer WriteFault 0 2 8192 0 ∷ [])
    × Shows (after memory jobs) 8190 (hex 2 0x0102)
    × Shows (after memory jobs) 16382 (hex 2 0x0102)

-- bytes written over the edge of two pages, of which the first is then brought anew
unfoldable pub write_over_page_edge : Type 0
write_over_page_edge =
    let memory = put (image (true ∷ true ∷ [])) 4094 (hex 4 0x01020304) in
    Shows (brought memory 0 (padded [])) 4094 (hex 4 0x00000304)
