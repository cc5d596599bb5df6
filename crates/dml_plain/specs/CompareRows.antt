-- Worked rows of compare and compare pattern.
use Rattle.std.specs.Prelude.{true, false, [], ◌∷◌}
use Rattle.dml_types.specs.declared.statuses.Status.TheVariants.{Success, FalsePredicate, ReadFault}
use Rattle.dml_types.specs.Memory.{put}
use Rattle.dml_types.specs.Job.{compare_job, compare_pattern_job, create_job}
use Rattle.dml_plain.specs.Row.{hex, image, checked, answer, Answers}

-- the last byte before two absent pages differs: the difference decides
unfoldable pub mismatch_before_fault : Type 0
mismatch_before_fault =
    let memory = put (image (true ∷ false ∷ true ∷ false ∷ [])) 4095 (hex 1 0x01) in
    Answers memory (compare_job 0 8192 8192 ∷ []) (answer Success 1 4095 0 0 ∷ [])

-- an absent page of the first range comes before a difference
unfoldable pub compare_stops_at_page_edge : Type 0
compare_stops_at_page_edge =
    let memory = put (image (true ∷ false ∷ true ∷ true ∷ [])) 13192 (hex 1 0x01) in
    Answers memory (compare_job 0 8192 8192 ∷ []) (answer ReadFault 0 4096 4096 0 ∷ [])

-- a compare expects the whole byte, and a create by the bit of its result
unfoldable pub expected_results : Type 0
expected_results =
    let memory = image (true ∷ []) in
    let different = put (put memory 64 (hex 1 0xff)) 72 (hex 1 0xff) in
    Answers memory (checked (compare_job 0 8 8) 1 ∷ checked (compare_job 0 8 8) 0 ∷ [])
    (answer FalsePredicate 0 8 0 0 ∷ answer Success 0 8 0 0 ∷ [])
    × Answers different (checked (create_job 0 64 16 128 10) 3 ∷ checked (create_job 0 64 16 128 10) 4 ∷ [])
    (answer FalsePredicate 2 8 0 10 ∷ answer Success 2 8 0 10 ∷ [])

unfoldable pub pattern_expected : Type 0
pattern_expected =
    let memory = put (image (true ∷ [])) 0 (hex 11 0x0102030405060708010203) in
    Answers memory
    (checked (compare_pattern_job 0 0x0807060504030201 11) 0
    ∷ checked (compare_pattern_job 0 0x0807060504030201 12) 2 ∷ [])
    (answer Success 0 11 0 0 ∷ answer FalsePredicate 1 11 0 0 ∷ [])
