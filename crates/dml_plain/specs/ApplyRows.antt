-- Worked rows of apply.
use Rattle.std.specs.Prelude.{◌≡◌, ℕ, ◌-◌, ◌*◌, true, false, None, List, [], ◌∷◌, ◌++◌, length, replicate}
use Rattle.dml_types.specs.declared.statuses.Status.TheVariants.{Success, NotRising, OffsetRange}
use Rattle.dml_types.specs.Memory.{memory_of, put}
use Rattle.dml_types.specs.Job.{apply_job}
use Rattle.dml_plain.specs.Row.{hex, image, answer, Answers, Shows, after}

-- the third entry has the offset of the second
unfoldable pub apply_not_rising : Type 0
apply_not_rising =
    let memory =
    put
    (put (put (image (true ∷ [])) 0 (hex 10 0x00001111111111111111)) 10 (hex 10 0x02002222222222222222)) 20
    (hex 10 0x02003333333333333333) in
    let jobs = apply_job 0 30 256 32 ∷ [] in
    Answers memory jobs (answer NotRising 0 20 0 0 ∷ [])
    × Shows (after memory jobs) 256
    (hex 32 0x1111111111111111000000000000000022222222222222220000000000000000)

-- Offset 4 lies behind a destination of 4 blocks; at the largest transfer size no offset does. Two entries
-- stand at the front of 129 pages, of which the first and the last are present; what stands behind them is
-- never read.
unfoldable pub apply_offset_range : Type 0
apply_offset_range =
    (behind : List ℕ) →
    length behind ≡ 4096 * 129 - 26 →
    let memory =
    memory_of (true ∷ replicate 127 false ++ true ∷ [])
    (hex 10 0xffffaaaaaaaaaaaaaaaa ++ replicate 6 0 ++ hex 10 0x0400bbbbbbbbbbbbbbbb ++ behind) None in
    let jobs = apply_job 16 10 256 32 ∷ apply_job 0 10 4096 0x80000 ∷ [] in
    Answers memory jobs (answer OffsetRange 0 0 0 0 ∷ answer Success 0 10 0 0 ∷ [])
    × Shows (after memory jobs) 528376 (hex 8 0xaaaaaaaaaaaaaaaa)

-- an entry that does not rise is bad for that, and not for its absent block
unfoldable pub not_rising_before_fault : Type 0
not_rising_before_fault =
    let memory =
    put (put (image (true ∷ false ∷ true ∷ [])) 0 (hex 10 0x0200aaaaaaaaaaaaaaaa)) 10
    (hex 10 0x0000bbbbbbbbbbbbbbbb) in
    let jobs = apply_job 0 20 8176 32 ∷ [] in
    Answers memory jobs (answer NotRising 0 10 0 0 ∷ [])
    × Shows (after memory jobs) 8192 (hex 8 0xaaaaaaaaaaaaaaaa)
