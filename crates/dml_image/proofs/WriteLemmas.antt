-- What an image keeps when bytes are written and pages brought: `inside` is what its fields hold, `now` what contracts see of them.
use Rattle.std.proofs.Common.{◌≡◌, ℕ, ◌+◌, ◌-◌, ◌*◌, ◌/◌, ◌<◌, ◌≤◌, Bool, List, [], length, get_or, replicate, set, true, false, Result, Ok, Err, OnOk, OnErr, rules, refl, sym, ◌∙◌, ap, subst, arith, ⊎_elim}
use Rattle.std.proofs.lemmas.List.{places, nil_from_length, length-replicate, length-set, get_or-replicate, get_or-set_other, get_or-set_same}
use Rattle.std.proofs.lemmas.Bool.{cases_lt, cases_eq, false≢true}
use Rattle.dml_types.specs.Memory.{Memory, IsMemory, has, has_all, bytes_at, overwrite, put}
use Rattle.dml_types.proofs.MemoryLemmas.{length_overwrite, overwrite_nil, overwrite_below, overwrite_inside, overwrite_past, has_all_within, put_keeps}
use Rattle.std.specs.declared.alloc.AllocError.{AllocError}
use Rattle.dml_segments.specs.Brought.{brought, evicted}
use Rattle.dml_segments.proofs.PatternLemmas.{length_pattern_bytes}

all_now : (inside now : Memory) (address n : ℕ) → inside ≡ now → has_all now address n ≡ true → has_all inside address n ≡ true
all_now inside now address n is all = subst (λ (memory : Memory). has_all memory address n ≡ true) (sym is) all

-- a range that is all present ends within the memory, where it does not begin past it; and past the last page it is empty
pub range_within : (memory : Memory) (address n : ℕ) → IsMemory memory → has_all memory address n ≡ true → address < length memory.bytes → address + n ≤ length memory.bytes
range_within memory address n good all inside =
    ⊎_elim (λ some. has_all_within memory address n good.whole all some) (λ none. omega arith) (cases_lt 0 n)

empty_past : (memory : Memory) (address n : ℕ) → IsMemory memory → has_all memory address n ≡ true → length memory.bytes ≤ address → n ≡ 0
empty_past memory address n good all past =
    ⊎_elim (λ some. absurd (omega (arith, has_all_within memory address n good.whole all some))) (λ none. omega arith) (cases_lt 0 n)

pub put_behind : (memory : Memory) (address : ℕ) (bytes : List ℕ) → IsMemory memory → has_all memory address (length bytes) ≡ true → length memory.bytes ≤ address → memory ≡ put memory address bytes
put_behind memory address bytes good all past =
    let none : bytes ≡ [] = nil_from_length bytes (empty_past memory address (length bytes) good all past) in
    rw (none, overwrite_nil) refl

pub read_behind : (memory : Memory) (address : ℕ) (buffer : List ℕ) → IsMemory memory → has_all memory address (length buffer) ≡ true → length memory.bytes ≤ address → buffer ≡ bytes_at memory address (length buffer)
read_behind memory address buffer good all past =
    let none : buffer ≡ [] = nil_from_length buffer (empty_past memory address (length buffer) good all past) in
    rw none (search (rules, places))

-- a page that was brought: what the image kept, it keeps
pub brought_keeps : (memory : Memory) (page : ℕ) (bytes : List ℕ) → IsMemory memory → page < length memory.present → length bytes ≡ 4096 → IsMemory (brought memory page bytes)
brought_keeps memory page bytes good inside long =
    let within : 4096 * page + length bytes ≤ length memory.bytes = omega (arith, good.whole.each_page) in
    let same : length (set memory.present page true) ≡ length memory.present = length-set memory.present page true in
    record {
      least_pages = rw same good.least_pages;
      most_pages = rw same good.most_pages;
      by_home = λ home. rw same (good.by_home home);
      whole = record { each_page = length_overwrite memory.bytes (4096 * page) bytes within ∙ (good.whole.each_page ∙ ap (λ n. 4096 * n) (sym same)) };
      absent = λ k gone. absent k gone within;
    }
  where
    absent : (k : ℕ) → has (brought memory page bytes) k ≡ false → 4096 * page + length bytes ≤ length memory.bytes → get_or (brought memory page bytes).bytes k 0 ≡ 0
    absent k gone within =
        ⊎_elim (λ same.
        absurd (false≢true (sym gone ∙ (ap (λ place. get_or (set memory.present page true) place false) same ∙ get_or-set_same memory.present page true false inside))))
        (λ other.
        let before : has memory k ≡ false = sym (get_or-set_other memory.present page (k / 4096) true false other) ∙ gone in
        ⊎_elim (λ low. overwrite_below memory.bytes (4096 * page) bytes k 0 within low ∙ good.absent k before) (λ high.
        let past : 4096 * page + length bytes ≤ k = omega arith in
        overwrite_past memory.bytes (4096 * page) bytes k 0 within past ∙ good.absent k before)
        (cases_lt k (4096 * page)))
        (cases_eq (k / 4096) page)

-- a page that was evicted
pub evicted_keeps : (memory : Memory) (page : ℕ) → IsMemory memory → page < length memory.present → IsMemory (evicted memory page)
evicted_keeps memory page good inside =
    let zeros = replicate 4096 0 in
    let long : length zeros ≡ 4096 = length-replicate {A = ℕ} 4096 0 in
    let within : 4096 * page + length zeros ≤ length memory.bytes = omega (arith, good.whole.each_page, long) in
    let same : length (set memory.present page false) ≡ length memory.present = length-set memory.present page false in
    record {
      least_pages = rw same good.least_pages;
      most_pages = rw same good.most_pages;
      by_home = λ home. rw same (good.by_home home);
      whole = record { each_page = length_overwrite memory.bytes (4096 * page) zeros within ∙ (good.whole.each_page ∙ ap (λ n. 4096 * n) (sym same)) };
      absent = λ k gone. absent k gone zeros long refl within;
    }
  where
    absent : (k : ℕ) → has (evicted memory page) k ≡ false → (zeros : List ℕ) → length zeros ≡ 4096 → zeros ≡ replicate 4096 0 → 4096 * page + length zeros ≤ length memory.bytes → get_or (overwrite memory.bytes (4096 * page) zeros) k 0 ≡ 0
    absent k gone zeros long is within =
        ⊎_elim (λ same.
        let at : 4096 * page + (k - 4096 * page) ≡ k = omega arith in
        ap (λ i. get_or (overwrite memory.bytes (4096 * page) zeros) i 0) (sym at)
        ∙ (overwrite_inside memory.bytes (4096 * page) zeros (k - 4096 * page) 0 within (omega arith)
        ∙ (ap (λ (items : List ℕ). get_or items (k - 4096 * page) 0) is ∙ get_or-replicate 4096 (k - 4096 * page) 0 0 (omega arith))))
        (λ other.
        let before : has memory k ≡ false = sym (get_or-set_other memory.present page (k / 4096) false false other) ∙ gone in
        ⊎_elim (λ low. overwrite_below memory.bytes (4096 * page) zeros k 0 within low ∙ good.absent k before) (λ high.
        let past : 4096 * page + length zeros ≤ k = omega arith in
        overwrite_past memory.bytes (4096 * page) zeros k 0 within past ∙ good.absent k before)
        (cases_lt k (4096 * page)))
        (cases_eq (k / 4096) page)

-- what an image keeps, after a write and after a page was brought
pub kept_after_put : (inside now after : Memory) (address : ℕ) (bytes : List ℕ) → inside ≡ now → IsMemory inside → has_all now address (length bytes) ≡ true → after ≡ put inside address bytes → IsMemory after
kept_after_put inside now after address bytes is good all done =
    rw done (put_keeps inside address bytes good (all_now inside now address (length bytes) is all))

pub kept_after_bring : (inside after : Memory) (page : ℕ) (bytes : List ℕ) (result : Result Unit AllocError) → IsMemory inside → page < length inside.present → length bytes ≡ 4096 → OnOk result (after ≡ brought inside page bytes) → OnErr result (after ≡ inside) → IsMemory after
kept_after_bring inside after page bytes (Ok _) good below long done same = rw done (brought_keeps inside page bytes good below long)
kept_after_bring inside after page bytes (Err _) good below long done same = rw same good

pub kept_after_evict : (inside after : Memory) (page : ℕ) (gone : Bool) → IsMemory inside → page < length inside.present → (gone ≡ true → after ≡ evicted inside page) → (gone ≡ false → after ≡ inside) → IsMemory after
kept_after_evict inside after page true good below done same = subst IsMemory (sym (done refl)) (evicted_keeps inside page good below)
kept_after_evict inside after page false good below done same = subst IsMemory (sym (same refl)) good

-- what decides a fill of lent memory, and that a fill leaves a memory
pub ruleset fill_steps = (range_within, put_behind, length_pattern_bytes)

pub ruleset fill_keeps = (put_keeps, length_pattern_bytes)
