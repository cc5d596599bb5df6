-- The same for create and apply.
use Rattle.std.proofs.Common.{◌≡◌, ℕ, ◌+◌, ◌-◌, ◌*◌, ◌/◌, ◌<◌, ◌≤◌, zero, suc, Bool, true, false, not, List, [], ◌∷◌, ◌++◌, length, map, take, flat_map, filter, Option, None, is_some, find, option_map, refl, sym, ◌∙◌, ap, subst, arith, ◌⊎◌, ⊎_elim, cond}
use Rattle.std.proofs.lemmas.Bool.{cases_eq, not-false, eq-eqb, leb-false, false≢true}
use Rattle.std.proofs.lemmas.List.{length-append}
use Rattle.std.specs.Prelude.{◌&&◌, nat_eq, nat_lt, nat_le, slice_index, bytes_eq}
use Rattle.std.specs.List.{range_with_len}
use Rattle.std.specs.Int.{from_le_bytes, to_le_bytes, w16}
use Rattle.dml_types.specs.declared.jobs.Job.{Job}
use Rattle.dml_types.specs.declared.operations.Op.TheVariants.{CreateDelta, ApplyDelta}
use Rattle.dml_types.specs.declared.statuses.Status.TheVariants.{NotRising, OffsetRange}
use Rattle.dml_types.specs.Job.{reads, writes, span}
use Rattle.dml_types.specs.Memory.{Memory, IsWhole, Put, put_of, has_all, bytes_at}
use Rattle.dml_types.specs.Effect.{Effect, effect_of, Fault, read_fault, write_fault}
use Rattle.dml_types.specs.Delta.{first_absent, has_block, block_bytes, is_readable, differs, readable_blocks, differing, entry_room, block_entry, crowded, written_out, created, entry_offset, entry_fault, good_entries, entry_put, apply_answer, applied}
use Rattle.dml_types.proofs.FirstLemmas.{first_le, fails_before, first_agree}
use Rattle.dml_types.proofs.MemoryLemmas.{has_all_within}
use Rattle.dml_order.proofs.OrderLemmas.{filter_range_same}
use Rattle.dml_levels.proofs.FrameLemmas.{touched_at, with_bytes, Agree, PutIn, PutsIn, bytes_at_agree, length_bytes_at_le}
use Rattle.dml_levels.proofs.FrameLaws.{IsFramed, first_read, second_read, put_in_first}

-- all of these are below a bound
abbrev AllBelow : ℕ → List ℕ → Type 0
AllBelow n [] = Unit {0}
AllBelow n (x ∷ xs) = (x < n) × AllBelow n xs

below_range : (n from count : ℕ) (p : ℕ → Bool) → from + count ≤ n → AllBelow n (filter p (range_with_len from count))
below_range n from zero p within = tt
below_range n from (suc count) p within =
    elim (p from) as (λ b. AllBelow n (cond b (from ∷ filter p (range_with_len (from + 1) count)) (filter p (range_with_len (from + 1) count)))) [
      | true ↦ (omega arith, below_range n (from + 1) count p (omega arith))
      | false ↦ below_range n (from + 1) count p (omega arith)
    ]

below_take : (n k : ℕ) (xs : List ℕ) → AllBelow n xs → AllBelow n (take k xs)
below_take n zero xs all = tt
below_take n (suc k) [] all = tt
below_take n (suc k) (x ∷ xs) all = (all.0, below_take n k xs all.1)

flat_map_agree : (f g : ℕ → List ℕ) (n : ℕ) (xs : List ℕ) → ((x : ℕ) → x < n → f x ≡ g x) → AllBelow n xs → flat_map f xs ≡ flat_map g xs
flat_map_agree f g n [] same all = refl
flat_map_agree f g n (x ∷ xs) same all =
    ap (λ front. front ++ flat_map f xs) (same x all.0) ∙ ap (λ back. g x ++ back) (flat_map_agree f g n xs same all.1)

-- the blocks of both sources
block_read : (memory : Memory) (bytes : List ℕ) (job : Job) (b : ℕ) → Agree (reads CreateDelta job) bytes memory.bytes → b < job.size / 8 → (block_bytes (with_bytes memory bytes) job.source b ≡ block_bytes memory job.source b) × (block_bytes (with_bytes memory bytes) job.target b ≡ block_bytes memory job.target b)
block_read memory bytes job b agree below = (
  first_read memory bytes job.source job.size (span job.target job.size ∷ []) (8 * b) 8 agree (omega arith),
  second_read memory bytes (span job.source job.size) job.target job.size [] (8 * b) 8 agree (omega arith),
)

created_from : Memory → Job → List ℕ → List ℕ → Effect
created_from memory job blocks entries =
    let room = entry_room memory job in
    effect_of (put_of job.extra entries ∷ []) (cond (nat_lt room (length blocks)) (crowded memory job room (slice_index blocks room)) (written_out memory job (length blocks)))

create_agree : (memory : Memory) (bytes : List ℕ) (job : Job) → Agree (reads CreateDelta job) bytes memory.bytes → created (with_bytes memory bytes) job ≡ created memory job
unfolding created created_from
create_agree memory bytes job agree =
    let readable = readable_blocks memory job 0 (job.size / 8) in
    let within : 0 + readable ≤ job.size / 8 = omega (arith, first_le (job.size / 8 - 0) (λ i. not (is_readable memory job (0 + i)))) in
    let blocks = differing memory job 0 (job.size / 8) in
    let room = entry_room memory job in
    let same_blocks : differing (with_bytes memory bytes) job 0 (job.size / 8) ≡ blocks =
    filter_range_same (differs (with_bytes memory bytes) job) (differs memory job) 0 readable
    (λ b low high.
    let both = block_read memory bytes job b agree (omega (arith, within)) in
    ap (λ (one : List ℕ). not (bytes_eq one (block_bytes (with_bytes memory bytes) job.target b))) both.0
    ∙ ap (λ (other : List ℕ). not (bytes_eq (block_bytes memory job.source b) other)) both.1) in
    let same_entries : flat_map (block_entry (with_bytes memory bytes) job) (take room blocks) ≡ flat_map (block_entry memory job) (take room blocks) =
    flat_map_agree (block_entry (with_bytes memory bytes) job) (block_entry memory job) (job.size / 8) (take room blocks)
    (λ b below. ap (λ (block : List ℕ). to_le_bytes w16 b ++ block) (block_read memory bytes job b agree below).1)
    (below_take (job.size / 8) room blocks (below_range (job.size / 8) 0 readable (differs memory job) within)) in
    ap (λ (these : List ℕ). created_from memory job these (flat_map (block_entry (with_bytes memory bytes) job) (take room these))) same_blocks
    ∙ ap (created_from memory job blocks) same_entries

-- entries have ten bytes
length_entry : (memory : Memory) (job : Job) (b : ℕ) → length (block_entry memory job b) ≤ 10
length_entry memory job b =
    omega (arith, length-append (to_le_bytes w16 b) (block_bytes memory job.target b), length_bytes_at_le memory (job.target + 8 * b) 8, two b)
  where
    two : (b : ℕ) → length (to_le_bytes w16 b) ≡ 2
    two b = refl

length_entries : (memory : Memory) (job : Job) (blocks : List ℕ) → length (flat_map (block_entry memory job) blocks) ≤ 10 * length blocks
length_entries memory job [] = omega arith
length_entries memory job (b ∷ blocks) =
    omega (arith, length-append (block_entry memory job b) (flat_map (block_entry memory job) blocks), length_entry memory job b, length_entries memory job blocks)

take_short : (k : ℕ) (xs : List ℕ) → length (take k xs) ≤ k
take_short zero xs = omega arith
take_short (suc k) [] = omega arith
take_short (suc k) (x ∷ xs) = omega (arith, take_short k xs)

-- the places of the entries that have room lie in the image
room_within : (memory : Memory) (job : Job) → IsWhole memory → 0 < entry_room memory job → job.extra + 10 * entry_room memory job ≤ length memory.bytes
room_within memory job whole some =
    let room = entry_room memory job in
    let last = not-false _ (fails_before (job.delta_size / 10) (λ x. not (has_all memory (job.extra + 10 * x) 10)) (room - 1) (omega arith)) in
    omega (arith, has_all_within memory (job.extra + 10 * (room - 1)) 10 whole last (omega arith))

create_puts : (memory : Memory) (job : Job) → IsWhole memory → PutsIn (writes CreateDelta job) (length memory.bytes) (created memory job).puts
unfolding created
create_puts memory job whole =
    let room = entry_room memory job in
    let taken = take room (differing memory job 0 (job.size / 8)) in
    let entries = flat_map (block_entry memory job) taken in
    let short : length entries ≤ 10 * room = omega (arith, length_entries memory job taken, take_short room (differing memory job 0 (job.size / 8))) in
    let few : room ≤ job.delta_size / 10 = first_le (job.delta_size / 10) (λ x. not (has_all memory (job.extra + 10 * x) 10)) in
    let put = put_in_first job.extra job.delta_size [] 0 (10 * room) (length memory.bytes) entries short (omega (arith, few))
    (λ some. omega (arith, room_within memory job whole (omega (arith, some)))) in
    (subst (λ address. PutIn (writes CreateDelta job) (length memory.bytes) (put_of address entries)) (let e : job.extra + 0 ≡ job.extra = omega arith in e) put, tt)

pub create_framed : IsFramed CreateDelta
create_framed = record { agree = create_agree; puts_in = create_puts }

-- the offset and the block of an entry
entry_read : (memory : Memory) (bytes : List ℕ) (job : Job) (x from n : ℕ) → Agree (reads ApplyDelta job) bytes memory.bytes → x < job.delta_size / 10 → from + n ≤ 10 → bytes_at (with_bytes memory bytes) (job.source + 10 * x + from) n ≡ bytes_at memory (job.source + 10 * x + from) n
entry_read memory bytes job x from n agree below within =
    bytes_at_agree memory bytes (job.source + 10 * x + from) n agree.size
    (λ i low. agree.same (job.source + 10 * x + from + i) (touched_at (span job.source job.delta_size) [] (job.source + 10 * x + from + i) (omega arith) (omega arith)))

offset_read : (memory : Memory) (bytes : List ℕ) (job : Job) (x : ℕ) → Agree (reads ApplyDelta job) bytes memory.bytes → x < job.delta_size / 10 → entry_offset (with_bytes memory bytes) job x ≡ entry_offset memory job x
offset_read memory bytes job x agree below =
    ap (from_le_bytes w16)
    (bytes_at_agree memory bytes (job.source + 10 * x) 2 agree.size
    (λ i low. agree.same (job.source + 10 * x + i) (touched_at (span job.source job.delta_size) [] (job.source + 10 * x + i) (omega arith) (omega arith))))

-- the fault of an entry, by its offset and that of the entry before it
abbrev fault_by : Memory → Job → ℕ → ℕ → ℕ → Option Fault
fault_by memory job x offset before =
    let causes : List (Bool × Fault) =
    (not (has_all memory (job.source + 10 * x) 10), read_fault (first_absent memory (job.source + 10 * x) 10))
    ∷ (nat_lt 0 x && nat_le offset before, record { status = NotRising; address = 0 })
    ∷ (nat_le (job.size / 8) offset, record { status = OffsetRange; address = 0 })
    ∷ (not (has_block memory job.target offset), write_fault (first_absent memory (job.target + 8 * offset) 8)) ∷ [] in
    option_map (λ cause. cause.1) (find (λ cause. cause.0) causes)

fault_agree : (memory : Memory) (bytes : List ℕ) (job : Job) (x : ℕ) → Agree (reads ApplyDelta job) bytes memory.bytes → x < job.delta_size / 10 → entry_fault 0 (with_bytes memory bytes) job x ≡ entry_fault 0 memory job x
fault_agree memory bytes job x agree below =
    ap (λ offset. fault_by memory job x offset (entry_offset (with_bytes memory bytes) job (x - 1))) (offset_read memory bytes job x agree below)
    ∙ ap (λ before. fault_by memory job x (entry_offset memory job x) before) (offset_read memory bytes job (x - 1) agree (omega arith))

map_agree : (f g : ℕ → Put) (from n : ℕ) → ((x : ℕ) → from ≤ x → x < from + n → f x ≡ g x) → map f (range_with_len from n) ≡ map g (range_with_len from n)
map_agree f g from zero same = refl
map_agree f g from (suc n) same =
    ap (λ p. p ∷ map f (range_with_len (from + 1) n)) (same from (omega arith) (omega arith))
    ∙ ap (λ rest. g from ∷ rest) (map_agree f g (from + 1) n (λ x low high. same x (omega arith) (omega arith)))

put_agree : (memory : Memory) (bytes : List ℕ) (job : Job) (x : ℕ) → Agree (reads ApplyDelta job) bytes memory.bytes → x < job.delta_size / 10 → entry_put (with_bytes memory bytes) job x ≡ entry_put memory job x
put_agree memory bytes job x agree below =
    ap (λ offset. put_of (job.target + 8 * offset) (bytes_at (with_bytes memory bytes) (job.source + 10 * x + 2) 8)) (offset_read memory bytes job x agree below)
    ∙ ap (put_of (job.target + 8 * entry_offset memory job x)) (entry_read memory bytes job x 2 8 agree below (omega arith))

applied_from : Job → ℕ → List Put → Option Fault → Effect
applied_from job x puts fault = effect_of puts (apply_answer x fault)

apply_agree : (memory : Memory) (bytes : List ℕ) (job : Job) → Agree (reads ApplyDelta job) bytes memory.bytes → applied (with_bytes memory bytes) job ≡ applied memory job
unfolding applied applied_from
apply_agree memory bytes job agree =
    let count = job.delta_size / 10 in
    let x = good_entries memory job 0 count in
    let within : x ≤ count - 0 = first_le (count - 0) (λ i. is_some (entry_fault 0 memory job (0 + i))) in
    let same_x : good_entries (with_bytes memory bytes) job 0 count ≡ x =
    first_agree (count - 0) _ _ (λ i below. ap is_some (fault_agree memory bytes job (0 + i) agree (omega arith))) in
    let same_puts : map (entry_put (with_bytes memory bytes) job) (range_with_len 0 x) ≡ map (entry_put memory job) (range_with_len 0 x) =
    map_agree _ _ 0 x (λ i low high. put_agree memory bytes job i agree (omega (arith, within))) in
    let same_fault : cond (nat_eq x count) None (entry_fault 0 (with_bytes memory bytes) job x) ≡ cond (nat_eq x count) None (entry_fault 0 memory job x) =
    fault_where (cases_eq x count) in
    ap (λ k. applied_from job k (map (entry_put (with_bytes memory bytes) job) (range_with_len 0 k)) (cond (nat_eq k count) None (entry_fault 0 (with_bytes memory bytes) job k))) same_x
    ∙ (ap (λ puts. applied_from job x puts (cond (nat_eq x count) None (entry_fault 0 (with_bytes memory bytes) job x))) same_puts
    ∙ ap (applied_from job x (map (entry_put memory job) (range_with_len 0 x))) same_fault)
  where
    fault_where : let count = job.delta_size / 10 in let x = good_entries memory job 0 count in (x ≡ count) ⊎ (x ≡ count → ⊥) → cond (nat_eq x count) None (entry_fault 0 (with_bytes memory bytes) job x) ≡ cond (nat_eq x count) None (entry_fault 0 memory job x)
    fault_where s =
        let count = job.delta_size / 10 in
        let x = good_entries memory job 0 count in
        let within : x ≤ count - 0 = first_le (count - 0) (λ i. is_some (entry_fault 0 memory job (0 + i))) in
        ⊎_elim (λ same.
        let at_end = eq-eqb x count same in
        ap (λ b. cond b None (entry_fault 0 (with_bytes memory bytes) job x)) at_end ∙ sym (ap (λ b. cond b None (entry_fault 0 memory job x)) at_end))
        (λ other. ap (λ fault. cond (nat_eq x count) None fault) (fault_agree memory bytes job x agree (omega (arith, within, other)))) s

-- an entry without a fault: its block lies in the destination and is present
no_cause : (a b c d : Bool) (e f g h : Fault) → let causes : List (Bool × Fault) = (a, e) ∷ (b, f) ∷ (c, g) ∷ (d, h) ∷ [] in is_some (option_map (λ cause. cause.1) (find (λ cause. cause.0) causes)) ≡ false → (c ≡ false) × (d ≡ false)
no_cause true b c d e f g h none = absurd (false≢true (sym none))
no_cause false true c d e f g h none = absurd (false≢true (sym none))
no_cause false false true d e f g h none = absurd (false≢true (sym none))
no_cause false false false true e f g h none = absurd (false≢true (sym none))
no_cause false false false false e f g h none = (refl, refl)

good_entry : (memory : Memory) (job : Job) (x : ℕ) → is_some (entry_fault 0 memory job x) ≡ false → (entry_offset memory job x < job.size / 8) × (has_block memory job.target (entry_offset memory job x) ≡ true)
good_entry memory job x none =
    let offset = entry_offset memory job x in
    let clear = no_cause (not (has_all memory (job.source + 10 * x) 10)) (nat_lt 0 x && nat_le offset (entry_offset memory job (x - 1))) (nat_le (job.size / 8) offset) (not (has_block memory job.target offset)) _ _ _ _ none in
    (leb-false (job.size / 8) offset clear.0, not-false (has_block memory job.target offset) clear.1)

entries_in : (memory : Memory) (job : Job) (from n : ℕ) → IsWhole memory → ((x : ℕ) → from ≤ x → x < from + n → is_some (entry_fault 0 memory job x) ≡ false) → PutsIn (writes ApplyDelta job) (length memory.bytes) (map (entry_put memory job) (range_with_len from n))
entries_in memory job from zero whole good = tt
entries_in memory job from (suc n) whole good =
    let own = good_entry memory job from (good from (omega arith) (omega arith)) in
    let offset = entry_offset memory job from in
    let present = has_all_within memory (job.target + 8 * offset) 8 whole own.1 (omega arith) in (
      put_in_first job.target job.size [] (8 * offset) 8 (length memory.bytes) (bytes_at memory (job.source + 10 * from + 2) 8)
          (length_bytes_at_le memory (job.source + 10 * from + 2) 8) (omega (arith, own.0)) (λ some. present),
      entries_in memory job (from + 1) n whole (λ x low high. good x (omega arith) (omega arith)),
    )

apply_puts : (memory : Memory) (job : Job) → IsWhole memory → PutsIn (writes ApplyDelta job) (length memory.bytes) (applied memory job).puts
unfolding applied
apply_puts memory job whole =
    let count = job.delta_size / 10 in
    entries_in memory job 0 (good_entries memory job 0 count) whole
    (λ x low high.
    ap (λ i. is_some (entry_fault 0 memory job i)) (let e : x ≡ 0 + x = omega arith in e)
    ∙ fails_before (count - 0) (λ i. is_some (entry_fault 0 memory job (0 + i))) x (omega arith))

pub apply_framed : IsFramed ApplyDelta
apply_framed = record { agree = apply_agree; puts_in = apply_puts }
