-- The entries of a record that an apply reads.
use Rattle.std.proofs.Common.{◌≡◌, ◌≢◌, ℕ, ◌+◌, ◌-◌, ◌*◌, ◌/◌, ◌%◌, ◌<◌, ◌≤◌, Bool, true, false, not, ◌&&◌, ◌||◌, List, [], ◌∷◌, ◌++◌, length, get_or, take, Option, None, Some, is_some, cond, eqb, nat_lt, nat_le, refl, sym, ◌∙◌, ap, ap₂, arith, rules, ⊎_elim}
use Rattle.std.specs.Prelude.{find, option_map}
use Rattle.std.proofs.lemmas.Bool.{cases_eq, cases_lt, not-false, not-true, and_left, and_right, eq-eqb, ne_eqb, lt-ltb, le-ltb, le-leb, lt-leb, false_from_ne_true, false≢true}
use Rattle.dml_types.specs.declared.jobs.Job.{Job}
use Rattle.std.proofs.lemmas.List.{places, same_lists}
use Rattle.dml_segments.proofs.RangeLemmas.{bytes_at_append}
use Rattle.dml_delta.specs.Bad.{bad_of}
use Rattle.dml_delta.specs.declared.applies.BadEntry.{BadEntry}
use Rattle.dml_types.specs.Memory.{IsWhole, bytes_at, Memory, has, has_all, present_bytes}
use Rattle.dml_types.specs.Effect.{Fault, read_fault, write_fault}
use Rattle.dml_types.specs.Delta.{block_number, entry_fault, first_absent, good_entries, has_block, entry_offset}
use Rattle.dml_types.specs.declared.statuses.Status.TheVariants.{NotRising, OffsetRange}
use Rattle.dml_types.specs.Chunk.{apply_first}
use Rattle.dml_delta.specs.Record.{allowed_in, is_allowed, is_block, least_in}
use Rattle.std.specs.Int.{from_le_bytes, w16}
use Rattle.std.specs.Prelude.{slice_range}
use Rattle.dml_types.proofs.FirstLemmas.{first_is, first_le, fails_before, passes_at}
use Rattle.dml_types.proofs.MemoryLemmas.{has_all_at, has_all_from, has_all_within, present_front}
use Rattle.dml_delta.proofs.UnitLemmas.{block_in_page}

-- the first cause of four
abbrev cause_of : Bool → Fault → Bool → Fault → Bool → Fault → Bool → Fault → Option Fault
cause_of a f b g c h d k =
    let causes : List (Bool × Fault) = (a, f) ∷ (b, g) ∷ (c, h) ∷ (d, k) ∷ [] in
    option_map (λ cause. cause.1) (find (λ cause. cause.0) causes)

no_cause : (a : Bool) (f : Fault) (b : Bool) (g : Fault) (c : Bool) (h : Fault) (d : Bool) (k : Fault) → cause_of a f b g c h d k ≡ None → a ≡ false
no_cause true f b g c h d k none = absurd (cc)
no_cause false f b g c h d k none = refl

some_cause : (f : Fault) (b : Bool) (g : Fault) (c : Bool) (h : Fault) (d : Bool) (k : Fault) → is_some (cause_of false f b g c h d k) ≡ (b || (c || d))
some_cause f true g c h d k = refl
some_cause f false g true h d k = refl
some_cause f false g false h true k = refl
some_cause f false g false h false k = refl

-- the fault of an entry, by whether all its bytes are present and its offset does not rise
abbrev fault_when : Memory → Job → ℕ → Bool → Bool → Option Fault
fault_when memory job x present falls =
    let offset = entry_offset memory job x in
    cause_of (not present) (read_fault (first_absent memory (job.source + 10 * x) 10)) falls (record { status = NotRising; address = 0 })
    (nat_le (job.size / 8) offset) (record { status = OffsetRange; address = 0 })
    (not (has_block memory job.target offset)) (write_fault (first_absent memory (job.target + 8 * offset) 8))

abbrev falls_at : ℕ → Memory → Job → ℕ → Bool
falls_at behind memory job x = nat_lt behind x && nat_le (entry_offset memory job x) (entry_offset memory job (x - 1))

fault_is : (behind : ℕ) (memory : Memory) (job : Job) (x : ℕ) → entry_fault behind memory job x ≡ fault_when memory job x (has_all memory (job.source + 10 * x) 10) (falls_at behind memory job x)
fault_is behind memory job x = refl

-- all bytes of a good entry are present
pub good_is_present : (behind : ℕ) (memory : Memory) (job : Job) (x : ℕ) → entry_fault behind memory job x ≡ None → has_all memory (job.source + 10 * x) 10 ≡ true
good_is_present behind memory job x good =
    let offset = entry_offset memory job x in
    not-false (has_all memory (job.source + 10 * x) 10)
    (no_cause (not (has_all memory (job.source + 10 * x) 10)) (read_fault (first_absent memory (job.source + 10 * x) 10))
    (falls_at behind memory job x) (record { status = NotRising; address = 0 })
    (nat_le (job.size / 8) offset) (record { status = OffsetRange; address = 0 })
    (not (has_block memory job.target offset)) (write_fault (first_absent memory (job.target + 8 * offset) 8)) good)

pub good_present : (memory : Memory) (job : Job) (from n : ℕ) → ((i : ℕ) → i < n → entry_fault from memory job (from + i) ≡ None) → has_all memory (job.source + 10 * from) (10 * n) ≡ true
good_present memory job from n good =
    has_all_from memory (job.source + 10 * from) (10 * n)
    (λ j below.
    let place : job.source + 10 * from + j ≡ job.source + 10 * (from + j / 10) + j % 10 = omega arith in
    let here = good_is_present from memory job (from + j / 10) (good (j / 10) (omega arith)) in
    ap (has memory) place ∙ has_all_at memory (job.source + 10 * (from + j / 10)) 10 (j % 10) here (omega arith))

-- how many entries are good
pub good_is : (memory : Memory) (job : Job) (from to k : ℕ) → k ≤ to - from → ((i : ℕ) → i < k → entry_fault from memory job (from + i) ≡ None) → (k < to - from → is_some (entry_fault from memory job (from + k)) ≡ true) → k ≡ good_entries memory job from to
good_is memory job from to k within good stops =
    sym (first_is (to - from) (λ i. is_some (entry_fault from memory job (from + i))) k within (λ i below. ap is_some (good i below)) stops)

-- whether an entry was found bad
pub found_alike : (o : Option BadEntry) (p : Option Fault) (x : ℕ) → option_map bad_of o ≡ option_map (λ fault. (x, fault)) p → is_some o ≡ is_some p
found_alike None None x same = refl
found_alike (Some bad) (Some fault) x same = refl
found_alike None (Some fault) x same = absurd (cc)
found_alike (Some bad) None x same = absurd (cc)

pub none_found : (p : Option Fault) → is_some p ≡ false → p ≡ None
none_found None none = refl
none_found (Some fault) none = absurd (cc)

-- an entry among present ones
pub entry_present : (memory : Memory) (address from n x : ℕ) → has_all memory (address + 10 * from) (10 * n) ≡ true → from ≤ x → x < from + n → has_all memory (address + 10 * x) 10 ≡ true
entry_present memory address from n x all low high =
    has_all_from memory (address + 10 * x) 10
    (λ j below.
    let place : address + 10 * x + j ≡ address + 10 * from + (10 * (x - from) + j) = omega arith in
    ap (has memory) place ∙ has_all_at memory (address + 10 * from) (10 * n) (10 * (x - from) + j) all (omega arith))

-- the offset that a chunk tells of its first entry
abbrev told_first : Memory → Job → ℕ → Bool → Option ℕ
told_first memory job from tells = cond tells (Some (entry_offset memory job from)) None

pub first_of_none : (memory : Memory) (job : Job) (from to : ℕ) → from ≡ to → None ≡ apply_first memory job from to
unfolding apply_first
first_of_none memory job from to same =
    ap (λ (b : Bool). told_first memory job from (not b && has_all memory (job.source + 10 * from) 10)) (sym (eq-eqb from to same))

pub first_of_absent : (memory : Memory) (job : Job) (from to : ℕ) → present_bytes memory (job.source + 10 * from) 10 < 10 → None ≡ apply_first memory job from to
unfolding apply_first
first_of_absent memory job from to short =
    let gone : has_all memory (job.source + 10 * from) 10 ≡ false = ne_eqb _ _ (λ all. omega arith) in
    ap (told_first memory job from) (sym (and_right (not (eqb from to)) (has_all memory (job.source + 10 * from) 10) gone))

pub first_of_present : (memory : Memory) (job : Job) (from to offset : ℕ) → from ≢ to → has_all memory (job.source + 10 * from) 10 ≡ true → offset ≡ entry_offset memory job from → Some offset ≡ apply_first memory job from to
unfolding apply_first
first_of_present memory job from to offset apart here is =
    ap (λ (o : ℕ). Some o) is
    ∙ ap₂ (λ (a b : Bool). told_first memory job from (not a && b)) (sym (ne_eqb from to apart)) (sym here)

-- entries behind some of a run of present ones, and those of a run of present bytes
pub rest_present : (memory : Memory) (address from n k : ℕ) → has_all memory (address + 10 * from) (10 * n) ≡ true → k ≤ n → has_all memory (address + 10 * (from + k)) (10 * (n - k)) ≡ true
rest_present memory address from n k all within =
    has_all_from memory (address + 10 * (from + k)) (10 * (n - k))
    (λ j below.
    let place : address + 10 * (from + k) + j ≡ address + 10 * from + (10 * k + j) = omega arith in
    ap (has memory) place ∙ has_all_at memory (address + 10 * from) (10 * n) (10 * k + j) all (omega arith))

pub whole_present : (memory : Memory) (address n count : ℕ) → count ≡ present_bytes memory address n → has_all memory address (10 * (count / 10)) ≡ true
whole_present memory address n count is =
    has_all_from memory address (10 * (count / 10)) (λ j below. has_all_at memory address (present_bytes memory address n) j (present_front memory address n) (omega arith))

-- behind the whole entries of a run of present bytes stands one with an absent byte
pub stops_absent : (memory : Memory) (job : Job) (from n count : ℕ) → count ≡ present_bytes memory (job.source + 10 * from) (10 * n) → count / 10 < n → is_some (entry_fault from memory job (from + count / 10)) ≡ true
stops_absent memory job from n count is short =
    let address = job.source + 10 * from in
    let run : present_bytes memory address (10 * n) < 10 * n = omega arith in
    let gone : has memory (address + present_bytes memory address (10 * n)) ≡ false = not-true (has memory (address + present_bytes memory address (10 * n))) (passes_at (10 * n) (λ i. not (has memory (address + i))) run) in
    let x = from + count / 10 in
    let place : job.source + 10 * x + (count - 10 * (count / 10)) ≡ address + present_bytes memory address (10 * n) = omega arith in
    let absent : has_all memory (job.source + 10 * x) 10 ≡ false =
    false_from_ne_true (has_all memory (job.source + 10 * x) 10)
    (λ all. false≢true (sym gone ∙ (ap (has memory) (sym place) ∙ has_all_at memory (job.source + 10 * x) 10 (count - 10 * (count / 10)) all (omega arith)))) in
    ap (λ (present : Bool). is_some (fault_when memory job x present (falls_at from memory job x))) absent

-- the least offset that entry x may have
abbrev pub least_from : Memory → Job → ℕ → ℕ → ℕ
least_from memory job from x = cond (eqb x from) 0 (entry_offset memory job (x - 1) + 1)

not_le : (m n : ℕ) → not (nat_le m n) ≡ nat_lt n m
not_le m n =
    ⊎_elim (λ low. ap not (lt-leb m n low) ∙ sym (lt-ltb n m low)) (λ high. ap not (le-leb m n high) ∙ sym (le-ltb n m high)) (cases_lt n m)

falls_is : (memory : Memory) (job : Job) (from x : ℕ) → from ≤ x → falls_at from memory job x ≡ not (nat_le (least_from memory job from x) (entry_offset memory job x))
falls_is memory job from x order =
    let offset = entry_offset memory job x in
    let last = entry_offset memory job (x - 1) in
    ⊎_elim (λ same.
    and_left (nat_lt from x) (nat_le offset last) (le-ltb from x (omega arith))
    ∙ sym (ap (λ (b : Bool). not (nat_le (cond b 0 (last + 1)) offset)) (eq-eqb x from same) ∙ ap not (le-leb 0 offset (omega arith))))
    (λ apart.
    ap (λ (b : Bool). b && nat_le offset last) (lt-ltb from x (omega arith))
    ∙ (rises offset last ∙ sym (ap (λ (b : Bool). not (nat_le (cond b 0 (last + 1)) offset)) (ne_eqb x from apart))))
    (cases_eq x from)
  where
    rises : (offset last : ℕ) → nat_le offset last ≡ not (nat_le (last + 1) offset)
    rises offset last =
        ⊎_elim (λ low. lt-leb offset last low ∙ sym (ap not (le-leb (last + 1) offset (omega arith)))) (λ high. le-leb offset last high ∙ sym (ap not (lt-leb (last + 1) offset (omega arith))))
        (cases_lt last offset)

-- whether an entry is bad, where all its bytes are present
judged_present : (memory : Memory) (job : Job) (from x : ℕ) → from ≤ x → has_all memory (job.source + 10 * x) 10 ≡ true → is_some (entry_fault from memory job x) ≡ not (is_allowed memory job (least_from memory job from x) (entry_offset memory job x))
judged_present memory job from x order all =
    let offset = entry_offset memory job x in
    let least = least_from memory job from x in
    let past = nat_le (job.size / 8) offset in
    let block = has_block memory job.target offset in
    ap₂ (λ (present falls : Bool). is_some (fault_when memory job x present falls)) all (falls_is memory job from x order)
    ∙ (some_cause (read_fault (first_absent memory (job.source + 10 * x) 10)) (not (nat_le least offset)) (record { status = NotRising; address = 0 }) past (record { status = OffsetRange; address = 0 }) (not block) (write_fault (first_absent memory (job.target + 8 * offset) 8))
    ∙ (any_of (nat_le least offset) past block ∙ ap (λ (b : Bool). not (nat_le least offset && (b && block))) (not_le (job.size / 8) offset)))
  where
    any_of : (a b c : Bool) → (not a || (b || not c)) ≡ not (a && (not b && c))
    any_of false b c = refl
    any_of true true c = refl
    any_of true false false = refl
    any_of true false true = refl

-- a run of present entries from entry x on, read at once and judged
offset_read : (memory : Memory) (address n i : ℕ) → 10 * i + 2 ≤ n → slice_range (bytes_at memory address n) (10 * i) (10 * i + 2) ≡ bytes_at memory (address + 10 * i) 2
offset_read memory address n i within = same_lists _ _ (search (rules, places)) (λ k d h. grind (arith, places))

pub offset_of_read : (memory : Memory) (job : Job) (x n i : ℕ) (entries : List ℕ) → entries ≡ bytes_at memory (job.source + 10 * x) n → 10 * i + 2 ≤ n → block_number entries i ≡ entry_offset memory job (x + i)
offset_of_read memory job x n i entries read within =
    let place : job.source + 10 * x + 10 * i ≡ job.source + 10 * (x + i) = omega arith in
    ap (from_le_bytes w16)
    (ap (λ (xs : List ℕ). slice_range xs (10 * i) (10 * i + 2)) read
    ∙ (offset_read memory (job.source + 10 * x) n i within ∙ ap (λ (a : ℕ). bytes_at memory a 2) place))

module _ (memory : Memory) (job : Job) (from x least : ℕ) (entries : List ℕ) (order : from ≤ x) (behind : least ≡ least_from memory job from x) (read : entries ≡ bytes_at memory (job.source + 10 * x) (length entries)) (all : has_all memory (job.source + 10 * x) (length entries) ≡ true) where
  offset_told : (i : ℕ) → 10 * i + 2 ≤ length entries → block_number entries i ≡ entry_offset memory job (x + i)
  offset_told i within = offset_of_read memory job x (length entries) i entries read within

  pub least_told : (i : ℕ) → 10 * i ≤ length entries → least_in least entries i ≡ least_from memory job from (x + i)
  least_told i within =
      ⊎_elim (λ none.
      let start : x ≡ x + i = omega arith in
      ap (λ (b : Bool). cond b least (block_number entries (i - 1) + 1)) (eq-eqb i 0 none) ∙ (behind ∙ ap (least_from memory job from) start))
      (λ some.
      let last : x + (i - 1) ≡ x + i - 1 = omega arith in
      ap (λ (b : Bool). cond b least (block_number entries (i - 1) + 1)) (ne_eqb i 0 some)
      ∙ (ap (λ (o : ℕ). o + 1) (offset_told (i - 1) (omega arith) ∙ ap (entry_offset memory job) last)
      ∙ sym (ap (λ (b : Bool). cond b 0 (entry_offset memory job (x + i - 1) + 1)) (ne_eqb (x + i) from (λ same. some (omega arith))))))
      (cases_eq i 0)

  told : (i : ℕ) → i < length entries / 10 → is_some (entry_fault from memory job (x + i)) ≡ not (is_allowed memory job (least_in least entries i) (block_number entries i))
  told i below =
      let here : has_all memory (job.source + 10 * (x + i)) 10 ≡ true =
      has_all_from memory (job.source + 10 * (x + i)) 10
      (λ j low.
      let place : job.source + 10 * (x + i) + j ≡ job.source + 10 * x + (10 * i + j) = omega arith in
      ap (has memory) place ∙ has_all_at memory (job.source + 10 * x) (length entries) (10 * i + j) all (omega arith)) in
      judged_present memory job from (x + i) (omega arith) here
      ∙ ap₂ (λ (l o : ℕ). not (is_allowed memory job l o)) (sym (least_told i (omega arith))) (sym (offset_told i (omega arith)))

  pub run_good : (k : ℕ) → k ≡ allowed_in memory job least entries → (i : ℕ) → i < k → entry_fault from memory job (x + i) ≡ None
  run_good k is i below =
      let bad = λ (j : ℕ). not (is_allowed memory job (least_in least entries j) (block_number entries j)) in
      none_found (entry_fault from memory job (x + i)) (told i (omega (arith, first_le (length entries / 10) bad)) ∙ fails_before (length entries / 10) bad i (omega arith))

  pub run_stops : (k : ℕ) → k ≡ allowed_in memory job least entries → k < length entries / 10 → is_some (entry_fault from memory job (x + k)) ≡ true
  run_stops k is below =
      let bad = λ (j : ℕ). not (is_allowed memory job (least_in least entries j) (block_number entries j)) in
      told k below ∙ (ap bad is ∙ passes_at (length entries / 10) bad (omega arith))

-- good entries in front and behind
pub good_both : (memory : Memory) (job : Job) (from n k : ℕ) → ((i : ℕ) → i < n → entry_fault from memory job (from + i) ≡ None) → ((i : ℕ) → i < k → entry_fault from memory job (from + n + i) ≡ None) → (i : ℕ) → i < n + k → entry_fault from memory job (from + i) ≡ None
good_both memory job from n k front back i below =
    ⊎_elim (λ low. front i low) (λ high.
    let place : from + i ≡ from + n + (i - n) = omega arith in
    ap (entry_fault from memory job) place ∙ back (i - n) (omega arith))
    (cases_lt i n)

pub good_none : (memory : Memory) (job : Job) (from to : ℕ) → from ≡ to → 0 ≡ good_entries memory job from to
good_none memory job from to same = omega (arith, first_le (to - from) (λ i. is_some (entry_fault from memory job (from + i))))

-- a front of what was read is read alone
pub front_read : (memory : Memory) (address n m : ℕ) → m ≤ n → take m (bytes_at memory address n) ≡ bytes_at memory address m
front_read memory address n m short = same_lists _ _ (search (rules, places)) (λ k d h. grind (arith, places))

-- the blocks of a page, by the byte at which one of them begins
pub no_block : (memory : Memory) (job : Job) (offset : ℕ) → job.size / 8 ≤ offset → is_block memory job offset ≡ false
no_block memory job offset past = and_left (nat_lt offset (job.size / 8)) (has_block memory job.target offset) (le-ltb offset (job.size / 8) past)

pub absent_block : (memory : Memory) (job : Job) (offset : ℕ) → job.target % 8 ≡ 0 → has memory (job.target + 8 * offset) ≡ false → is_block memory job offset ≡ false
absent_block memory job offset aligned gone =
    and_right (nat_lt offset (job.size / 8)) (has_block memory job.target offset) (sym (block_in_page memory (job.target + 8 * offset) (omega arith)) ∙ gone)

pub block_of_page : (memory : Memory) (job : Job) (offset b : ℕ) → job.target % 8 ≡ 0 → has memory (job.target + 8 * offset) ≡ true → offset ≤ b → b < job.size / 8 → b < offset + (4096 - (job.target + 8 * offset) % 4096) / 8 → is_block memory job b ≡ true
block_of_page memory job offset b aligned here low high near =
    let page : (job.target + 8 * b) / 4096 ≡ (job.target + 8 * offset) / 4096 = omega arith in
    ap₂ (λ (x y : Bool). x && y) (lt-ltb b (job.size / 8) high)
    (sym (block_in_page memory (job.target + 8 * b) (omega arith)) ∙ (ap (λ (p : ℕ). get_or memory.present p false) page ∙ here))

pub ruleset page_blocks = (no_block, absent_block, block_of_page)

-- one more run of entries behind good ones: which are good, and what was read
pub record Onward (memory : Memory) (job : Job) (from done k least : ℕ) (entries : List ℕ) : Type 0 where
  pub good : (i : ℕ) → i < done + k → entry_fault from memory job (from + i) ≡ None
  pub stops : k < length entries / 10 → is_some (entry_fault from memory job (from + (done + k))) ≡ true
  pub next : least_in least entries k ≡ least_from memory job from (from + (done + k))
  pub bytes : bytes_at memory (job.source + 10 * from) (10 * done) ++ take (10 * k) entries ≡ bytes_at memory (job.source + 10 * from) (10 * (done + k))

pub onward : (memory : Memory) (job : Job) (from done n k least : ℕ) (entries : List ℕ) → IsWhole memory → has_all memory (job.source + 10 * from) (10 * n) ≡ true → done ≤ n → ((i : ℕ) → i < done → entry_fault from memory job (from + i) ≡ None) → least ≡ least_from memory job from (from + done) → entries ≡ bytes_at memory (job.source + 10 * (from + done)) (length entries) → 10 ≤ length entries → length entries ≤ 10 * (n - done) → k ≡ allowed_in memory job least entries → k ≤ length entries / 10 → Onward memory job from done k least entries
onward memory job from done n k least entries whole all within before behind read some short is few =
    let x = from + done in
    let address = job.source + 10 * from in
    let place : job.source + 10 * x ≡ address + 10 * done = omega arith in
    let rest = rest_present memory job.source from n done all within in
    let here = has_all_from memory (job.source + 10 * x) (length entries) (λ i below. has_all_at memory (job.source + 10 * x) (10 * (n - done)) i rest (omega arith)) in
    let inside = has_all_within memory (job.source + 10 * x) (length entries) whole here (omega arith) in
    let next : x + k ≡ from + (done + k) = omega arith in
    let more : 10 * done + 10 * k ≡ 10 * (done + k) = omega arith in
    let front : take (10 * k) entries ≡ bytes_at memory (address + 10 * done) (10 * k) =
    ap (take (10 * k)) read
    ∙ (front_read memory (job.source + 10 * x) (length entries) (10 * k) (omega arith) ∙ ap (λ (a : ℕ). bytes_at memory a (10 * k)) place) in
    record {
      good = good_both memory job from done k before (run_good memory job from x least entries (omega arith) behind read here k is);
      stops = λ below. ap (λ (y : ℕ). is_some (entry_fault from memory job y)) (sym next) ∙ run_stops memory job from x least entries (omega arith) behind read here k is below;
      next = least_told memory job from x least entries (omega arith) behind read here k (omega arith) ∙ ap (least_from memory job from) next;
      bytes =
          ap (λ (xs : List ℕ). bytes_at memory address (10 * done) ++ xs) front
          ∙ (bytes_at_append memory address (10 * done) (10 * k) (omega arith) ∙ ap (bytes_at memory address) more);
    }
