-- What is done in two parts: indices, bytes, puts and records.
use Rattle.std.proofs.Common.{◌≡◌, ℕ, ◌+◌, ◌-◌, ◌^◌, ◌<◌, ◌≤◌, Bool, true, false, cond, nat_eq, List, [], ◌∷◌, ◌++◌, length, get_or, refl, sym, ◌∙◌, ap, ap₂, arith, rules, ⊎_elim, eq-eqb, ne_eqb, length-append}
use Rattle.std.proofs.lemmas.Bool.{cases_lt, cases_eq}
use Rattle.std.proofs.lemmas.List.{places, same_lists, get_or_append_left, get_or-append_right}
use Rattle.dml_types.specs.declared.jobs.Job.{Job}
use Rattle.dml_types.specs.declared.records.Record.{Record}
use Rattle.dml_types.specs.declared.statuses.Status.TheVariants.{Success}
use Rattle.dml_types.specs.Memory.{first, Memory, IsWhole, has_all, bytes_at, put}
use Rattle.dml_types.specs.Effect.{Fault, first_fault, ended, faulted, stopped_at}
use Rattle.dml_types.specs.Bytewise.{pattern_byte, pattern_bytes}
use Rattle.dml_types.specs.Step.{turned}
use Rattle.dml_types.proofs.FirstLemmas.{first_none, first_right, first_agree}
use Rattle.dml_types.proofs.MemoryLemmas.{has_all_within, put_nil, put_append}
use Rattle.dml_segments.proofs.PatternLemmas.{get_or_pattern_bytes, length_pattern_bytes}
use Rattle.dml_resume.proofs.TurnLemmas.{turned_byte}

-- the first index where k indices fail before it
pub first_rest : (n k : ℕ) (test later : ℕ → Bool) → k ≤ n → ((i : ℕ) → i < k → test i ≡ false) → ((i : ℕ) → i < n - k → test (k + i) ≡ later i) → first n test ≡ k + first (n - k) later
first_rest n k test later within fails same =
    let whole : k + (n - k) ≡ n = omega arith in
    let front : first k test ≡ k = first_none k test fails in
    ap (λ j. first j test) (sym whole)
    ∙ (first_right k (n - k) test front ∙ ap (λ j. k + j) (first_agree (n - k) (λ i. test (k + i)) later same))

-- two puts side by side, and two reads
pub put_parts : (memory : Memory) (a b : ℕ) (xs ys : List ℕ) → IsWhole memory → b ≡ a + length xs → has_all memory a (length xs + length ys) ≡ true → put (put memory a xs) b ys ≡ put memory a (xs ++ ys)
put_parts memory a b [] [] whole beside all = put_nil (put memory a []) b
put_parts memory a b (x ∷ xs) ys whole beside all =
    let within = has_all_within memory a (length (x ∷ xs) + length ys) whole all (omega arith) in
    ap (λ place. put (put memory a (x ∷ xs)) place ys) beside ∙ put_append memory a (x ∷ xs) ys within
put_parts memory a b [] (y ∷ ys) whole beside all =
    let within = has_all_within memory a (length {A = ℕ} [] + length (y ∷ ys)) whole all (omega arith) in
    ap (λ place. put (put memory a []) place (y ∷ ys)) beside ∙ put_append memory a [] (y ∷ ys) within

pub bytes_parts : (memory : Memory) (a b k m : ℕ) → b ≡ a + k → bytes_at memory a (k + m) ≡ bytes_at memory a k ++ bytes_at memory b m
bytes_parts memory a b k m beside = rw beside (sym (same_lists _ _ (search (rules, places)) (λ i d h. grind (arith, places))))

-- a pattern, and behind k bytes the pattern turned by them
pub pattern_parts : (pattern k m : ℕ) → pattern < 2 ^ 64 → pattern_bytes pattern (k + m) ≡ pattern_bytes pattern k ++ pattern_bytes (turned pattern k) m
pattern_parts pattern k m below =
    let front = length_pattern_bytes pattern k in
    let back = length_pattern_bytes (turned pattern k) m in
    let all : length (pattern_bytes pattern k ++ pattern_bytes (turned pattern k) m) ≡ k + m =
    omega (arith, length-append (pattern_bytes pattern k) (pattern_bytes (turned pattern k) m), front, back) in
    sym (same_lists _ _ (all ∙ sym (length_pattern_bytes pattern (k + m))) (λ i d inside.
    let within : i < k + m = omega (arith, all) in
    ⊎_elim (λ low.
    get_or_append_left (pattern_bytes pattern k) (pattern_bytes (turned pattern k) m) d i (omega (arith, front))
    ∙ (get_or_pattern_bytes pattern k i d low ∙ sym (get_or_pattern_bytes pattern (k + m) i d within)))
    (λ high.
    let place : k + (i - k) ≡ i = omega arith in
    get_or-append_right (pattern_bytes pattern k) (pattern_bytes (turned pattern k) m) k i d front high
    ∙ (get_or_pattern_bytes (turned pattern k) m (i - k) d (omega arith)
    ∙ (turned_byte pattern k (i - k) below
    ∙ (ap (pattern_byte pattern) place ∙ sym (get_or_pattern_bytes pattern (k + m) i d within)))))
    (cases_lt i k)))

-- a record of the second part, with k bytes more
abbrev pub and_more : ℕ → Record → Record
and_more k answer = record answer { completed = k + answer.completed }

-- whether all is done, told by the second part or by both
pub same_end : (n k m : ℕ) → k ≤ n → nat_eq m (n - k) ≡ nat_eq (k + m) n
same_end n k m within =
    ⊎_elim (λ same. eq-eqb m (n - k) same ∙ sym (eq-eqb (k + m) n (omega arith)))
    (λ other. ne_eqb m (n - k) other ∙ sym (ne_eqb (k + m) n (λ e. other (omega arith))))
    (cases_eq m (n - k))

pub stopped_parts : (memory : Memory) (job left : Job) (outcome k m : ℕ) (faults others : List Fault) → k ≤ job.size → left.size ≡ job.size - k → faults ≡ others → and_more k (stopped_at memory left outcome m faults) ≡ stopped_at memory job outcome (k + m) others
stopped_parts memory job left outcome k m faults others within size same =
    let test : nat_eq m left.size ≡ nat_eq (k + m) job.size = ap (nat_eq m) size ∙ same_end job.size k m within in
    ap₂ (λ (b : Bool) (fs : List Fault). and_more k (cond b (ended Success outcome m 0) (faulted (first_fault memory fs) outcome m 0))) test same
    ∙ either (nat_eq (k + m) job.size)
  where
    either : (b : Bool) → and_more k (cond b (ended Success outcome m 0) (faulted (first_fault memory others) outcome m 0)) ≡ cond b (ended Success outcome (k + m) 0) (faulted (first_fault memory others) outcome (k + m) 0)
    either true = refl
    either false = refl
