-- Rounds that are carried out part by part.
use Rattle.std.proofs.Common.{zero, suc, ◌≡◌, ℕ, ◌+◌, ◌-◌, ◌<◌, ◌≤◌, List, [], ◌∷◌, ◌++◌, length, get_or, take, drop, slice_range, refl, sym, ◌∙◌, ap, subst, arith, append_assoc}
use Rattle.std.proofs.lemmas.List.{append-nil, drop-take, get_or-drop, get_or_default, length-append, length-drop, map-append, take_more}
use Rattle.std.proofs.lemmas.List.Sums.{sum_by_push}
use Rattle.std.proofs.Math.Seq.{drop-nil, take-add}
use Rattle.std.specs.List.{sum_by}
use Rattle.dml_portal.specs.Types.{Job, LogEntry, Record}
use Rattle.dml_portal.specs.Log.{answers_in}
use Rattle.dml_portal.specs.Parts.{ArePartly, IsPartly, bytes_of}
use Rattle.dml_portal.specs.Whole.{kept_by}
use Rattle.dml_portal.specs.declared.lanes.Lane.{Lane}

take_none : {X : Type 0} (n : ℕ) → ◌≡◌ {A = List X} (take n []) []
take_none zero = refl
take_none (suc n) = refl

-- none of no list
none_of : {X : Type 0} (count before : ℕ) → ◌≡◌ {A = List X} (take count (drop before [])) []
none_of {X} count before = ap (take count) (drop-nil {A = X} before) ∙ take_none {X = X} count

drop_both : {X : Type 0} (n m : ℕ) (xs : List X) → drop m (drop n xs) ≡ drop (n + m) xs
drop_both {X} zero m xs =
    let same : m ≡ 0 + m = omega arith in
    ap (λ k. drop k xs) same
drop_both {X} (suc n) m [] = drop-nil {A = X} m ∙ sym (drop-nil {A = X} (suc n + m))
drop_both {X} (suc n) m (x ∷ xs) =
    let same : suc (n + m) ≡ suc n + m = omega arith in
    drop_both n m xs ∙ ap (λ k. drop k (x ∷ xs)) same

-- a list up to the end of its next part
pub part_more : {X : Type 0} (xs : List X) (from to : ℕ) → from ≤ to → take from xs ++ slice_range xs from to ≡ take to xs
part_more {X} xs from to le =
    let whole : from + (to - from) ≡ to = omega (arith, le) in
    sym (take-add from (to - from) xs) ∙ ap (λ n. take n xs) whole

-- the records of the next part are in the log
pub answers_more : (log now : List LogEntry) (start from number : ℕ) (before records : List Record) → length records ≡ number → take (start + from) now ≡ take (start + from) log → answers_in (take from (drop start log)) ≡ before → answers_in (take (length records) (drop (start + from) now)) ≡ records → answers_in (take (from + number) (drop start now)) ≡ before ++ records
answers_more log now start from number before records long same old new =
    ap answers_in (take-add from number (drop start now))
    ∙ (map-append (λ (e : LogEntry). e.answer) (take from (drop start now)) (take number (drop from (drop start now)))
    ∙ (ap (λ xs. answers_in xs ++ answers_in (take number (drop from (drop start now)))) front
    ∙ (ap (λ xs. xs ++ answers_in (take number (drop from (drop start now)))) old
    ∙ (ap (λ xs. before ++ answers_in (take number xs)) (drop_both start from now)
    ∙ (ap (λ n. before ++ answers_in (take n (drop (start + from) now))) (sym long)
    ∙ ap (λ xs. before ++ xs) new)))))
  where
    front : take from (drop start now) ≡ take from (drop start log)
    front = sym (drop-take start from now) ∙ (ap (drop start) same ∙ drop-take start from log)

take_both : {X : Type 0} (n m : ℕ) (xs : List X) → take n (take (n + m) xs) ≡ take n xs
take_both {X} zero m xs = refl
take_both {X} (suc n) m [] = ap (take (suc n)) (take_none {X = X} (suc n + m))
take_both {X} (suc n) m (x ∷ xs) =
    let one_more : suc n + m ≡ suc (n + m) = omega arith in
    ap (λ k. take (suc n) (take k (x ∷ xs))) one_more ∙ ap (λ ys. x ∷ ys) (take_both n m xs)

-- what stood before is as it was
pub front_of : (start from : ℕ) (log now : List LogEntry) → take (start + from) now ≡ take (start + from) log → take start now ≡ take start log
front_of start from log now same = sym (take_both start from now) ∙ (ap (take start) same ∙ take_both start from log)

-- a block of a list that is cut in two
block_parts : {X : Type 0} (count before : ℕ) (first more : List X) → take count (drop before (first ++ more)) ≡ take count (drop before first) ++ take (count - length (take count (drop before first))) (drop (before - length first) more)
block_parts {X} count before [] more =
    let begun : List X = take count (drop before []) in
    let none : ◌≡◌ {A = List X} begun [] = none_of {X = X} count before in
    let all_before : before ≡ before - 0 = omega arith in
    let all_count : count ≡ count - length begun = omega (arith, ap length none) in
    ap (λ n. take count (drop n more)) all_before
    ∙ (ap (λ n. take n (drop (before - 0) more)) all_count
    ∙ ap (λ xs. xs ++ take (count - length begun) (drop (before - 0) more)) (sym none))
block_parts {X} count (suc before) (x ∷ first) more =
    let same : before - length first ≡ suc before - length (x ∷ first) = omega arith in
    block_parts count before first more
    ∙ ap (λ n. take count (drop before first) ++ take (count - length (take count (drop before first))) (drop n more)) same
block_parts {X} zero zero (x ∷ first) more = refl
block_parts {X} (suc count) zero (x ∷ first) more =
    let fewer : count - length (take count first) ≡ suc count - length (x ∷ take count first) = omega arith in
    let none : zero - length first ≡ zero - length (x ∷ first) = omega arith in
    ap (λ xs. x ∷ xs) (block_parts count zero first more)
    ∙ (ap (λ n. x ∷ (take count first ++ take n (drop (zero - length first) more))) fewer
    ∙ ap (λ n. x ∷ (take count first ++ take (suc count - length (x ∷ take count first)) (drop n more))) none)

-- one part more
partly_more : (records more : List Record) (lane mid now : Lane) → IsPartly records lane mid → IsPartly more mid now → IsPartly (records ++ more) lane now
partly_more records more lane mid now first next =
    record {
      kept =
          next.kept
          ∙ (ap (λ xs. xs ++ rest) first.kept
          ∙ (append_assoc (kept_by lane) begun rest ∙ ap (λ xs. kept_by lane ++ xs) (sym whole)));
      left = omega (arith, next.left, first.left, ap length whole, length-append begun rest);
      before = omega (arith, next.before, first.before, length-append records more);
    }
  where
    begun : List Record
    begun = take lane.fetched (drop lane.before records)

    rest : List Record
    rest = take mid.fetched (drop mid.before more)

    whole : take lane.fetched (drop lane.before (records ++ more)) ≡ begun ++ rest
    whole =
        block_parts lane.fetched lane.before records more
        ∙ (ap (λ n. begun ++ take n (drop (lane.before - length records) more)) (sym first.left)
        ∙ ap (λ n. begun ++ take mid.fetched (drop n more)) (sym first.before))

pub parts_more : (records more : List Record) (lanes mids nows : List Lane) → length mids ≡ length lanes → length nows ≡ length mids → ArePartly records lanes mids → ArePartly more mids nows → ArePartly (records ++ more) lanes nows
parts_more records more lanes mids nows long_mids long_nows first next client lane below =
    let l : Lane = get_or nows client lane in
    let m : Lane = get_or mids client l in
    let inside : client < length mids = omega (arith, below, long_nows) in
    let there : client < length lanes = omega (arith, inside, long_mids) in
    partly_more records more (get_or lanes client l) m l
    (subst (λ o. IsPartly records o m) (get_or_default lanes client m l there) (first client l inside))
    (next client lane below)

partly_none : (lane : Lane) → IsPartly [] lane lane
partly_none lane =
    let none : ◌≡◌ {A = List Record} (take lane.fetched (drop lane.before [])) [] = none_of {X = Record} lane.fetched lane.before in
    record {
      kept = sym (append-nil (kept_by lane)) ∙ ap (λ xs. kept_by lane ++ xs) (sym none);
      left = omega (arith, ap length none);
      before = omega arith;
    }

pub parts_none : (lanes : List Lane) → ArePartly [] lanes lanes
parts_none lanes client lane below =
    let l : Lane = get_or lanes client lane in
    subst (λ o. IsPartly [] o l) (sym (get_or_default lanes client l lane below)) (partly_none l)

-- one job more in a part
pub bytes_more : (jobs : List Job) (from to : ℕ) (job : Job) → from ≤ to → to < length jobs → bytes_of jobs from (to + 1) ≡ bytes_of jobs from to + (get_or jobs to job).size
bytes_more jobs from to job le below =
    let count : (to + 1) - from ≡ (to - from) + 1 = omega (arith, le) in
    let inside : to - from < length (drop from jobs) = omega (arith, le, below, length-drop from jobs) in
    let place : from + (to - from) ≡ to = omega (arith, le) in
    let size : Job → ℕ = λ j. j.size in
    ap (λ n. sum_by size (take n (drop from jobs))) count
    ∙ (ap (sum_by size) (take_more (drop from jobs) (to - from) job inside)
    ∙ (sum_by_push size (take (to - from) (drop from jobs)) (get_or (drop from jobs) (to - from) job)
    ∙ ap (λ (j : Job). bytes_of jobs from to + j.size) (get_or-drop from jobs (to - from) job ∙ ap (λ n. get_or jobs n job) place)))

-- and as many as were summed
pub bytes_then : (jobs : List Job) (from to : ℕ) (job : Job) (size bytes : ℕ) → from < to → to < length jobs → size ≡ (get_or jobs to job).size → bytes ≡ bytes_of jobs from to → bytes_of jobs from (to + 1) ≡ bytes + size
bytes_then jobs from to job size bytes le below is so_far =
    bytes_more jobs from to job (omega (arith, le)) below
    ∙ (ap (λ n. bytes_of jobs from to + n) (sym is) ∙ ap (λ n. n + size) (sym so_far))
