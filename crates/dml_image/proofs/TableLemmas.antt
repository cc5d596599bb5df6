-- A table of pages, and the bytes of all of them, one page after another.
use Rattle.std.proofs.Common.{◌≡◌, ℕ, zero, suc, ◌+◌, ◌-◌, ◌*◌, ◌/◌, ◌%◌, ◌<◌, ◌≤◌, Bool, true, false, List, [], ◌∷◌, ◌++◌, Option, Some, None, flat_map, is_some, length, map, get_or, replicate, set, take, drop, rules, refl, sym, ◌∙◌, ap, ap₂, arith, ⊎_elim}
use Rattle.std.proofs.lemmas.List.{places, same_lists, map-set, get_or_past, get_or-set_same, length-map, length-replicate, length-set}
use Rattle.std.proofs.Math.Seq.{map-set_same}
use Rattle.std.specs.List.{FoldsTo}
use Rattle.std.proofs.lemmas.Bool.{cases_lt, false≢true}
use Rattle.dml_types.specs.Memory.{Memory, Put, has, memory_of, bytes_at, overwrite, put, puts_made}
use Rattle.dml_types.proofs.MemoryLemmas.{length_overwrite}
use Rattle.dml_segments.specs.Blocks.{after_puts, AreInside}
use Rattle.dml_segments.specs.Brought.{all_absent, brought, evicted}
use Rattle.dml_segments.proofs.JoinLemmas.{overwrite_back, overwrite_front, same_back, same_front}
use Rattle.dml_image.specs.Table.{page_bytes, table_memory, AreWhole}

overwrite_all : (old new : List ℕ) → length new ≡ length old → new ≡ overwrite old 0 new
unfolding overwrite
overwrite_all old new same = same_lists _ _ (search (rules, places)) (λ k d h. grind (arith, places))

abbrev zeros : ℕ → List ℕ
zeros n = replicate n 0

zeros_more : (m n : ℕ) → zeros m ++ zeros n ≡ zeros (m + n)
zeros_more m n = same_lists _ _ (search (rules, places)) (λ k d h. grind (arith, places))

abbrev own_memory : List Bool → List ℕ → Memory
own_memory present items = memory_of present items None

pub length_flat : (pages : List (Option (List ℕ))) → AreWhole pages → length (flat_map page_bytes pages) ≡ 4096 * length pages
length_flat [] whole = refl
length_flat (page ∷ pages) whole = search (rules, places, length_flat pages whole.1, whole.0)

-- the bytes of a page stand at its place
read_flat : (pages : List (Option (List ℕ))) (k s n : ℕ) (page d : Option (List ℕ)) → AreWhole pages → k < length pages → page ≡ get_or pages k d → s + n ≤ 4096 → take n (drop (4096 * k + s) (flat_map page_bytes pages)) ≡ take n (drop s (page_bytes page))
read_flat [] k s n page d whole below is within = absurd (omega arith)
read_flat (old ∷ pages) zero s n page d whole below is within =
    same_front (page_bytes old) (flat_map page_bytes pages) (4096 * 0 + s) s n (omega arith) (omega (arith, whole.0)) ∙ ap (λ (p : Option (List ℕ)). take n (drop s (page_bytes p))) (sym is)
read_flat (old ∷ pages) (suc k) s n page d whole below is within =
    same_back (page_bytes old) (flat_map page_bytes pages) 4096 (4096 * suc k + s) (4096 * k + s) n whole.0 (omega arith)
    ∙ read_flat pages k s n page d whole.1 (omega arith) is within

-- an overwrite inside a page changes that page alone
write_flat : (pages : List (Option (List ℕ))) (k s : ℕ) (old page d : Option (List ℕ)) (new : List ℕ) → AreWhole pages → k < length pages → old ≡ get_or pages k d → s + length new ≤ 4096 → page_bytes page ≡ overwrite (page_bytes old) s new → flat_map page_bytes (set pages k page) ≡ overwrite (flat_map page_bytes pages) (4096 * k + s) new
write_flat [] k s old page d new whole below at within is = absurd (omega arith)
write_flat (first ∷ pages) zero s old page d new whole below at within is =
    ap (λ bytes. bytes ++ flat_map page_bytes pages) (is ∙ ap (λ (p : Option (List ℕ)). overwrite (page_bytes p) s new) at)
    ∙ (overwrite_front (page_bytes first) (flat_map page_bytes pages) new s (omega (arith, whole.0))
    ∙ ap (λ place. overwrite (page_bytes first ++ flat_map page_bytes pages) place new) (omega arith))
write_flat (first ∷ pages) (suc k) s old page d new whole below at within is =
    ap (λ bytes. page_bytes first ++ bytes) (write_flat pages k s old page d new whole.1 (omega arith) at within is)
    ∙ (overwrite_back (page_bytes first) (flat_map page_bytes pages) new 4096 (4096 * k + s) whole.0 (omega (arith, length_flat pages whole.1))
    ∙ ap (λ place. overwrite (page_bytes first ++ flat_map page_bytes pages) place new) (omega arith))

pub whole_after : (pages : List (Option (List ℕ))) (k : ℕ) (page : Option (List ℕ)) → AreWhole pages → length (page_bytes page) ≡ 4096 → AreWhole (set pages k page)
whole_after [] k page whole long = whole
whole_after (old ∷ pages) zero page whole long = (long, whole.1)
whole_after (old ∷ pages) (suc k) page whole long = (whole.0, whole_after pages k page whole.1 long)

pub whole_at : (pages : List (Option (List ℕ))) (k : ℕ) (page d : Option (List ℕ)) → AreWhole pages → k < length pages → page ≡ get_or pages k d → length (page_bytes page) ≡ 4096
whole_at [] k page d whole below is = absurd (omega arith)
whole_at (first ∷ pages) zero page d whole below is = ap (λ (p : Option (List ℕ)). length (page_bytes p)) is ∙ whole.0
whole_at (first ∷ pages) (suc k) page d whole below is = whole_at pages k page d whole.1 (omega arith) is

-- the page of a present byte is one of the table
pub page_of_byte : (pages : List (Option (List ℕ))) (address : ℕ) → has (table_memory pages) address ≡ true → address / 4096 < length pages
page_of_byte pages address here =
    ⊎_elim (λ low. low) (λ high.
    let absent : get_or (map is_some pages) (address / 4096) false ≡ false = get_or_past (map is_some pages) (address / 4096) false (omega (arith, length-map pages is_some)) in
    absurd (false≢true (sym absent ∙ here)))
    (cases_lt (address / 4096) (length pages))

pub set_itself : (pages : List (Option (List ℕ))) (k : ℕ) (page d : Option (List ℕ)) → k < length pages → page ≡ get_or pages k d → set pages k page ≡ pages
set_itself [] k page d below is = absurd (omega arith)
set_itself (first ∷ pages) zero page d below is = ap (λ p. p ∷ pages) is
set_itself (first ∷ pages) (suc k) page d below is = ap (λ rest. first ∷ rest) (set_itself pages k page d (omega arith) is)

present_itself : (pages : List (Option (List ℕ))) (k : ℕ) (bytes other : List ℕ) (d : Option (List ℕ)) → k < length pages → Some bytes ≡ get_or pages k d → map is_some (set pages k (Some other)) ≡ map is_some pages
present_itself pages k bytes other d below is = map-set_same is_some pages k (Some other) d (ap is_some is)

-- what a part of a page says of the memory: read, and written
pub part_read : (pages : List (Option (List ℕ))) (now : Memory) (address n : ℕ) (bytes : List ℕ) (page : Option (List ℕ)) → table_memory pages ≡ now → AreWhole pages → has now address ≡ true → page ≡ get_or pages (address / 4096) page → page ≡ Some bytes → address % 4096 + n ≤ 4096 → take n (drop (address % 4096) bytes) ≡ take n (drop address now.bytes)
part_read pages now address n bytes page shown whole here at is within =
    let below = page_of_byte pages address (ap (λ (m : Memory). has m address) shown ∙ here) in
    let place : 4096 * (address / 4096) + address % 4096 ≡ address = omega arith in
    sym (ap (λ (m : Memory). take n (drop address m.bytes)) (sym shown)
    ∙ (ap (λ a. take n (drop a (flat_map page_bytes pages))) (sym place)
    ∙ (read_flat pages (address / 4096) (address % 4096) n page page whole below at within
    ∙ ap (λ (p : Option (List ℕ)). take n (drop (address % 4096) (page_bytes p))) is)))

pub page_written : (pages : List (Option (List ℕ))) (now : Memory) (k place address : ℕ) (bytes after new : List ℕ) (page : Option (List ℕ)) → table_memory pages ≡ now → AreWhole pages → k < length pages → page ≡ get_or pages k page → page ≡ Some bytes → 4096 * k + place ≡ address → place + length new ≤ 4096 → after ≡ overwrite bytes place new → table_memory (set pages k (Some after)) ≡ put now address new
page_written pages now k place address bytes after new page shown whole below at is there within done =
    let bytes_are : flat_map page_bytes (set pages k (Some after)) ≡ overwrite (flat_map page_bytes pages) address new =
    write_flat pages k place (Some bytes) (Some after) page new whole below (sym is ∙ at) within done
    ∙ ap (λ a. overwrite (flat_map page_bytes pages) a new) there in
    ap₂ (λ (present : List Bool) (items : List ℕ). own_memory present items)
    (present_itself pages k bytes after page below (sym is ∙ at)) bytes_are
    ∙ ap (λ (m : Memory). put m address new) shown

pub part_written : (pages : List (Option (List ℕ))) (now : Memory) (address : ℕ) (bytes after new : List ℕ) (page : Option (List ℕ)) → table_memory pages ≡ now → AreWhole pages → has now address ≡ true → page ≡ get_or pages (address / 4096) page → page ≡ Some bytes → address % 4096 + length new ≤ 4096 → after ≡ overwrite bytes (address % 4096) new → table_memory (set pages (address / 4096) (Some after)) ≡ put now address new
part_written pages now address bytes after new page shown whole here at is within done =
    page_written pages now (address / 4096) (address % 4096) address bytes after new page shown whole
    (page_of_byte pages address (ap (λ (m : Memory). has m address) shown ∙ here)) at is (omega arith) within done

pub part_shown : (pages : List (Option (List ℕ))) (now : Memory) (address m : ℕ) (bytes result : List ℕ) (page : Option (List ℕ)) → table_memory pages ≡ now → AreWhole pages → has now address ≡ true → page ≡ get_or pages (address / 4096) page → page ≡ Some bytes → result ≡ bytes → length bytes ≡ 4096 → address % 4096 + m ≤ 4096 → take (address % 4096 + m - address % 4096) (drop (address % 4096) result) ≡ bytes_at now address (length (take (address % 4096 + m - address % 4096) (drop (address % 4096) result)))
part_shown pages now address m bytes result page shown whole here at is same full within =
    let long : length result ≡ 4096 = ap length same ∙ full in
    let count : address % 4096 + m - address % 4096 ≡ m = omega arith in
    let size : length (take (address % 4096 + m - address % 4096) (drop (address % 4096) result)) ≡ m = search (rules, places, long, count) in
    ap (λ n. take n (drop (address % 4096) result)) count
    ∙ (ap (λ items. take m (drop (address % 4096) items)) same
    ∙ (part_read pages now address m bytes page shown whole here at is within
    ∙ ap (λ n. take n (drop address now.bytes)) (omega (arith, size))))

pub set_twice : (pages : List (Option (List ℕ))) (k : ℕ) (first second : Option (List ℕ)) → set (set pages k first) k second ≡ set pages k second
set_twice [] k first second = refl
set_twice (page ∷ pages) zero first second = refl
set_twice (page ∷ pages) (suc k) first second = ap (λ rest. page ∷ rest) (set_twice pages k first second)

-- the bytes that a copy reads, as a part of the page and as bytes of the memory
bytes_read : (pages : List (Option (List ℕ))) (now : Memory) (address n : ℕ) (bytes result : List ℕ) (page : Option (List ℕ)) → table_memory pages ≡ now → AreWhole pages → has now address ≡ true → page ≡ get_or pages (address / 4096) page → page ≡ Some bytes → address % 4096 + n ≤ 4096 → result ≡ bytes → take (address % 4096 + n - address % 4096) (drop (address % 4096) result) ≡ bytes_at now address n
bytes_read pages now address n bytes result page shown whole here at is within same =
    ap₂ (λ (k : ℕ) (items : List ℕ). take k (drop (address % 4096) items)) (omega arith) same
    ∙ (part_read pages now address n bytes page shown whole here at is within ∙ ap (λ k. take k (drop address now.bytes)) (omega arith))

copied : (pages : List (Option (List ℕ))) (now : Memory) (from to n : ℕ) (target after part : List ℕ) (page : Option (List ℕ)) → table_memory pages ≡ now → AreWhole pages → has now to ≡ true → page ≡ get_or pages (to / 4096) page → page ≡ Some target → to % 4096 + n ≤ 4096 → part ≡ bytes_at now from n → after ≡ overwrite target (to % 4096) part → table_memory (set pages (to / 4096) (Some after)) ≡ put now to (bytes_at now from n)
copied pages now from to n target after part page shown whole here at is within read done =
    let most : length (bytes_at now from n) ≤ n = search (rules, places) in
    part_written pages now to target after (bytes_at now from n) page shown whole here at is (omega (arith, most))
    (done ∙ ap (overwrite target (to % 4096)) read)

pub copied_inside : (pages : List (Option (List ℕ))) (now : Memory) (from to n : ℕ) (bytes after : List ℕ) (page : Option (List ℕ)) → table_memory pages ≡ now → AreWhole pages → has now from ≡ true → has now to ≡ true → from / 4096 ≡ to / 4096 → page ≡ get_or pages (to / 4096) page → page ≡ Some bytes → from % 4096 + n ≤ 4096 → to % 4096 + n ≤ 4096 → after ≡ overwrite bytes (to % 4096) (take (from % 4096 + n - from % 4096) (drop (from % 4096) bytes)) → table_memory (set pages (to / 4096) (Some after)) ≡ put now to (bytes_at now from n)
copied_inside pages now from to n bytes after page shown whole at_from at_to same at is within_from within_to done =
    copied pages now from to n bytes after _ page shown whole at_to at is within_to
    (bytes_read pages now from n bytes bytes page shown whole at_from (at ∙ ap (λ k. get_or pages k page) (sym same)) is within_from refl) done

-- a list in two parts, with an element of one of them set
set_in_back : {A : Type 0} (xs : List A) (n : ℕ) (y : A) → n < length xs → take n xs ++ set (drop n xs) 0 y ≡ set xs n y
set_in_back [] n y low = absurd (omega arith)
set_in_back (x ∷ xs) zero y low = refl
set_in_back (x ∷ xs) (suc n) y low = ap (λ rest. x ∷ rest) (set_in_back xs n y (omega arith))

both_parts : {A : Type 0} (xs : List A) (n : ℕ) → take n xs ++ drop n xs ≡ xs
both_parts xs zero = refl
both_parts [] (suc n) = refl
both_parts (x ∷ xs) (suc n) = ap (λ rest. x ∷ rest) (both_parts xs n)

set_in_front : {A : Type 0} (xs : List A) (n k : ℕ) (y : A) → k < n → n ≤ length xs → set (take n xs) k y ++ drop n xs ≡ set xs k y
set_in_front xs zero k y low fits = absurd (omega arith)
set_in_front [] (suc n) k y low fits = absurd (omega arith)
set_in_front (x ∷ xs) (suc n) zero y low fits = ap (λ rest. y ∷ rest) (both_parts xs n)
set_in_front (x ∷ xs) (suc n) (suc k) y low fits = ap (λ rest. x ∷ rest) (set_in_front xs n k y (omega arith) (omega arith))

at_front : {A : Type 0} (xs : List A) (n k : ℕ) (r d : A) → k < n → n ≤ length xs → r ≡ get_or (take n xs) k r → r ≡ get_or xs k d
at_front xs zero k r d low fits is = absurd (omega arith)
at_front [] (suc n) k r d low fits is = absurd (omega arith)
at_front (x ∷ xs) (suc n) zero r d low fits is = is
at_front (x ∷ xs) (suc n) (suc k) r d low fits is = at_front xs n k r d (omega arith) (omega arith) is

at_back : {A : Type 0} (xs : List A) (n : ℕ) (r d : A) → n < length xs → r ≡ get_or (drop n xs) 0 r → r ≡ get_or xs n d
at_back [] n r d low is = absurd (omega arith)
at_back (x ∷ xs) zero r d low is = is
at_back (x ∷ xs) (suc n) r d low is = at_back xs n r d (omega arith) is

-- a page of a table, copied over another one, where the table is cut before the page that comes later
abbrev pub copied_page : Option (List ℕ) → Option (List ℕ) → ℕ → ℕ → ℕ → Option (List ℕ)
copied_page source target from to n = Some (overwrite (page_bytes target) to (take (from + n - from) (drop from (page_bytes source))))

pub copied_to_back : (pages front behind : List (Option (List ℕ))) (source target from to n : ℕ) (one other new : Option (List ℕ)) → source < target → target < length pages → front ≡ take target pages → behind ≡ drop target pages → one ≡ get_or front source one → other ≡ get_or behind 0 other → new ≡ copied_page one other from to n → front ++ set behind 0 new ≡ set pages target (copied_page (get_or pages source None) (get_or pages target None) from to n)
copied_to_back pages front behind source target from to n one other new order low is_front is_behind at_one at_other done =
    let first = at_front pages target source one None order (omega arith) (at_one ∙ ap (λ l. get_or l source one) is_front) in
    let second = at_back pages target other None low (at_other ∙ ap (λ l. get_or l 0 other) is_behind) in
    ap₂ (λ (f b : List (Option (List ℕ))). f ++ set b 0 new) is_front is_behind
    ∙ (set_in_back pages target new low
    ∙ ap (set pages target) (done ∙ ap₂ (λ x y. copied_page x y from to n) first second))

pub copied_to_front : (pages front behind : List (Option (List ℕ))) (source target from to n : ℕ) (one other new : Option (List ℕ)) → target < source → source < length pages → front ≡ take source pages → behind ≡ drop source pages → one ≡ get_or behind 0 one → other ≡ get_or front target other → new ≡ copied_page one other from to n → set front target new ++ behind ≡ set pages target (copied_page (get_or pages source None) (get_or pages target None) from to n)
copied_to_front pages front behind source target from to n one other new order low is_front is_behind at_one at_other done =
    let first = at_back pages source one None low (at_one ∙ ap (λ l. get_or l 0 one) is_behind) in
    let second = at_front pages source target other None order (omega arith) (at_other ∙ ap (λ l. get_or l target other) is_front) in
    ap₂ (λ (f b : List (Option (List ℕ))). set f target new ++ b) is_front is_behind
    ∙ (set_in_front pages source target new order (omega arith)
    ∙ ap (set pages target) (done ∙ ap₂ (λ x y. copied_page x y from to n) first second))

-- the page of a present byte
page_of : (pages : List (Option (List ℕ))) (k : ℕ) → get_or (map is_some pages) k false ≡ true → get_or pages k None ≡ Some (page_bytes (get_or pages k None))
page_of [] k here = absurd (false≢true here)
page_of (None ∷ pages) zero here = absurd (false≢true here)
page_of (Some bytes ∷ pages) zero here = refl
page_of (page ∷ pages) (suc k) here = page_of pages k here

other_default : {A : Type 0} (xs : List A) (k : ℕ) (d e : A) → k < length xs → get_or xs k d ≡ get_or xs k e
other_default [] k d e low = absurd (omega arith)
other_default (x ∷ xs) zero d e low = refl
other_default (x ∷ xs) (suc k) d e low = other_default xs k d e (omega arith)

pub page_here : (pages : List (Option (List ℕ))) (now : Memory) (address : ℕ) → table_memory pages ≡ now → has now address ≡ true → (address / 4096 < length pages) × (get_or pages (address / 4096) None ≡ Some (page_bytes (get_or pages (address / 4096) None)))
page_here pages now address shown here =
    let there : has (table_memory pages) address ≡ true = ap (λ (m : Memory). has m address) shown ∙ here in
    (page_of_byte pages address there, page_of pages (address / 4096) there)

pub copied_between : (pages : List (Option (List ℕ))) (now : Memory) (from to n : ℕ) → table_memory pages ≡ now → AreWhole pages → has now from ≡ true → has now to ≡ true → from % 4096 + n ≤ 4096 → to % 4096 + n ≤ 4096 → table_memory (set pages (to / 4096) (copied_page (get_or pages (from / 4096) None) (get_or pages (to / 4096) None) (from % 4096) (to % 4096) n)) ≡ put now to (bytes_at now from n)
copied_between pages now from to n shown whole at_from at_to within_from within_to =
    let source = page_here pages now from shown at_from in
    let target = page_here pages now to shown at_to in
    let one = get_or pages (from / 4096) None in
    let other = get_or pages (to / 4096) None in
    copied pages now from to n (page_bytes other) _ _ other shown whole at_to (other_default pages (to / 4096) None other target.0) target.1 within_to
    (bytes_read pages now from n (page_bytes one) (page_bytes one) one shown whole at_from (other_default pages (from / 4096) None one source.0) source.1 within_from refl) refl

pub whole_copied : (pages : List (Option (List ℕ))) (k from to n : ℕ) (source : Option (List ℕ)) → AreWhole pages → k < length pages → from + n ≤ 4096 → to + n ≤ 4096 → AreWhole (set pages k (copied_page source (get_or pages k None) from to n))
whole_copied pages k from to n source whole low within_from within_to =
    let full = whole_at pages k (get_or pages k None) None whole low refl in
    let part = take (from + n - from) (drop from (page_bytes source)) in
    let most : length part ≤ n = search (rules, places) in
    whole_after pages k (copied_page source (get_or pages k None) from to n) whole
    (length_overwrite (page_bytes (get_or pages k None)) to part (omega (arith, full, most)) ∙ full)

-- a page that was brought
pub page_brought : (pages : List (Option (List ℕ))) (now : Memory) (k : ℕ) (page : Option (List ℕ)) (bytes : List ℕ) → table_memory pages ≡ now → AreWhole pages → k < length now.present → page ≡ get_or pages k page → length bytes ≡ 4096 → table_memory (set (set pages k page) k (Some bytes)) ≡ brought now k bytes
page_brought pages now k page bytes shown whole below at long =
    let inside : k < length pages = omega (arith, ap (λ (m : Memory). length m.present) shown, length-map pages is_some) in
    let full : bytes ≡ overwrite (page_bytes page) 0 bytes = overwrite_all (page_bytes page) bytes (long ∙ sym (whole_at pages k page page whole inside at)) in
    rw (set_itself pages k page page inside at)
    (ap₂ (λ (present : List Bool) (items : List ℕ). own_memory present items)
    (map-set is_some pages k (Some bytes))
    (write_flat pages k 0 page (Some bytes) page bytes whole inside at (omega arith) full ∙ ap (λ a. overwrite (flat_map page_bytes pages) a bytes) (omega arith))
    ∙ ap (λ (m : Memory). brought m k bytes) shown)

-- the same where a page that is present was overwritten
pub page_renewed : (pages : List (Option (List ℕ))) (now : Memory) (k : ℕ) (page : Option (List ℕ)) (old bytes after : List ℕ) → table_memory pages ≡ now → AreWhole pages → k < length now.present → page ≡ get_or pages k page → page ≡ Some old → length bytes ≡ 4096 → after ≡ overwrite old 0 bytes → table_memory (set pages k (Some after)) ≡ brought now k bytes
page_renewed pages now k page old bytes after shown whole below at is long done =
    let inside : k < length pages = omega (arith, ap (λ (m : Memory). length m.present) shown, length-map pages is_some) in
    let full : after ≡ bytes = done ∙ sym (overwrite_all old bytes (long ∙ sym (ap (λ (p : Option (List ℕ)). length (page_bytes p)) (sym is) ∙ whole_at pages k page page whole inside at))) in
    rw full (ap (λ (items : List (Option (List ℕ))). table_memory (set items k (Some bytes))) (sym (set_itself pages k page page inside at))
    ∙ page_brought pages now k page bytes shown whole below at long)

pub page_whole : (pages : List (Option (List ℕ))) (now : Memory) (k : ℕ) (page : Option (List ℕ)) (bytes : List ℕ) → table_memory pages ≡ now → AreWhole pages → k < length now.present → page ≡ get_or pages k page → length bytes ≡ 4096 → AreWhole (set (set pages k page) k (Some bytes))
page_whole pages now k page bytes shown whole below at long =
    let inside : k < length pages = omega (arith, ap (λ (m : Memory). length m.present) shown, length-map pages is_some) in
    whole_after (set pages k page) k (Some bytes) (whole_after pages k page whole (whole_at pages k page page whole inside at)) long

-- a page that was evicted
pub page_evicted : (pages : List (Option (List ℕ))) (now : Memory) (k : ℕ) → table_memory pages ≡ now → AreWhole pages → k < length now.present → table_memory (set pages k None) ≡ evicted now k
page_evicted pages now k shown whole below =
    let inside : k < length pages = omega (arith, ap (λ (m : Memory). length m.present) shown, length-map pages is_some) in
    let old = get_or pages k None in
    let long : length (zeros 4096) ≡ 4096 = length-replicate {A = ℕ} 4096 0 in
    let full : zeros 4096 ≡ overwrite (page_bytes old) 0 (zeros 4096) = overwrite_all (page_bytes old) (zeros 4096) (long ∙ sym (whole_at pages k old None whole inside refl)) in
    ap₂ (λ (present : List Bool) (items : List ℕ). own_memory present items)
    (map-set is_some pages k None)
    (write_flat pages k 0 old None None (zeros 4096) whole inside refl (omega (arith, long)) full ∙ ap (λ a. overwrite (flat_map page_bytes pages) a (zeros 4096)) (omega arith))
    ∙ ap (λ (m : Memory). evicted m k) shown

pub whole_evicted : (pages : List (Option (List ℕ))) (k : ℕ) → AreWhole pages → AreWhole (set pages k None)
whole_evicted pages k whole = whole_after pages k None whole (length-replicate {A = ℕ} 4096 0)

-- a new table
abbrev pub all_none : ℕ → List (Option (List ℕ))
all_none n = replicate n None

marks_of_none : (n : ℕ) → map is_some (all_none n) ≡ replicate n false
marks_of_none zero = refl
marks_of_none (suc n) = ap (λ rest. false ∷ rest) (marks_of_none n)

bytes_of_none : (n : ℕ) → flat_map page_bytes (all_none n) ≡ zeros (4096 * n)
bytes_of_none zero = refl
bytes_of_none (suc n) =
    ap (λ rest. zeros 4096 ++ rest) (bytes_of_none n) ∙ (zeros_more 4096 (4096 * n) ∙ ap zeros (omega arith))

pub none_present : (n : ℕ) → table_memory (all_none n) ≡ all_absent n
none_present n = ap₂ (λ (present : List Bool) (items : List ℕ). own_memory present items) (marks_of_none n) (bytes_of_none n)

pub none_whole : (n : ℕ) → AreWhole (all_none n)
none_whole zero = tt
none_whole (suc n) = (length-replicate {A = ℕ} 4096 0, none_whole n)

-- what calls that make no page give, one after another
pub none_made : {F : Type 0} (step : F → Option (List ℕ) → F → Type 0) → ((before : F) (page : Option (List ℕ)) (after : F) → step before page after → page ≡ None) → (first last : F) (pages : List (Option (List ℕ))) → FoldsTo step first pages last → pages ≡ all_none (length pages)
none_made step none first last [] made = refl
none_made step none first last (page ∷ pages) made =
    ap₂ (λ (p : Option (List ℕ)) (rest : List (Option (List ℕ))). p ∷ rest) (none first page made.0 made.1) (none_made step none made.0 last pages made.2)

pub all_made : (old new pages : List (Option (List ℕ))) (n : ℕ) → old ≡ [] → new ≡ take n old ++ pages → length new ≡ n → pages ≡ all_none (length pages) → new ≡ all_none n
all_made old new pages n empty is long none =
    let only : new ≡ pages = is ∙ (ap (λ (o : List (Option (List ℕ))). take n o ++ pages) empty ∙ ap (λ (o : List (Option (List ℕ))). o ++ pages) (take_none n)) in
    only ∙ (none ∙ ap all_none (ap length (sym only) ∙ long))
  where
    take_none : (n : ℕ) → take {A = Option (List ℕ)} n [] ≡ []
    take_none zero = refl
    take_none (suc n) = refl

-- the puts of a table's page
pub made_in_page : (pages : List (Option (List ℕ))) (now : Memory) (k : ℕ) (old after : List ℕ) (page : Option (List ℕ)) (puts : List Put) → table_memory pages ≡ now → AreWhole pages → k < length pages → page ≡ get_or pages k page → page ≡ Some old → AreInside (4096 * k) 4096 puts → after ≡ after_puts (4096 * k) old puts → table_memory (set pages k (Some after)) ≡ puts_made now puts
made_in_page pages now k old after page [] shown whole below at is inside done =
    ap (λ (bytes : List ℕ). table_memory (set pages k (Some bytes))) done
    ∙ (ap table_memory (set_itself pages k (Some old) page below (sym is ∙ at)) ∙ shown)
made_in_page pages now k old after page (p ∷ puts) shown whole below at is inside done =
    let place = p.address - 4096 * k in
    let next = overwrite old place p.bytes in
    let long : length old ≡ 4096 = whole_at pages k (Some old) page whole below (sym is ∙ at) in
    let full : length next ≡ 4096 = length_overwrite old place p.bytes (omega arith) ∙ long in
    let one : table_memory (set pages k (Some next)) ≡ put now p.address p.bytes =
    page_written pages now k place p.address old next p.bytes page shown whole below at is (omega arith) (omega arith) refl in
    let rest : table_memory (set (set pages k (Some next)) k (Some after)) ≡ puts_made (put now p.address p.bytes) puts =
    made_in_page (set pages k (Some next)) (put now p.address p.bytes) k next after (Some next) puts one (whole_after pages k (Some next) whole full)
    (omega (arith, length-set pages k (Some next))) (sym (get_or-set_same pages k (Some next) (Some next) below)) refl inside.1 done in
    ap table_memory (sym (set_twice pages k (Some next) (Some after))) ∙ rest
