-- Sound tables of regions are memory in segments.
use Rattle.std.proofs.Common.{◌≡◌, ℕ, zero, suc, ◌+◌, ◌-◌, ◌*◌, ◌/◌, ◌%◌, ◌<◌, ◌≤◌, not, true, false, Bool, List, [], ◌∷◌, length, map, get_or, drop, rules, refl, sym, ◌∙◌, ap, ap₂, subst, inl, inr, arith, bit_or}
use Rattle.std.specs.Prelude.{◌||◌, ◌==◌, nat_lt, if◌then◌else◌}
use Rattle.std.proofs.lemmas.Bool.{cases_eq, cond-false, cond-true, eq-eqb, eqb-false, eqb-true, false≢true, le-ltb, ltb-false, ne_eqb, not-false, or_from, or_parts}
use Rattle.std.proofs.lemmas.List.{drop_more, places}
use Rattle.std.proofs.lemmas.Nat.{le_or_l, le_or_r, or_mod}
use Rattle.dml_segments.specs.declared.segments.Segment.{Segment}
use Rattle.dml_types.specs.Memory.{Loan, Memory, Place, are_segments, is_in_segments}
use Rattle.dml_image.specs.Pieces.{AreInOrder, AreSegments, Piece, end_of, marks_from, pages_of, piece_of, pieces_of, place_of, places_of}
use Rattle.dml_c.specs.declared.regions.CRegion.{CRegion}
use Rattle.dml_c.specs.Regions.{addresses_of, end_of_region, first_fault, memory_of_regions, most_end, piece_of_region, pieces_of_regions, region_fault, table_fault}

-- what a region is that breaks no rule
pub record IsSound (end : ℕ) (region : CRegion) : Type 0 where
  pub some : 0 < length region.bytes.now
  pub whole : length region.bytes.now % 4096 ≡ 0
  pub place : region.address % 4096 ≡ 0
  pub most : region.address + length region.bytes.now ≤ 17592186040320
  pub rises : end ≤ region.address

-- where the code is 0, no test before it holds
abbrev code_of : Bool → Bool → Bool → Bool → ℕ
code_of a b c d = if a then 14 else (if b then 15 else (if c then 16 else (if d then 17 else 0)))

none_holds : (a b c d : Bool) → code_of a b c d ≡ 0 → (a ≡ false) × ((b ≡ false) × ((c ≡ false) × (d ≡ false)))
none_holds true b c d is = absurd (omega (arith, is))
none_holds false true c d is = absurd (omega (arith, is))
none_holds false false true d is = absurd (omega (arith, is))
none_holds false false false true is = absurd (omega (arith, is))
none_holds false false false false is = (refl, (refl, (refl, refl)))

pub sound_region : (end : ℕ) (region : CRegion) → region_fault end region ≡ 0 → IsSound end region
sound_region end region none =
    let n = length region.bytes.now in
    let tests =
    none_holds (n == 0 || not (n % 4096 == 0)) (not (region.address % 4096 == 0)) (nat_lt most_end (end_of_region region)) (nat_lt region.address end) none in
    let size = or_parts (n == 0) (not (n % 4096 == 0)) tests.0 in
    record {
      some = omega (arith, eqb-false n 0 size.0);
      whole = eqb-true (n % 4096) 0 (not-false (n % 4096 == 0) size.1);
      place = eqb-true (region.address % 4096) 0 (not-false (region.address % 4096 == 0) tests.1.0);
      most = ltb-false most_end (end_of_region region) tests.1.1.0;
      rises = ltb-false region.address end tests.1.1.1;
    }

no_code : (a b c d : Bool) → a ≡ false → b ≡ false → c ≡ false → d ≡ false → code_of a b c d ≡ 0
no_code true b c d p q r s = absurd (false≢true (sym p))
no_code false true c d p q r s = absurd (false≢true (sym q))
no_code false false true d p q r s = absurd (false≢true (sym r))
no_code false false false true p q r s = absurd (false≢true (sym s))
no_code false false false false p q r s = refl

no_fault : (end : ℕ) (region : CRegion) → IsSound end region → region_fault end region ≡ 0
no_fault end region sound =
    let n = length region.bytes.now in
    no_code (n == 0 || not (n % 4096 == 0)) (not (region.address % 4096 == 0)) (nat_lt most_end (end_of_region region)) (nat_lt region.address end)
    (or_from (n == 0) (not (n % 4096 == 0)) (ne_eqb n 0 (λ none. omega (arith, none, sound.some))) (ap not (eq-eqb (n % 4096) 0 sound.whole)))
    (ap not (eq-eqb (region.address % 4096) 0 sound.place))
    (le-ltb most_end (end_of_region region) sound.most)
    (le-ltb region.address end sound.rises)

-- the first of a table's regions breaks no rule, and those behind it break none either
both_zero : (code rest : ℕ) → (if code == 0 then rest else code) ≡ 0 → (code ≡ 0) × (rest ≡ 0)
both_zero code rest is = elim (cases_eq code 0) [
  | inl none ↦ (none, sym (cond-true (code == 0) rest code (eq-eqb code 0 none)) ∙ is)
  | inr some ↦ absurd (some (sym (cond-false (code == 0) rest code (ne_eqb code 0 some)) ∙ is))
]

first_sound : (end : ℕ) (region : CRegion) (regions : List CRegion) → first_fault end (region ∷ regions) ≡ 0 → IsSound end region × (first_fault (end_of_region region) regions ≡ 0)
first_sound end region regions none =
    let zeros = both_zero (region_fault end region) (first_fault (end_of_region region) regions) none in
    (sound_region end region zeros.0, zeros.1)

-- one step along a table
pub step_on : (end : ℕ) (regions : List CRegion) (k : ℕ) (d : CRegion) → k < length regions → region_fault end (get_or regions k d) ≡ 0 → first_fault end (drop k regions) ≡ first_fault (end_of_region (get_or regions k d)) (drop (k + 1) regions)
step_on end regions k d below none =
    let region = get_or regions k d in
    let rest = drop (k + 1) regions in
    ap (first_fault end) (drop_more regions k d below) ∙ ap (λ (code : ℕ). if code == 0 then first_fault (end_of_region region) rest else code) none

pub step_stops : (end : ℕ) (regions : List CRegion) (k : ℕ) (d : CRegion) → k < length regions → (region_fault end (get_or regions k d) ≡ 0 → ⊥) → first_fault end (drop k regions) ≡ region_fault end (get_or regions k d)
step_stops end regions k d below some =
    let region = get_or regions k d in
    let code = region_fault end region in
    ap (first_fault end) (drop_more regions k d below) ∙ cond-false (code == 0) (first_fault (end_of_region region) (drop (k + 1) regions)) code (ne_eqb code 0 some)

-- two numbers are whole pages where their or is
both_whole : (a b : ℕ) → bit_or a b % 4096 ≡ 0 → (a % 4096 ≡ 0) × (b % 4096 ≡ 0)
both_whole a b whole =
    let parts : bit_or (a % 4096) (b % 4096) ≡ 0 = sym (or_mod a b 12) ∙ whole in
    (omega (arith, parts, le_or_l (a % 4096) (b % 4096)), omega (arith, parts, le_or_r (a % 4096) (b % 4096)))

-- a step along a table of which it is known behind its end alone that all of it are whole pages, within the most
pub one_more_sound : (regions : List CRegion) (end bits next k : ℕ) (region : CRegion) → k < length regions → get_or regions k region ≡ region → (bits % 4096 ≡ 0 → end ≤ most_end → first_fault 0 regions ≡ first_fault end (drop k regions)) → end ≤ region.address → region.address < next → next ≡ end_of_region region → bit_or bits (bit_or region.address next) % 4096 ≡ 0 → next ≤ most_end → first_fault 0 regions ≡ first_fault next (drop (k + 1) regions)
one_more_sound regions end bits next k region below at before rises some is whole most =
    let rest = both_whole bits (bit_or region.address next) whole in
    let here = both_whole region.address next rest.1 in
    let sound : IsSound end region = record {
      some = omega (arith, some, is);
      whole = omega (arith, here.0, here.1, is);
      place = here.0;
      most = omega (arith, is, most);
      rises = rises;
    } in
    before rest.0 (omega (arith, rises, some, most))
    ∙ step_on end regions k region below (subst (λ (r : CRegion). region_fault end r ≡ 0) (sym at) (no_fault end region sound))
    ∙ ap (λ (r : CRegion). first_fault (end_of_region r) (drop (k + 1) regions)) at
    ∙ ap (λ (e : ℕ). first_fault e (drop (k + 1) regions)) (sym is)

or_whole : (a b : ℕ) → a % 4096 ≡ 0 → b % 4096 ≡ 0 → bit_or a b % 4096 ≡ 0
or_whole a b p q = or_mod a b 12 ∙ ap₂ bit_or p q

-- the next region of a table behind whose passed ones none breaks a rule
pub next_sound : (regions : List CRegion) (end k : ℕ) (region : CRegion) → k < length regions → get_or regions k region ≡ region → first_fault end (drop k regions) ≡ 0 → IsSound end region
next_sound regions end k region below at none =
    let here = get_or regions k region in
    subst (λ (r : CRegion). IsSound end r) at
    (first_sound end here (drop (k + 1) regions) (sym (ap (first_fault end) (drop_more regions k region below)) ∙ none)).0

pub next_whole : (bits end next : ℕ) (region : CRegion) → bits % 4096 ≡ 0 → IsSound end region → next ≡ end_of_region region → (bit_or bits (bit_or region.address next) % 4096 ≡ 0) × (next ≤ most_end)
next_whole bits end next region whole sound is = (
  or_whole bits (bit_or region.address next) whole (or_whole region.address next sound.place (omega (arith, is, sound.place, sound.whole))),
  omega (arith, is, sound.most),
)

-- any of a sound table's regions
pub sound_at : (end : ℕ) (regions : List CRegion) (k : ℕ) (d : CRegion) → first_fault end regions ≡ 0 → k < length regions → ((get_or regions k d).address % 4096 ≡ 0) × ((get_or regions k d).address < 17592186044416)
sound_at end [] k d none below = absurd (omega arith)
sound_at end (region ∷ regions) zero d none below = let here = (first_sound end region regions none).0 in (here.place, omega (arith, here.most))
sound_at end (region ∷ regions) (suc k) d none below = sound_at (end_of_region region) regions k d (first_sound end region regions none).1 (omega arith)

-- pages rise, and their marks end within the most pages
sound_order : (end : ℕ) (regions : List CRegion) → end % 4096 ≡ 0 → first_fault end regions ≡ 0 → AreInOrder (end / 4096) (pieces_of_regions regions)
sound_order end [] whole none = tt
sound_order end (region ∷ regions) whole none =
    let first = first_sound end region regions none in
    let here = first.0 in
    let next = sound_order (end_of_region region) regions (omega (arith, here.place, here.whole)) first.1 in
    let same : (region.address + length region.bytes.now) / 4096 ≡ region.address / 4096 + length region.bytes.now / 4096 = omega (arith, here.place, here.whole) in
    (omega (arith, here.rises), here.whole, subst (λ n. AreInOrder n (pieces_of_regions regions)) same next)

marks_long : (from : ℕ) (piece : Piece) (pieces : List Piece) → length (marks_from from (piece ∷ pieces)) ≡ (piece.first - from) + (pages_of piece + length (marks_from (end_of piece) pieces))
marks_long from piece pieces = search (rules, places)

sound_marks : (end : ℕ) (regions : List CRegion) → end % 4096 ≡ 0 → end ≤ 17592186040320 → first_fault end regions ≡ 0 → end / 4096 + length (marks_from (end / 4096) (pieces_of_regions regions)) ≤ 4294967295
sound_marks end [] whole most none = omega (arith, most)
sound_marks end (region ∷ regions) whole most none =
    let first = first_sound end region regions none in
    let here = first.0 in
    let next = sound_marks (end_of_region region) regions (omega (arith, here.place, here.whole)) here.most first.1 in
    let same : (region.address + length region.bytes.now) / 4096 ≡ region.address / 4096 + length region.bytes.now / 4096 = omega (arith, here.place, here.whole) in
    let rest = subst (λ n. n + length (marks_from n (pieces_of_regions regions)) ≤ 4294967295) same next in
    omega (arith, rest, marks_long (end / 4096) (piece_of_region region) (pieces_of_regions regions), here.rises)

abbrev table_code : Bool → Bool → ℕ → ℕ
table_code a b rest = if a then 12 else (if b then 13 else rest)

table_parts : (a b : Bool) (rest : ℕ) → table_code a b rest ≡ 0 → rest ≡ 0
table_parts true b rest is = absurd (omega (arith, is))
table_parts false true rest is = absurd (omega (arith, is))
table_parts false false rest is = is

pub no_first_fault : (regions : List CRegion) → table_fault regions ≡ 0 → first_fault 0 regions ≡ 0
no_first_fault regions none = table_parts (length regions == 0) (nat_lt 64 (length regions)) (first_fault 0 regions) none

some_marks : (regions : List CRegion) → table_fault regions ≡ 0 → 1 ≤ length (marks_from 0 (pieces_of_regions regions))
some_marks [] none = absurd (omega (arith, none))
some_marks (region ∷ regions) none =
    let here = (first_sound 0 region regions (no_first_fault (region ∷ regions) none)).0 in
    omega (arith, marks_long 0 (piece_of_region region) (pieces_of_regions regions), here.some, here.whole)

pub sound_table : (regions : List CRegion) → table_fault regions ≡ 0 → AreSegments (pieces_of_regions regions)
sound_table regions none =
    let first = no_first_fault regions none in
    record {
      order = sound_order 0 regions refl first;
      least_pages = some_marks regions none;
      most_pages = let marks = sound_marks 0 regions refl (omega arith) first in omega (arith, marks);
    }

-- two lists whose elements show the same, place by place
each_alike : {X Y Z : Type 0} (f : X → Z) (g : Y → Z) (xs : List X) (ys : List Y) → length xs ≡ length ys → ((j : ℕ) (x : X) (y : Y) → j < length ys → f (get_or xs j x) ≡ g (get_or ys j y)) → map f xs ≡ map g ys
each_alike f g [] [] size same = refl
each_alike f g [] (y ∷ ys) size same = absurd (omega (arith, size))
each_alike f g (x ∷ xs) [] size same = absurd (omega (arith, size))
each_alike f g (x ∷ xs) (y ∷ ys) size same =
    ap₂ (λ z zs. z ∷ zs) (same 0 x y (omega arith)) (each_alike f g xs ys (omega (arith, size)) (λ j a b below. same (suc j) a b (omega (arith, below))))

-- and back: what one place of them shows
alike_at : {X Y : Type 0} (f : X → ℕ) (g : Y → ℕ) (xs : List X) (ys : List Y) (k : ℕ) (x : X) (y : Y) → k < length ys → length xs ≡ length ys → map f xs ≡ map g ys → f (get_or xs k x) ≡ g (get_or ys k y)
alike_at f g xs [] k x y below size same = absurd (omega (arith, below))
alike_at f g [] (b ∷ ys) k x y below size same = absurd (omega (arith, size))
alike_at f g (a ∷ xs) (b ∷ ys) zero x y below size same = cc
alike_at f g (a ∷ xs) (b ∷ ys) (suc k) x y below size same =
    alike_at f g xs ys k x y (omega (arith, below)) (omega (arith, size)) (cc)

-- two tables with the same address at each place
pub same_addresses : (regions others : List CRegion) → length regions ≡ length others → ((j : ℕ) (region : CRegion) → (get_or regions j region).address ≡ (get_or others j region).address) → addresses_of regions ≡ addresses_of others
same_addresses [] [] size same = refl
same_addresses [] (other ∷ others) size same = absurd (omega (arith, size))
same_addresses (region ∷ regions) [] size same = absurd (omega (arith, size))
same_addresses (region ∷ regions) (other ∷ others) size same =
    ap₂ (λ (a : ℕ) (rest : List ℕ). a ∷ rest) (same 0 region) (same_addresses regions others (omega (arith, size)) (λ j r. same (suc j) r))

pub given : (regions : List CRegion) (segments : List Segment) → length regions ≡ length segments → ((j : ℕ) (region : CRegion) (segment : Segment) → j < length segments → piece_of_region (get_or regions j region) ≡ piece_of (get_or segments j segment)) → pieces_of_regions regions ≡ pieces_of segments
given regions segments size same = each_alike piece_of_region piece_of regions segments size same

starts : (segments : List Segment) → map (λ (p : Piece). 4096 * p.first) (pieces_of segments) ≡ map (λ (s : Segment). 4096 * s.first) segments
starts [] = refl
starts (segment ∷ segments) = ap (λ (rest : List ℕ). 4096 * segment.first ∷ rest) (starts segments)

pub placed : (regions : List CRegion) (segments : List Segment) → length regions ≡ length segments → ((j : ℕ) (region : CRegion) (segment : Segment) → j < length segments → (get_or regions j region).address ≡ 4096 * (get_or segments j segment).first) → addresses_of regions ≡ map (λ (p : Piece). 4096 * p.first) (pieces_of segments)
placed regions segments size same =
    each_alike (λ (r : CRegion). r.address) (λ (s : Segment). 4096 * s.first) regions segments size same ∙ sym (starts segments)

pub placed_at : (regions : List CRegion) (segments : List Segment) (k : ℕ) (region : CRegion) (segment : Segment) → k < length segments → length regions ≡ length segments → addresses_of regions ≡ map (λ (p : Piece). 4096 * p.first) (pieces_of segments) → (get_or regions k region).address ≡ 4096 * (get_or segments k segment).first
placed_at regions segments k region segment below size same =
    alike_at (λ (r : CRegion). r.address) (λ (s : Segment). 4096 * s.first) regions segments k region segment below size (same ∙ starts segments)

-- where the segments of a table lie
pub as_many_places : (segments : List Segment) → length (map place_of (pieces_of segments)) ≡ length segments
as_many_places [] = refl
as_many_places (segment ∷ segments) = ap suc (as_many_places segments)

pub place_starts : (pieces : List Piece) → map (λ (p : Piece). 4096 * p.first) pieces ≡ map (λ (p : Place). 4096 * p.first) (map place_of pieces)
place_starts [] = refl
place_starts (piece ∷ pieces) = ap (λ (rest : List ℕ). 4096 * piece.first ∷ rest) (place_starts pieces)

region_places : (regions : List CRegion) → length (map place_of (pieces_of_regions regions)) ≡ length regions
region_places [] = refl
region_places (region ∷ regions) = ap suc (region_places regions)

region_starts : (end : ℕ) (regions : List CRegion) → first_fault end regions ≡ 0 → map (λ (p : Place). 4096 * p.first) (map place_of (pieces_of_regions regions)) ≡ addresses_of regions
region_starts end [] none = refl
region_starts end (region ∷ regions) none =
    let first = first_sound end region regions none in
    let here : 4096 * (region.address / 4096) ≡ region.address = let place = first.0.place in omega (arith, place) in
    ap₂ (λ (n : ℕ) (rest : List ℕ). n ∷ rest) here (region_starts (end_of_region region) regions first.1)

-- a memory that is lent as a table's is
module _ (regions : List CRegion) (after : Memory) (same : after.loan ≡ (memory_of_regions regions).loan) where
  pub still_segments : is_in_segments after ≡ true
  still_segments = ap are_segments same

  pub still_as_many : length (places_of after.loan) ≡ length regions
  still_as_many = ap (λ (l : Loan). length (places_of l)) same ∙ region_places regions

  pub still_placed : first_fault 0 regions ≡ 0 → map (λ (p : Place). 4096 * p.first) (places_of after.loan) ≡ addresses_of regions
  still_placed none = ap (λ (l : Loan). map (λ (p : Place). 4096 * p.first) (places_of l)) same ∙ region_starts 0 regions none
