-- The addresses of starts.
use Rattle.std.proofs.Common.{◌≡◌, ℕ, ◌+◌, ◌-◌, ◌<◌, ◌≤◌, min, set, List, length, get_or, map, ap, sym, ◌∙◌, arith}
use Rattle.std.proofs.Math.Seq.{map-set_same}
use Rattle.std.proofs.lemmas.List.{get_or-map, length-map}
use Rattle.std.specs.List.Sorted.{IsNonDecreasing, IsNonDecreasingBy}
use Rattle.dml_levels.specs.Cells.{cell_of}
use Rattle.dml_levels.specs.Starts.{IsSought}
use Rattle.dml_levels.specs.declared.starts.Start.{Start}
use Rattle.dml_levels.proofs.CellLemmas.{cell_within, starts_low}

abbrev pub addresses : List Start → List ℕ
addresses list = map (λ (start : Start). start.address) list

pub address_at : (list : List Start) (k : ℕ) (start : Start) (d : ℕ) → k < length list → get_or (addresses list) k d ≡ (get_or list k start).address
address_at list k start d below = get_or-map (λ (s : Start). s.address) list k start d below

pub sorted_addresses : (list : List Start) → IsNonDecreasingBy (λ (start : Start). start.address) list → IsNonDecreasing (addresses list)
sorted_addresses list sorted i j d order below =
    let start : Start = record { address = d; range = 0; likely = 0 } in
    let room : j < length list = omega (arith, below, length-map list (λ (s : Start). s.address)) in
    omega (arith, sorted i j start order room, address_at list i start d (omega (arith, order, room)), address_at list j start d room)

-- what is read at a place
pub read_at : (starts : List ℕ) (list : List Start) (k : ℕ) (start : Start) → starts ≡ addresses list → k < length starts → start ≡ get_or list k start → get_or starts k 0 ≡ start.address
read_at starts list k start is below read =
    let room : k < length list = omega (arith, below, ap length is, length-map list (λ (s : Start). s.address)) in
    ap (λ xs. get_or xs k 0) is ∙ address_at list k start 0 room ∙ sym (ap (λ (s : Start). s.address) read)

-- what is likely may change
pub noted : (starts : List ℕ) (list : List Start) (k : ℕ) (start next : Start) → addresses list ≡ starts → start ≡ get_or list k start → next.address ≡ start.address → addresses (set list k next) ≡ starts
noted starts list k start next is read same =
    map-set_same (λ (s : Start). s.address) list k next start (same ∙ ap (λ (s : Start). s.address) read) ∙ is

-- what lies in a cell or behind it is sought there
pub sought_from : (starts : List ℕ) (address cell : ℕ) → IsNonDecreasing starts → cell ≤ cell_of starts address → IsSought starts address cell (length starts - cell)
sought_from starts address cell sorted from = record {
  within = omega (arith, from, cell_within starts address);
  low = λ k below. starts_low starts address k (omega (arith, below, from)) sorted;
  high = λ k past below. absurd (omega (arith, past, below, from, cell_within starts address));
}

-- a step on
pub sought_on : (starts : List ℕ) (address first step next : ℕ) → IsNonDecreasing starts → IsSought starts address first (length starts - first) → 0 < step → step ≤ length starts - first → get_or starts (first + step - 1) 0 ≤ address → next ≡ first + step → IsSought starts address next (length starts - next)
sought_on starts address first step next sorted known some room low is = record {
  within = omega (arith, is, room, known.within);
  low = λ k below. omega (arith, low, sorted k (first + step - 1) 0 (omega (arith, is, below)) (omega (arith, room, some)));
  high = λ k past below. absurd (omega (arith, past, below));
}

-- a step that is too far
pub sought_before : (starts : List ℕ) (address first step left : ℕ) → IsNonDecreasing starts → IsSought starts address first (length starts - first) → 0 < step → (step ≤ length starts - first → address < get_or starts (first + step - 1) 0) → left ≡ min (step - 1) (length starts - first) → IsSought starts address first left
sought_before starts address first step left sorted known some high is = record {
  within = omega (arith, known.within, is);
  low = known.low;
  high = λ k past below. omega (
    arith,
    high (omega (arith, past, below, is, known.within)),
    sorted (first + step - 1) k 0 (omega (arith, past, below, is, known.within, some)) below,
  );
}

pub same_count : (starts : List ℕ) (list : List Start) → starts ≡ addresses list → length starts ≡ length list
same_count starts list is = ap length is ∙ length-map list (λ (s : Start). s.address)

pub low_before : (starts : List ℕ) (address place : ℕ) → IsNonDecreasing starts → place ≤ length starts → get_or starts (place - 1) 0 ≤ address → (k : ℕ) → k < place → get_or starts k 0 ≤ address
low_before starts address place sorted within low k below =
    omega (arith, low, sorted k (place - 1) 0 (omega (arith, below)) (omega (arith, within, below)))

pub high_from : (starts : List ℕ) (address place : ℕ) → IsNonDecreasing starts → address < get_or starts place 0 → (k : ℕ) → place ≤ k → k < length starts → address < get_or starts k 0
high_from starts address place sorted high k from below = omega (arith, high, sorted place k 0 from below)
