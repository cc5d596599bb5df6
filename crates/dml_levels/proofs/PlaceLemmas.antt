-- Jobs clash exactly where a cell that one of them writes is a cell of the other.
use Rattle.std.proofs.Common.{◌≡◌, inl, inr, ℕ, ◌<◌, zero, suc, Bool, true, List, [], ◌∷◌, ◌++◌, length, get_or, sym, ◌∙◌, subst, arith, ⊎_elim}
use Rattle.std.proofs.lemmas.Bool.{ltb-true, or_cases, or_left, or_right}
use Rattle.std.proofs.lemmas.List.{get_or-map, length-map}
use Rattle.std.proofs.lemmas.List.Elements.{Contains-append_left, Contains-append_right, Contains-get_or, filter_passes}
use Rattle.std.proofs.lemmas.List.Sorted.{Contains-permutation}
use Rattle.std.specs.Prelude.{All, Contains, ◌||◌, nat_lt}
use Rattle.std.specs.List.{flat_map}
use Rattle.std.specs.List.Sorted.{IsPermutation}
use Rattle.dml_types.specs.declared.jobs.Job.{Job}
use Rattle.dml_types.specs.declared.spans.Span.{Span}
use Rattle.dml_types.specs.Job.{any_shares, no_op_job, reads, writes}
use Rattle.dml_types.specs.Conflict.{clash_of, ranges_of}
use Rattle.dml_levels.specs.Cells.{IsCovered, IsTouched, all_starts, footprint_of, starts_of}
use Rattle.dml_levels.specs.Touched.{read_spans, some_spans, written_spans}
use Rattle.dml_levels.proofs.HeightLemmas.{Shared}
use Rattle.dml_levels.proofs.MeetLemmas.{IsPlaced, any_of_meet, meet_of_any}
use Rattle.dml_levels.proofs.TouchedLemmas.{any_shares_some}

-- the cells of the job at a place
abbrev pub ReadsCell : List ℕ → List Job → ℕ → ℕ → Type 0
ReadsCell starts jobs i cell = IsCovered (footprint_of starts (get_or jobs i no_op_job)).reads cell

abbrev pub WritesCell : List ℕ → List Job → ℕ → ℕ → Type 0
WritesCell starts jobs i cell = IsCovered (footprint_of starts (get_or jobs i no_op_job)).writes cell

abbrev pub TouchesCell : List ℕ → List Job → ℕ → ℕ → Type 0
TouchesCell starts jobs i cell = IsTouched (footprint_of starts (get_or jobs i no_op_job)) cell

contains_flat : (f : Job → List ℕ) (jobs : List Job) (i : ℕ) (d : Job) (x : ℕ) → i < length jobs → Contains (f (get_or jobs i d)) x → Contains (flat_map f jobs) x
contains_flat f [] i d x below has = absurd (omega (arith, below))
contains_flat f (job ∷ jobs) zero d x below has = Contains-append_left (f job) (flat_map f jobs) x has
contains_flat f (job ∷ jobs) (suc i) d x below has =
    Contains-append_right (f job) (flat_map f jobs) x (contains_flat f jobs i d x (omega (arith, below)) has)

placed_in : (starts : List ℕ) (raw : List Span) → ((x : ℕ) → Contains (starts_of (some_spans raw)) x → Contains starts x) → All (IsPlaced starts) (some_spans raw)
placed_in starts raw among =
    let spans : List Span = some_spans raw in
    λ k d below. record {
      some = ltb-true 0 (get_or spans k d).len (filter_passes (λ range. nat_lt 0 range.len) raw k d below);
      start = among (get_or spans k d).start
          (subst (Contains (starts_of spans)) (get_or-map (λ (range : Span). range.start) spans k d 0 below)
          (Contains-get_or (starts_of spans) k 0 (omega (arith, below, length-map spans (λ (range : Span). range.start)))));
    }

pub reads_placed : (starts : List ℕ) (jobs : List Job) (i : ℕ) → IsPermutation (all_starts jobs) starts → i < length jobs → All (IsPlaced starts) (read_spans (get_or jobs i no_op_job))
reads_placed starts jobs i all below =
    let job : Job = get_or jobs i no_op_job in
    placed_in starts (ranges_of reads job)
    (λ x has. Contains-permutation (all_starts jobs) starts x all
    (contains_flat (λ job. starts_of (read_spans job) ++ starts_of (written_spans job)) jobs i no_op_job x below (Contains-append_left (starts_of (read_spans job)) (starts_of (written_spans job)) x has)))

pub writes_placed : (starts : List ℕ) (jobs : List Job) (i : ℕ) → IsPermutation (all_starts jobs) starts → i < length jobs → All (IsPlaced starts) (written_spans (get_or jobs i no_op_job))
writes_placed starts jobs i all below =
    let job : Job = get_or jobs i no_op_job in
    placed_in starts (ranges_of writes job)
    (λ x has. Contains-permutation (all_starts jobs) starts x all
    (contains_flat (λ job. starts_of (read_spans job) ++ starts_of (written_spans job)) jobs i no_op_job x below (Contains-append_right (starts_of (read_spans job)) (starts_of (written_spans job)) x has)))

pub shared_of_clash : (starts : List ℕ) (jobs : List Job) (k i : ℕ) → clash_of jobs k i ≡ true → (cell : ℕ) × Shared (ReadsCell starts jobs) (WritesCell starts jobs) (TouchesCell starts jobs) k i cell
shared_of_clash starts jobs k i clashing =
    let a : Job = get_or jobs k no_op_job in
    let b : Job = get_or jobs i no_op_job in
    ⊎_elim
    (λ some. ⊎_elim
    (λ one. let met = meet_of_any starts (written_spans a) (read_spans b) (any_shares_some (ranges_of writes a) (ranges_of reads b) ∙ one) in (met.cell, inl (met.first, met.second)))
    (λ one. let met = meet_of_any starts (written_spans a) (written_spans b) (any_shares_some (ranges_of writes a) (ranges_of writes b) ∙ one) in (met.cell, inr (inr met.first, met.second)))
    (or_cases (any_shares (ranges_of writes a) (ranges_of reads b)) (any_shares (ranges_of writes a) (ranges_of writes b)) some))
    (λ one. let met = meet_of_any starts (read_spans a) (written_spans b) (any_shares_some (ranges_of reads a) (ranges_of writes b) ∙ one) in (met.cell, inr (inl met.first, met.second)))
    (or_cases (any_shares (ranges_of writes a) (ranges_of reads b) || any_shares (ranges_of writes a) (ranges_of writes b)) (any_shares (ranges_of reads a) (ranges_of writes b)) clashing)

pub clash_of_shared : (starts : List ℕ) (jobs : List Job) (k i cell : ℕ) → IsPermutation (all_starts jobs) starts → k < length jobs → i < length jobs → Shared (ReadsCell starts jobs) (WritesCell starts jobs) (TouchesCell starts jobs) k i cell → clash_of jobs k i ≡ true
clash_of_shared starts jobs k i cell all first second shared =
    let a : Job = get_or jobs k no_op_job in
    let b : Job = get_or jobs i no_op_job in
    let reads_a = reads_placed starts jobs k all first in
    let writes_a = writes_placed starts jobs k all first in
    let reads_b = reads_placed starts jobs i all second in
    let writes_b = writes_placed starts jobs i all second in
    let one : Bool = any_shares (ranges_of writes a) (ranges_of reads b) in
    let two : Bool = any_shares (ranges_of writes a) (ranges_of writes b) in
    let three : Bool = any_shares (ranges_of reads a) (ranges_of writes b) in
    ⊎_elim
    (λ has. or_left (one || two) three (or_left one two (sym (any_shares_some (ranges_of writes a) (ranges_of reads b)) ∙ any_of_meet starts (written_spans a) (read_spans b) cell writes_a reads_b has.0 has.1)))
    (λ has. ⊎_elim
    (λ read. or_right (one || two) three (sym (any_shares_some (ranges_of reads a) (ranges_of writes b)) ∙ any_of_meet starts (read_spans a) (written_spans b) cell reads_a writes_b read has.1))
    (λ write. or_left (one || two) three (or_right one two (sym (any_shares_some (ranges_of writes a) (ranges_of writes b)) ∙ any_of_meet starts (written_spans a) (written_spans b) cell writes_a writes_b write has.1)))
    has.0)
    shared
