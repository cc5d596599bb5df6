-- The cells of addresses: a new one begins where a range starts. Two ranges share a byte where they have a cell in
-- common.
use Rattle.std.specs.Prelude.{◌≡◌, ◌⊎◌, ℕ, ◌+◌, ◌-◌, ◌<◌, ◌≤◌, max, List, [], ◌∷◌, ◌++◌, length, map, filter, slice_index, nat_le}
use Rattle.std.specs.List.{flat_map}
use Rattle.dml_types.specs.declared.jobs.Job.{Job}
use Rattle.dml_types.specs.declared.spans.Span.{Span}
use Rattle.dml_levels.specs.declared.cells.Cells.{Cells}
use Rattle.dml_levels.specs.declared.heights.Heights.{Heights}
use Rattle.dml_levels.specs.Touched.{read_spans, written_spans}

abbrev pub starts_of : List Span → List ℕ
starts_of spans = map (λ range. range.start) spans

-- the starts of all ranges that jobs touch
abbrev pub all_starts : List Job → List ℕ
all_starts jobs = flat_map (λ job. starts_of (read_spans job) ++ starts_of (written_spans job)) jobs

-- how many ranges start at an address or before it
abbrev pub cell_of : List ℕ → ℕ → ℕ
cell_of starts address = length (filter (λ start. nat_le start address) starts)

abbrev pub cells_of : List ℕ → Span → Cells
cells_of starts range =
    record { first = cell_of starts range.start; end = cell_of starts (range.start + (range.len - 1)) + 1 }

abbrev pub cover_of : List ℕ → List Span → List Cells
cover_of starts spans = map (cells_of starts) spans

-- the cells of what a job reads, and of what it writes
pub record Footprint : Type 0 where
  pub reads : List Cells
  pub writes : List Cells

abbrev pub footprint_of : List ℕ → Job → Footprint
footprint_of starts job =
    record { reads = cover_of starts (read_spans job); writes = cover_of starts (written_spans job) }

pub record IsCell (cells : Cells) (cell : ℕ) : Type 0 where
  pub from : cells.first ≤ cell
  pub to : cell < cells.end

-- a cell of one of these
abbrev pub IsCovered : List Cells → ℕ → Type 0
IsCovered [] cell = ⊥
IsCovered (cells ∷ rest) cell = IsCell cells cell ⊎ IsCovered rest cell

abbrev pub IsTouched : Footprint → ℕ → Type 0
IsTouched footprint cell = IsCovered footprint.reads cell ⊎ IsCovered footprint.writes cell

-- a cell of these is as high as this
pub record IsReached (heights : List ℕ) (has : ℕ → Type 0) (height : ℕ) : Type 0 where
  pub cell : ℕ
  pub covers : has cell
  pub same : slice_index heights cell ≡ height

-- the greatest height of these cells
pub record IsGreatest (heights : List ℕ) (has : ℕ → Type 0) (height : ℕ) : Type 0 where
  pub bound : (cell : ℕ) → has cell → slice_index heights cell ≤ height
  pub reached : (height ≡ 0) ⊎ IsReached heights has height

-- these cells are raised to the height, and no other
pub record IsRaised (old : List ℕ) (has : ℕ → Type 0) (height : ℕ) (new : List ℕ) : Type 0 where
  pub same_length : length new ≡ length old
  pub inside : (cell : ℕ) → has cell → slice_index new cell ≡ max (slice_index old cell) height
  pub outside : (cell : ℕ) → has cell ⊎ (slice_index new cell ≡ slice_index old cell)

-- the greatest height among what was written where the job reads, and what was touched where it writes
pub record IsLevelIn (heights : Heights) (footprint : Footprint) (level : ℕ) : Type 0 where
  pub reads : (cell : ℕ) → IsCovered footprint.reads cell → slice_index heights.written.items cell ≤ level
  pub writes : (cell : ℕ) → IsCovered footprint.writes cell → slice_index heights.touched.items cell ≤ level
  pub reached :
      (level ≡ 0)
      ⊎ (IsReached heights.written.items (IsCovered footprint.reads) level
      ⊎ IsReached heights.touched.items (IsCovered footprint.writes) level)
