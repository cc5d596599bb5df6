-- The pieces in a job's slots are the values of its chunks, in order.
use Rattle.std.proofs.Common.{◌≡◌, ◌≢◌, ℕ, ◌+◌, ◌/◌, List, [], ◌∷◌, length, map, Option, None, Some, refl, sym, ◌∙◌, ap, ap₂, subst, arith}
use Rattle.std.specs.Prelude.{unwrap_or}
use denote.Param.Members.{Mut, Called}
use denote.Ref.{MutBor}
use Rattle.std.specs.List.{AllZip, filter_map, cons_option}
use Rattle.std.specs.Iterator.{AlwaysYields}
use Rattle.std.specs.Iterator.Adapters.{filter_map_source, filter_map_callee, filter_map_steps}
use Rattle.std.specs.declared.iter.FilterMap.{FilterMap}
use Rattle.std.proofs.lemmas.List.{length-map}
use Rattle.std.proofs.lemmas.Iterator.{YieldsList}
use Rattle.std.proofs.lemmas.Iterator.Consumers.{YieldsList-from_shown, YieldsList-from_filter_map}
use Rattle.dml_types.specs.declared.jobs.Job.{Job}
use Rattle.dml_types.specs.declared.operations.Op.{Op}
use Rattle.dml_types.specs.declared.operations.Op.TheVariants.{NoOp, Move, Fill, Compare, ComparePattern, CreateDelta, ApplyDelta, Dualcast}
use Rattle.dml_types.specs.Job.{op_of}
use Rattle.dml_types.specs.Memory.{Memory}
use Rattle.dml_types.specs.Chunk.{scan_found, scan_staged, create_fault, create_staged, apply_bad, apply_first, apply_last, apply_staged}
use Rattle.dml_desc.specs.Checked.{operation_of}
use Rattle.dml_arena.specs.Piece.{SamePlace}
use Rattle.dml_arena.specs.Piece.{Piece as Room}
use Rattle.dml_scan.specs.declared.scans.ScanPiece.{ScanPiece}
use Rattle.dml_delta.specs.declared.applies.ApplyPiece.{ApplyPiece}
use Rattle.dml_delta.specs.declared.creates.CreatePiece.{CreatePiece}
use Rattle.dml_effect.specs.Chunks.{FirstIsBehind, AreChunksFrom, IsScanFrom, IsCreateFrom, IsApplyFrom, AreScans, scan_size}
use Rattle.dml_pool.specs.declared.tasks.Outcome.{Outcome}
use Rattle.dml_pool.specs.declared.tasks.Piece.{Piece}
use Rattle.dml_pool.specs.declared.tasks.Piece.TheVariants.{Scan, Create, Apply}
use Rattle.dml_pool.specs.declared.tasks.Task.{Task}
use Rattle.dml_pool.specs.Tasks.{IsScanned, IsCreated, IsApplied, IsOperationValue, IsTaskValue, units}
use Rattle.dml_wave.specs.Tasks.{IsTaskFrom}
use Rattle.dml_wave.specs.Effects.{IsValueIn, HoldJob, slot_scan, scan_of, slot_create, create_of, slot_apply, apply_of}

-- for pieces of any kind, by what it means to be the value of a task
module _ {P : Type 0} (memory : Memory) (job : Job) (chunk : ℕ) (pick : Option Outcome → Option P) (IsValue : Task → P → Type 0) (IsValueFrom : ℕ → P → Type 0) (end : P → ℕ) (region : P → Room)
    (held : (task : Task) (slot : Option Outcome) → task.job ≡ job → IsValueIn memory task slot → (piece : P) × (pick slot ≡ Some piece) × IsValue task piece)
    (value : (from : ℕ) (task : Task) (piece : P) → IsTaskFrom job chunk from task → IsValue task piece → IsValueFrom from piece)
    (ends : (task : Task) (piece : P) → IsValue task piece → end piece ≡ task.to)
    (place : (task : Task) (piece : P) → IsValue task piece → SamePlace task.room (region piece)) where
  abbrev ChunksFrom : ℕ → ℕ → List P → Type 0
  ChunksFrom last from pieces = AreChunksFrom IsValueFrom end region last from pieces

  abbrev TasksFrom : ℕ → ℕ → List Task → Type 0
  TasksFrom last from tasks = AreChunksFrom (IsTaskFrom job chunk) (λ task. task.to) (λ task. task.room) last from tasks

  behind : (last : ℕ) (task : Task) (piece : P) (tasks : List Task) (slots : List (Option Outcome)) → IsValue task piece → FirstIsBehind (λ t. t.room) task.room tasks
      → TasksFrom last task.to tasks → AllZip (IsValueIn memory) tasks slots → FirstIsBehind region (region piece) (filter_map pick slots)
  behind last task piece [] [] is first all hold = tt
  behind last task piece [] (s ∷ slots) is first all hold = absurd hold
  behind last task piece (t ∷ tasks) [] is first all hold = absurd hold
  behind last task piece (t ∷ tasks) (s ∷ slots) is first all hold =
      let next = held t s all.0.of hold.0 in
      let here = place task piece is in
      let there = place t next.0 next.2 in
      subst (λ (o : Option P). FirstIsBehind region (region piece) (cons_option o (filter_map pick slots))) (sym next.1) (
        there.opening ∙ (first.0 ∙ sym here.opening),
        there.start ∙ (first.1 ∙ sym (ap₂ (λ (a b : ℕ). a + b) here.start here.room)),
      )

  pub chunks_in : (last from : ℕ) (tasks : List Task) (slots : List (Option Outcome)) → TasksFrom last from tasks → AllZip (IsValueIn memory) tasks slots → ChunksFrom last from (filter_map pick slots)
  chunks_in last from [] [] all hold = all
  chunks_in last from [] (s ∷ slots) all hold = absurd hold
  chunks_in last from (t ∷ tasks) [] all hold = absurd hold
  chunks_in last from (t ∷ tasks) (s ∷ slots) all hold =
      let one = held t s all.0.of hold.0 in
      subst (λ (o : Option P). ChunksFrom last from (cons_option o (filter_map pick slots))) (sym one.1) (
        value from t one.0 all.0 one.2,
        behind last t one.0 tasks slots one.2 all.1 all.2 hold.1,
        subst (λ (n : ℕ). ChunksFrom last n (filter_map pick slots)) (sym (ends t one.0 one.2)) (chunks_in last t.to tasks slots all.2 hold.1),
      )

operation_at : (job : Job) (op : Op) → op_of job ≡ Some op → operation_of job ≡ op
operation_at job op is = ap (λ (o : Option Op). unwrap_or o NoOp) is

value_by : (memory : Memory) (job : Job) (op : Op) (task : Task) (piece : Piece) → op_of job ≡ Some op → task.job ≡ job → IsTaskValue memory task piece → IsOperationValue op memory task piece
value_by memory job op task piece is of value =
    subst (λ (o : Op). IsOperationValue o memory task piece) (ap operation_of of ∙ operation_at job op is) value

-- Scans
scan_held_by : (op : Op) (memory : Memory) (task : Task) (piece : Piece) → op ≢ CreateDelta → op ≢ ApplyDelta → IsOperationValue op memory task piece → (scan : ScanPiece) × (scan_of piece ≡ Some scan) × IsScanned op memory task scan
scan_held_by NoOp memory task piece no_create no_apply value = absurd value
scan_held_by CreateDelta memory task piece no_create no_apply value = absurd (no_create refl)
scan_held_by ApplyDelta memory task piece no_create no_apply value = absurd (no_apply refl)
scan_held_by Move memory task (Scan piece) no_create no_apply value = (piece, refl, value)
scan_held_by Move memory task (Create piece) no_create no_apply value = absurd value
scan_held_by Move memory task (Apply piece) no_create no_apply value = absurd value
scan_held_by Fill memory task (Scan piece) no_create no_apply value = (piece, refl, value)
scan_held_by Fill memory task (Create piece) no_create no_apply value = absurd value
scan_held_by Fill memory task (Apply piece) no_create no_apply value = absurd value
scan_held_by Compare memory task (Scan piece) no_create no_apply value = (piece, refl, value)
scan_held_by Compare memory task (Create piece) no_create no_apply value = absurd value
scan_held_by Compare memory task (Apply piece) no_create no_apply value = absurd value
scan_held_by ComparePattern memory task (Scan piece) no_create no_apply value = (piece, refl, value)
scan_held_by ComparePattern memory task (Create piece) no_create no_apply value = absurd value
scan_held_by ComparePattern memory task (Apply piece) no_create no_apply value = absurd value
scan_held_by Dualcast memory task (Scan piece) no_create no_apply value = (piece, refl, value)
scan_held_by Dualcast memory task (Create piece) no_create no_apply value = absurd value
scan_held_by Dualcast memory task (Apply piece) no_create no_apply value = absurd value

scan_held : (memory : Memory) (job : Job) (op : Op) → op_of job ≡ Some op → op ≢ CreateDelta → op ≢ ApplyDelta → (task : Task) (slot : Option Outcome) → task.job ≡ job → IsValueIn memory task slot → (scan : ScanPiece) × (slot_scan slot ≡ Some scan) × IsScanned op memory task scan
scan_held memory job op is no_create no_apply task None of value = absurd value
scan_held memory job op is no_create no_apply task (Some outcome) of value =
    scan_held_by op memory task outcome.piece no_create no_apply (value_by memory job op task outcome.piece is of value)

scan_value : (memory : Memory) (job : Job) (op : Op) (chunk from : ℕ) (task : Task) (piece : ScanPiece) → IsTaskFrom job chunk from task → IsScanned op memory task piece → IsScanFrom op memory job from piece
scan_value memory job op chunk from task piece is value = record {
  begins = value.chunk.0 ∙ is.begins;
  order = omega (arith, is.order, value.chunk.1);
  found =
      value.found
      ∙ (ap (λ (j : Job). scan_found op memory j task.from task.to) is.of ∙ ap₂ (scan_found op memory job) is.begins (sym value.chunk.1));
  staged =
      value.staged
      ∙ (ap (λ (j : Job). scan_staged op memory j task.from task.to) is.of ∙ ap₂ (scan_staged op memory job) is.begins (sym value.chunk.1));
}

scan_units : (op : Op) (job : Job) → op ≢ CreateDelta → op ≢ ApplyDelta → units op job ≡ scan_size op job
scan_units NoOp job no_create no_apply = refl
scan_units CreateDelta job no_create no_apply = absurd (no_create refl)
scan_units ApplyDelta job no_create no_apply = absurd (no_apply refl)
scan_units Move job no_create no_apply = refl
scan_units Fill job no_create no_apply = refl
scan_units Compare job no_create no_apply = refl
scan_units ComparePattern job no_create no_apply = refl
scan_units Dualcast job no_create no_apply = refl

pub scans_in : (memory : Memory) (job : Job) (op : Op) (slots : List (Option Outcome)) → op_of job ≡ Some op → op ≢ CreateDelta → op ≢ ApplyDelta → HoldJob memory job slots → AreScans op memory job (filter_map slot_scan slots)
scans_in memory job op slots is no_create no_apply hold =
    subst (λ (last : ℕ). AreChunksFrom (IsScanFrom op memory job) (λ piece. piece.to) (λ piece. piece.staged) last 0 (filter_map slot_scan slots))
    (ap (λ (o : Op). units o job) (operation_at job op is) ∙ scan_units op job no_create no_apply)
    (chunks_in memory job hold.0 slot_scan (IsScanned op memory) (IsScanFrom op memory job) (λ piece. piece.to) (λ piece. piece.staged) (scan_held memory job op is no_create no_apply)
    (scan_value memory job op hold.0) (λ task piece value. value.chunk.1) (λ task piece value. value.place) (units (operation_of job) job) 0 hold.1 slots hold.2 hold.3)

-- Creates
create_held_by : (memory : Memory) (task : Task) (piece : Piece) → IsOperationValue CreateDelta memory task piece → (create : CreatePiece) × (create_of piece ≡ Some create) × IsCreated memory task create
create_held_by memory task (Scan piece) value = absurd value
create_held_by memory task (Create piece) value = (piece, refl, value)
create_held_by memory task (Apply piece) value = absurd value

create_held : (memory : Memory) (job : Job) → op_of job ≡ Some CreateDelta → (task : Task) (slot : Option Outcome) → task.job ≡ job → IsValueIn memory task slot → (create : CreatePiece) × (slot_create slot ≡ Some create) × IsCreated memory task create
create_held memory job is task None of value = absurd value
create_held memory job is task (Some outcome) of value =
    create_held_by memory task outcome.piece (value_by memory job CreateDelta task outcome.piece is of value)

create_value : (memory : Memory) (job : Job) (chunk from : ℕ) (task : Task) (piece : CreatePiece) → IsTaskFrom job chunk from task → IsCreated memory task piece → IsCreateFrom memory job from piece
create_value memory job chunk from task piece is value = record {
  begins = value.chunk.0 ∙ is.begins;
  order = omega (arith, is.order, value.chunk.1);
  fault = value.fault ∙ told (create_fault memory);
  staged = value.staged ∙ told (create_staged memory);
}
  where
    told : {R : Type 0} (f : Job → ℕ → ℕ → R) → f task.job task.from task.to ≡ f job from piece.to
    told f = ap (λ (j : Job). f j task.from task.to) is.of ∙ ap₂ (f job) is.begins (sym value.chunk.1)

pub creates_in : (memory : Memory) (job : Job) (slots : List (Option Outcome)) → op_of job ≡ Some CreateDelta → HoldJob memory job slots
    → AreChunksFrom (IsCreateFrom memory job) (λ piece. piece.to) (λ piece. piece.staged) (job.size / 8) 0 (filter_map slot_create slots)
creates_in memory job slots is hold =
    subst (λ (op : Op). AreChunksFrom (IsCreateFrom memory job) (λ piece. piece.to) (λ piece. piece.staged) (units op job) 0 (filter_map slot_create slots))
    (operation_at job CreateDelta is)
    (chunks_in memory job hold.0 slot_create (IsCreated memory) (IsCreateFrom memory job) (λ piece. piece.to) (λ piece. piece.staged) (create_held memory job is) (create_value memory job hold.0)
    (λ task piece value. value.chunk.1) (λ task piece value. value.place) (units (operation_of job) job) 0 hold.1 slots hold.2 hold.3)

-- Applies
apply_held_by : (memory : Memory) (task : Task) (piece : Piece) → IsOperationValue ApplyDelta memory task piece → (apply : ApplyPiece) × (apply_of piece ≡ Some apply) × IsApplied memory task apply
apply_held_by memory task (Scan piece) value = absurd value
apply_held_by memory task (Create piece) value = absurd value
apply_held_by memory task (Apply piece) value = (piece, refl, value)

apply_held : (memory : Memory) (job : Job) → op_of job ≡ Some ApplyDelta → (task : Task) (slot : Option Outcome) → task.job ≡ job → IsValueIn memory task slot → (apply : ApplyPiece) × (slot_apply slot ≡ Some apply) × IsApplied memory task apply
apply_held memory job is task None of value = absurd value
apply_held memory job is task (Some outcome) of value =
    apply_held_by memory task outcome.piece (value_by memory job ApplyDelta task outcome.piece is of value)

apply_value : (memory : Memory) (job : Job) (chunk from : ℕ) (task : Task) (piece : ApplyPiece) → IsTaskFrom job chunk from task → IsApplied memory task piece → IsApplyFrom memory job from piece
apply_value memory job chunk from task piece is value = record {
  begins = value.chunk.0 ∙ is.begins;
  order = omega (arith, is.order, value.chunk.1);
  bad = value.bad ∙ told (apply_bad memory);
  first = value.first ∙ told (apply_first memory);
  last = value.last ∙ told (apply_last memory);
  staged = value.staged ∙ told (apply_staged memory);
}
  where
    told : {R : Type 0} (f : Job → ℕ → ℕ → R) → f task.job task.from task.to ≡ f job from piece.to
    told f = ap (λ (j : Job). f j task.from task.to) is.of ∙ ap₂ (f job) is.begins (sym value.chunk.1)

pub applies_in : (memory : Memory) (job : Job) (slots : List (Option Outcome)) → op_of job ≡ Some ApplyDelta → HoldJob memory job slots
    → AreChunksFrom (IsApplyFrom memory job) (λ piece. piece.to) (λ piece. piece.staged) (job.delta_size / 10) 0 (filter_map slot_apply slots)
applies_in memory job slots is hold =
    subst (λ (op : Op). AreChunksFrom (IsApplyFrom memory job) (λ piece. piece.to) (λ piece. piece.staged) (units op job) 0 (filter_map slot_apply slots))
    (operation_at job ApplyDelta is)
    (chunks_in memory job hold.0 slot_apply (IsApplied memory) (IsApplyFrom memory job) (λ piece. piece.to) (λ piece. piece.staged) (apply_held memory job is) (apply_value memory job hold.0)
    (λ task piece value. value.chunk.1) (λ task piece value. value.place) (units (operation_of job) job) 0 hold.1 slots hold.2 hold.3)

-- slots that are gone over one after another, each piece of a kind taken out of what they refer to
pub slots_yield : {S A B C F : Type 0} (steps : S → Option (MutBor A) → S → Type 0) (see : A → B) (rest : S → List A)
    → ((s t : S) → steps s None t → length (rest s) ≡ 0) → ((s : S) (x : MutBor A) (t : S) → steps s (Some x) t → rest s ≡ x.now ∷ rest t)
    → (g : Mut F (MutBor A × Unit {0}) (Option C)) (pick : B → Option C) (s : FilterMap S F) (t : S) (slots : List A) → filter_map_source s ≡ t → rest t ≡ slots
    → ((x : MutBor A) (r : Option C) (q : F) → Called g (filter_map_callee s) (x, tt) r q → (q ≡ filter_map_callee s) × (r ≡ pick (see x.now)))
    → AlwaysYields (filter_map_steps steps g) (λ piece. piece) s (filter_map pick (map see slots))
slots_yield {S} {A} {B} {C} {F} steps see rest none some g pick s t slots from are picks =
    let none' : (a b : S) → steps a None b → length (map see (rest a)) ≡ 0 = λ a b h. length-map (rest a) see ∙ none a b h in
    let some' : (a : S) (x : MutBor A) (b : S) → steps a (Some x) b → map see (rest a) ≡ see x.now ∷ map see (rest b) = λ a x b h. ap (map see) (some a x b h) in
    (YieldsList-from_filter_map {steps = steps} {v = λ y. see y.now} {ys = map see slots} {s = s} g pick
    (subst (λ (l : List B). YieldsList steps (λ y. see y.now) (filter_map_source s) l) (ap (λ (u : S). map see (rest u)) from ∙ ap (map see) are)
    (YieldsList-from_shown steps (λ y. see y.now) (λ (u : S). map see (rest u)) none' some' (filter_map_source s))) refl picks).runs
