-- What is said of a worker's pass and outcomes has one proof at most, so it may be kept of a value under a lock. These
-- are lemmas: no contract says anything by them.
use Rattle.std.specs.Prelude.{◌≡◌, ℕ, List, Option, Some, None, IsNone, is_some}
use Rattle.std.specs.Global.{Global}
use Rattle.std.specs.contracts.alloc.Global as global
use Rattle.crossbeam_deque.specs.Handles.{Pass, IsPassOf}
use Rattle.std.specs.Coded.{Coded, Coded-set, coded_ℕ, coded_list, coded×, coded_option, code_by, ×_prop, Π_prop}
use Rattle.std.specs.List.{slice_get}
use mathlib.Core.Path.{refl, sym, ap, ◌∙◌, path_j'}
use mathlib.Core.Bool.{Bool-set, true≢false}
use mathlib.Core.HLevel.{⊥_prop}
use Rattle.std.specs.Option.{IsSomeAnd-prop}
use Rattle.dml_types.specs.declared.operations.Op.{Op}
use Rattle.dml_types.specs.declared.operations.Op.TheVariants.{NoOp, CreateDelta, ApplyDelta}
use Rattle.dml_types.specs.contracts.findings.Found as found
use Rattle.dml_types.specs.contracts.statuses.Status as status
use Rattle.dml_types.specs.declared.statuses.Status.{Status}
use Rattle.dml_types.specs.contracts.jobs.Job as job
use Rattle.dml_types.specs.declared.jobs.Job.{Job}
use Rattle.dml_types.specs.Effect.{Fault}
use Rattle.dml_types.specs.Memory.{Memory}
use Rattle.dml_desc.specs.Checked.{operation_of}
use Rattle.dml_arena.specs.Piece.{SamePlace}
use Rattle.dml_arena.specs.Piece as region
use Rattle.dml_scan.specs.declared.scans.ScanPiece.{ScanPiece}
use Rattle.dml_delta.specs.declared.applies.ApplyPiece.{ApplyPiece}
use Rattle.dml_delta.specs.declared.creates.CreatePiece.{CreatePiece}
use Rattle.dml_pool.specs.declared.rule.Hand.{Hand}
use Rattle.dml_pool.specs.declared.tasks.Outcome.{Outcome}
use Rattle.dml_pool.specs.declared.tasks.Task.{Task}
use Rattle.dml_pool.specs.declared.tasks.Piece.{Piece}
use Rattle.dml_pool.specs.declared.tasks.Piece.TheVariants.{Scan, Create, Apply}
use Rattle.dml_pool.specs.Rule.{Accounts, IsDone}
use Rattle.dml_pool.specs.Tasks.{IsScanned, IsCreated, IsApplied, IsOperationValue, IsTaskValue}

pub number_set : IsSet ℕ
number_set = Coded-set coded_ℕ

numbers_set : IsSet (List ℕ)
numbers_set = Coded-set (coded_list coded_ℕ)

coded_fault : Coded Fault
coded_fault = code_by (Status × ℕ) (coded× status.the_row.coded coded_ℕ) (λ f. (f.status, f.address)) (λ p. record { status = p.0; address = p.1 }) (λ _. refl)

SamePlace-prop : (old new : region.Piece) → IsProp (SamePlace old new)
SamePlace-prop old new a b = λ i. record {
  opening = number_set _ _ a.opening b.opening i;
  start = number_set _ _ a.start b.start i;
  room = number_set _ _ a.room b.room i;
}

IsScanned-prop : (op : Op) (memory : Memory) (task : Task) (piece : ScanPiece) → IsProp (IsScanned op memory task piece)
IsScanned-prop op memory task piece a b = λ i. record {
  chunk = ×_prop (number_set _ _) (number_set _ _) a.chunk b.chunk i;
  found = Coded-set found.the_row.coded _ _ a.found b.found i;
  staged = numbers_set _ _ a.staged b.staged i;
  place = SamePlace-prop _ _ a.place b.place i;
}

IsCreated-prop : (memory : Memory) (task : Task) (piece : CreatePiece) → IsProp (IsCreated memory task piece)
IsCreated-prop memory task piece a b = λ i. record {
  chunk = ×_prop (number_set _ _) (number_set _ _) a.chunk b.chunk i;
  fault = Coded-set (coded_option (coded× coded_ℕ coded_ℕ)) _ _ a.fault b.fault i;
  staged = numbers_set _ _ a.staged b.staged i;
  place = SamePlace-prop _ _ a.place b.place i;
}

IsApplied-prop : (memory : Memory) (task : Task) (piece : ApplyPiece) → IsProp (IsApplied memory task piece)
IsApplied-prop memory task piece a b = λ i. record {
  chunk = ×_prop (number_set _ _) (number_set _ _) a.chunk b.chunk i;
  bad = Coded-set (coded_option (coded× coded_ℕ coded_fault)) _ _ a.bad b.bad i;
  first = Coded-set (coded_option coded_ℕ) _ _ a.first b.first i;
  last = Coded-set (coded_option coded_ℕ) _ _ a.last b.last i;
  staged = numbers_set _ _ a.staged b.staged i;
  place = SamePlace-prop _ _ a.place b.place i;
}

IsOperationValue-prop : (op : Op) (memory : Memory) (task : Task) (piece : Piece) → IsProp (IsOperationValue op memory task piece)
IsOperationValue-prop NoOp memory task piece = ⊥_prop
IsOperationValue-prop CreateDelta memory task (Create piece) = IsCreated-prop memory task piece
IsOperationValue-prop CreateDelta memory task (Scan piece) = ⊥_prop
IsOperationValue-prop CreateDelta memory task (Apply piece) = ⊥_prop
IsOperationValue-prop ApplyDelta memory task (Apply piece) = IsApplied-prop memory task piece
IsOperationValue-prop ApplyDelta memory task (Scan piece) = ⊥_prop
IsOperationValue-prop ApplyDelta memory task (Create piece) = ⊥_prop
IsOperationValue-prop op memory task (Scan piece) = IsScanned-prop op memory task piece
IsOperationValue-prop op memory task piece = ⊥_prop

pub IsDone-prop : (memory : Memory) (tasks : List Task) (outcome : Outcome) → IsProp (IsDone memory tasks outcome)
IsDone-prop memory tasks outcome =
    IsSomeAnd-prop (slice_get tasks outcome.task) (λ task. IsTaskValue memory task outcome.piece)
    (λ task. IsOperationValue-prop (operation_of task.job) memory task outcome.piece)

pub Accounts-prop : (memory : Memory) (v : Hand) (outcomes : List Outcome) → IsProp (Accounts memory v outcomes)
Accounts-prop memory v outcomes a b = λ i. record {
  taken = numbers_set _ _ a.taken b.taken i;
  done = Π_prop (λ k. Π_prop (λ d. Π_prop (λ inside. IsDone-prop memory v.tasks _))) a.done b.done i;
}

coded_region : Coded region.Piece
coded_region =
    code_by (ℕ × (ℕ × (ℕ × (List ℕ × ℕ)))) (coded× coded_ℕ (coded× coded_ℕ (coded× coded_ℕ (coded× (coded_list coded_ℕ) coded_ℕ))))
    (λ r. (r.opening, (r.start, (r.room, (r.bytes, r.tie)))))
    (λ t. record { opening = t.0; start = t.1.0; room = t.1.1.0; bytes = t.1.1.1.0; tie = t.1.1.1.1 })
    (λ _. refl)

coded_task : Coded Task
coded_task =
    code_by (Job × (ℕ × (ℕ × region.Piece))) (coded× job.the_row.coded (coded× coded_ℕ (coded× coded_ℕ coded_region)))
    (λ t. (t.job, (t.from, (t.to, t.room))))
    (λ t. record { job = t.0; from = t.1.0; to = t.1.1.0; room = t.1.1.1 })
    (λ _. refl)

pub tasks_set : IsSet (List Task)
tasks_set = Coded-set (coded_list coded_task)

module _ {X : Type 0} where
  abbrev decode : (o : Option X) → IsNone o → o ≡ None
  decode None none = refl
  decode (Some x) none = absurd (true≢false none)

  pub none_prop : (o : Option X) → IsProp (o ≡ None)
  none_prop o p q =
      let again : (r : o ≡ None) → decode o (ap is_some r) ≡ r =
      λ r. path_j' (λ x e. decode x (ap is_some e) ≡ e) refl r in
      sym (again p) ∙ ap (decode o) (Bool-set _ _ (ap is_some p) (ap is_some q)) ∙ again q

heap_set : IsSet Global
heap_set = Coded-set global.the_row.coded

module _ {T V : Type 0} where
  pub IsPassOf-prop : (deque : (ℕ × ℕ) × Global) (p : Pass T V Global) → IsProp (IsPassOf deque p)
  IsPassOf-prop deque p a b = λ i. (
    Coded-set (coded× coded_ℕ coded_ℕ) p.rows deque.0 a.0 b.0 i,
    heap_set p.heap deque.1 a.1 b.1 i,
    none_prop p.me.hand a.2 b.2 i,
    none_prop p.me.spare a.3 b.3 i,
  )
