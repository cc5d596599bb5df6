-- A job that is cut chunk after chunk, and the room of its chunks.
use Rattle.std.proofs.Common.{◌≡◌, ◌≢◌, ℕ, ◌+◌, ◌-◌, ◌*◌, ◌/◌, ◌%◌, ◌<◌, ◌≤◌, min, List, [], ◌∷◌, ◌++◌, length, All, refl, ap, sym, ◌∙◌, subst, arith, append_assoc, length-append, unwrap_or, option_map, not}
use Rattle.std.specs.Prelude.{nat_eq, nat_lt}
use Rattle.std.proofs.lemmas.Bool.{or_parts}
use Rattle.std.proofs.lemmas.Bool.Decides.{nat_tests}
use Rattle.std.proofs.lemmas.Grind.{div_ceil_times}
use Rattle.std.proofs.lemmas.List.{append-nil}
use Rattle.std.proofs.lemmas.List.Elements.{All-nil, All-push}
use Rattle.std.proofs.Math.Nat.{mul-le-mul_right}
use Rattle.std.specs.Int.{div_ceil}
use Rattle.dml_types.specs.declared.jobs.Job.{Job}
use Rattle.dml_types.specs.declared.operations.Op.{Op}
use Rattle.dml_types.specs.declared.operations.Op.TheVariants.{NoOp, Move, Fill, Compare, ComparePattern, CreateDelta, ApplyDelta, Dualcast}
use Rattle.dml_types.specs.Refusal.{need, operation_need}
use Rattle.dml_types.specs.Chunk.{chunk_units}
use Rattle.dml_desc.specs.Checked.{KeepsRules, operation_of}
use Rattle.dml_arena.specs.Piece.{Piece}
use Rattle.dml_effect.specs.Chunks.{AreChunksFrom}
use Rattle.dml_levels.specs.Tasks.{IsChunk, task_count, task_count_by}
use Rattle.dml_pool.specs.declared.tasks.Task.{Task}
use Rattle.dml_pool.specs.Tasks.{units, room_for, IsRunnable}
use Rattle.dml_wave.specs.Tasks.{IsTaskFrom, AddsTasks}
use Rattle.dml_wave.proofs.Chunks.{LastIsBefore, last_pushed, chunks_pushed}

-- Chunks and units
below_by : (n piece number : ℕ) → 0 < piece → number < div_ceil n piece → number * piece < n
below_by n piece number some below =
    let more = mul-le-mul_right piece (let e : number + 1 ≤ div_ceil n piece = omega arith in e) in
    omega (arith, more, (div_ceil_times n piece some).1)

below_blocks : (size chunk number : ℕ) → size % 8 ≡ 0 → IsChunk chunk → number < div_ceil size chunk → number * (chunk / 8) < size / 8
below_blocks size chunk number whole valid below =
    let here = below_by size chunk number (omega (arith, valid.least)) below in
    let blocks : chunk ≡ chunk / 8 * 8 = omega (arith, valid.whole_words) in
    omega (arith, here, ap (λ (c : ℕ). number * c) blocks)

ends_blocks : (size chunk : ℕ) → IsChunk chunk → size / 8 ≤ div_ceil size chunk * (chunk / 8)
ends_blocks size chunk valid =
    let all = (div_ceil_times size chunk (omega (arith, valid.least))).0 in
    let blocks : chunk ≡ chunk / 8 * 8 = omega (arith, valid.whole_words) in
    omega (arith, all, ap (λ (c : ℕ). div_ceil size chunk * c) blocks)

whole_blocks : (job : Job) → KeepsRules CreateDelta job → job.size % 8 ≡ 0
whole_blocks job rules =
    let odd = (or_parts (nat_lt 524288 job.size) (not (nat_eq (job.size % 8) 0)) rules.size).1 in grind (arith, nat_tests, odd)

-- a chunk that there is begins below the job's end
pub begins_below : (op : Op) (job : Job) (chunk number : ℕ) → KeepsRules op job → IsChunk chunk
    → number < task_count_by op job chunk → number * chunk_units op chunk < units op job
begins_below NoOp job chunk number rules valid below = absurd (omega (arith, below))
begins_below Move job chunk number rules valid below = below_by job.size chunk number (omega (arith, valid.least)) below
begins_below Fill job chunk number rules valid below = below_by job.size chunk number (omega (arith, valid.least)) below
begins_below Compare job chunk number rules valid below = below_by job.size chunk number (omega (arith, valid.least)) below
begins_below ComparePattern job chunk number rules valid below = below_by job.size chunk number (omega (arith, valid.least)) below
begins_below CreateDelta job chunk number rules valid below =
    below_blocks job.size chunk number (whole_blocks job rules) valid below
begins_below ApplyDelta job chunk number rules valid below =
    below_by (job.delta_size / 10) (chunk / 8) number (omega (arith, valid.least)) below
begins_below Dualcast job chunk number rules valid below = below_by job.size chunk number (omega (arith, valid.least)) below

-- and all of them reach it
pub reach_end : (op : Op) (job : Job) (chunk : ℕ) → IsChunk chunk → units op job ≤ task_count_by op job chunk * chunk_units op chunk
reach_end NoOp job chunk valid = omega arith
reach_end Move job chunk valid = (div_ceil_times job.size chunk (omega (arith, valid.least))).0
reach_end Fill job chunk valid = (div_ceil_times job.size chunk (omega (arith, valid.least))).0
reach_end Compare job chunk valid = (div_ceil_times job.size chunk (omega (arith, valid.least))).0
reach_end ComparePattern job chunk valid = (div_ceil_times job.size chunk (omega (arith, valid.least))).0
reach_end CreateDelta job chunk valid = ends_blocks job.size chunk valid
reach_end ApplyDelta job chunk valid = (div_ceil_times (job.delta_size / 10) (chunk / 8) (omega (arith, valid.least))).0
reach_end Dualcast job chunk valid = (div_ceil_times job.size chunk (omega (arith, valid.least))).0

-- Room
pub room_split : (op : Op) (from to : ℕ) → from ≤ to → room_for op to ≡ room_for op from + room_for op (to - from)
room_split NoOp from to order = omega arith
room_split Move from to order = omega arith
room_split Fill from to order = omega arith
room_split Compare from to order = omega arith
room_split ComparePattern from to order = omega arith
room_split CreateDelta from to order = omega arith
room_split ApplyDelta from to order = omega arith
room_split Dualcast from to order = omega arith

room_none : (op : Op) → room_for op 0 ≡ 0
room_none NoOp = refl
room_none Move = refl
room_none Fill = refl
room_none Compare = refl
room_none ComparePattern = refl
room_none CreateDelta = refl
room_none ApplyDelta = refl
room_none Dualcast = refl

room_within : (op : Op) (job : Job) → room_for op (units op job) ≤ operation_need op job
room_within NoOp job = omega arith
room_within Move job = omega arith
room_within Fill job = omega arith
room_within Compare job = omega arith
room_within ComparePattern job = omega arith
room_within CreateDelta job = omega arith
room_within ApplyDelta job = omega arith
room_within Dualcast job = omega arith

pub need_at : (op : Op) (job : Job) → KeepsRules op job → need job ≡ operation_need op job
need_at op job rules = ap (λ o. unwrap_or (option_map (λ p. operation_need p job) o) 0) rules.operation

pub count_at : (op : Op) (job : Job) (chunk : ℕ) → KeepsRules op job → task_count job chunk ≡ task_count_by op job chunk
count_at op job chunk rules = ap (λ o. unwrap_or (option_map (λ p. task_count_by p job chunk) o) 0) rules.operation

pub operation_at : (op : Op) (job : Job) → KeepsRules op job → operation_of job ≡ op
operation_at op job rules = ap (λ o. unwrap_or o NoOp) rules.operation

abbrev pub task_end : Task → ℕ
task_end task = task.to

abbrev pub task_room : Task → Piece
task_room task = task.room

-- the first chunks of a job stand behind a list, up to an offset, and this much of its room is left
pub record IsCutUpTo (op : Op) (job : Job) (chunk number from whole : ℕ) (rest : Piece) (old now : List Task) : Type 0 where
  pub mine : List Task
  pub list : now ≡ old ++ mine
  pub count : length mine ≡ number
  pub chunks : AreChunksFrom (IsTaskFrom job chunk) task_end task_room from 0 mine
  pub behind : LastIsBefore task_room mine rest
  pub runnable : All IsRunnable mine
  pub offset : from ≡ min (units op job) (number * chunk_units op chunk)
  pub empty : rest.bytes ≡ []
  pub room : rest.room + room_for op from ≡ whole

pub cut_none : (op : Op) (job : Job) (chunk from : ℕ) (room : Piece) (old : List Task) → from ≡ 0 → room.bytes ≡ []
    → IsCutUpTo op job chunk 0 from room.room room old old
cut_none op job chunk from room old zero empty = record {
  mine = [];
  list = sym (append-nil old);
  count = refl;
  chunks = sym zero;
  behind = tt;
  runnable = All-nil IsRunnable;
  offset = omega (arith, zero);
  empty = empty;
  room = ap (λ (n : ℕ). room.room + room_for op n) zero ∙ omega (arith, room_none op);
}

-- there is room for the next chunk
pub cut_fits : (op : Op) (job : Job) (chunk number from whole n to : ℕ) (rest : Piece) (old now : List Task) → KeepsRules op job
    → need job ≤ whole → IsCutUpTo op job chunk number from whole rest old now
    → to ≡ min (units op job) (from + chunk_units op chunk) → n ≡ room_for op (to - from) → n ≤ rest.room
cut_fits op job chunk number from whole n to rest old now rules fits cut end room =
    let first : from ≤ to = omega (arith, cut.offset, end) in
    let last : to ≤ units op job = omega (arith, end) in
    omega (arith, room, fits, cut.room, need_at op job rules, room_within op job, room_split op from to first, room_split op to (units op job) last)

is_some_op : (op : Op) (job : Job) (chunk number : ℕ) → number < task_count_by op job chunk → op ≢ NoOp
is_some_op NoOp job chunk number below = absurd (omega (arith, below))
is_some_op Move job chunk number below = λ same. cc
is_some_op Fill job chunk number below = λ same. cc
is_some_op Compare job chunk number below = λ same. cc
is_some_op ComparePattern job chunk number below = λ same. cc
is_some_op CreateDelta job chunk number below = λ same. cc
is_some_op ApplyDelta job chunk number below = λ same. cc
is_some_op Dualcast job chunk number below = λ same. cc

pub cut_more : (op : Op) (job : Job) (chunk number from whole n to : ℕ) (rest front back : Piece) (old now : List Task)
    → KeepsRules op job → IsChunk chunk → need job ≤ whole → number < task_count job chunk
    → IsCutUpTo op job chunk number from whole rest old now
    → to ≡ min (units op job) (from + chunk_units op chunk) → n ≡ room_for op (to - from)
    → (front.opening ≡ rest.opening) × (back.opening ≡ rest.opening)
    → (front.start ≡ rest.start) × (front.room ≡ n) × (front.bytes ≡ [])
    → (back.start ≡ rest.start + n) × (back.room ≡ rest.room - n) × (back.bytes ≡ [])
    → IsCutUpTo op job chunk (number + 1) to whole back old (now ++ record { job = job; from = from; to = to; room = front } ∷ [])
cut_more op job chunk number from whole n to rest front back old now rules valid fits below cut end room opening ahead left =
    let task : Task = record { job = job; from = from; to = to; room = front } in
    let some : number < task_count_by op job chunk = omega (arith, below, count_at op job chunk rules) in
    let begins = begins_below op job chunk number rules valid some in
    let first : from ≤ to = omega (arith, cut.offset, end) in
    let last : to ≤ units op job = omega (arith, end) in
    let same = operation_at op job rules in
    let enough = cut_fits op job chunk number from whole n to rest old now rules fits cut end room in
    let ends : to ≡ min (units (operation_of job) job) (from + chunk_units (operation_of job) chunk) =
    subst (λ (o : Op). to ≡ min (units o job) (from + chunk_units o chunk)) (sym same) end in
    let runnable : IsRunnable task = record {
      operation = subst (λ (o : Op). o ≢ NoOp) (sym same) (is_some_op op job chunk number some);
      order = first;
      within = subst (λ (o : Op). to ≤ units o job) (sym same) last;
      empty = ahead.2;
      fits = subst (λ (o : Op). room_for o (to - from) ≤ front.room) (sym same) (omega (arith, room, ahead.1));
    } in record {
      mine = cut.mine ++ task ∷ [];
      list = ap (λ (list : List Task). list ++ task ∷ []) cut.list ∙ append_assoc old cut.mine (task ∷ []);
      count = omega (arith, length-append cut.mine (task ∷ []), cut.count);
      chunks =
          chunks_pushed (IsTaskFrom job chunk) task_end task_room 0 from cut.mine task cut.chunks
          (record { of = refl; begins = refl; order = first; ends = ends })
          (before rest front cut.mine cut.behind opening.0 ahead.0);
      behind =
          last_pushed (IsTaskFrom job chunk) task_end task_room cut.mine task back
          (opening.1 ∙ sym opening.0, omega (arith, left.0, ahead.0, ahead.1));
      runnable = All-push IsRunnable cut.mine task cut.runnable runnable;
      offset = omega (arith, end, cut.offset, begins);
      empty = left.2;
      room = omega (arith, left.1, enough, cut.room, room, room_split op from to first);
    }
  where
    before : (rest front : Piece) (mine : List Task) → LastIsBefore task_room mine rest → front.opening ≡ rest.opening
        → front.start ≡ rest.start → LastIsBefore task_room mine front
    before rest front [] behind opening start = tt
    before rest front (task ∷ []) behind opening start = (opening ∙ behind.0, start ∙ behind.1)
    before rest front (task ∷ second ∷ mine) behind opening start = before rest front (second ∷ mine) behind opening start

-- after the last chunk the tasks of the whole job stand there
pub cut_all : (op : Op) (job : Job) (chunk number from whole : ℕ) (rest : Piece) (old now : List Task) → KeepsRules op job → IsChunk chunk
    → number ≡ task_count job chunk → IsCutUpTo op job chunk number from whole rest old now → AddsTasks job chunk old now
cut_all op job chunk number from whole rest old now rules valid all cut =
    let same = operation_at op job rules in
    let count : number ≡ task_count_by op job chunk = all ∙ count_at op job chunk rules in
    let reach : units op job ≤ number * chunk_units op chunk =
    subst (λ (k : ℕ). units op job ≤ k * chunk_units op chunk) (sym count) (reach_end op job chunk valid) in
    let end : from ≡ units op job = omega (arith, cut.offset, reach) in record {
      mine = cut.mine;
      list = cut.list;
      count = cut.count ∙ all;
      tasks =
          subst (λ (last : ℕ). AreChunksFrom (IsTaskFrom job chunk) task_end task_room last 0 cut.mine)
          (end ∙ ap (λ (o : Op). units o job) (sym same)) cut.chunks;
      runnable = cut.runnable;
    }

-- with what it needs of the room
pub cut_left : (op : Op) (job : Job) (chunk number from whole : ℕ) (rest : Piece) (old now : List Task) → KeepsRules op job
    → IsCutUpTo op job chunk number from whole rest old now → whole ≤ rest.room + need job
cut_left op job chunk number from whole rest old now rules cut =
    let last : from ≤ units op job = omega (arith, cut.offset) in
    omega (arith, cut.room, need_at op job rules, room_within op job, room_split op from (units op job) last)
