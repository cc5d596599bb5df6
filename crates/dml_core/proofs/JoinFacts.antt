-- The pieces that carry a job's kept values are those that the joins of effects take.
use Rattle.std.proofs.Common.{◌≡◌, ◌≢◌, ℕ, ◌+◌, ◌*◌, ◌/◌, ◌%◌, ◌<◌, ◌≤◌, min, zero, suc, Bool, true, false, not, cond, List, [], ◌∷◌, get_or, map, drop, refl, sym, ◌∙◌, ap, subst, arith, Option, None, Some, option_map, unwrap_or}
use Rattle.std.specs.Prelude.{nat_eq, nat_lt, is_some}
use Rattle.std.specs.List.{AllZip, range_with_len}
use Rattle.std.specs.Int.{div_ceil}
use Rattle.std.proofs.lemmas.Bool.{or_parts, false≢true}
use Rattle.std.proofs.lemmas.Bool.Decides.{nat_tests}
use Rattle.std.proofs.lemmas.Grind.{div_ceil_times}
use Rattle.std.proofs.Math.Nat.{mul-le-mul_right}
use Rattle.dml_types.specs.declared.findings.Found.{Found}
use Rattle.dml_types.specs.declared.findings.Found.TheVariants.{All as Passed}
use Rattle.dml_types.specs.declared.statuses.Status.{Status}
use Rattle.dml_types.specs.declared.operations.Op.TheVariants.{Move, Fill, Compare, ComparePattern, Dualcast}
use Rattle.dml_types.specs.Chunk.{chunk_units, units, scan_found, scan_staged, create_fault, create_staged, apply_bad, apply_first, apply_last, apply_staged}
use Rattle.dml_types.specs.Effect.{Fault}
use Rattle.dml_types.specs.Job.{op_of}
use Rattle.dml_types.specs.Limits.{IsChunk, IsValid}
use Rattle.dml_types.specs.Memory.{Memory}
use Rattle.dml_types.specs.Refusal.{refusal}
use Rattle.dml_desc.specs.Checked.{KeepsRules, operation_of}
use Rattle.dml_desc.proofs.CheckedLemmas.{rules_kept_at, unfenced_where_accepted}
use Rattle.dml_arena.specs.Piece.{Piece}
use Rattle.dml_scan.specs.declared.scans.ScanPiece.{ScanPiece}
use Rattle.dml_delta.specs.declared.applies.ApplyPiece.{ApplyPiece}
use Rattle.dml_delta.specs.declared.creates.CreatePiece.{CreatePiece}
use Rattle.dml_delta.specs.Bad.{bad_of}
use Rattle.dml_effect.specs.Chunks.{AreChunksFrom, AreScans, GoesByOffsets, IsApplyFrom, IsCreateFrom, IsScanFrom, scan_size}
use Rattle.dml_levels.specs.Tasks.{task_count, task_count_by}
use Rattle.dml_levels.specs.Waves.{job_at}
use Rattle.dml_core.specs.Types.{Job, Settings, Op, NoOp, CreateDelta, ApplyDelta, Fetched, Task}
use Rattle.dml_core.specs.Plan.{entry_at, jobs_of, is_refused, task_for, chunks_of}
use Rattle.dml_core.specs.World.{Value, Nothing, Scanned, Created, Applied, operation_value, task_value, World}
use Rattle.dml_core.specs.Laws.{Keeps, kept_value, job_tasks}
use Rattle.dml_core.specs.Joins.{CarriesScan, CarriesCreate, CarriesApply, AreNeighbours, KeptMeetJoins, CommitsAreSteps}
use Rattle.dml_core.proofs.FoldLemmas.{job_entry}
use Rattle.dml_core.proofs.KeepsLemmas.{core_keeps, each_has_its_values, kept_join_to_step}

-- how many chunks reach a job's end
below_by : (n piece number : ℕ) → 0 < piece → number < div_ceil n piece → number * piece < n
below_by n piece number some below =
    let more = mul-le-mul_right piece (let e : number + 1 ≤ div_ceil n piece = omega arith in e) in
    omega (arith, more, (div_ceil_times n piece some).1)

pub record Reaches (count size last : ℕ) : Type 0 where
  pub inside : (k : ℕ) → k < count → k * size < last
  pub whole : last ≤ count * size

reaches_by : (n piece : ℕ) → 0 < piece → Reaches (div_ceil n piece) piece n
reaches_by n piece some = record { inside = λ k. below_by n piece k some; whole = (div_ceil_times n piece some).0 }

reaches_blocks : (size chunk : ℕ) → size % 8 ≡ 0 → IsChunk chunk → Reaches (div_ceil size chunk) (chunk / 8) (size / 8)
reaches_blocks size chunk whole valid =
    let blocks : chunk ≡ chunk / 8 * 8 = omega (arith, valid.whole_words) in
    let all = (div_ceil_times size chunk (omega (arith, valid.least))).0 in record {
      inside = λ k below. (
          let here = below_by size chunk k (omega (arith, valid.least)) below in
          omega (arith, here, whole, ap (λ (c : ℕ). k * c) blocks));
      whole = omega (arith, all, ap (λ (c : ℕ). div_ceil size chunk * c) blocks);
    }

whole_blocks : (job : Job) → KeepsRules CreateDelta job → job.size % 8 ≡ 0
whole_blocks job rules =
    let odd = (or_parts (nat_lt 524288 job.size) (not (nat_eq (job.size % 8) 0)) rules.size).1 in grind (arith, nat_tests, odd)

reaches_end : (op : Op) (job : Job) (chunk : ℕ) → KeepsRules op job → IsChunk chunk → Reaches (task_count_by op job chunk) (chunk_units op chunk) (units op job)
reaches_end NoOp job chunk rules valid = record { inside = λ k below. absurd (omega (arith, below)); whole = omega arith }
reaches_end Move job chunk rules valid = reaches_by job.size chunk (omega (arith, valid.least))
reaches_end Fill job chunk rules valid = reaches_by job.size chunk (omega (arith, valid.least))
reaches_end Compare job chunk rules valid = reaches_by job.size chunk (omega (arith, valid.least))
reaches_end ComparePattern job chunk rules valid = reaches_by job.size chunk (omega (arith, valid.least))
reaches_end CreateDelta job chunk rules valid = reaches_blocks job.size chunk (whole_blocks job rules) valid
reaches_end ApplyDelta job chunk rules valid = reaches_by (job.delta_size / 10) (chunk / 8) (omega (arith, valid.least))
reaches_end Dualcast job chunk rules valid = reaches_by job.size chunk (omega (arith, valid.least))

-- pieces that fit a job's tasks, one after another
module _ {P : Type 0} (IsValueFrom : ℕ → P → Type 0) (end : P → ℕ) (region : P → Piece) (Fits : Task → P → Type 0)
    (fits : (task : Task) (piece : P) → task.from ≤ task.to → Fits task piece → IsValueFrom task.from piece × (end piece ≡ task.to)) where
  chunks_from : (i size last k n : ℕ) (pieces : List P) → ((m : ℕ) → m < k + n → m * size < last) → last ≤ (k + n) * size
      → AllZip Fits (map (task_for i size last) (range_with_len k n)) pieces → AreNeighbours region pieces
      → AreChunksFrom IsValueFrom end region last (min (k * size) last) pieces
  chunks_from i size last k zero [] inside whole all near = omega (arith, whole, ap (λ (m : ℕ). m * size) (let e : k + 0 ≡ k = omega arith in e))
  chunks_from i size last k zero (piece ∷ pieces) inside whole all near = absurd all
  chunks_from i size last k (suc n) [] inside whole all near = absurd all
  chunks_from i size last k (suc n) (piece ∷ pieces) inside whole all near =
      let here : k * size < last = inside k (omega arith) in
      let next : (k + 1) * size ≡ k * size + size = omega (arith, add_one k size) in
      let same : k + 1 + n ≡ k + suc n = omega arith in
      let task = task_for i size last k in
      let value = fits task piece (omega (arith, here)) all.0 in
      let first : min (k * size) last ≡ task.from = omega (arith, here) in
      let last_end : min ((k + 1) * size) last ≡ end piece = omega (arith, next) ∙ sym value.1 in (
        subst (λ (from : ℕ). IsValueFrom from piece) (sym first) value.0,
        near.0,
        subst (λ (from : ℕ). AreChunksFrom IsValueFrom end region last from pieces) last_end
            (chunks_from i size last (k + 1) n pieces (λ m below. inside m (omega (arith, below, same)))
            (subst (λ (m : ℕ). last ≤ m * size) (sym same) whole) all.1 near.1),
      )
    where
      add_one : (k size : ℕ) → (k + 1) * size ≡ k * size + size
      add_one k size = grind arith

  all_chunks : (op : Op) (job : Job) (chunk i : ℕ) (pieces : List P) → op_of job ≡ Some op → KeepsRules op job → IsChunk chunk
      → AllZip Fits (map (task_for i (chunk_units op chunk) (units op job)) (range_with_len 0 (task_count job chunk))) pieces
      → AreNeighbours region pieces → AreChunksFrom IsValueFrom end region (units op job) 0 pieces
  all_chunks op job chunk i pieces operation rules valid all near =
      let count : task_count job chunk ≡ task_count_by op job chunk =
      ap (λ o. unwrap_or (option_map (λ p. task_count_by p job chunk) o) 0) operation in
      let reach = reaches_end op job chunk rules valid in
      let size = chunk_units op chunk in
      let n : task_count_by op job chunk ≡ 0 + task_count job chunk = omega (arith, count) in
      let first : min (0 * size) (units op job) ≡ 0 = omega (arith, none_of size) in
      subst (λ (from : ℕ). AreChunksFrom IsValueFrom end region (units op job) from pieces) first
      (chunks_from i size (units op job) 0 (task_count job chunk) pieces
      (λ m below. reach.inside m (omega (arith, below, count)))
      (subst (λ (k : ℕ). units op job ≤ k * size) n reach.whole) all near)
    where
      none_of : (size : ℕ) → 0 * size ≡ 0
      none_of size = omega arith

-- what was kept with the tasks of a job, by its operation
by_kept : {P : Type 0} (Fits : Option Value → Task → P → Type 0) (f g : Task → Option Value) (tasks : List Task) (pieces : List P)
    → map f tasks ≡ map g tasks → AllZip (λ task piece. Fits (f task) task piece) tasks pieces
    → AllZip (λ task piece. Fits (g task) task piece) tasks pieces
by_kept Fits f g [] [] same all = all
by_kept Fits f g [] (piece ∷ pieces) same all = absurd all
by_kept Fits f g (task ∷ tasks) [] same all = absurd all
by_kept Fits f g (task ∷ tasks) (piece ∷ pieces) same all = (
  subst (λ (v : Option Value). Fits v task piece) (ap (λ (list : List (Option Value)). get_or list 0 None) same) all.0,
  by_kept Fits f g tasks pieces (ap (drop 1) same) all.1,
)

by_place : (fetched : List Fetched) (memory : Memory) (i size last : ℕ) (ks : List ℕ)
    → map (λ task. Some (task_value fetched memory task)) (map (task_for i size last) ks)
    ≡ map (λ (task : Task). Some (operation_value (operation_of (entry_at fetched i).job) memory (entry_at fetched i).job task.from task.to)) (map (task_for i size last) ks)
by_place fetched memory i size last [] = refl
by_place fetched memory i size last (k ∷ ks) =
    ap (λ (list : List (Option Value)). Some (task_value fetched memory (task_for i size last k)) ∷ list) (by_place fetched memory i size last ks)

abbrev OfChunk : {P : Type 0} → (P → ℕ) → (P → ℕ) → (P → Value) → Option Value → Task → P → Type 0
OfChunk from to carried value task piece = (from piece ≡ task.from) × (to piece ≡ task.to) × (value ≡ Some (carried piece))

-- the tasks of an accepted job, and what is kept with each, by its operation
module _ {P : Type 0} (from to : P → ℕ) (carried : P → Value) (region : P → Piece) (op : Op) (IsValueFrom : Memory → Job → ℕ → P → Type 0)
    (is_value : (memory : Memory) (job : Job) (task : Task) (piece : P) → task.from ≤ task.to
    → OfChunk from to carried (Some (operation_value op memory job task.from task.to)) task piece → IsValueFrom memory job task.from piece) where
  kept_chunks : (w : World) (i : ℕ) (pieces : List P) → IsValid w.settings → is_refused (jobs_of w.fetched) w.settings.staging i ≡ false
      → op_of (entry_at w.fetched i).job ≡ Some op
      → map (kept_value w) (job_tasks w i) ≡ map (λ task. Some (task_value w.fetched w.image task)) (job_tasks w i)
      → AllZip (λ task piece. OfChunk from to carried (kept_value w task) task piece) (job_tasks w i) pieces → AreNeighbours region pieces
      → AreChunksFrom (IsValueFrom w.image (entry_at w.fetched i).job) to region (units op (entry_at w.fetched i).job) 0 pieces
  kept_chunks w i pieces valid accepted operation same all near =
      let job = (entry_at w.fetched i).job in
      let chunk = w.settings.chunk in
      let staging = w.settings.staging in
      let is_job = job_entry w.fetched i in
      let none = no_status (refusal job staging)
      (ap (λ (j : Job). is_some (refusal j staging)) (sym is_job) ∙ accepted) in
      let rules = rules_kept_at job staging op operation (ap (λ (j : Job). refusal j staging) (unfenced_where_accepted job staging none) ∙ none) in
      let known : operation_of job ≡ op = ap (λ o. unwrap_or o NoOp) operation in
      let list : List ℕ = range_with_len 0 (task_count job chunk) in
      let tasks : List Task = map (task_for i (chunk_units op chunk) (units op job)) list in
      let is_tasks : job_tasks w i ≡ tasks =
      ap (λ b. cond b [] (chunks_of (operation_of (job_at (jobs_of w.fetched) i)) (job_at (jobs_of w.fetched) i) chunk i)) accepted
      ∙ (ap (λ (j : Job). chunks_of (operation_of j) j chunk i) is_job
      ∙ ap (λ (o : Op). map (task_for i (chunk_units o chunk) (units o job)) list) known) in
      let values = subst (λ (ts : List Task). map (kept_value w) ts ≡ map (λ task. Some (task_value w.fetched w.image task)) ts) is_tasks same
      ∙ (by_place w.fetched w.image i (chunk_units op chunk) (units op job) list
      ∙ ap (λ (o : Op). map (λ (task : Task). Some (operation_value o w.image job task.from task.to)) tasks) known) in
      let carried_on = by_kept (OfChunk from to carried) (kept_value w) (λ task. Some (operation_value op w.image job task.from task.to)) tasks pieces values
      (subst (λ (ts : List Task). AllZip (λ task piece. OfChunk from to carried (kept_value w task) task piece) ts pieces) is_tasks all) in
      all_chunks (IsValueFrom w.image job) to region
      (λ task piece. OfChunk from to carried (Some (operation_value op w.image job task.from task.to)) task piece)
      (λ task piece order fits. (is_value w.image job task piece order fits, fits.1))
      op job chunk i pieces operation rules valid.chunk carried_on near
    where
      no_status : (refused : Option Status) → is_some refused ≡ false → refused ≡ None
      no_status None none = refl
      no_status (Some status) none = absurd (false≢true (sym none))

-- the parts of what is kept
abbrev is_scanned : Option Value → Bool
is_scanned (Some (Scanned found staged)) = true
is_scanned other = false

abbrev found_in : Option Value → Found
found_in (Some (Scanned found staged)) = found
found_in other = Passed

abbrev staged_in : Option Value → List ℕ
staged_in (Some (Scanned found staged)) = staged
staged_in (Some (Created fault staged)) = staged
staged_in (Some (Applied bad first last staged)) = staged
staged_in other = []

abbrev fault_in : Option Value → Option (ℕ × ℕ)
fault_in (Some (Created fault staged)) = fault
fault_in other = None

abbrev bad_in : Option Value → Option (ℕ × Fault)
bad_in (Some (Applied bad first last staged)) = bad
bad_in other = None

abbrev first_in : Option Value → Option ℕ
first_in (Some (Applied bad first last staged)) = first
first_in other = None

abbrev last_in : Option Value → Option ℕ
last_in (Some (Applied bad first last staged)) = last
last_in other = None

is_scan : (op : Op) → op ≢ CreateDelta → op ≢ ApplyDelta → (memory : Memory) (job : Job) (from to : ℕ) (value : Value)
    → Some (operation_value op memory job from to) ≡ Some value → is_scanned (Some value) ≡ true
    → value ≡ Scanned (scan_found op memory job from to) (scan_staged op memory job from to)
is_scan NoOp create apply memory job from to value same scanned = absurd (false≢true (ap is_scanned same ∙ scanned))
is_scan Move create apply memory job from to value same scanned = sym (ap (λ (v : Option Value). unwrap_or v Nothing) same)
is_scan Fill create apply memory job from to value same scanned = sym (ap (λ (v : Option Value). unwrap_or v Nothing) same)
is_scan Compare create apply memory job from to value same scanned = sym (ap (λ (v : Option Value). unwrap_or v Nothing) same)
is_scan ComparePattern create apply memory job from to value same scanned = sym (ap (λ (v : Option Value). unwrap_or v Nothing) same)
is_scan CreateDelta create apply memory job from to value same scanned = absurd (create refl)
is_scan ApplyDelta create apply memory job from to value same scanned = absurd (apply refl)
is_scan Dualcast create apply memory job from to value same scanned = sym (ap (λ (v : Option Value). unwrap_or v Nothing) same)

scan_units : (op : Op) → op ≢ CreateDelta → op ≢ ApplyDelta → (job : Job) → units op job ≡ scan_size op job
scan_units NoOp create apply job = refl
scan_units Move create apply job = refl
scan_units Fill create apply job = refl
scan_units Compare create apply job = refl
scan_units ComparePattern create apply job = refl
scan_units CreateDelta create apply job = absurd (create refl)
scan_units ApplyDelta create apply job = absurd (apply refl)
scan_units Dualcast create apply job = refl

abbrev scan_of : ScanPiece → Value
scan_of piece = Scanned piece.found piece.staged.bytes

abbrev create_of : CreatePiece → Value
create_of piece = Created piece.fault piece.staged.bytes

abbrev apply_of : ApplyPiece → Value
apply_of piece = Applied (option_map bad_of piece.bad) piece.first piece.last piece.staged.bytes

kept_scans : (w : World) (i : ℕ) (op : Op) (pieces : List ScanPiece) → IsValid w.settings → is_refused (jobs_of w.fetched) w.settings.staging i ≡ false
    → op_of (entry_at w.fetched i).job ≡ Some op → GoesByOffsets (entry_at w.fetched i).job
    → map (kept_value w) (job_tasks w i) ≡ map (λ task. Some (task_value w.fetched w.image task)) (job_tasks w i)
    → AllZip (CarriesScan w) (job_tasks w i) pieces → AreNeighbours (λ piece. piece.staged) pieces
    → AreScans op w.image (entry_at w.fetched i).job pieces
kept_scans w i op pieces valid accepted operation goes same all near =
    let create : op ≢ CreateDelta = λ is. goes.0 (operation ∙ ap Some is) in
    let apply : op ≢ ApplyDelta = λ is. goes.1 (operation ∙ ap Some is) in
    subst (λ (last : ℕ). AreChunksFrom (IsScanFrom op w.image (entry_at w.fetched i).job) (λ piece. piece.to) (λ piece. piece.staged) last 0 pieces)
    (scan_units op create apply (entry_at w.fetched i).job)
    (kept_chunks (λ (piece : ScanPiece). piece.from) (λ (piece : ScanPiece). piece.to) scan_of (λ (piece : ScanPiece). piece.staged) op (λ memory job. IsScanFrom op memory job)
    (λ memory job task piece order fits. (let is = is_scan op create apply memory job task.from task.to (scan_of piece) fits.2 refl in record {
      begins = fits.0;
      order = subst (λ (to : ℕ). task.from ≤ to) (sym fits.1) order;
      found = ap (λ (v : Value). found_in (Some v)) is ∙ ap (λ (to : ℕ). scan_found op memory job task.from to) (sym fits.1);
      staged = ap (λ (v : Value). staged_in (Some v)) is ∙ ap (λ (to : ℕ). scan_staged op memory job task.from to) (sym fits.1);
    }))
    w i pieces valid accepted operation same all near)

kept_creates : (w : World) (i : ℕ) (pieces : List CreatePiece) → IsValid w.settings → is_refused (jobs_of w.fetched) w.settings.staging i ≡ false
    → op_of (entry_at w.fetched i).job ≡ Some CreateDelta
    → map (kept_value w) (job_tasks w i) ≡ map (λ task. Some (task_value w.fetched w.image task)) (job_tasks w i)
    → AllZip (CarriesCreate w) (job_tasks w i) pieces → AreNeighbours (λ piece. piece.staged) pieces
    → AreChunksFrom (IsCreateFrom w.image (entry_at w.fetched i).job) (λ piece. piece.to) (λ piece. piece.staged) ((entry_at w.fetched i).job.size / 8) 0 pieces
kept_creates w i pieces valid accepted operation same all near =
    kept_chunks (λ (piece : CreatePiece). piece.from) (λ (piece : CreatePiece). piece.to) create_of (λ (piece : CreatePiece). piece.staged) CreateDelta IsCreateFrom
    (λ memory job task piece order fits. record {
      begins = fits.0;
      order = subst (λ (to : ℕ). task.from ≤ to) (sym fits.1) order;
      fault = sym (ap fault_in fits.2) ∙ ap (λ (to : ℕ). create_fault memory job task.from to) (sym fits.1);
      staged = sym (ap staged_in fits.2) ∙ ap (λ (to : ℕ). create_staged memory job task.from to) (sym fits.1);
    })
    w i pieces valid accepted operation same all near

kept_applies : (w : World) (i : ℕ) (pieces : List ApplyPiece) → IsValid w.settings → is_refused (jobs_of w.fetched) w.settings.staging i ≡ false
    → op_of (entry_at w.fetched i).job ≡ Some ApplyDelta
    → map (kept_value w) (job_tasks w i) ≡ map (λ task. Some (task_value w.fetched w.image task)) (job_tasks w i)
    → AllZip (CarriesApply w) (job_tasks w i) pieces → AreNeighbours (λ piece. piece.staged) pieces
    → AreChunksFrom (IsApplyFrom w.image (entry_at w.fetched i).job) (λ piece. piece.to) (λ piece. piece.staged) ((entry_at w.fetched i).job.delta_size / 10) 0 pieces
kept_applies w i pieces valid accepted operation same all near =
    kept_chunks (λ (piece : ApplyPiece). piece.from) (λ (piece : ApplyPiece). piece.to) apply_of (λ (piece : ApplyPiece). piece.staged) ApplyDelta IsApplyFrom
    (λ memory job task piece order fits. record {
      begins = fits.0;
      order = subst (λ (to : ℕ). task.from ≤ to) (sym fits.1) order;
      bad = sym (ap bad_in fits.2) ∙ ap (λ (to : ℕ). apply_bad memory job task.from to) (sym fits.1);
      first = sym (ap first_in fits.2) ∙ ap (λ (to : ℕ). apply_first memory job task.from to) (sym fits.1);
      last = sym (ap last_in fits.2) ∙ ap (λ (to : ℕ). apply_last memory job task.from to) (sym fits.1);
      staged = sym (ap staged_in fits.2) ∙ ap (λ (to : ℕ). apply_staged memory job task.from to) (sym fits.1);
    })
    w i pieces valid accepted operation same all near

pub kept_meet_joins : KeptMeetJoins
kept_meet_joins start given clients w keeps valid allowed i here accepted =
    let same = each_has_its_values start given clients w keeps allowed i here in
    let limits = subst IsValid (sym keeps.settings) valid in
    let taken : is_refused (jobs_of w.fetched) w.settings.staging i ≡ false =
    ap (λ (s : Settings). is_refused (jobs_of w.fetched) s.staging i) keeps.settings ∙ accepted in
    record {
      scans = λ op operation goes pieces all near. kept_scans w i op pieces limits taken operation goes same all near;
      creates = λ operation pieces all near. kept_creates w i pieces limits taken operation same all near;
      applies = λ operation pieces all near. kept_applies w i pieces limits taken operation same all near;
    }

pub commits_are_steps : CommitsAreSteps
commits_are_steps start settings clients steps w memory valid reaches allowed i here accepted =
    let keeps : Keeps start settings clients w =
    subst (Keeps start settings clients) (ap (λ (pair : World × Option ℕ). pair.0) reaches) (core_keeps start settings clients steps memory.whole) in
    record {
      meet_joins = kept_meet_joins start settings clients w keeps valid allowed i here accepted;
      joined = kept_join_to_step start settings clients w keeps memory valid allowed i here accepted;
    }
