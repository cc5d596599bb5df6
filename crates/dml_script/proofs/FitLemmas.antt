-- A script's lines fit the memory that they meet.
use Rattle.std.proofs.Common.{◌≡◌, ℕ, suc, ◌+◌, ◌/◌, ◌^◌, ◌<◌, ◌≤◌, List, [], ◌∷◌, ◌++◌, length, refl, sym, ◌∙◌, ap, subst, arith, eq-eqb, Bool, false, true, not, Option, Some, None, IfSome, IsSome, is_some, option_map, if◌then◌else◌, Result, Ok, Err, inl, inr, nat_eq, append_assoc}
use Rattle.std.specs.Str.Lines.{lines, lines_of_parts}
use Rattle.std.specs.List.{slice_split}
use Rattle.std.proofs.lemmas.Bool.{cases_Bool}
use Rattle.std.proofs.lemmas.List.{append-nil, length-append}
use Rattle.std.proofs.lemmas.List.Splits.{length-slice_split}
use Rattle.std.proofs.lemmas.List.Sums.{count_by-le-length, fold-append}
use Rattle.dml_types.specs.Memory.{Memory, has}
use Rattle.dml_types.specs.Step.{batch_jobs}
use Rattle.dml_types.specs.declared.jobs.Job.{Job}
use Rattle.dml_types.proofs.FirstLemmas.{first_none}
use Rattle.dml_types.proofs.StepLemmas.{memory_after_present, step_present}
use Rattle.dml_grammar.specs.declared.faults.ScriptFault.{ScriptFault}
use Rattle.dml_grammar.specs.declared.lines.Line.{Line}
use Rattle.dml_grammar.specs.declared.lines.Line.TheVariants as line
use Rattle.dml_grammar.specs.declared.faults.Kind.TheVariants.{MissingImage, OpenBatch}
use Rattle.dml_grammar.specs.Grammar.{Skipped, Faulty, Fine, end_fault, fault_at, open_after, open_jobs, opening_number, parse, parse_from, verdict}
use Rattle.dml_script.specs.Run.{Session, after_line, memory_behind, memory_closed, opening}
use Rattle.dml_grammar.specs.Pages.{Tracks}
use Rattle.dml_script.specs.Runnable.{AllFit, Fits, IsRunnable}
use Rattle.dml_script.proofs.FollowLemmas.{MayFollow, follows}
use Rattle.dml_grammar.proofs.PageLemmas.{tracks_image, tracks_page, tracks_same}
use Rattle.dml_grammar.proofs.PresenceLemmas.{byte_present}

counted_more : (job : Job) (batch : Option (List Job))
    → option_map (λ so_far. length so_far) (option_map (λ so_far. so_far ++ job ∷ []) batch) ≡ option_map (λ n. n + 1) (option_map (λ so_far. length so_far) batch)
counted_more job None = refl
counted_more job (Some so_far) = ap (λ (n : ℕ). Some n) (length-append so_far (job ∷ []))

-- a job, and the end of a batch, leave the pages
behind_present : (staging : ℕ) (memory : Memory) (open_batch : Option (List Job)) (job : Job) → (memory_behind staging memory open_batch job).present ≡ memory.present
behind_present staging memory None job = step_present memory job staging
behind_present staging memory (Some so_far) job = refl

closed_present : (staging : ℕ) (memory : Memory) (open_batch : Option (List Job)) → (memory_closed staging memory open_batch).present ≡ memory.present
closed_present staging memory None = refl
closed_present staging memory (Some jobs) = memory_after_present memory (batch_jobs memory jobs staging) staging

not_first : (before : List Line) → 0 < length before → before ≡ [] → ⊥
not_first before some none = let nothing : length before ≡ 0 = ap length none in omega arith

-- the pages of a session are those of its lines
tracks_more : (staging : ℕ) (session : Session) (before : List Line) (l : Line) → 0 < length before → Tracks session.memory.present before → MayFollow before l
    → Tracks (after_line staging session l).memory.present (before ++ l ∷ [])
tracks_more staging session before (line.Image pages) some tracks may = absurd (not_first before some may.0)
tracks_more staging session before (line.Page page bytes) some tracks may =
    tracks_page session.memory.present before page bytes some (omega (arith, tracks.pages, may.1)) tracks
tracks_more staging session before (line.Poke address bytes) some tracks may = tracks_same session.memory.present before _ some tracks (λ page. refl)
tracks_more staging session before (line.Job job) some tracks may =
    subst (λ (present : List Bool). Tracks present (before ++ line.Job job ∷ [])) (sym (behind_present staging session.memory session.batch job))
    (tracks_same session.memory.present before (line.Job job) some tracks (λ page. refl))
tracks_more staging session before line.Batch some tracks may = tracks_same session.memory.present before _ some tracks (λ page. refl)
tracks_more staging session before line.End some tracks may =
    subst (λ (present : List Bool). Tracks present (before ++ line.End ∷ [])) (sym (closed_present staging session.memory session.batch))
    (tracks_same session.memory.present before line.End some tracks (λ page. refl))
tracks_more staging session before (line.Show address len) some tracks may = tracks_same session.memory.present before _ some tracks (λ page. refl)

-- the open batch of a session is that of its lines
abbrev Counts : Session → List Line → Type 0
Counts session before = option_map (λ so_far. length so_far) session.batch ≡ open_jobs before

counts_line : (staging : ℕ) (session : Session) (jobs : Option ℕ) (l : Line) → option_map (λ so_far. length so_far) session.batch ≡ jobs
    → option_map (λ so_far. length so_far) (after_line staging session l).batch ≡ open_after jobs l
counts_line staging session jobs (line.Image pages) is = is
counts_line staging session jobs (line.Page page bytes) is = is
counts_line staging session jobs (line.Poke address bytes) is = is
counts_line staging session jobs (line.Job job) is = counted_more job session.batch ∙ ap (option_map (λ n. n + 1)) is
counts_line staging session jobs line.Batch is = refl
counts_line staging session jobs line.End is = refl
counts_line staging session jobs (line.Show address len) is = is

counts_more : (staging : ℕ) (session : Session) (before : List Line) (l : Line) → Counts session before → Counts (after_line staging session l) (before ++ l ∷ [])
counts_more staging session before l is = counts_line staging session (open_jobs before) l is ∙ sym (fold-append open_after None before (l ∷ []))

none_counted : (batch : Option (List Job)) (jobs : Option ℕ) → option_map (λ so_far. length so_far) batch ≡ jobs → jobs ≡ None → batch ≡ None
none_counted None jobs is none = refl
none_counted (Some so_far) jobs is none = cc

some_counted : (batch : Option (List Job)) (jobs : Option ℕ) → option_map (λ so_far. length so_far) batch ≡ jobs → IsSome jobs → IsSome batch
some_counted None jobs is some = cc
some_counted (Some so_far) jobs is some = refl

few_counted : (batch : Option (List Job)) (jobs : Option ℕ) → option_map (λ so_far. length so_far) batch ≡ jobs → IfSome jobs (λ n. n < 1024)
    → IfSome batch (λ so_far. length so_far < 1024)
few_counted None jobs is few = tt
few_counted (Some so_far) jobs is few = subst (λ (jobs : Option ℕ). IfSome jobs (λ n. n < 1024)) (sym is) few

fits_of : (session : Session) (before : List Line) (l : Line) → 0 < length before → Tracks session.memory.present before → Counts session before → MayFollow before l
    → Fits session l
fits_of session before (line.Image pages) some tracks counts may = not_first before some may.0
fits_of session before (line.Page page bytes) some tracks counts may =
    (none_counted session.batch _ counts may.3, omega (arith, tracks.pages, may.1), may.2)
fits_of session before (line.Poke address bytes) some tracks counts may =
    let each : (i : ℕ) → i < length bytes → not (has session.memory (address + i)) ≡ false =
    λ i low. ap not (tracks.marks ((address + i) / 4096) ∙ byte_present before address (length bytes) i low may.1) in
    (none_counted session.batch _ counts may.2, eq-eqb _ _ (first_none (length bytes) (λ i. not (has session.memory (address + i))) each))
fits_of session before (line.Job job) some tracks counts may = few_counted session.batch _ counts may.1
fits_of session before line.Batch some tracks counts may = none_counted session.batch _ counts may.1
fits_of session before line.End some tracks counts may = some_counted session.batch _ counts may.1
fits_of session before (line.Show address len) some tracks counts may = (none_counted session.batch _ counts may.2, may.1)

abbrev read : List Line → Result (List Line) ScriptFault
read found = Ok found

ok_same : (before found : List Line) → read before ≡ read found → before ≡ found
ok_same before found same = cc

not_read : (fault : ScriptFault) (found : List Line) → Err fault ≡ read found → ⊥
not_read fault found same = cc

-- the lines that are found behind others, few of them, fit
record Behind (staging : ℕ) (session : Session) (before found : List Line) (most : ℕ) : Type 0 where
  rest : List Line
  joined : found ≡ before ++ rest
  fits : AllFit staging session rest
  few : length rest ≤ most

behind_more : (staging : ℕ) (session : Session) (before found : List Line) (l : Line) (most : ℕ) → Fits session l
    → Behind staging (after_line staging session l) (before ++ l ∷ []) found most → Behind staging session before found (suc most)
behind_more staging session before found l most here after = record {
  rest = l ∷ after.rest;
  joined = after.joined ∙ append_assoc before (l ∷ []) after.rest;
  fits = (here, after.fits);
  few = let few : length after.rest ≤ most = after.few in omega arith;
}

-- where a script ends without a fault, no batch is open
closed_end : (is_empty : Bool) (jobs : Option ℕ) (missing unended : ScriptFault) → (if is_empty then Some missing else if is_some jobs then Some unended else None) ≡ None
    → jobs ≡ None
closed_end true jobs missing unended none = cc
closed_end false None missing unended none = refl
closed_end false (Some n) missing unended none = cc

behind_end : (staging number opened : ℕ) (before found : List Line) (session : Session) (fault : Option ScriptFault) → fault ≡ end_fault number opened before
    → Counts session before → (elim fault [ None ↦ Ok before | Some f ↦ Err f ]) ≡ read found → Behind staging session before found 0
behind_end staging number opened before found session None is counts ended =
    let same : before ≡ found = ok_same before found ended in
    let closed : open_jobs before ≡ None =
    closed_end (nat_eq (length before) 0) (open_jobs before) (fault_at number MissingImage) (fault_at opened OpenBatch) (sym is) in
    record { rest = []; joined = sym same ∙ sym (append-nil before); fits = none_counted session.batch _ counts closed; few = omega arith }
behind_end staging number opened before found session (Some fault) is counts ended = absurd (not_read fault found ended)

behind : (staging : ℕ) (texts : List (List ℕ)) (number opened : ℕ) (before found : List Line) (session : Session) → 0 < length before → Tracks session.memory.present before
    → Counts session before → parse_from number opened before texts ≡ Ok found → Behind staging session before found (length texts)
unfolding parse_from
behind staging [] number opened before found session some tracks counts parsed =
    behind_end staging number opened before found session (end_fault number opened before) refl counts parsed
behind staging (text ∷ texts) number opened before found session some tracks counts parsed =
    elim (verdict text before) as (λ v. verdict text before ≡ v → (elim v [
      | Skipped ↦ parse_from (number + 1) opened before texts
      | Faulty kind ↦ Err (fault_at number kind)
      | Fine l ↦ parse_from (number + 1) (opening_number number l opened) (before ++ l ∷ []) texts
    ]) ≡ read found → Behind staging session before found (suc (length texts))) [
      | Skipped ↦ λ is after.
          let left = behind staging texts (number + 1) opened before found session some tracks counts after in
          record { rest = left.rest; joined = left.joined; fits = left.fits; few = let few : length left.rest ≤ length texts = left.few in omega arith }
      | Faulty kind ↦ λ is after. absurd (not_read (fault_at number kind) found after)
      | Fine l ↦ λ is after.
          let may = follows text before l is in
          let longer : 0 < length (before ++ l ∷ []) = omega (arith, length-append before (l ∷ [])) in
          behind_more staging session before found l (length texts) (fits_of session before l some tracks counts may)
          (behind staging texts (number + 1) (opening_number number l opened) (before ++ l ∷ []) found (after_line staging session l) longer
          (tracks_more staging session before l some tracks may) (counts_more staging session before l counts) after)
    ] refl parsed

-- the first line is the image line
from_first : (staging : ℕ) (texts : List (List ℕ)) (number opened : ℕ) (l : Line) (found : List Line) → length texts < 2 ^ 32 → MayFollow [] l
    → parse_from number opened (l ∷ []) texts ≡ Ok found → IsRunnable staging found
from_first staging texts number opened (line.Image pages) found few may after =
    let left = behind staging texts number opened (line.Image pages ∷ []) found (after_line staging opening (line.Image pages)) (omega arith) (tracks_image pages) refl after in
    let short : length left.rest ≤ length texts = left.few in
    subst (IsRunnable staging) (sym left.joined) (may.1, may.2, omega arith, left.fits)
from_first staging texts number opened (line.Page page bytes) found few may after = absurd (omega (arith, may.0))
from_first staging texts number opened (line.Poke address bytes) found few may after = absurd (omega (arith, may.0))
from_first staging texts number opened (line.Job job) found few may after = absurd (omega (arith, may.0))
from_first staging texts number opened line.Batch found few may after = absurd (omega (arith, may.0))
from_first staging texts number opened line.End found few may after = absurd (omega (arith, may.0))
from_first staging texts number opened (line.Show address len) found few may after = absurd (omega (arith, may.0))

from_start : (staging : ℕ) (texts : List (List ℕ)) (number opened : ℕ) (found : List Line) → length texts < 2 ^ 32 → parse_from number opened [] texts ≡ Ok found
    → IsRunnable staging found
unfolding parse_from
from_start staging [] number opened found few parsed = absurd (not_read _ found parsed)
from_start staging (text ∷ texts) number opened found few parsed =
    let fewer : length texts < 2 ^ 32 = omega arith in
    elim (verdict text []) as (λ v. verdict text [] ≡ v → (elim v [
      | Skipped ↦ parse_from (number + 1) opened [] texts
      | Faulty kind ↦ Err (fault_at number kind)
      | Fine l ↦ parse_from (number + 1) (opening_number number l opened) (l ∷ []) texts
    ]) ≡ read found → IsRunnable staging found) [
      | Skipped ↦ λ is after. from_start staging texts (number + 1) opened found fewer after
      | Faulty kind ↦ λ is after. absurd (not_read (fault_at number kind) found after)
      | Fine l ↦ λ is after. from_first staging texts (number + 1) (opening_number number l opened) l found fewer (follows text [] l is) after
    ] refl parsed

-- there are no more lines than parts between line feeds
lines_in_parts : (parts : List (List ℕ)) → length (lines_of_parts parts) ≤ length parts
lines_in_parts [] = omega arith
lines_in_parts (x ∷ []) =
    elim (cases_Bool (nat_eq (length x) 0)) [ inl none ↦ rw none (omega arith) | inr some ↦ rw some (omega arith) ]
lines_in_parts (x ∷ y ∷ more) = let rest : length (lines_of_parts (y ∷ more)) ≤ length (y ∷ more) = lines_in_parts (y ∷ more) in omega arith

few_lines : (bytes : List ℕ) → length (lines bytes) ≤ length bytes + 1
few_lines bytes =
    let is_feed : ℕ → Bool = λ b. nat_eq b 10 in
    omega (arith, lines_in_parts (slice_split is_feed bytes), length-slice_split is_feed bytes, count_by-le-length is_feed bytes)

pub runnable : (staging : ℕ) (bytes : List ℕ) (found : List Line) → length bytes ≤ 4194304 → parse bytes ≡ Ok found → IsRunnable staging found
unfolding parse
runnable staging bytes found within parsed =
    let few : length (lines bytes) < 2 ^ 32 = omega (arith, few_lines bytes) in
    from_start staging (lines bytes) 1 0 found few parsed
