-- The laws of answers, by induction on the lines.
use Rattle.std.proofs.Common.{◌≡◌, ℕ, suc, ◌+◌, ◌<◌, List, [], ◌∷◌, ◌++◌, length, map, drop, get_or, Option, Some, refl, sym, ap, ap₂, ◌∙◌, append_assoc, append-nil, arith}
use Rattle.std.proofs.lemmas.List.{drop_all, drop_more, length-append}
use Rattle.dml_types.specs.declared.jobs.Job.{Job}
use Rattle.dml_types.specs.declared.records.Record.{Record}
use Rattle.dml_types.specs.Memory.{Memory}
use Rattle.dml_types.specs.Step.{batch, memory_after, records_of, step}
use Rattle.dml_types.proofs.BatchLemmas.{length_batch_records}
use Rattle.dml_script.proofs.BatchLemmas.{blank, record_same}
use Rattle.dml_script.specs.AnswerLaws.{AnswersBatch, AnswersInParts, AnswersJobs, LeavesBatch, LeavesJobs, after_lines, job_lines}
use Rattle.dml_grammar.specs.declared.lines.Line.{Line}
use Rattle.dml_grammar.specs.declared.lines.Line.TheVariants as line
use Rattle.dml_script.specs.Output.{batch_line, job_line}
use Rattle.dml_script.specs.Run.{Session, after_line, session_answer, item_of, outside, added_text}

pub answers_in_parts : AnswersInParts
answers_in_parts staging session [] those = refl
answers_in_parts staging session (l ∷ these) those =
    let here = added_text (item_of staging session l) in
    let next = after_line staging session l in
    ap (λ text. here ++ text) (answers_in_parts staging next these those)
    ∙ sym (append_assoc here (session_answer staging next these) (session_answer staging (after_lines staging next these) those))

told_outside : (staging : ℕ) (memory : Memory) (number : ℕ) (jobs : List Job)
    → session_answer staging (outside memory number) (map (λ job. line.Job job) jobs) ≡ job_lines number (records_of memory jobs staging)
told_outside staging memory number [] = refl
told_outside staging memory number (job ∷ jobs) =
    ap (λ text. job_line number (step memory job staging).1 ++ text) (told_outside staging (step memory job staging).0 (number + 1) jobs)

pub answers_jobs : AnswersJobs
answers_jobs staging session jobs none =
    let same : session ≡ outside session.memory session.jobs = ap (λ (batch : Option (List Job)). record session { batch = batch }) none in
    ap (λ (s : Session). session_answer staging s (map (λ job. line.Job job) jobs)) same ∙ told_outside staging session.memory session.jobs jobs

-- Job lines outside a batch.

pub left_outside : (staging : ℕ) (memory : Memory) (number : ℕ) (jobs : List Job)
    → after_lines staging (outside memory number) (map (λ job. line.Job job) jobs) ≡ outside (memory_after memory jobs staging) (number + length jobs)
left_outside staging memory number [] = ap (λ (n : ℕ). outside memory n) (let e : number ≡ number + 0 = omega arith in e)
left_outside staging memory number (job ∷ jobs) =
    let done = step memory job staging in
    left_outside staging done.0 (number + 1) jobs
    ∙ ap (λ (n : ℕ). outside (memory_after done.0 jobs staging) n) (let e : (number + 1) + length jobs ≡ number + suc (length jobs) = omega arith in e)

pub leaves_jobs : LeavesJobs
leaves_jobs staging session jobs none =
    let same : session ≡ outside session.memory session.jobs = ap (λ (batch : Option (List Job)). record session { batch = batch }) none in
    ap (λ (s : Session). after_lines staging s (map (λ job. line.Job job) jobs)) same ∙ left_outside staging session.memory session.jobs jobs

-- Batches.

leaves_in_parts : (staging : ℕ) (session : Session) (these those : List Line)
    → after_lines staging session (these ++ those) ≡ after_lines staging (after_lines staging session these) those
leaves_in_parts staging session [] those = refl
leaves_in_parts staging session (l ∷ these) those = leaves_in_parts staging (after_line staging session l) these those

abbrev jobs_as_lines : List Job → List Line
jobs_as_lines jobs = map (λ job. line.Job job) jobs

-- what job lines leave in a batch
abbrev pub in_batch : Memory → ℕ → List Job → Session
in_batch memory number so_far = record { memory = memory; jobs = number; batch = Some so_far }

pub left_in_batch : (staging : ℕ) (memory : Memory) (number : ℕ) (so_far jobs : List Job)
    → after_lines staging (in_batch memory number so_far) (jobs_as_lines jobs) ≡ in_batch memory (number + length jobs) (so_far ++ jobs)
left_in_batch staging memory number so_far [] =
    ap₂ (in_batch memory) (let e : number ≡ number + 0 = omega arith in e) (sym (append-nil so_far))
left_in_batch staging memory number so_far (job ∷ jobs) =
    left_in_batch staging memory (number + 1) (so_far ++ job ∷ []) jobs
    ∙ ap₂ (in_batch memory) (let e : (number + 1) + length jobs ≡ number + suc (length jobs) = omega arith in e) (append_assoc so_far (job ∷ []) jobs)

-- each line shows the record that its job has in the whole batch
told_in_batch : (staging : ℕ) (memory : Memory) (number : ℕ) (so_far jobs : List Job)
    → session_answer staging (in_batch memory number so_far) (jobs_as_lines jobs)
    ≡ job_lines number (drop (length so_far) (batch memory (so_far ++ jobs) staging).2)
told_in_batch staging memory number so_far [] =
    sym (ap (job_lines number) (drop_all (length so_far) (batch memory (so_far ++ []) staging).2
    (omega (arith, length_batch_records memory (so_far ++ []) staging, ap length (append-nil so_far)))))
told_in_batch staging memory number so_far (job ∷ jobs) =
    let front = so_far ++ job ∷ [] in
    let n = length so_far in
    let records = (batch memory (so_far ++ job ∷ jobs) staging).2 in
    let joined : front ++ jobs ≡ so_far ++ job ∷ jobs = append_assoc so_far (job ∷ []) jobs in
    let below : n < length records = omega (arith, length_batch_records memory (so_far ++ job ∷ jobs) staging, length-append so_far (job ∷ jobs)) in
    let own : get_or (batch memory front staging).2 n blank ≡ get_or records n blank =
    sym (record_same memory front jobs staging n (omega (arith, length-append so_far (job ∷ []))))
    ∙ ap (λ (these : List Job). get_or (batch memory these staging).2 n blank) joined in
    let later : drop (length front) (batch memory (front ++ jobs) staging).2 ≡ drop (n + 1) records =
    ap (λ k. drop k (batch memory (front ++ jobs) staging).2) (length-append so_far (job ∷ []))
    ∙ ap (λ (these : List Job). drop (n + 1) (batch memory these staging).2) joined in
    ap (λ (text : List ℕ). job_line number (get_or (batch memory front staging).2 n blank) ++ text)
    (told_in_batch staging memory (number + 1) front jobs ∙ ap (job_lines (number + 1)) later)
    ∙ (ap (λ (r : Record). job_line number r ++ job_lines (number + 1) (drop (n + 1) records)) own
    ∙ sym (ap (job_lines number) (drop_more records n blank below)))

pub answers_batch : AnswersBatch
answers_batch staging session jobs =
    let opened = in_batch session.memory session.jobs [] in
    let done = batch session.memory jobs staging in
    answers_in_parts staging opened (jobs_as_lines jobs) (line.End ∷ [])
    ∙ (ap (λ (text : List ℕ). text ++ session_answer staging (after_lines staging opened (jobs_as_lines jobs)) (line.End ∷ [])) (told_in_batch staging session.memory session.jobs [] jobs)
    ∙ (ap (λ (s : Session). job_lines session.jobs done.2 ++ session_answer staging s (line.End ∷ [])) (left_in_batch staging session.memory session.jobs [] jobs)
    ∙ ap (λ (text : List ℕ). job_lines session.jobs done.2 ++ text) (append-nil (batch_line done.1))))

pub leaves_batch : LeavesBatch
leaves_batch staging session jobs =
    let opened = in_batch session.memory session.jobs [] in
    leaves_in_parts staging opened (jobs_as_lines jobs) (line.End ∷ [])
    ∙ ap (λ (s : Session). after_lines staging s (line.End ∷ [])) (left_in_batch staging session.memory session.jobs [] jobs)
