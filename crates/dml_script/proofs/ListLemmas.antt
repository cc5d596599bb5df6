-- Lists and batches of a script's jobs: what their lines show, and what may come behind them.
use Rattle.std.proofs.Common.{◌≡◌, ℕ, suc, ◌+◌, ◌^◌, ◌<◌, ◌≤◌, List, [], ◌∷◌, ◌++◌, length, map, Option, None, Some, MatchOption, refl, sym, ap, subst, ◌∙◌, append_assoc, arith, length-append, drop, drop-cons, get_or}
use Rattle.std.proofs.lemmas.List.{length-map, map-append}
use Rattle.std.specs.Io.KnownBytes.{Appends}
use Rattle.dml_types.specs.declared.jobs.Job.{Job}
use Rattle.dml_types.specs.declared.records.Record.{Record}
use Rattle.dml_types.specs.Memory.{Memory}
use Rattle.dml_types.specs.Step.{batch, memory_after, records_of}
use Rattle.dml_grammar.specs.declared.lines.Line.{Line}
use Rattle.dml_grammar.specs.declared.lines.Line.TheVariants as line
use Rattle.dml_script.specs.AnswerLaws.{after_lines, batch_lines, batch_text, job_lines}
use Rattle.dml_script.specs.Output.{job_line}
use Rattle.dml_script.specs.Run.{IsJobLine, Running, Session, after_line, session_answer, answer_of, lines_from, outside}
use Rattle.dml_script.specs.Runnable.{AllFit, MayCome}
use Rattle.dml_script.specs.Watching.{AppendsFront, IsWritten}
use Rattle.dml_script.proofs.AnswerLawLemmas.{answers_batch, answers_in_parts, answers_jobs, left_in_batch, in_batch, leaves_batch, left_outside}
use Rattle.dml_script.proofs.BytesLemmas.{written_into, written_more, written_start}

abbrev jobs_as_lines : List Job → List Line
jobs_as_lines jobs = map (λ job. line.Job job) jobs

-- Lines that are gathered.

pub next_lines : (found : Option Line) (left after : List Line) → MatchOption found ((left ≡ []) × (after ≡ [])) (λ l. left ≡ l ∷ after)
    → left ≡ lines_from found after
next_lines None left after is = is.0
next_lines (Some l) left after is = is

pub gathered_more : (jobs : List Job) (job : Job) (whole left after : List Line) → whole ≡ jobs_as_lines jobs ++ left → left ≡ line.Job job ∷ after
    → whole ≡ jobs_as_lines (jobs ++ job ∷ []) ++ after
gathered_more jobs job whole left after is next =
    is ∙ ap (λ (lines : List Line). jobs_as_lines jobs ++ lines) next ∙ sym (append_assoc (jobs_as_lines jobs) (line.Job job ∷ []) after)
    ∙ ap (λ (lines : List Line). lines ++ after) (sym (map-append (λ (job : Job). line.Job job) jobs (job ∷ [])))

-- the job lines that a list was gathered of
pub list_gathered : (first : Job) (old list jobs : List Job) (lines rest : List Line) → old ≡ first ∷ [] → jobs_as_lines old ++ lines ≡ jobs_as_lines list ++ rest
    → jobs ≡ list → line.Job first ∷ lines ≡ jobs_as_lines jobs ++ rest
list_gathered first old list jobs lines rest begun is same =
    ap (λ (jobs : List Job). jobs_as_lines jobs ++ lines) (sym begun) ∙ is ∙ ap (λ (jobs : List Job). jobs_as_lines jobs ++ rest) (sym same)

-- Where a script's run is between two lines that are no batch's.

abbrev pub reached : ℕ → Memory → ℕ → Running
reached staging memory number = record { session = outside memory number; staging = staging }

pub same_reached : (s t : ℕ) (memory other : Memory) (m n : ℕ) → s ≡ t → memory ≡ other → m ≡ n → reached s memory m ≡ reached t other n
same_reached s t memory other m n is same count =
    ap (λ (staging : ℕ). reached staging memory m) is ∙ ap (λ (image : Memory). reached t image m) same ∙ ap (λ (k : ℕ). reached t other k) count

fits_in_parts : (staging : ℕ) (session : Session) (these those : List Line) → AllFit staging session (these ++ those)
    → AllFit staging (after_lines staging session these) those
fits_in_parts staging session [] those fits = fits
fits_in_parts staging session (l ∷ these) those fits = fits_in_parts staging (after_line staging session l) these those fits.1

-- Lists.

size_of_list : (jobs : List Job) (left rest : List Line) → left ≡ jobs_as_lines jobs ++ rest → length left ≡ length jobs + length rest
size_of_list jobs left rest is =
    ap length is ∙ length-append (jobs_as_lines jobs) rest ∙ ap (λ (n : ℕ). n + length rest) (length-map jobs (λ (job : Job). line.Job job))

pub fewer_lines : (first : Line) (jobs : List Job) (lines rest : List Line) → first ∷ lines ≡ jobs_as_lines jobs ++ rest → 1 ≤ length jobs → length rest ≤ length lines
fewer_lines first jobs lines rest is some =
    let size : suc (length lines) ≡ length jobs + length rest = size_of_list jobs (first ∷ lines) rest is in omega arith

pub few_jobs : (staging number : ℕ) (memory : Memory) (jobs : List Job) (before : Running) (left rest : List Line) → reached staging memory number ≡ before
    → left ≡ jobs_as_lines jobs ++ rest → MayCome before left → number + length jobs < 2 ^ 32
few_jobs staging number memory jobs before left rest view is come =
    let here : number + length left < 2 ^ 32 = (subst (λ (r : Running). MayCome r left) (sym view) come).2 in
    omega (arith, size_of_list jobs left rest is)

pub jobs_text : (staging number : ℕ) (memory : Memory) (jobs : List Job) (before after : Running) (left rest : List Line) → reached staging memory number ≡ before
    → after ≡ reached staging (memory_after memory jobs staging) (number + length jobs) → left ≡ jobs_as_lines jobs ++ rest
    → answer_of before left ≡ job_lines number (records_of memory jobs staging) ++ answer_of after rest
jobs_text staging number memory jobs before after left rest view later is =
    let session = outside memory number in
    ap (λ (r : Running). answer_of r left) (sym view) ∙ ap (session_answer staging session) is ∙ answers_in_parts staging session (jobs_as_lines jobs) rest
    ∙ ap (λ (text : List ℕ). text ++ session_answer staging (after_lines staging session (jobs_as_lines jobs)) rest) (answers_jobs staging session jobs refl)
    ∙ ap (λ (s : Session). job_lines number (records_of memory jobs staging) ++ session_answer staging s rest) (left_outside staging memory number jobs)
    ∙ ap (λ (r : Running). job_lines number (records_of memory jobs staging) ++ answer_of r rest) (sym later)

pub jobs_come : (staging number : ℕ) (memory : Memory) (jobs : List Job) (before after : Running) (left rest : List Line) → reached staging memory number ≡ before
    → after ≡ reached staging (memory_after memory jobs staging) (number + length jobs) → left ≡ jobs_as_lines jobs ++ rest
    → MayCome before left → MayCome after rest
jobs_come staging number memory jobs before after left rest view later is come =
    let here : MayCome (reached staging memory number) left = subst (λ (r : Running). MayCome r left) (sym view) come in
    let few : number + length left < 2 ^ 32 = here.2 in
    subst (λ (r : Running). MayCome r rest) (sym later) (
      refl,
      subst (λ (s : Session). AllFit staging s rest) (left_outside staging memory number jobs)
          (fits_in_parts staging (outside memory number) (jobs_as_lines jobs) rest (subst (AllFit staging (outside memory number)) is here.1)),
      omega (arith, few, size_of_list jobs left rest is),
    )

-- Batches.

whole_batch : (jobs : List Job) (lines rest : List Line) → lines ≡ jobs_as_lines jobs ++ line.End ∷ rest → line.Batch ∷ lines ≡ batch_lines jobs ++ rest
whole_batch jobs lines rest is =
    ap (λ (lines : List Line). line.Batch ∷ lines) (is ∙ sym (append_assoc (jobs_as_lines jobs) (line.End ∷ []) rest))

size_of_batch : (jobs : List Job) (lines rest : List Line) → lines ≡ jobs_as_lines jobs ++ line.End ∷ rest → length lines ≡ length jobs + suc (length rest)
size_of_batch jobs lines rest is = size_of_list jobs lines (line.End ∷ rest) is

pub fewer_than_batch : (jobs : List Job) (lines rest : List Line) → lines ≡ jobs_as_lines jobs ++ line.End ∷ rest → length rest ≤ length lines
fewer_than_batch jobs lines rest is = omega (arith, size_of_batch jobs lines rest is)

pub whole_batch_text : (staging number : ℕ) (memory : Memory) (jobs : List Job) (before after : Running) (lines rest : List Line)
    → reached staging memory number ≡ before → after ≡ reached staging (batch memory jobs staging).0 (number + length jobs)
    → lines ≡ jobs_as_lines jobs ++ line.End ∷ rest
    → answer_of before (line.Batch ∷ lines) ≡ batch_text number (batch memory jobs staging) ++ answer_of after rest
whole_batch_text staging number memory jobs before after lines rest view later is =
    let session = outside memory number in
    ap (λ (r : Running). answer_of r (line.Batch ∷ lines)) (sym view) ∙ ap (session_answer staging session) (whole_batch jobs lines rest is)
    ∙ answers_in_parts staging session (batch_lines jobs) rest
    ∙ ap (λ (text : List ℕ). text ++ session_answer staging (after_lines staging session (batch_lines jobs)) rest) (answers_batch staging session jobs)
    ∙ ap (λ (s : Session). batch_text number (batch memory jobs staging) ++ session_answer staging s rest) (leaves_batch staging session jobs)
    ∙ ap (λ (r : Running). batch_text number (batch memory jobs staging) ++ answer_of r rest) (sym later)

pub whole_batch_come : (staging number : ℕ) (memory : Memory) (jobs : List Job) (before after : Running) (lines rest : List Line)
    → reached staging memory number ≡ before → after ≡ reached staging (batch memory jobs staging).0 (number + length jobs)
    → lines ≡ jobs_as_lines jobs ++ line.End ∷ rest → MayCome before (line.Batch ∷ lines) → MayCome after rest
whole_batch_come staging number memory jobs before after lines rest view later is come =
    let here : MayCome (reached staging memory number) (line.Batch ∷ lines) = subst (λ (r : Running). MayCome r (line.Batch ∷ lines)) (sym view) come in
    let few : number + suc (length lines) < 2 ^ 32 = here.2 in
    subst (λ (r : Running). MayCome r rest) (sym later) (
      refl,
      subst (λ (s : Session). AllFit staging s rest) (leaves_batch staging (outside memory number) jobs)
          (fits_in_parts staging (outside memory number) (batch_lines jobs) rest
          (subst (AllFit staging (outside memory number)) (whole_batch jobs lines rest is) here.1)),
      omega (arith, few, size_of_batch jobs lines rest is),
    )

-- behind jobs of a batch, another comes where they are fewer than 1,024; else its end alone may come
end_comes : (staging number : ℕ) (memory : Memory) (so_far : List Job) (ahead : Option Line) (rest : List Line)
    → AllFit staging (in_batch memory number so_far) (lines_from ahead rest) → (IsJobLine ahead → 1024 ≤ length so_far) → ahead ≡ Some line.End
end_comes staging number memory so_far None rest fits full = cc
end_comes staging number memory so_far (Some (line.Image pages)) rest fits full = absurd fits.0
end_comes staging number memory so_far (Some (line.Page page bytes)) rest fits full = cc fits.0.0
end_comes staging number memory so_far (Some (line.Poke address bytes)) rest fits full = cc fits.0.0
end_comes staging number memory so_far (Some (line.Job job)) rest fits full = absurd (omega (arith, fits.0, full tt))
end_comes staging number memory so_far (Some line.Batch) rest fits full = cc fits.0
end_comes staging number memory so_far (Some line.End) rest fits full = refl
end_comes staging number memory so_far (Some (line.Show address len)) rest fits full = cc fits.0.0

batch_ends : (staging number : ℕ) (memory : Memory) (jobs : List Job) (lines rest : List Line) (ahead : Option Line)
    → MayCome (reached staging memory number) (line.Batch ∷ lines) → lines ≡ jobs_as_lines jobs ++ lines_from ahead rest
    → (IsJobLine ahead → length jobs ≡ 1024) → ahead ≡ Some line.End
batch_ends staging number memory jobs lines rest ahead come is full =
    let opened = in_batch memory number [] in
    let fits = fits_in_parts staging opened (jobs_as_lines jobs) (lines_from ahead rest) (subst (AllFit staging opened) is come.1.1) in
    let closing : AllFit staging (in_batch memory (number + length jobs) jobs) (lines_from ahead rest) =
    subst (λ (s : Session). AllFit staging s (lines_from ahead rest)) (left_in_batch staging memory number [] jobs) fits in
    end_comes staging (number + length jobs) memory jobs ahead rest closing
    (λ job. let most : length jobs ≡ 1024 = full job in omega (arith, most))

-- the lines that a whole batch was gathered of
pub batch_gathered : (staging number : ℕ) (memory : Memory) (before : Running) (old list jobs : List Job) (lines rest : List Line) (ahead : Option Line)
    → reached staging memory number ≡ before → MayCome before (line.Batch ∷ lines) → old ≡ []
    → jobs_as_lines old ++ lines ≡ jobs_as_lines list ++ lines_from ahead rest → jobs ≡ list → (IsJobLine ahead → length jobs ≡ 1024)
    → lines ≡ jobs_as_lines jobs ++ line.End ∷ rest
batch_gathered staging number memory before old list jobs lines rest ahead view come none is same full =
    let found : lines ≡ jobs_as_lines jobs ++ lines_from ahead rest =
    ap (λ (jobs : List Job). jobs_as_lines jobs ++ lines) (sym none) ∙ is ∙ ap (λ (jobs : List Job). jobs_as_lines jobs ++ lines_from ahead rest) (sym same) in
    found
    ∙ ap (λ (found : Option Line). jobs_as_lines jobs ++ lines_from found rest)
    (batch_ends staging number memory jobs lines rest ahead (subst (λ (r : Running). MayCome r (line.Batch ∷ lines)) (sym view) come) found full)

pub batch_then : (jobs : List Job) (lines after rest : List Line) → lines ≡ jobs_as_lines jobs ++ line.End ∷ after → after ≡ rest
    → lines ≡ jobs_as_lines jobs ++ line.End ∷ rest
batch_then jobs lines after rest is next = is ∙ ap (λ (behind : List Line). jobs_as_lines jobs ++ line.End ∷ behind) next

-- Records, one after another.

pub records_more : (number : ℕ) (records : List Record) (i : ℕ) (d : Record) → i < length records
    → job_lines number (drop i records) ≡ job_line number (get_or records i d) ++ job_lines (number + 1) (drop (i + 1) records)
records_more number records i d low =
    let next : suc i ≡ i + 1 = omega arith in
    ap (job_lines number) (drop-cons records i d low ∙ ap (λ (n : ℕ). get_or records i d ∷ drop n records) next)

pub record_written : (a b c : Option (List ℕ)) (number : ℕ) (records : List Record) (i : ℕ) (d : Record) (whole : List ℕ) → i < length records
    → IsWritten a b (job_lines number (drop i records)) whole → Appends b c (job_line number (get_or records i d))
    → IsWritten a c (job_lines (number + 1) (drop (i + 1) records)) whole
record_written a b c number records i d whole low written next =
    written_more a b c (job_line number (get_or records i d)) (job_lines (number + 1) (drop (i + 1) records)) whole
    (subst (λ (l : List ℕ). IsWritten a b l whole) (records_more number records i d low) written) next

pub record_begun : (a b c : Option (List ℕ)) (number : ℕ) (records : List Record) (i : ℕ) (d : Record) (whole : List ℕ) → i < length records
    → IsWritten a b (job_lines number (drop i records)) whole → AppendsFront b c (job_line number (get_or records i d)) → AppendsFront a c whole
record_begun a b c number records i d whole low written next =
    written_into a b c (job_line number (get_or records i d)) (job_lines (number + 1) (drop (i + 1) records)) whole
    (subst (λ (l : List ℕ). IsWritten a b l whole) (records_more number records i d low) written) next

-- What is written of a whole whose front is a text.

pub written_text : (a b : Option (List ℕ)) (text left whole : List ℕ) → whole ≡ text ++ left → Appends a b text → IsWritten a b left whole
written_text a b text left whole is appended = (text, appended, sym is)

pub front_text : (a b : Option (List ℕ)) (text left whole : List ℕ) → whole ≡ text ++ left → AppendsFront a b text → AppendsFront a b whole
front_text a b text left whole is front =
    written_into a a b text left whole (subst (λ (bytes : List ℕ). IsWritten a a bytes whole) is (written_start a whole)) front
