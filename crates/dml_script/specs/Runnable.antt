-- What is known of a script's lines where they meet the memory so far: the grammar gives it of every script
-- without a fault, and the run rests on it.
use Rattle.std.specs.Prelude.{◌≡◌, ℕ, ◌+◌, ◌^◌, ◌<◌, ◌≤◌, IsTrue, List, [], ◌∷◌, length, None, IfSome, IsSome}
use Rattle.dml_types.specs.Memory.{page_size, has_all}
use Rattle.dml_grammar.specs.declared.lines.Line.{Line}
use Rattle.dml_grammar.specs.declared.lines.Line.TheVariants as line
use Rattle.dml_grammar.specs.Grammar.{most_jobs}
use Rattle.dml_script.specs.Run.{Running, Session, after_line, opening}

-- of a line after the first: its page is in the image, its bytes are present, and its range ends at or below
-- 2^64; in a batch there are at most 1,024 jobs, and no other line but its end
abbrev pub Fits : Session → Line → Type 0
Fits session (line.Image pages) = ⊥
Fits session (line.Page page bytes) =
    (session.batch ≡ None) × (page < length session.memory.present) × (length bytes ≤ page_size)
Fits session (line.Poke address bytes) =
    (session.batch ≡ None) × IsTrue (has_all session.memory address (length bytes))
Fits session (line.Job job) = IfSome session.batch (λ so_far. length so_far < most_jobs)
Fits session line.Batch = session.batch ≡ None
Fits session line.End = IsSome session.batch
Fits session (line.Show address len) = (session.batch ≡ None) × (address + len ≤ 2 ^ 64)

-- lines that fit one after another, and leave no batch open
abbrev pub AllFit : ℕ → Session → List Line → Type 0
AllFit staging session [] = session.batch ≡ None
AllFit staging session (l ∷ lines) = Fits session l × AllFit staging (after_line staging session l) lines

-- a line that is neither a job's nor a batch's
abbrev pub IsAlone : Line → Type 0
IsAlone (line.Job job) = ⊥
IsAlone line.Batch = ⊥
IsAlone other = Unit {0}

-- whether lines may come where this is reached: no batch is open, they fit, and are too few to count jobs past 32
-- bits
abbrev pub MayCome : Running → List Line → Type 0
MayCome reached lines =
    (reached.session.batch ≡ None) × AllFit reached.staging reached.session lines
    × (reached.session.jobs + length lines < 2 ^ 32)

-- the lines of a script: an image line first, and lines after it, too few to count jobs past 32 bits
abbrev pub IsRunnable : ℕ → List Line → Type 0
IsRunnable staging [] = ⊥
IsRunnable staging (line.Image pages ∷ lines) =
    (1 ≤ pages) × (pages ≤ 4096) × (length lines < 2 ^ 32)
    × AllFit staging (after_line staging opening (line.Image pages)) lines
IsRunnable staging (other ∷ lines) = ⊥
