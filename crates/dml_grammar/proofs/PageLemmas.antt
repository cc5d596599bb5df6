-- The image's pages after lines, and the shortest lines that bring them.
use Rattle.std.proofs.Common.{Option, Some, None, unwrap_or, ap₂, ◌≡◌, ◌≢◌, ℕ, zero, suc, ◌+◌, ◌<◌, List, [], ◌∷◌, ◌++◌, length, get_or, set, replicate, refl, sym, ◌∙◌, ap, subst, zero-add, arith, eq-eqb, Bool, true, false, ◌||◌, inl, inr, nat_eq}
use Rattle.std.proofs.lemmas.Bool.{cases_Bool, eqb-true, eqb-false, ne_eqb}
use Rattle.std.proofs.lemmas.List.{nil_from_length, get_or-set_same, get_or-set_other, length-append, length-replicate, length-set}
use Rattle.std.specs.List.{fold}
use Rattle.std.proofs.lemmas.List.Folds.{list_any-append}
use Rattle.std.proofs.lemmas.List.Sums.{fold-append}
use Rattle.dml_types.specs.Job.{no_op_job}
use Rattle.dml_grammar.specs.declared.lines.Line.{Line}
use Rattle.dml_grammar.specs.declared.lines.Line.TheVariants as line
use Rattle.dml_grammar.specs.declared.table.Word.{Word}
use Rattle.dml_grammar.specs.declared.table.Word.TheVariants as word
use Rattle.dml_grammar.specs.Grammar.{Values, brings, is_present, line_of, most_jobs, open_after, open_jobs, pages_of}
use Rattle.dml_grammar.specs.Pages.{Tracks, Alike, MayBeOpen, batch_lines, bringing, image_lines, progress_lines}
use Rattle.dml_grammar.specs.Reads.{IsNext}

-- A line behind others.

present_more : (before : List Line) (l : Line) (page : ℕ) → is_present (before ++ l ∷ []) page ≡ (is_present before page || (brings page l || false))
present_more before l page = list_any-append (brings page) before (l ∷ [])

pages_of_first : (first : Line) (these those : List Line) → pages_of (first ∷ these) ≡ pages_of (first ∷ those)
pages_of_first (line.Image pages) these those = refl
pages_of_first (line.Page page bytes) these those = refl
pages_of_first (line.Poke address bytes) these those = refl
pages_of_first (line.Job job) these those = refl
pages_of_first line.Batch these those = refl
pages_of_first line.End these those = refl
pages_of_first (line.Show address len) these those = refl

-- a line after the first leaves the number of pages
pages_more : (before : List Line) (l : Line) → 0 < length before → pages_of (before ++ l ∷ []) ≡ pages_of before
pages_more [] l some = absurd (omega arith)
pages_more (first ∷ before) l some = pages_of_first first (before ++ l ∷ []) before

or_false : (a : Bool) → (a || false) ≡ a
or_false true = refl
or_false false = refl

more_of_none : (a b : Bool) → b ≡ false → (a || (b || false)) ≡ a
more_of_none true b none = refl
more_of_none false b none = rw none refl

more_of_some : (a b : Bool) → b ≡ true → (a || (b || false)) ≡ true
more_of_some true b found = refl
more_of_some false b found = rw found refl

-- one that brings no page leaves presence too
pub tracks_same : (present : List Bool) (before : List Line) (l : Line) → 0 < length before → Tracks present before → ((page : ℕ) → brings page l ≡ false)
    → Tracks present (before ++ l ∷ [])
tracks_same present before l some tracks none = record {
  pages = tracks.pages ∙ sym (pages_more before l some);
  marks = λ page. tracks.marks page ∙ sym (present_more before l page ∙ more_of_none _ _ (none page));
}

-- the page that a line brings is present, and of the others those that were
page_marked : (present : List Bool) (before : List Line) (page : ℕ) (bytes : List ℕ) (at : ℕ) → page < length present → Tracks present before
    → get_or (set present page true) at false ≡ is_present (before ++ line.Page page bytes ∷ []) at
page_marked present before page bytes at inside tracks =
    elim (cases_Bool (nat_eq page at)) [
      | inl same ↦
          let here : at ≡ page = sym (eqb-true page at same) in
          rw here (get_or-set_same present page true false inside) ∙ sym (present_more before (line.Page page bytes) at ∙ more_of_some _ _ same)
      | inr other ↦
          let apart : at ≢ page = λ here. eqb-false page at other (sym here) in
          get_or-set_other present page at true false apart ∙ tracks.marks at
          ∙ sym (present_more before (line.Page page bytes) at ∙ more_of_none _ _ other)
    ]

pub tracks_page : (present : List Bool) (before : List Line) (page : ℕ) (bytes : List ℕ) → 0 < length before → page < length present → Tracks present before
    → Tracks (set present page true) (before ++ line.Page page bytes ∷ [])
tracks_page present before page bytes some inside tracks = record {
  pages = length-set present page true ∙ tracks.pages ∙ sym (pages_more before (line.Page page bytes) some);
  marks = λ at. page_marked present before page bytes at inside tracks;
}

none_marked : (pages page : ℕ) → get_or (replicate pages false) page false ≡ false
none_marked zero page = refl
none_marked (suc pages) zero = refl
none_marked (suc pages) (suc page) = none_marked pages page

pub tracks_image : (pages : ℕ) → Tracks (replicate pages false) (line.Image pages ∷ [])
tracks_image pages = record { pages = length-replicate pages false; marks = λ page. none_marked pages page }

-- The lines for given pages.

none_below : (number page : ℕ) (present : List Bool) → page < number → is_present (bringing number present) page ≡ false
none_below number page [] below = refl
none_below number page (true ∷ present) below =
    let apart : nat_eq number page ≡ false = ne_eqb number page (λ same. omega arith) in
    rw apart (none_below (number + 1) page present (omega arith))
none_below number page (false ∷ present) below = none_below (number + 1) page present (omega arith)

marked_from : (number page : ℕ) (present : List Bool) → is_present (bringing number present) (number + page) ≡ get_or present page false
marked_from number page [] = refl
marked_from number zero (true ∷ present) =
    let same : nat_eq number (number + zero) ≡ true = eq-eqb number (number + zero) (omega arith) in rw same refl
marked_from number (suc page) (true ∷ present) =
    let apart : nat_eq number (number + suc page) ≡ false = ne_eqb number (number + suc page) (λ same. omega arith) in
    let next : number + suc page ≡ (number + 1) + page = omega arith in
    rw apart (ap (is_present (bringing (number + 1) present)) next ∙ marked_from (number + 1) page present)
marked_from number zero (false ∷ present) = none_below (number + 1) (number + zero) present (omega arith)
marked_from number (suc page) (false ∷ present) =
    let next : number + suc page ≡ (number + 1) + page = omega arith in
    ap (is_present (bringing (number + 1) present)) next ∙ marked_from (number + 1) page present

not_none : (n : ℕ) → nat_eq (suc n) 0 ≡ false
not_none n = ne_eqb (suc n) 0 (λ same. omega arith)

pages_of_image : (present : List Bool) → length present ≡ pages_of (image_lines present)
pages_of_image [] = refl
pages_of_image (first ∷ present) = refl

present_by_image : (present : List Bool) (page : ℕ) → get_or present page false ≡ is_present (image_lines present) page
present_by_image [] page = refl
present_by_image (first ∷ present) page =
    sym (ap (is_present (bringing 0 (first ∷ present))) (sym (zero-add page)) ∙ marked_from 0 page (first ∷ present))

-- The lines for a batch that is open.

none_by_jobs : (jobs page : ℕ) → is_present (replicate jobs (line.Job no_op_job)) page ≡ false
none_by_jobs zero page = refl
none_by_jobs (suc jobs) page = none_by_jobs jobs page

none_by_batch : (jobs : Option ℕ) (page : ℕ) → is_present (batch_lines jobs) page ≡ false
none_by_batch None page = refl
none_by_batch (Some jobs) page = none_by_jobs jobs page

counted_from : (n jobs : ℕ) → fold open_after (Some n) (replicate jobs (line.Job no_op_job)) ≡ Some (n + jobs)
counted_from n zero = ap Some (let e : n ≡ n + zero = omega arith in e)
counted_from n (suc jobs) = counted_from (n + 1) jobs ∙ ap Some (let e : (n + 1) + jobs ≡ n + suc jobs = omega arith in e)

opened_by_lines : (jobs : Option ℕ) → fold open_after None (batch_lines jobs) ≡ jobs
opened_by_lines None = refl
opened_by_lines (Some jobs) = counted_from 0 jobs ∙ ap Some (zero-add jobs)

closed_by_pages : (number : ℕ) (present : List Bool) → fold open_after None (bringing number present) ≡ None
closed_by_pages number [] = refl
closed_by_pages number (true ∷ present) = closed_by_pages (number + 1) present
closed_by_pages number (false ∷ present) = closed_by_pages (number + 1) present

closed_by_image : (present : List Bool) → open_jobs (image_lines present) ≡ None
closed_by_image [] = refl
closed_by_image (first ∷ present) = closed_by_pages 0 (first ∷ present)

-- The lines for an image and a batch.

pub progress_open : (present : List Bool) (jobs : Option ℕ) → jobs ≡ open_jobs (progress_lines present jobs)
progress_open present jobs =
    sym (fold-append open_after None (image_lines present) (batch_lines jobs)
    ∙ ap (λ (o : Option ℕ). fold open_after o (batch_lines jobs)) (closed_by_image present) ∙ opened_by_lines jobs)

pub no_progress : (present : List Bool) (jobs : Option ℕ) → MayBeOpen present jobs → nat_eq (length present) 0 ≡ nat_eq (length (progress_lines present jobs)) 0
no_progress [] None may = refl
no_progress [] (Some jobs) may = absurd (omega (arith, may.0))
no_progress (first ∷ present) jobs may = not_none (length present) ∙ sym (not_none (length (bringing 0 (first ∷ present) ++ batch_lines jobs)))

pub progress_pages : (present : List Bool) (jobs : Option ℕ) → length present ≡ pages_of (progress_lines present jobs)
progress_pages [] None = refl
progress_pages [] (Some jobs) = refl
progress_pages (first ∷ present) jobs = refl

pub progress_present : (present : List Bool) (jobs : Option ℕ) (page : ℕ) → get_or present page false ≡ is_present (progress_lines present jobs) page
progress_present present jobs page =
    present_by_image present page
    ∙ sym (list_any-append (brings page) (image_lines present) (batch_lines jobs)
    ∙ ap (λ (b : Bool). is_present (image_lines present) page || b) (none_by_batch jobs page) ∙ or_false (is_present (image_lines present) page))

progress_tracked : (present : List Bool) (jobs : Option ℕ) → Tracks present (progress_lines present jobs)
progress_tracked present jobs = record { pages = progress_pages present jobs; marks = progress_present present jobs }

-- Taking note of a line.

open_more : (before : List Line) (l : Line) → open_jobs (before ++ l ∷ []) ≡ open_after (open_jobs before) l
open_more before l = fold-append open_after None before (l ∷ [])

length_more : (before : List Line) (l : Line) → nat_eq (length (before ++ l ∷ [])) 0 ≡ false
length_more before l = ne_eqb _ _ (λ same. omega (arith, length-append before (l ∷ [])))

some_progress : (present : List Bool) (jobs : Option ℕ) → 0 < length present → nat_eq (length (progress_lines present jobs)) 0 ≡ false
some_progress [] jobs some = absurd (omega arith)
some_progress (first ∷ present) jobs some = not_none (length (bringing 0 (first ∷ present) ++ batch_lines jobs))

pub pages_of_progress : (present : List Bool) (jobs : Option ℕ) → MayBeOpen present jobs → 0 < length (progress_lines present jobs) → 0 < length present
pages_of_progress [] None may some = absurd (omega arith)
pages_of_progress [] (Some jobs) may some = absurd (omega (arith, may.0))
pages_of_progress (first ∷ present) jobs may some = omega arith

lines_of_pages : (present : List Bool) (jobs : Option ℕ) → 0 < length present → 0 < length (progress_lines present jobs)
lines_of_pages [] jobs some = absurd (omega arith)
lines_of_pages (first ∷ present) jobs some = omega arith

-- the lines for the pages that are present behind another line, and for the batch that is open then
noted : (present after : List Bool) (jobs more : Option ℕ) (l : Line) → 0 < length after → more ≡ open_after jobs l
    → Tracks after (progress_lines present jobs ++ l ∷ []) → Alike (progress_lines after more) (progress_lines present jobs ++ l ∷ [])
noted present after jobs more l some is tracks =
    let before = progress_lines present jobs in
    let this = progress_tracked after more in
    record {
      none = some_progress after more some ∙ sym (length_more before l);
      pages = sym this.pages ∙ tracks.pages;
      marks = λ page. sym (this.marks page) ∙ tracks.marks page;
      jobs = sym (progress_open after more) ∙ is ∙ ap (λ (o : Option ℕ). open_after o l) (progress_open present jobs) ∙ sym (open_more before l);
    }

pub noted_image : (present : List Bool) (jobs more : Option ℕ) (l : Line) (pages : ℕ) → l ≡ line.Image pages → more ≡ open_after jobs l
    → IsNext (progress_lines present jobs) l → Alike (progress_lines (replicate pages false) more) (progress_lines present jobs ++ l ∷ [])
noted_image present jobs more l pages is opens next =
    let here = subst (IsNext (progress_lines present jobs)) is next in
    let alone : progress_lines present jobs ++ l ∷ [] ≡ line.Image pages ∷ [] = ap₂ (λ (ls : List Line) (l : Line). ls ++ l ∷ []) here.0 is in
    noted present (replicate pages false) jobs more l (omega (arith, here.1, length-replicate pages false)) opens
    (rw alone (tracks_image pages))

pub noted_page : (present : List Bool) (jobs more : Option ℕ) (l : Line) (page : ℕ) (bytes : List ℕ) → l ≡ line.Page page bytes → more ≡ open_after jobs l
    → IsNext (progress_lines present jobs) l → Alike (progress_lines (set present page true) more) (progress_lines present jobs ++ l ∷ [])
noted_page present jobs more l page bytes is opens next =
    let inside : page < pages_of (progress_lines present jobs) = subst (IsNext (progress_lines present jobs)) is next in
    let low : page < length present = omega (arith, progress_pages present jobs) in
    noted present (set present page true) jobs more l (omega (arith, length-set present page true)) opens
    (rw is (tracks_page present (progress_lines present jobs) page bytes (lines_of_pages present jobs (omega arith)) low (progress_tracked present jobs)))

pub noted_same : (present : List Bool) (jobs more : Option ℕ) (l : Line) → MayBeOpen present jobs → more ≡ open_after jobs l
    → 0 < length (progress_lines present jobs) → ((page : ℕ) → brings page l ≡ false)
    → Alike (progress_lines present more) (progress_lines present jobs ++ l ∷ [])
noted_same present jobs more l may opens some none =
    noted present present jobs more l (pages_of_progress present jobs may some) opens
    (tracks_same present (progress_lines present jobs) l some (progress_tracked present jobs) none)

-- whether a first word's line changes what is known of pages
abbrev pub is_noted : Word → Bool
is_noted word.Image = true
is_noted word.Page = true
is_noted other = false

pub noted_plain : (present : List Bool) (jobs more : Option ℕ) (first : Word) (v : Values) → MayBeOpen present jobs → more ≡ open_after jobs (line_of first v)
    → IsNext (progress_lines present jobs) (line_of first v) → is_noted first ≡ false
    → Alike (progress_lines present more) (progress_lines present jobs ++ line_of first v ∷ [])
noted_plain present jobs more word.Image v may opens next plain = cc
noted_plain present jobs more word.Page v may opens next plain = cc
noted_plain present jobs more word.Poke v may opens next plain = noted_same present jobs more (line_of word.Poke v) may opens next (λ page. refl)
noted_plain present jobs more (word.Job op) v may opens next plain = noted_same present jobs more (line_of (word.Job op) v) may opens next.0 (λ page. refl)
noted_plain present jobs more word.Raw v may opens next plain = noted_same present jobs more (line_of word.Raw v) may opens next.0 (λ page. refl)
noted_plain present jobs more word.Batch v may opens next plain = noted_same present jobs more (line_of word.Batch v) may opens next (λ page. refl)
noted_plain present jobs more word.End v may opens next plain = noted_same present jobs more (line_of word.End v) may opens next (λ page. refl)
noted_plain present jobs more word.Show v may opens next plain = noted_same present jobs more (line_of word.Show v) may opens next (λ page. refl)

-- the batch that is open behind a line that may come next
open_same : (present after : List Bool) (jobs : Option ℕ) → MayBeOpen present jobs → 0 < length after → MayBeOpen after jobs
open_same present after None may some = tt
open_same present after (Some jobs) may some = (some, may.1)

open_counted : (after : List Bool) (jobs : Option ℕ) → 0 < length after → unwrap_or jobs 0 < most_jobs → MayBeOpen after (open_after jobs (line.Job no_op_job))
open_counted after None some room = tt
open_counted after (Some jobs) some room = (some, omega arith)

open_by : (present after : List Bool) (jobs : Option ℕ) (l : Line) → MayBeOpen present jobs → 0 < length after → IsNext (progress_lines present jobs) l
    → MayBeOpen after (open_after jobs l)
open_by present after jobs (line.Image pages) may some next = open_same present after jobs may some
open_by present after jobs (line.Page page bytes) may some next = open_same present after jobs may some
open_by present after jobs (line.Poke address bytes) may some next = open_same present after jobs may some
open_by present after jobs (line.Job job) may some next = open_counted after jobs some (rw (progress_open present jobs) next.1)
open_by present after jobs line.Batch may some next = (some, omega arith)
open_by present after jobs line.End may some next = tt
open_by present after jobs (line.Show address len) may some next = open_same present after jobs may some

pub open_behind : (present after : List Bool) (jobs more : Option ℕ) (l : Line) → more ≡ open_after jobs l → MayBeOpen present jobs → 0 < length after
    → IsNext (progress_lines present jobs) l → MayBeOpen after more
open_behind present after jobs more l is may some next = rw is (open_by present after jobs l may some next)

-- Lines that are alike, with a line behind them.

no_line : (a b : List Line) → Alike a b → a ≡ [] → b ≡ []
no_line a b alike none = nil_from_length b (eqb-true (length b) 0 (sym alike.none ∙ ap (λ (ls : List Line). nat_eq (length ls) 0) none))

some_line : (b : List Line) → nat_eq (length b) 0 ≡ false → 0 < length b
some_line [] some = cc
some_line (l ∷ b) some = omega arith

open_alike : (a b : List Line) (l : Line) → Alike a b → open_jobs (a ++ l ∷ []) ≡ open_jobs (b ++ l ∷ [])
open_alike a b l alike = open_more a l ∙ ap (λ (o : Option ℕ). open_after o l) alike.jobs ∙ sym (open_more b l)

pub alike_more : (a b : List Line) (l : Line) → Alike a b → Alike (a ++ l ∷ []) (b ++ l ∷ [])
alike_more [] b l alike =
    let none : b ≡ [] = no_line [] b alike refl in
    rw none (record { none = refl; pages = refl; marks = λ page. refl; jobs = refl })
alike_more (first ∷ a) b l alike =
    let some : 0 < length b = some_line b (sym alike.none ∙ not_none (length a)) in
    record {
      none = length_more (first ∷ a) l ∙ sym (length_more b l);
      pages = pages_more (first ∷ a) l (omega arith) ∙ alike.pages ∙ sym (pages_more b l some);
      marks = λ page. present_more (first ∷ a) l page ∙ ap (λ (was : Bool). was || (brings page l || false)) (alike.marks page) ∙ sym (present_more b l page);
      jobs = open_alike (first ∷ a) b l alike;
    }
