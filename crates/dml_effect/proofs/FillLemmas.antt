-- A fill of which all is present, as the code carries it out in one page.
use Rattle.std.proofs.Common.{◌≡◌, ℕ, List, Some, true, refl, sym, ◌∙◌, ap, ap₂, arith, ⊎_elim}
use Rattle.std.proofs.lemmas.Bool.{cases_lt}
use Rattle.dml_types.specs.declared.findings.Found.TheVariants.{All}
use Rattle.dml_types.specs.declared.jobs.Job.{Job}
use Rattle.dml_types.specs.declared.records.Record.{Record}
use Rattle.dml_types.specs.declared.operations.Direction.TheVariants.{Forward}
use Rattle.dml_types.specs.declared.operations.Op.TheVariants.{ApplyDelta, CreateDelta, Fill}
use Rattle.dml_types.specs.Job.{op_of}
use Rattle.dml_types.specs.Memory.{Memory, IsWhole, has_all, present_toward, put, puts_made}
use Rattle.dml_types.specs.Bytewise.{pattern_bytes}
use Rattle.dml_types.specs.Chunk.{scan_done, scan_found, scan_staged}
use Rattle.dml_types.specs.Effect.{Effect}
use Rattle.dml_types.proofs.MemoryLemmas.{put_nil}
use Rattle.dml_desc.specs.Checked.{checked_step, IsChecked}
use Rattle.dml_segments.proofs.PatternLemmas.{pattern_bytes_none}
use Rattle.dml_scan.proofs.ReachLemmas.{fill_all}
use Rattle.dml_effect.specs.Chunks.{GoesByOffsets}
use Rattle.dml_effect.specs.Effects.{some_puts}
use Rattle.dml_effect.specs.Joined.{scanned_puts, scanned_record}
use Rattle.dml_effect.proofs.ScannedLemmas.{answer_at, count_at}
use Rattle.dml_effect.proofs.StraightLemmas.{all_toward}
use Rattle.dml_effect.proofs.WholeLemmas.{effect_of_checked, image_of_puts, puts_none, puts_of_effect, puts_some, record_of_step}

-- the put of a fill of n bytes
fill_made : (memory : Memory) (job : Job) (n : ℕ) (bytes : List ℕ) → puts_made memory (scanned_puts Fill job Forward n bytes) ≡ put memory job.target (pattern_bytes job.source n)
fill_made memory job n bytes =
    ⊎_elim (λ some. ap (puts_made memory) (puts_some Fill job Forward n bytes some))
    (λ none.
    let nothing : n ≡ 0 = omega arith in
    ap (puts_made memory) (puts_none Fill job Forward n bytes nothing)
    ∙ sym (ap (put memory job.target) (ap (pattern_bytes job.source) nothing ∙ sym (pattern_bytes_none job.source)) ∙ put_nil memory job.target))
    (cases_lt 0 n)

pub by_offsets : (job : Job) → op_of job ≡ Some Fill → GoesByOffsets job
by_offsets job is = (λ (e : op_of job ≡ Some CreateDelta). absurd (cc), λ (e : op_of job ≡ Some ApplyDelta). absurd (cc))

module _ (memory : Memory) (job given : Job) (answer : Record) (same : given ≡ job) (checked : IsChecked job) (operation : op_of job ≡ Some Fill) (here : has_all memory given.target given.size ≡ true) (told : answer ≡ scanned_record Fill given Forward All) where
  found : All ≡ scan_found Fill memory job 0 job.size
  found =
      let all : has_all memory job.target job.size ≡ true = ap (λ (j : Job). has_all memory j.target j.size) (sym same) ∙ here in
      fill_all memory job 0 job.size job.target (omega arith) (ap (present_toward Forward memory job.target) (omega arith) ∙ (sym (all_toward Forward memory job.target job.size all) ∙ omega arith))

  pub fill_answer : answer ≡ (checked_step memory job).1
  fill_answer = answer_at memory job given Fill Forward All answer same refl found told ∙ record_of_step memory job Fill operation (by_offsets job operation) checked

  pub fill_image : IsWhole memory → put memory given.target (pattern_bytes given.source given.size) ≡ (checked_step memory job).0
  fill_image whole =
      let staged = scan_staged Fill memory job 0 job.size in
      let done = scan_done Fill memory job 0 job.size in
      let count : answer.completed ≡ done = count_at memory job given Fill Forward All answer same refl found told in
      let size : given.size ≡ done = sym (ap (λ (r : Record). r.completed) told) ∙ count in
      ap₂ (λ (j : Job) (n : ℕ). put memory j.target (pattern_bytes j.source n)) same size
      ∙ (sym (fill_made memory job done staged)
      ∙ image_of_puts memory job _ ((puts_of_effect memory job Fill operation (by_offsets job operation) whole).same
      ∙ ap (λ (e : Effect). some_puts e.puts) (effect_of_checked memory job Fill operation checked)))
