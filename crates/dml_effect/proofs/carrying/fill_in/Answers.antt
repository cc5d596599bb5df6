use Rattle.std.proofs.Common.{◌≡◌, ℕ, refl, ◌∙◌, ap}
use Rattle.dml_types.specs.declared.findings.Found.{Found}
use Rattle.dml_types.specs.declared.jobs.Job.{Job}
use Rattle.dml_types.specs.declared.operations.Op.TheVariants.{Fill}
use Rattle.dml_types.specs.declared.operations.Direction.TheVariants.{Forward}
use Rattle.dml_types.specs.Effect.{Effect}
use Rattle.dml_types.specs.Memory.{Memory}
use Rattle.dml_types.specs.Chunk.{scan_done, scan_found, scan_staged}
use Rattle.dml_effect.specs.Effects.{are_present, some_puts, puts_of}
use Rattle.dml_effect.specs.Joined.{scanned_puts}
use Rattle.dml_effect.proofs.FillLemmas.{by_offsets}
use Rattle.dml_effect.proofs.ScannedLemmas.{answer_at, count_at}
use Rattle.dml_effect.proofs.WholeLemmas.{record_of_step, puts_of_effect, effect_of_checked, image_of_puts}
use Rattle.dml_effect.proofs.carrying.fill_in.Goals as goal

-- how the scan of the whole fill ended, by the job that was checked
found_at : (memory : Memory) (job given : Job) (found : Found) → given ≡ job → found ≡ scan_found Fill memory job 0 given.size → found ≡ scan_found Fill memory job 0 job.size
found_at memory job given found same is = is ∙ ap (λ (j : Job). scan_found Fill memory job 0 j.size) same

pub returns-clause-answer : goal.returns-clause-answer
returns-clause-answer c =
    let memory = c.args.image.now in
    let job = c.args.job.now in
    let found = found_at memory job c.job-given.result.now c.fill_found-found.result c.job-given.ensures.job c.fill_found-found.ensures in
    answer_at memory job c.job-given.result.now Fill Forward c.fill_found-found.result c.scanned_record-answer.result c.job-given.ensures.job refl found c.scanned_record-answer.ensures
    ∙ record_of_step memory job Fill c.requires.operation (by_offsets job c.requires.operation) c.job-given.ensures.checked

puts_at : (c : goal.After-filled_puts-puts)
    → puts_of c.filled_puts-puts.result ≡ scanned_puts Fill c.args.job.now Forward (scan_done Fill c.args.image.now c.args.job.now 0 c.args.job.now.size) (scan_staged Fill c.args.image.now c.args.job.now 0 c.args.job.now.size)
puts_at c =
    let memory = c.args.image.now in
    let job = c.args.job.now in
    let staged = scan_staged Fill memory job 0 job.size in
    let found = found_at memory job c.job-given.result.now c.fill_found-found.result c.job-given.ensures.job c.fill_found-found.ensures in
    let count = count_at memory job c.job-given.result.now Fill Forward c.fill_found-found.result c.scanned_record-answer.result c.job-given.ensures.job refl found c.scanned_record-answer.ensures in
    c.filled_puts-puts.ensures staged
    ∙ (ap (λ (j : Job). scanned_puts Fill j Forward c.scanned_record-answer.result.completed staged) c.job-given.ensures.job
    ∙ ap (λ (n : ℕ). scanned_puts Fill job Forward n staged) count)

pub returns-clause-image : goal.returns-clause-image
returns-clause-image c =
    let memory = c.args.image.now in
    let job = c.args.job.now in
    image_of_puts memory job _
    (puts_at c
    ∙ ((puts_of_effect memory job Fill c.requires.operation (by_offsets job c.requires.operation) c.pages-pages.ensures.memory.whole).same
    ∙ ap (λ (e : Effect). some_puts e.puts) (effect_of_checked memory job Fill c.requires.operation c.job-given.ensures.checked)))

pub returns-clause-present : goal.returns-clause-present
returns-clause-present c =
    let memory = c.args.image.now in
    let job = c.args.job.now in
    ap (are_present memory) (puts_at c)
    ∙ (puts_of_effect memory job Fill c.requires.operation (by_offsets job c.requires.operation) c.pages-pages.ensures.memory.whole).present
