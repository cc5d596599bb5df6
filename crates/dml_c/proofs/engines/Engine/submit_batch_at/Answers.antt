use Rattle.std.proofs.Common.{map, sym, ◌∙◌, ap}
use Rattle.dml_types.specs.Memory.{Memory}
use Rattle.dml_types.specs.Step.{batch_jobs}
use Rattle.dml_types.proofs.LoanLemmas.{loan_after_jobs}
use Rattle.dml_desc.specs.Descriptor.{decoded}
use Rattle.dml_c.proofs.RegionLemmas.{no_first_fault, still_as_many, still_placed, still_segments}
use Rattle.dml_c.proofs.engines.Engine.submit_batch_at.Goals as goal

-- the memory is lent as it was
pub settle-requires-clause-segments : goal.settle-requires-clause-segments
settle-requires-clause-segments c =
    still_segments c.args.regions.now c.submit_batch_bytes_to-answer.new.image
    (ap (λ (m : Memory). m.loan) c.submit_batch_bytes_to-answer.ensures.image
    ∙ (loan_after_jobs c.in-Some.image (batch_jobs c.in-Some.image (map decoded c.args.descriptors.now) c.self.inside.staging) c.self.inside.staging ∙ ap (λ (m : Memory). m.loan) c.in-Some.ensures.image))

pub settle-requires-clause-as_many : goal.settle-requires-clause-as_many
settle-requires-clause-as_many c =
    still_as_many c.args.regions.now c.submit_batch_bytes_to-answer.new.image
    (ap (λ (m : Memory). m.loan) c.submit_batch_bytes_to-answer.ensures.image
    ∙ (loan_after_jobs c.in-Some.image (batch_jobs c.in-Some.image (map decoded c.args.descriptors.now) c.self.inside.staging) c.self.inside.staging ∙ ap (λ (m : Memory). m.loan) c.in-Some.ensures.image))
    ∙ sym c.in-Some.ensures.as_many

pub settle-requires-clause-addresses : goal.settle-requires-clause-addresses
settle-requires-clause-addresses c =
    c.in-Some.ensures.addresses
    ∙ sym (still_placed c.args.regions.now c.submit_batch_bytes_to-answer.new.image
    (ap (λ (m : Memory). m.loan) c.submit_batch_bytes_to-answer.ensures.image
    ∙ (loan_after_jobs c.in-Some.image (batch_jobs c.in-Some.image (map decoded c.args.descriptors.now) c.self.inside.staging) c.self.inside.staging ∙ ap (λ (m : Memory). m.loan) c.in-Some.ensures.image))
    (no_first_fault c.args.regions.now c.requires.sound))
