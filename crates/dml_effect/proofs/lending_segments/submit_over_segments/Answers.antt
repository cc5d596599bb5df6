use Rattle.std.proofs.Common.{sym, ◌∙◌, ap}
use Rattle.dml_types.specs.Memory.{Memory, are_segments}
use Rattle.dml_types.proofs.LoanLemmas.{loan_after_step}
use Rattle.dml_effect.proofs.SegmentLemmas.{length_by_loan}
use Rattle.dml_effect.proofs.lending_segments.submit_over_segments.Goals as goal

pub into_segments-requires : goal.into_segments-requires
into_segments-requires c =
    ap (λ (m : Memory). are_segments m.loan) c.submit_to-answer.ensures.image
    ∙ (ap are_segments (loan_after_step c.in_ok-image.image c.args.job.now c.args.staging)
    ∙ ap (λ (m : Memory). are_segments m.loan) c.in_ok-image.ensures.image)

pub put_back-requires : goal.put_back-requires
put_back-requires c =
    let loan = ap (λ (m : Memory). m.loan) c.into_segments.ensures.memory
    ∙ (ap (λ (m : Memory). m.loan) c.submit_to-answer.ensures.image
    ∙ (loan_after_step c.in_ok-image.image c.args.job.now c.args.staging
    ∙ ap (λ (m : Memory). m.loan) c.in_ok-image.ensures.image)) in
    length_by_loan c.into_segments.result.items c.args.segments.now loan ∙ sym c.in_ok-image.ensures.as_many
