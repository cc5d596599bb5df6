use Rattle.std.proofs.Common.{◌≡◌, ℕ, List, rules, sym, ◌∙◌, ap, subst}
use Rattle.dml_types.specs.Memory.{Memory, IsMemory, InOnePiece, is_one_piece, on_loan}
use Rattle.dml_types.specs.Step.{step}
use Rattle.dml_image.proofs.LentLemmas.{piece_kept}
use Rattle.dml_effect.specs.Pages.{all_present}
use Rattle.dml_effect.proofs.PageLemmas.{answer_of_whole, bytes_of_whole, loan_of_whole, whole_is}
use Rattle.dml_effect.proofs.lending_whole.submit_straight_over_whole.Goals as goal

pub take-image-requires : goal.take-image-requires
take-image-requires c =
    let name = c.new-pages.result.content.ghost_name in
    subst (λ (bytes : List ℕ). IsMemory (on_loan (all_present bytes) (InOnePiece name))) (sym c.new-pages.ensures.content) (piece_kept c.args.content.now name c.requires.pages.whole c.requires.pages.least c.requires.pages.most)

pub put-requires : goal.put-requires
put-requires c =
    let name = c.new-pages.result.content.ghost_name in
    let lent = whole_is c.args.content.now _ c.take-image.result name c.take-image.ensures c.new-pages.ensures.content in
    ap (λ (m : Memory). is_one_piece m.loan) c.submit_straight_to-answer.ensures.image
    ∙ ap is_one_piece (loan_of_whole c.args.content.now c.take-image.result name c.args.job.now c.args.staging lent)

pub returns-clause-answer : goal.returns-clause-answer
returns-clause-answer c =
    let name = c.new-pages.result.content.ghost_name in
    let lent = whole_is c.args.content.now _ c.take-image.result name c.take-image.ensures c.new-pages.ensures.content in
    c.submit_straight_to-answer.ensures.answer ∙ answer_of_whole c.args.content.now c.take-image.result name c.args.job.now c.args.staging lent

pub returns-clause-content : goal.returns-clause-content
returns-clause-content c =
    let name = c.new-pages.result.content.ghost_name in
    let lent = whole_is c.args.content.now _ c.take-image.result name c.take-image.ensures c.new-pages.ensures.content in
    let loan = ap (λ (m : Memory). m.loan) c.submit_straight_to-answer.ensures.image ∙ loan_of_whole c.args.content.now c.take-image.result name c.args.job.now c.args.staging lent in
    let told : InOnePiece c.put.new.self.content.ghost_name ≡ InOnePiece name = c.put.ensures.same_reference ∙ loan in
    let back : c.put.new.self.content.ghost_name ≡ name = cc in
    let bytes : c.put.new.self.content.now ≡ (step (all_present c.args.content.now) c.args.job.now c.args.staging).0.bytes =
    c.put.ensures.content ∙ (ap (λ (m : Memory). m.bytes) c.submit_straight_to-answer.ensures.image ∙ bytes_of_whole c.args.content.now c.take-image.result name c.args.job.now c.args.staging lent) in
    search (rules, sym, back, bytes, c.new-pages.ensures.same_reference, ◌∙◌)
