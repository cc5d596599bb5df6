use Rattle.std.proofs.Common.{◌≡◌, Some, refl, sym, ◌∙◌, ap, subst, rules}
use Rattle.std.specs.Option.{IsSome}
use Rattle.dml_types.specs.Memory.{Memory}
use Rattle.dml_types.specs.Step.{step}
use Rattle.dml_effect.specs.Pages.{all_present}
use Rattle.dml_effect.proofs.PageLemmas.{answer_there, bytes_there, home_there, lent_is}
use Rattle.dml_effect.proofs.lending.submit_over.Goals as goal

pub put-requires : goal.put-requires
put-requires c =
    let name = c.new-lent.result.content.ghost_name in
    let lent = lent_is c.args.content.now _ _ c.take-image.result name c.take-image.ensures (c.new-lent.ensures.present ∙ c.all_of-present.ensures) c.new-lent.ensures.content in
    let home = ap (λ (m : Memory). m.home) c.submit_to-answer.ensures.image ∙ home_there c.args.content.now c.take-image.result (Some name) c.args.job.now c.args.staging lent in
    subst IsSome (sym home) refl

pub returns-clause-answer : goal.returns-clause-answer
returns-clause-answer c =
    let name = c.new-lent.result.content.ghost_name in
    let lent = lent_is c.args.content.now _ _ c.take-image.result name c.take-image.ensures (c.new-lent.ensures.present ∙ c.all_of-present.ensures) c.new-lent.ensures.content in
    c.submit_to-answer.ensures.answer ∙ answer_there c.args.content.now c.take-image.result (Some name) c.args.job.now c.args.staging lent

pub returns-clause-content : goal.returns-clause-content
returns-clause-content c =
    let name = c.new-lent.result.content.ghost_name in
    let lent = lent_is c.args.content.now _ _ c.take-image.result name c.take-image.ensures (c.new-lent.ensures.present ∙ c.all_of-present.ensures) c.new-lent.ensures.content in
    let home = ap (λ (m : Memory). m.home) c.submit_to-answer.ensures.image ∙ home_there c.args.content.now c.take-image.result (Some name) c.args.job.now c.args.staging lent in
    let told : Some c.put.new.self.content.ghost_name ≡ Some name = c.put.ensures.same_reference ∙ home in
    let back : c.put.new.self.content.ghost_name ≡ name = cc in
    let bytes : c.put.new.self.content.now ≡ (step (all_present c.args.content.now) c.args.job.now c.args.staging).0.bytes =
    c.put.ensures.content ∙ (ap (λ (m : Memory). m.bytes) c.submit_to-answer.ensures.image ∙ bytes_there c.args.content.now c.take-image.result (Some name) c.args.job.now c.args.staging lent) in
    search (rules, sym, back, bytes, c.new-lent.ensures.same_reference, ◌∙◌)
