use Rattle.std.proofs.Common.{◌≡◌, ℕ, List, rules, sym, ◌∙◌, ap, subst}
use Rattle.dml_types.specs.Memory.{Memory, IsMemory, InOnePiece, is_one_piece, on_loan}
use Rattle.dml_types.specs.Step.{memory_after}
use Rattle.dml_image.proofs.LentLemmas.{piece_kept}
use Rattle.dml_effect.specs.Pages.{all_present}
use Rattle.dml_effect.proofs.PageLemmas.{whole_is}
use Rattle.dml_effect.proofs.LendingLemmas.{list_after, list_answers}
use Rattle.dml_engine.proofs.lending.run_list_over.Goals as goal

pub take-image-requires : goal.take-image-requires
take-image-requires g c =
    let name = c.new-whole.result.content.ghost_name in
    subst (λ (bytes : List ℕ). IsMemory (on_loan (all_present bytes) (InOnePiece name))) (sym c.new-whole.ensures.content) (piece_kept c.args.content.now name c.requires.pages.whole c.requires.pages.least c.requires.pages.most)

pub put-requires : goal.put-requires
put-requires g c =
    let name = c.new-whole.result.content.ghost_name in
    let lent = whole_is c.args.content.now _ c.take-image.result name c.take-image.ensures c.new-whole.ensures.content in
    let there = c.in-Ok-of_valid.ensures.image ∙ lent in
    let back = list_after c.args.content.now name c.args.jobs.now c.args.settings.staging c.in-Ok-of_valid.engine.settings.staging c.in-Ok-of_valid.engine.image there (ap (λ s. s.staging) c.in-Ok-of_valid.ensures.settings) c.submit_into.new.self.image c.submit_into.ensures.image in
    ap (λ (m : Memory). is_one_piece m.loan) (c.into_image.ensures ∙ back)

pub returns-in-Ok-of_valid-clause-content : goal.returns-in-Ok-of_valid-clause-content
returns-in-Ok-of_valid-clause-content g c =
    let name = c.new-whole.result.content.ghost_name in
    let lent = whole_is c.args.content.now _ c.take-image.result name c.take-image.ensures c.new-whole.ensures.content in
    let there = c.in-Ok-of_valid.ensures.image ∙ lent in
    let back = list_after c.args.content.now name c.args.jobs.now c.args.settings.staging c.in-Ok-of_valid.engine.settings.staging c.in-Ok-of_valid.engine.image there (ap (λ s. s.staging) c.in-Ok-of_valid.ensures.settings) c.submit_into.new.self.image c.submit_into.ensures.image in
    let told : InOnePiece c.put.new.self.content.ghost_name ≡ InOnePiece name = c.put.ensures.same_reference ∙ ap (λ (m : Memory). m.loan) (c.into_image.ensures ∙ back) in
    let same : c.put.new.self.content.ghost_name ≡ name = cc in
    let bytes : c.put.new.self.content.now ≡ (memory_after (all_present c.args.content.now) c.args.jobs.now c.args.settings.staging).bytes =
    c.put.ensures.content ∙ ap (λ (m : Memory). m.bytes) (c.into_image.ensures ∙ back) in
    search (rules, sym, same, bytes, c.new-whole.ensures.same_reference, ◌∙◌)

pub returns-in-Ok-of_valid-clause-records : goal.returns-in-Ok-of_valid-clause-records
returns-in-Ok-of_valid-clause-records g c =
    let name = c.new-whole.result.content.ghost_name in
    let lent = whole_is c.args.content.now _ c.take-image.result name c.take-image.ensures c.new-whole.ensures.content in
    let there = c.in-Ok-of_valid.ensures.image ∙ lent in
    list_answers c.args.content.now name c.args.jobs.now c.args.settings.staging c.in-Ok-of_valid.engine.settings.staging c.in-Ok-of_valid.engine.image there (ap (λ s. s.staging) c.in-Ok-of_valid.ensures.settings) _ c.submit_into.ensures.records
