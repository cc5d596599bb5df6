use Rattle.std.proofs.Common.{◌≡◌, ℕ, List, map, rules, sym, ◌∙◌, ap, subst, refl}
use Rattle.dml_types.specs.Memory.{Memory, IsMemory, InOnePiece, is_one_piece, on_loan}
use Rattle.dml_types.specs.Step.{batch}
use Rattle.dml_desc.specs.Descriptor.{bytes_of_record, decoded}
use Rattle.dml_image.proofs.LentLemmas.{piece_kept}
use Rattle.dml_effect.specs.Pages.{all_present}
use Rattle.dml_effect.proofs.LendingLemmas.{batch_after, batch_answer_there, batch_records_there}
use Rattle.dml_effect.proofs.PageLemmas.{whole_is}
use Rattle.dml_effect.proofs.lending_whole.submit_batch_over.Goals as goal

pub take-image-requires : goal.take-image-requires
take-image-requires c =
    let name = c.new-pages.result.content.ghost_name in
    subst (λ (bytes : List ℕ). IsMemory (on_loan (all_present bytes) (InOnePiece name))) (sym c.new-pages.ensures.content) (piece_kept c.args.content.now name c.requires.pages.whole c.requires.pages.least c.requires.pages.most)

pub put-requires : goal.put-requires
put-requires c =
    let name = c.new-pages.result.content.ghost_name in
    let lent = whole_is c.args.content.now _ c.take-image.result name c.take-image.ensures c.new-pages.ensures.content in
    let back = batch_after c.args.content.now name (map decoded c.args.descriptors.now) c.args.staging c.args.staging c.take-image.result lent refl c.submit_batch_bytes_to-outcome.new.image c.submit_batch_bytes_to-outcome.ensures.image in
    ap (λ (m : Memory). is_one_piece m.loan) back

pub returns-clause-answer : goal.returns-clause-answer
returns-clause-answer c =
    let name = c.new-pages.result.content.ghost_name in
    let lent = whole_is c.args.content.now _ c.take-image.result name c.take-image.ensures c.new-pages.ensures.content in
    batch_answer_there c.args.content.now name (map decoded c.args.descriptors.now) c.args.staging c.args.staging c.take-image.result lent refl c.submit_batch_bytes_to-outcome.result c.submit_batch_bytes_to-outcome.ensures.answer

pub returns-clause-records : goal.returns-clause-records
returns-clause-records c =
    let name = c.new-pages.result.content.ghost_name in
    let lent = whole_is c.args.content.now _ c.take-image.result name c.take-image.ensures c.new-pages.ensures.content in
    c.submit_batch_bytes_to-outcome.ensures.records
    ∙ ap (map bytes_of_record) (batch_records_there c.args.content.now name (map decoded c.args.descriptors.now) c.args.staging c.args.staging c.take-image.result lent refl _ refl)

pub returns-clause-content : goal.returns-clause-content
returns-clause-content c =
    let name = c.new-pages.result.content.ghost_name in
    let jobs = map decoded c.args.descriptors.now in
    let lent = whole_is c.args.content.now _ c.take-image.result name c.take-image.ensures c.new-pages.ensures.content in
    let back = batch_after c.args.content.now name jobs c.args.staging c.args.staging c.take-image.result lent refl c.submit_batch_bytes_to-outcome.new.image c.submit_batch_bytes_to-outcome.ensures.image in
    let told : InOnePiece c.put.new.self.content.ghost_name ≡ InOnePiece name = c.put.ensures.same_reference ∙ ap (λ (m : Memory). m.loan) back in
    let same : c.put.new.self.content.ghost_name ≡ name = cc in
    let bytes : c.put.new.self.content.now ≡ (batch (all_present c.args.content.now) jobs c.args.staging).0.bytes =
    c.put.ensures.content ∙ ap (λ (m : Memory). m.bytes) back in
    search (rules, sym, same, bytes, c.new-pages.ensures.same_reference, ◌∙◌)
