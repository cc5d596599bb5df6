use Rattle.std.proofs.Common.{◌≡◌, ◌∙◌}
use Rattle.dml_types.specs.Chunk.{apply_staged}
use Rattle.dml_delta.proofs.PieceLemmas.{apply_bad_is, apply_staged_is, last_of_good}
use Rattle.dml_delta.proofs.applies.scan_apply.Goals as goal

pub first_offset-first-requires-clause-good : goal.first_offset-first-requires-clause-good
first_offset-first-requires-clause-good c =
    c.bytes.ensures.bytes
    ∙ apply_staged_is c.args.image.now c.args.job.now c.args.from c.args.to c.stage_good-good.result _ _ c.stage_good-good.ensures.value c.requires.empty c.stage_good-good.ensures.bytes

pub returns-clause-bad : goal.returns-clause-bad
returns-clause-bad c =
    apply_bad_is c.args.image.now c.args.job.now c.args.from c.args.to c.stage_good-good.result c.first_bad-bad.result c.stage_good-good.ensures.value c.first_bad-bad.ensures

pub returns-clause-last : goal.returns-clause-last
returns-clause-last c =
    let staged : c.bytes-2.result.now ≡ apply_staged c.args.image.now c.args.job.now c.args.from c.args.to =
    c.bytes-2.ensures.bytes
    ∙ apply_staged_is c.args.image.now c.args.job.now c.args.from c.args.to c.stage_good-good.result _ _ c.stage_good-good.ensures.value c.requires.empty c.stage_good-good.ensures.bytes in
    last_of_good c.args.image.now c.args.job.now c.args.from c.args.to c.pages-pages.ensures.memory.whole c.bytes-2.result.now staged c.last_offset-last.result c.last_offset-last.ensures
