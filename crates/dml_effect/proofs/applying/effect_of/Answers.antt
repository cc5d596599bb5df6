use Rattle.std.proofs.Common.{◌∙◌, ap, ap₂}
use Rattle.dml_types.specs.declared.jobs.Job.{Job}
use Rattle.dml_types.specs.Chunk.{apply_bad, apply_staged}
use Rattle.dml_effect.specs.Applies.{applied_record, block_puts}
use Rattle.dml_effect.specs.Effects.{are_present}
use Rattle.dml_effect.proofs.AppliedLemmas.{bad_within, none_of_whole, puts_of_apply, puts_of_checked, puts_of_none, record_of_apply, record_of_none, value_of_whole}
use Rattle.dml_effect.proofs.WholeLemmas.{image_of_puts}
use Rattle.dml_effect.proofs.applying.effect_of.Goals as goal

pub applied_record-requires-clause-bad : goal.applied_record-requires-clause-bad
applied_record-requires-clause-bad c =
    let piece = c.in-Some.field-0 in
    let value = value_of_whole c.args.image.now c.args.job.now c.args.whole piece c.requires.whole c.in-Some.is in
    bad_within c.args.image.now c.args.job.now piece.to piece.bad value.0.bad

pub returns-in-None-clause-answer : goal.returns-in-None-clause-answer
returns-in-None-clause-answer c =
    let empty = none_of_whole c.args.image.now c.args.job.now c.args.whole c.requires.whole c.in-None.is in
    c.ended.ensures ∙ record_of_none c.args.image.now c.args.job.now empty c.requires.operation c.job.ensures.checked

pub returns-in-None-clause-puts : goal.returns-in-None-clause-puts
returns-in-None-clause-puts c =
    let empty = none_of_whole c.args.image.now c.args.job.now c.args.whole c.requires.whole c.in-None.is in
    puts_of_none c.args.image.now c.args.job.now empty c.requires.operation c.job.ensures.checked c.pages-pages.ensures.memory.whole

pub returns-in-None-clause-image : goal.returns-in-None-clause-image
returns-in-None-clause-image c = image_of_puts c.args.image.now c.args.job.now _ (returns-in-None-clause-puts c)

pub returns-in-Some-clause-answer : goal.returns-in-Some-clause-answer
returns-in-Some-clause-answer c =
    let memory = c.args.image.now in
    let job = c.args.job.now in
    let piece = c.in-Some.field-0 in
    let value = value_of_whole memory job c.args.whole piece c.requires.whole c.in-Some.is in
    c.applied_record.ensures
    ∙ (ap₂ applied_record value.1 (value.0.bad ∙ ap (apply_bad memory job 0) value.1) ∙ record_of_apply memory job c.requires.operation c.job.ensures.checked)

pub returns-in-Some-clause-puts : goal.returns-in-Some-clause-puts
returns-in-Some-clause-puts c =
    let memory = c.args.image.now in
    let job = c.args.job.now in
    let piece = c.in-Some.field-0 in
    let value = value_of_whole memory job c.args.whole piece c.requires.whole c.in-Some.is in
    let target = ap (λ (j : Job). j.target) c.job.ensures.job in
    ap₂ block_puts target (value.0.staged ∙ ap (apply_staged memory job 0) value.1)
    ∙ puts_of_checked memory job c.pages-pages.ensures.memory.whole c.requires.operation c.job.ensures.checked

pub returns-in-Some-clause-image : goal.returns-in-Some-clause-image
returns-in-Some-clause-image c = image_of_puts c.args.image.now c.args.job.now _ (returns-in-Some-clause-puts c)

pub returns-in-Some-clause-present : goal.returns-in-Some-clause-present
returns-in-Some-clause-present c =
    let memory = c.args.image.now in
    let job = c.args.job.now in
    let piece = c.in-Some.field-0 in
    let value = value_of_whole memory job c.args.whole piece c.requires.whole c.in-Some.is in
    let target = ap (λ (j : Job). j.target) c.job.ensures.job in
    ap (are_present memory) (ap₂ block_puts target (value.0.staged ∙ ap (apply_staged memory job 0) value.1))
    ∙ (puts_of_apply memory job c.pages-pages.ensures.memory.whole).present
