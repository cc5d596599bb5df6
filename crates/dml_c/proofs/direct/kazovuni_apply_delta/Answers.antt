use Rattle.std.proofs.Common.{sym, ◌∙◌, ap, subst}
use Rattle.dml_types.specs.declared.jobs.Job.{Job}
use Rattle.dml_types.specs.Memory.{put}
use Rattle.dml_desc.specs.Descriptor.{bytes_of_record, decoded}
use Rattle.dml_buffers.specs.Holds.{Holds}
use Rattle.dml_buffers.proofs.HoldsLemmas.{put_held}
use Rattle.dml_c.proofs.DirectLemmas.{carried_memory, carried_record, refused_memory, refused_record}
use Rattle.dml_c.proofs.direct.kazovuni_apply_delta.Goals as goal

-- a refused job
pub returns-in-Err-clause-record : goal.returns-in-Err-clause-record
returns-in-Err-clause-record c = λ done memory source_held target_held.
    c.record_bytes.ensures
    ∙ (ap bytes_of_record c.refused.ensures
    ∙ refused_record memory c.args.descriptor.now c.in-Err.status c.in-Err.ensures.refused)

pub returns-in-Err-clause-content : goal.returns-in-Err-clause-content
returns-in-Err-clause-content c = λ done memory source_held target_held.
    refused_memory memory c.args.descriptor.now c.in-Err.status c.in-Err.ensures.refused
    ∙ put_held memory (decoded c.args.descriptor.now).target c.args.target.now target_held

-- one that is carried out
pub returns-else-target-size-clause-record : goal.returns-else-target-size-clause-record
returns-else-target-size-clause-record c = λ done memory source_held target_held.
    c.record_bytes-in-Ok.ensures
    ∙ carried_record memory c.args.descriptor.now c.in-Ok.job c.in-Ok.ensures.same c.in-Ok.ensures.accepted
    c.apply_delta.result
    (c.apply_delta.ensures.answer memory
    (subst (λ (j : Job). Holds memory j.source c.args.delta.now) (sym c.in-Ok.ensures.same) source_held)
    (subst (λ (j : Job). Holds memory j.target c.args.target.now) (sym c.in-Ok.ensures.same) target_held))

pub returns-else-target-size-clause-content : goal.returns-else-target-size-clause-content
returns-else-target-size-clause-content c = λ done memory source_held target_held.
    carried_memory memory c.args.descriptor.now c.in-Ok.job c.in-Ok.ensures.same c.in-Ok.ensures.accepted
    (put memory (decoded c.args.descriptor.now).target c.apply_delta.new.target)
    (c.apply_delta.ensures.content memory
    (subst (λ (j : Job). Holds memory j.source c.args.delta.now) (sym c.in-Ok.ensures.same) source_held)
    (subst (λ (j : Job). Holds memory j.target c.args.target.now) (sym c.in-Ok.ensures.same) target_held)
    ∙ ap (λ (j : Job). put memory j.target c.apply_delta.new.target) c.in-Ok.ensures.same)
