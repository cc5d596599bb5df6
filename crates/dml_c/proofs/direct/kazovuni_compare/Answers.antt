use Rattle.std.proofs.Common.{sym, ◌∙◌, ap, subst}
use Rattle.dml_types.specs.declared.jobs.Job.{Job}
use Rattle.dml_desc.specs.Descriptor.{bytes_of_record}
use Rattle.dml_buffers.specs.Holds.{Holds}
use Rattle.dml_c.proofs.DirectLemmas.{carried_memory, carried_record, refused_memory, refused_record}
use Rattle.dml_c.proofs.direct.kazovuni_compare.Goals as goal

-- a refused job
pub returns-in-Err-clause-record : goal.returns-in-Err-clause-record
returns-in-Err-clause-record c = λ done memory source_held target_held.
    c.record_bytes.ensures
    ∙ (ap bytes_of_record c.refused.ensures
    ∙ refused_record memory c.args.descriptor.now c.in-Err.status c.in-Err.ensures.refused)

pub returns-in-Err-clause-content : goal.returns-in-Err-clause-content
returns-in-Err-clause-content c = λ done memory source_held target_held.
    refused_memory memory c.args.descriptor.now c.in-Err.status c.in-Err.ensures.refused

-- one that is carried out
pub returns-else-other-size-clause-record : goal.returns-else-other-size-clause-record
returns-else-other-size-clause-record c = λ done memory source_held target_held.
    c.record_bytes-in-Ok.ensures
    ∙ carried_record memory c.args.descriptor.now c.in-Ok.job c.in-Ok.ensures.same c.in-Ok.ensures.accepted
    c.compare.result
    (c.compare.ensures.answer memory
    (subst (λ (j : Job). Holds memory j.source c.args.one.now) (sym c.in-Ok.ensures.same) source_held)
    (subst (λ (j : Job). Holds memory j.target c.args.other.now) (sym c.in-Ok.ensures.same) target_held))

pub returns-else-other-size-clause-content : goal.returns-else-other-size-clause-content
returns-else-other-size-clause-content c = λ done memory source_held target_held.
    carried_memory memory c.args.descriptor.now c.in-Ok.job c.in-Ok.ensures.same c.in-Ok.ensures.accepted memory
    (c.compare.ensures.unchanged memory
    (subst (λ (j : Job). Holds memory j.source c.args.one.now) (sym c.in-Ok.ensures.same) source_held)
    (subst (λ (j : Job). Holds memory j.target c.args.other.now) (sym c.in-Ok.ensures.same) target_held))
