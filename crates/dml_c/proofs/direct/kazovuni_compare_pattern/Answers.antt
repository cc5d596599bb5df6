use Rattle.std.proofs.Common.{sym, ◌∙◌, ap, subst}
use Rattle.dml_types.specs.declared.jobs.Job.{Job}
use Rattle.dml_desc.specs.Descriptor.{bytes_of_record}
use Rattle.dml_buffers.specs.Holds.{Holds}
use Rattle.dml_c.proofs.DirectLemmas.{carried_memory, carried_record, refused_memory, refused_record}
use Rattle.dml_c.proofs.direct.kazovuni_compare_pattern.Goals as goal

-- a refused job
pub returns-in-Err-clause-record : goal.returns-in-Err-clause-record
returns-in-Err-clause-record c = λ done memory source_held.
    c.record_bytes.ensures
    ∙ (ap bytes_of_record c.refused.ensures
    ∙ refused_record memory c.args.descriptor.now c.in-Err.status c.in-Err.ensures.refused)

pub returns-in-Err-clause-content : goal.returns-in-Err-clause-content
returns-in-Err-clause-content c = λ done memory source_held.
    refused_memory memory c.args.descriptor.now c.in-Err.status c.in-Err.ensures.refused

-- one that is carried out
pub returns-else-bytes-size-clause-record : goal.returns-else-bytes-size-clause-record
returns-else-bytes-size-clause-record c = λ done memory source_held.
    c.record_bytes-in-Ok.ensures
    ∙ carried_record memory c.args.descriptor.now c.in-Ok.job c.in-Ok.ensures.same c.in-Ok.ensures.accepted
    c.compare_pattern.result
    (c.compare_pattern.ensures.answer memory
    (subst (λ (j : Job). Holds memory j.source c.args.bytes.now) (sym c.in-Ok.ensures.same) source_held))

pub returns-else-bytes-size-clause-content : goal.returns-else-bytes-size-clause-content
returns-else-bytes-size-clause-content c = λ done memory source_held.
    carried_memory memory c.args.descriptor.now c.in-Ok.job c.in-Ok.ensures.same c.in-Ok.ensures.accepted memory
    (c.compare_pattern.ensures.unchanged memory
    (subst (λ (j : Job). Holds memory j.source c.args.bytes.now) (sym c.in-Ok.ensures.same) source_held))
