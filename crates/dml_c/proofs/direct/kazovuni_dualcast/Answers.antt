use Rattle.std.proofs.Common.{sym, ◌∙◌, ap, subst}
use Rattle.dml_types.specs.declared.jobs.Job.{Job}
use Rattle.dml_types.specs.Memory.{Memory, put}
use Rattle.dml_desc.specs.Descriptor.{bytes_of_record, decoded}
use Rattle.dml_buffers.specs.Holds.{Holds}
use Rattle.dml_buffers.proofs.HoldsLemmas.{put_held}
use Rattle.dml_c.proofs.DirectLemmas.{carried_memory, carried_record, refused_memory, refused_record}
use Rattle.dml_c.proofs.direct.kazovuni_dualcast.Goals as goal

-- a refused job
pub returns-in-Err-clause-record : goal.returns-in-Err-clause-record
returns-in-Err-clause-record c = λ done memory source_held target_held extra_held.
    c.record_bytes.ensures
    ∙ (ap bytes_of_record c.refused.ensures
    ∙ refused_record memory c.args.descriptor.now c.in-Err.status c.in-Err.ensures.refused)

pub returns-in-Err-clause-content : goal.returns-in-Err-clause-content
returns-in-Err-clause-content c = λ done memory source_held target_held extra_held.
    refused_memory memory c.args.descriptor.now c.in-Err.status c.in-Err.ensures.refused
    ∙ (put_held memory (decoded c.args.descriptor.now).extra c.args.second.now extra_held
    ∙ ap (λ (m : Memory). put m (decoded c.args.descriptor.now).extra c.args.second.now)
    (put_held memory (decoded c.args.descriptor.now).target c.args.target.now target_held))

-- one that is carried out
pub returns-else-second-size-clause-record : goal.returns-else-second-size-clause-record
returns-else-second-size-clause-record c = λ done memory source_held target_held extra_held.
    c.record_bytes-in-Ok.ensures
    ∙ carried_record memory c.args.descriptor.now c.in-Ok.job c.in-Ok.ensures.same c.in-Ok.ensures.accepted
    c.dualcast.result
    (c.dualcast.ensures.answer memory
    (subst (λ (j : Job). Holds memory j.source c.args.source.now) (sym c.in-Ok.ensures.same) source_held)
    (subst (λ (j : Job). Holds memory j.target c.args.target.now) (sym c.in-Ok.ensures.same) target_held)
    (subst (λ (j : Job). Holds memory j.extra c.args.second.now) (sym c.in-Ok.ensures.same) extra_held))

pub returns-else-second-size-clause-content : goal.returns-else-second-size-clause-content
returns-else-second-size-clause-content c = λ done memory source_held target_held extra_held.
    carried_memory memory c.args.descriptor.now c.in-Ok.job c.in-Ok.ensures.same c.in-Ok.ensures.accepted
    (put (put memory (decoded c.args.descriptor.now).target c.dualcast.new.target)
    (decoded c.args.descriptor.now).extra c.dualcast.new.second)
    (c.dualcast.ensures.content memory
    (subst (λ (j : Job). Holds memory j.source c.args.source.now) (sym c.in-Ok.ensures.same) source_held)
    (subst (λ (j : Job). Holds memory j.target c.args.target.now) (sym c.in-Ok.ensures.same) target_held)
    (subst (λ (j : Job). Holds memory j.extra c.args.second.now) (sym c.in-Ok.ensures.same) extra_held)
    ∙ ap (λ (j : Job). put (put memory j.target c.dualcast.new.target) j.extra c.dualcast.new.second)
    c.in-Ok.ensures.same)
