use Rattle.std.proofs.Common.{◌∙◌, ap}
use Rattle.dml_types.specs.Memory.{put}
use Rattle.dml_desc.specs.Descriptor.{bytes_of_record}
use Rattle.dml_buffers.proofs.HoldsLemmas.{put_held}
use Rattle.dml_c.proofs.DirectLemmas.{carried_memory, carried_record, refused_memory, refused_record}
use Rattle.dml_c.proofs.direct.kazovuni_move_within.Goals as goal

-- a refused job
pub returns-in-Err-clause-record : goal.returns-in-Err-clause-record
returns-in-Err-clause-record c = λ done memory held.
    c.record_bytes.ensures
    ∙ (ap bytes_of_record c.refused.ensures
    ∙ refused_record memory c.args.descriptor.now c.in-Err.status c.in-Err.ensures.refused)

pub returns-in-Err-clause-content : goal.returns-in-Err-clause-content
returns-in-Err-clause-content c = λ done memory held.
    refused_memory memory c.args.descriptor.now c.in-Err.status c.in-Err.ensures.refused
    ∙ put_held memory c.args.start c.args.bytes.now held

-- one that is carried out
pub returns-else-not-lies_in-clause-record : goal.returns-else-not-lies_in-clause-record
returns-else-not-lies_in-clause-record c = λ done memory held.
    c.record_bytes-in-Ok.ensures
    ∙ carried_record memory c.args.descriptor.now c.in-Ok.job c.in-Ok.ensures.same c.in-Ok.ensures.accepted
    c.move_within.result
    (c.move_within.ensures.answer memory held)

pub returns-else-not-lies_in-clause-content : goal.returns-else-not-lies_in-clause-content
returns-else-not-lies_in-clause-content c = λ done memory held.
    carried_memory memory c.args.descriptor.now c.in-Ok.job c.in-Ok.ensures.same c.in-Ok.ensures.accepted
    (put memory c.args.start c.move_within.new.bytes)
    (c.move_within.ensures.content memory held)
