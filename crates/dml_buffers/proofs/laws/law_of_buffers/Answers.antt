use Rattle.dml_buffers.proofs.BlankLemmas.{blank_holds, blank_whole}
use Rattle.dml_buffers.proofs.HoldsLemmas.{held_after, held_beside, held_kept, held_sub, held_written}
use Rattle.dml_buffers.proofs.laws.law_of_buffers.Goals as goal

pub returns-clause-written : goal.returns-clause-written
returns-clause-written c = held_written

pub returns-clause-over : goal.returns-clause-over
returns-clause-over c = held_after

pub returns-clause-beside : goal.returns-clause-beside
returns-clause-beside c = held_beside

pub returns-clause-kept : goal.returns-clause-kept
returns-clause-kept c = held_kept

pub returns-clause-part : goal.returns-clause-part
returns-clause-part c = λ memory address from n bytes. held_sub memory address bytes from n

pub returns-clause-some : goal.returns-clause-some
returns-clause-some c = blank_holds

pub returns-clause-whole : goal.returns-clause-whole
returns-clause-whole c = blank_whole
