use Rattle.dml_desc.proofs.RefusalLemmas.{refused_by_first_broken, accepted_where_none_broken, one_status_at_most}
use Rattle.dml_desc.proofs.refusal_laws.law_of_refusals.Goals as goal

pub returns-clause-refused : goal.returns-clause-refused
returns-clause-refused c = refused_by_first_broken

pub returns-clause-accepted : goal.returns-clause-accepted
returns-clause-accepted c = accepted_where_none_broken

pub returns-clause-one : goal.returns-clause-one
returns-clause-one c = one_status_at_most
