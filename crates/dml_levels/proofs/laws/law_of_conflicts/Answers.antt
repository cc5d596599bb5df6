use Rattle.dml_levels.proofs.CommuteLemmas.{jobs_commute, effect_stands}
use Rattle.dml_levels.proofs.LawLemmas.{own_clashes_hold, clashes_without_refused_hold}
use Rattle.dml_levels.proofs.laws.law_of_conflicts.Goals as goal

pub returns-clause-commute : goal.returns-clause-commute
returns-clause-commute c = jobs_commute

pub returns-clause-effect_stands : goal.returns-clause-effect_stands
returns-clause-effect_stands c = effect_stands

pub returns-clause-own_clashes : goal.returns-clause-own_clashes
returns-clause-own_clashes c = own_clashes_hold

pub returns-clause-without_refused : goal.returns-clause-without_refused
returns-clause-without_refused c = clashes_without_refused_hold
