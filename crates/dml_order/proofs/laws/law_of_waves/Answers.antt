use Rattle.dml_order.proofs.WaveLemmas.{waves_order}
use Rattle.dml_order.proofs.WaveFacts.{waves_rise, waves_of_one_level, waves_fit, waves_full}
use Rattle.dml_order.proofs.laws.law_of_waves.Goals as goal

pub returns-clause-order : goal.returns-clause-order
returns-clause-order c = waves_order

pub returns-clause-rise : goal.returns-clause-rise
returns-clause-rise c = waves_rise

pub returns-clause-one_level : goal.returns-clause-one_level
returns-clause-one_level c = waves_of_one_level

pub returns-clause-fit : goal.returns-clause-fit
returns-clause-fit c = waves_fit

pub returns-clause-full : goal.returns-clause-full
returns-clause-full c = waves_full
