use Rattle.dml_core.proofs.JoinFacts.{commits_are_steps, kept_meet_joins}
use Rattle.dml_core.proofs.KeepsLemmas.{core_keeps, each_has_its_values, kept_join_to_step, only_commit_writes, sent_is_submitted}
use Rattle.dml_core.proofs.ReplayLemmas.{runs_go_on}
use Rattle.dml_core.proofs.WaveLemmas.{one_wave, waves_stand}
use Rattle.dml_core.proofs.laws.law_of_core.Goals as goal

pub returns-clause-keeps : goal.returns-clause-keeps
returns-clause-keeps c = core_keeps

pub returns-clause-sent : goal.returns-clause-sent
returns-clause-sent c = sent_is_submitted

pub returns-clause-only_commit_writes : goal.returns-clause-only_commit_writes
returns-clause-only_commit_writes c = only_commit_writes

pub returns-clause-values : goal.returns-clause-values
returns-clause-values c = each_has_its_values

pub returns-clause-joined : goal.returns-clause-joined
returns-clause-joined c = kept_join_to_step

pub returns-clause-meet_joins : goal.returns-clause-meet_joins
returns-clause-meet_joins c = kept_meet_joins

pub returns-clause-commits : goal.returns-clause-commits
returns-clause-commits c = commits_are_steps

pub returns-clause-go_on : goal.returns-clause-go_on
returns-clause-go_on c = runs_go_on

pub returns-clause-waves : goal.returns-clause-waves
returns-clause-waves c = waves_stand

pub returns-clause-one_wave : goal.returns-clause-one_wave
returns-clause-one_wave c = one_wave
