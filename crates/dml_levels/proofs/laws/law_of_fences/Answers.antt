use Rattle.dml_levels.proofs.BatchLaws.{all_pieces_are_waves, one_list_is_fold, waves_meet_fences}
use Rattle.dml_levels.proofs.FenceLaws.{fences_only_add, fences_part, front_is_fold, waves_before_fence}
use Rattle.dml_levels.proofs.PartLaws.{batches_hold_conflicts, fences_part_waves}
use Rattle.dml_levels.proofs.PieceLaws.{pieces_are_waves}
use Rattle.dml_levels.proofs.laws.law_of_fences.Goals as goal

pub returns-clause-only_add : goal.returns-clause-only_add
returns-clause-only_add c = fences_only_add

pub returns-clause-part : goal.returns-clause-part
returns-clause-part c = fences_part

pub returns-clause-before : goal.returns-clause-before
returns-clause-before c = waves_before_fence

pub returns-clause-fold : goal.returns-clause-fold
returns-clause-fold c = front_is_fold

pub returns-clause-of_batches : goal.returns-clause-of_batches
returns-clause-of_batches c = batches_hold_conflicts

pub returns-clause-waves : goal.returns-clause-waves
returns-clause-waves c = fences_part_waves

pub returns-clause-pieces : goal.returns-clause-pieces
returns-clause-pieces c = pieces_are_waves

pub returns-clause-whole : goal.returns-clause-whole
returns-clause-whole c = all_pieces_are_waves

pub returns-clause-one_list : goal.returns-clause-one_list
returns-clause-one_list c = one_list_is_fold

pub returns-clause-meet : goal.returns-clause-meet
returns-clause-meet c = waves_meet_fences
