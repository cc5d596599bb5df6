use Rattle.dml_portal.specs.Servers.{lanes_of}
use Rattle.dml_seats_tests.proofs.tests.sleeps.sleeps_and_wakes.Given as goal

abbrev pub ghosts-left_alone : goal.ghosts-left_alone
ghosts-left_alone g a = record { lanes = lanes_of a.server }
