use Rattle.dml_portal.specs.Servers.{lanes_of}
use Rattle.dml_seats_tests.proofs.tests.endings.seats_used_again.Given as goal

abbrev pub ghosts-used_again : goal.ghosts-used_again
ghosts-used_again g a = record { lanes = lanes_of a.server }
