use Rattle.dml_portal.specs.Servers.{lanes_of}
use Rattle.dml_seats_tests.proofs.tests.endings.strangers_and_then_settled.Given as goal

abbrev pub ghosts-strangers : goal.ghosts-strangers
ghosts-strangers g a = record { lanes = lanes_of a.server }
