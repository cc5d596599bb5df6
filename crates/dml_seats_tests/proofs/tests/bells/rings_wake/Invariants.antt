use Rattle.dml_portal.specs.Servers.{lanes_of}
use Rattle.dml_seats_tests.proofs.tests.bells.rings_wake.Given as goal

abbrev pub ghosts-rung : goal.ghosts-rung
ghosts-rung g a = record { lanes = lanes_of a.server }
