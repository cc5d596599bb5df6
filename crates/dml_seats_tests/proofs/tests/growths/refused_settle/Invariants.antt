use Rattle.dml_portal.specs.Servers.{lanes_of}
use Rattle.dml_seats_tests.proofs.tests.growths.refused_settle.Given as goal

abbrev pub ghosts-settled : goal.ghosts-settled
ghosts-settled g a = record { lanes = lanes_of a.server }
