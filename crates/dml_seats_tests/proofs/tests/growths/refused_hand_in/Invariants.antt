use Rattle.dml_portal.specs.Servers.{lanes_of}
use Rattle.dml_seats_tests.proofs.tests.growths.refused_hand_in.Given as goal

abbrev pub ghosts-given_up : goal.ghosts-given_up
ghosts-given_up g a = record { lanes = lanes_of a.server }
