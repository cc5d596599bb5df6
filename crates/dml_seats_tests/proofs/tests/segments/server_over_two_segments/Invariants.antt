use Rattle.dml_portal.specs.Servers.{lanes_of}
use Rattle.dml_seats_tests.proofs.tests.segments.server_over_two_segments.Given as goal

abbrev pub ghosts-moved : goal.ghosts-moved
ghosts-moved g a = record { lanes = lanes_of a.server }
