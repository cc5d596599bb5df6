use Rattle.dml_portal.specs.Servers.{lanes_of}
use Rattle.dml_seats_tests.proofs.tests.some.rounds_held_short.Given as goal

abbrev pub ghosts-short_rounds : goal.ghosts-short_rounds
ghosts-short_rounds g a = record { lanes = lanes_of a.server }
