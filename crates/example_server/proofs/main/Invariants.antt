use Rattle.dml_portal.specs.Servers.{lanes_of}
use Rattle.example_server.proofs.main.Given as goal

abbrev pub ghosts-run : goal.ghosts-run
ghosts-run g a = record { lanes = lanes_of a.server }
