use Rattle.std.proofs.Common.{◌≡◌, map, take, string_bytes}
use Rattle.dml_command.proofs.requests.parse_arguments.Given as goal

-- the words are the texts of the arguments so far
abbrev pub invariant-loop-argument : goal.invariant-loop-argument
invariant-loop-argument l = map (λ word. word.now) l.words.items ≡ map string_bytes (take l.argument-index l.arguments)
