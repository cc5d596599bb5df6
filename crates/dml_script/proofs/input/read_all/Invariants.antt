use Rattle.std.proofs.Common.{◌≡◌, ◌≤◌, false, length}
use Rattle.std.specs.Io.KnownBytes.{Consumes}
use Rattle.dml_script.specs.Watching.{inner_of, has_failed}
use Rattle.dml_script.proofs.input.read_all.Given as goal

abbrev pub invariant-loop-turn : goal.invariant-loop-turn
invariant-loop-turn g l = record {
  passed : has_failed l.reader ≡ false;
  turns : l._turn ≤ length l.input.items;
  within : length l.input.items ≤ 4194304;
  taken : Consumes (g.R.Read.remaining (inner_of l.initial.reader)) (g.R.Read.remaining (inner_of l.reader)) l.input.items;
}
