use Rattle.std.proofs.Common.{◌≡◌, ◌++◌, take}
use Rattle.dml_levels.specs.Cells.{starts_of}
use Rattle.dml_levels.proofs.StartLemmas.{addresses}
use Rattle.dml_levels.proofs.starts.Starts.push.Given as goal

abbrev pub invariant-loop-span : goal.invariant-loop-span
invariant-loop-span l = addresses l.self-inside.list.items ≡ l.fn.self ++ starts_of (take l.span-index l.spans)
