use Rattle.std.proofs.Common.{◌+◌, ◌-◌, List, ℕ, take, drop, arith}
use Rattle.std.proofs.lemmas.List.{length-take, take_all}
use Rattle.dml_scan.proofs.lanes.load.Goals as goal

pub returns : goal.returns
returns c =
    let bytes : List ℕ = take (c.args.at + 32 - c.args.at) (drop c.args.at c.args.bytes.now) in
    take_all 32 bytes (omega (arith, length-take (c.args.at + 32 - c.args.at) (drop c.args.at c.args.bytes.now)))
