use Rattle.std.proofs.Common.{sym, arith}
use Rattle.std.proofs.lemmas.Bool.{eq-eqb}
use Rattle.dml_types.specs.Memory.{has, present_bytes}
use Rattle.dml_types.proofs.FirstLemmas.{first_le}
use Rattle.dml_c.proofs.engines.has_range.Goals as goal
use Rattle.std.proofs.Common.{not, ◌+◌}

-- a range of no bytes is present
pub returns-then-len-eq0 : goal.returns-then-len-eq0
returns-then-len-eq0 c =
    let none = first_le c.args.len (λ i. not (has c.args.image.now (c.args.address + i))) in
    sym (eq-eqb (present_bytes c.args.image.now c.args.address c.args.len) c.args.len (omega (arith, none, c.if-len-eq0.true)))
