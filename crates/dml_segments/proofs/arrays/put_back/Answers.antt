use Rattle.std.proofs.Common.{ap, arith}
use Rattle.std.proofs.lemmas.List.{same_lists}
use Rattle.dml_segments.specs.Pieces.{pieces_of}
use Rattle.dml_segments.proofs.arrays.put_back.Goals as goal

pub returns : goal.returns
returns c =
    ap pieces_of (same_lists c.loop-k.segments c.args.list.items c.loop-k.invariant.size
    (λ j default low. c.loop-k.invariant.back j default (omega (arith, c.loop-k-test.false)) (omega (arith, low, c.loop-k.invariant.size))))
