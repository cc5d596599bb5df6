use Rattle.std.proofs.Common.{◌≡◌, ◌≤◌, false, true, length, arith}
use Rattle.std.proofs.lemmas.List.{length-set}
use Rattle.dml_types.specs.Memory.{Memory, is_own}
use Rattle.dml_image.specs.Brought.{evicted}
use Rattle.dml_c.proofs.PageLemmas.{after_evict}
use Rattle.dml_c.proofs.engines.Engine.evict.Goals as goal

-- a page that is given up is a page of the image's still
pub invariant_of-self : goal.invariant_of-self
invariant_of-self c =
    let old = c.self.inside.image in
    let gone = evicted old c.args.page in
    let new = c.evict.new.self in
    let many = length-set old.present c.args.page false in (
      c.self.invariant.0,
      after_evict (λ (m : Memory). length m.present ≤ 4096) c.evict.result new gone old c.evict.ensures.gone c.evict.ensures.kept (omega (arith, many, c.self.invariant.1)) c.self.invariant.1,
      after_evict (λ (m : Memory). is_own m ≡ true) c.evict.result new gone old c.evict.ensures.gone c.evict.ensures.kept c.self.invariant.2 c.self.invariant.2,
    )
