use Rattle.std.proofs.Common.{ℕ, eqb, replicate, sym, subst, ◌≡◌, ◌↔◌, w8}
use Rattle.std.proofs.lemmas.Simd.{tops_compared}
use lib.Lanes.{sel_l}
use Rattle.dml_scan.proofs.VectorLemmas.{alike_full}
use Rattle.dml_scan.proofs.lanes.alike.Goals as goal

pub returns : goal.returns
returns c =
    let a = c.args.a in
    let b = c.args.b in
    let full : ℕ = 255 in
    let none : ℕ = 0 in
    subst (λ ms. (sel_l ms (replicate 32 full) (replicate 32 none) ≡ replicate 32 full) ↔ (a ≡ b)) (sym (tops_compared w8 eqb a b)) (alike_full 32 a b c.fits-a.0 c.fits-b.0)
