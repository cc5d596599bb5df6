use Rattle.std.proofs.Common.{◌≡◌, ℕ, ◌+◌, ◌-◌, ◌<◌, List, length, get_or, set, sym, subst, arith}
use Rattle.std.proofs.lemmas.List.{get_or_read}
use Rattle.std.specs.Prelude.{slice_index}
use Rattle.dml_order.proofs.WaveLemmas.{level_below_depth}
use Rattle.dml_levels.specs.Links.{AreLinked}
use Rattle.dml_levels.proofs.LinkLemmas.{linked_more}
use Rattle.dml_levels.proofs.links.link_places.Goals as goal

pub index-requires : goal.index-requires
index-requires c =
    let levels = c.args.levels.now in
    let place : ℕ = c.loop-place.place - 1 in
    let low = level_below_depth levels place (omega arith) in
    omega (arith, low, c.loop-place.invariant.1.long, c.loop-place.links.ok.0)

pub index_mut-requires-in-loop-place : goal.index_mut-requires-in-loop-place
index_mut-requires-in-loop-place c =
    let levels = c.args.levels.now in
    let place : ℕ = c.loop-place.place - 1 in
    let low = level_below_depth levels place (omega arith) in
    omega (arith, low, c.loop-place.invariant.1.long, c.loop-place.links.ok.0)

-- by a link that is that of the level's first place so far
linked_with : (levels links : List ℕ) (place first link : ℕ) → place < length levels → first ≡ length levels + slice_index levels place → AreLinked levels links (place + 1) → link ≡ get_or links first 0 → AreLinked levels (set (set links place link) first place) place
linked_with levels links place first link below at known same =
    subst (λ n. AreLinked levels (set (set links place n) first place) place) (sym same) (linked_more levels links place first below at known)

pub loop-place-preserved : goal.loop-place-preserved
loop-place-preserved c =
    let levels = c.args.levels.now in
    let place : ℕ = c.loop-place.place - 1 in
    let links = c.loop-place.links.items in
    let first : ℕ = length levels + slice_index levels place in
    let low = level_below_depth levels place (omega arith) in
    let read : c.index.result.now ≡ get_or links first 0 =
    get_or_read links first _ (omega (arith, low, c.loop-place.invariant.1.long)) c.index.ensures 0 in
    let known : AreLinked levels links (place + 1) =
    subst (AreLinked levels links) (let e : c.loop-place.place ≡ place + 1 = omega arith in e) c.loop-place.invariant.1 in (
      omega arith,
      linked_with levels links place first _ (omega arith) (let e : first ≡ length levels + slice_index levels place = omega arith in e) known (grind (arith, read)),
    )
