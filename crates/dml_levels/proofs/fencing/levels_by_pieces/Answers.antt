use Rattle.std.proofs.Common.{◌≡◌, ℕ, ◌+◌, ◌-◌, take, ◌<◌, ◌≤◌, ◌^◌, All, List, ◌++◌, length, map, ap, sym, ◌∙◌, subst, arith}
use Rattle.std.specs.Prelude.{slice_range}
use Rattle.dml_types.specs.Conflict.{fenced_clash, levels, clash_levels}
use Rattle.dml_order.specs.Waves.{depth}
use Rattle.dml_levels.proofs.FenceLemmas.{depth_le, first_levels, piece_levels, raised_fit, size_of_range}
use Rattle.dml_levels.proofs.fencing.levels_by_pieces.Goals as goal

pub loop-from-init : goal.loop-from-init
loop-from-init c =
    let jobs = c.args.jobs.now in
    let to = c.next_fence-from.result in
    let within = c.next_fence-from.ensures.within.1 in (
      within,
      c.in_ok-levels.ensures ∙ (ap (λ n. levels (take n jobs)) (let e : to ≡ to - 0 = omega arith in e) ∙ first_levels jobs to within (λ j low high. c.next_fence-from.ensures.none_before j (omega (arith, c.min.ensures, low)) high)),
      c.next_fence-from.ensures.fenced,
    )

pub overflow_cast-depth : goal.overflow_cast-depth
overflow_cast-depth c =
    let clash = fenced_clash c.args.jobs.now in
    let same : c.depth.result ≡ depth (clash_levels clash c.loop-from.from) =
    c.depth.ensures ∙ ap depth (c.deref.ensures.value ∙ c.loop-from.invariant.1) in
    omega (arith, same, depth_le clash c.loop-from.from, c.requires, c.loop-from-test.true)

pub push_above-requires : goal.push_above-requires
push_above-requires c =
    let jobs = c.args.jobs.now in
    let clash = fenced_clash jobs in
    let from = c.loop-from.from in
    let to = c.next_fence-end.result in
    let within = c.next_fence-end.ensures.within in
    let piece = slice_range jobs from to in
    let base : depth (clash_levels clash from) ≡ c.depth.result =
    sym (c.depth.ensures ∙ ap depth (c.deref.ensures.value ∙ c.loop-from.invariant.1)) in
    let these : levels piece ≡ c.deref-in-loop-from.result.now =
    sym (c.deref-in-loop-from.ensures.value ∙ c.in_ok-piece.ensures) in
    let few : from + length piece ≤ 2 ^ 32 = omega (arith, size_of_range jobs from to within.1, within.0, within.1, c.requires) in
    subst (λ (b : ℕ). All (λ level. b + level < 2 ^ 32) c.deref-in-loop-from.result.now) base
    (subst (λ (list : List ℕ). All (λ level. depth (clash_levels clash from) + level < 2 ^ 32) list) these (raised_fit jobs from piece few))

pub loop-from-preserved : goal.loop-from-preserved
loop-from-preserved c =
    let jobs = c.args.jobs.now in
    let clash = fenced_clash jobs in
    let from = c.loop-from.from in
    let to = c.next_fence-end.result in
    let within = c.next_fence-end.ensures.within in
    let piece = slice_range jobs from to in
    let front = clash_levels clash from in
    let raised : ℕ → List ℕ → List ℕ = λ base list. front ++ map (λ level. base + level) list in
    let base : c.depth.result ≡ depth front =
    c.depth.ensures ∙ ap depth (c.deref.ensures.value ∙ c.loop-from.invariant.1) in
    let these : c.deref-in-loop-from.result.now ≡ levels piece =
    c.deref-in-loop-from.ensures.value ∙ c.in_ok-piece.ensures in (
      within.1,
      c.in_ok-push_above.ensures
          ∙ (ap (λ (old : List ℕ). old ++ map (λ level. c.depth.result + level) c.deref-in-loop-from.result.now) c.loop-from.invariant.1
          ∙ (ap (λ (b : ℕ). raised b c.deref-in-loop-from.result.now) base
          ∙ (ap (raised (depth front)) these
          ∙ sym (piece_levels jobs from to (omega (arith, within.0)) within.1 (λ i low. c.loop-from.invariant.2 c.loop-from-test.true) (λ j low high. c.next_fence-end.ensures.none_before j (omega (arith, low)) high))))),
      c.next_fence-end.ensures.fenced,
    )
