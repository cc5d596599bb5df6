use Rattle.std.proofs.Common.{◌≡◌, ◌-◌, ◌*◌, get_or, ap, sym, ◌∙◌, arith}
use Rattle.std.proofs.lemmas.Grind.{common_steps}
use Rattle.dml_segments.specs.declared.segments.Segment.{Segment}
use Rattle.dml_c.proofs.RegionLemmas.{given, placed, placed_at}
use Rattle.dml_c.proofs.regions.put_back.Goals as goal

pub returns-clause-given : goal.returns-clause-given
returns-clause-given c =
    given c.loop-k.regions c.args.list.now.items c.loop-k.invariant.size
    (λ j region segment below. c.loop-k.invariant.back j region segment (omega (arith, c.loop-k-test.false)) below)

pub returns-clause-addresses : goal.returns-clause-addresses
returns-clause-addresses c =
    placed c.loop-k.regions c.args.list.now.items c.loop-k.invariant.size c.loop-k.invariant.places ∙ sym c.requires.addresses

pub loop-k-init : goal.loop-k-init
loop-k-init c = record {
  within = omega (arith, c.requires.as_many);
  size = sym c.requires.as_many;
  front = grind (arith, common_steps);
  back = λ j region segment at below. absurd (omega (arith, c.requires.as_many, at, below));
  places = λ j region segment below.
      placed_at c.args.regions.now c.args.list.now.items j region segment below (sym c.requires.as_many) c.requires.addresses;
}

pub put-requires : goal.put-requires
put-requires c =
    let k = c.loop-k.k in
    let segment = c.in-Some.segment in
    let last : get_or c.args.list.now.items (k - 1) segment ≡ segment = grind (arith, common_steps, c.pop.ensures.value segment) in
    c.loop-k.invariant.places (k - 1) _ segment (omega arith) ∙ ap (λ (s : Segment). 4096 * s.first) last
