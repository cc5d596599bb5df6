use Rattle.std.proofs.Common.{◌≡◌, ◌*◌, ◌<◌, ◌≤◌, length, max, nat_le, sym, ap, ap₂, ◌∙◌, arith}
use Rattle.dml_order.specs.Waves.{depth}
use Rattle.dml_engine.specs.Loads.{capped}
use Rattle.dml_engine.proofs.LevelLemmas.{pays_at_once, pays_by_bytes}
use Rattle.dml_engine.proofs.loads.levels_pay.Goals as goal

pub returns-then-depth-le1 : goal.returns-then-depth-le1
returns-then-depth-le1 c =
    let one : depth c.args.levels.now ≤ 1 = omega (arith, c.if-depth-le1.true, c.depth-depth.ensures) in
    record { rule = sym (pays_at_once c.args.chunk c.args.jobs.now c.args.levels.now one) }

pub returns : goal.returns
returns c =
    let jobs = c.args.jobs.now in
    let levels = c.args.levels.now in
    let more : 1 < depth levels = omega (arith, c.if-depth-le1.false, c.depth-depth.ensures) in
    let cut : c.max.result ≡ max 1572864 (capped (depth levels * (32 * length jobs))) =
    c.max.ensures ∙ ap (max 1572864) (c.saturating_mul-cut.ensures ∙ ap (λ n. capped (n * (32 * length jobs))) c.depth-depth.ensures) in
    record { rule = ap₂ nat_le cut c.brought_by_levels.ensures ∙ sym (pays_by_bytes c.args.chunk jobs levels more) }
