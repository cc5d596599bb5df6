use Rattle.std.proofs.Common.{◌≡◌, ℕ, ◌+◌, ◌<◌, ◌≤◌, get_or, drop, length, ap, ◌∙◌, arith}
use Rattle.std.specs.List.{sum_by}
use Rattle.std.proofs.lemmas.List.FromFn.{length-map-range_with_len}
use Rattle.dml_engine.specs.Loads.{brought, brought_by_levels, capped, shared_at}
use Rattle.dml_engine.proofs.LevelLemmas.{brought_all, brought_more}
use Rattle.dml_engine.proofs.loads.brought_by_levels.Goals as goal

pub loop-shared-preserved : goal.loop-shared-preserved
loop-shared-preserved c =
    let table = c.shared_by_level-by_level.result in
    let n = c.loop-shared.shared-index in
    let share : ℕ → ℕ = λ level. capped (shared_at c.args.chunk c.args.jobs.now c.args.levels.now level) in
    let long : length table ≡ 1024 = ap length c.shared_by_level-by_level.ensures ∙ length-map-range_with_len share 0 1024 in
    let inside : n < length table = omega (arith, long, c.loop-shared-test.true) in
    let put : c.saturating_add-all.result ≡ capped (c.loop-shared.all + brought (get_or table n 0)) =
    c.saturating_add-all.ensures ∙ ap (λ x. capped (c.loop-shared.all + x)) c.brought.ensures in record {
      fits = c.saturating_add-all.type_inv;
      brought =
          ap (λ x. capped (x + sum_by brought (drop (n + 1) table))) put
          ∙ brought_more table n c.loop-shared.all inside c.loop-shared.invariant.brought;
    }

pub returns : goal.returns
unfolding brought_by_levels
returns c =
    let table = c.shared_by_level-by_level.result in
    let share : ℕ → ℕ = λ level. capped (shared_at c.args.chunk c.args.jobs.now c.args.levels.now level) in
    let long : length table ≡ 1024 = ap length c.shared_by_level-by_level.ensures ∙ length-map-range_with_len share 0 1024 in
    let ends : length table ≤ c.loop-shared.shared-index = omega (arith, long, c.loop-shared-test.false) in
    brought_all table c.loop-shared.shared-index c.loop-shared.all ends c.loop-shared.invariant.fits c.loop-shared.invariant.brought
    ∙ ap (λ l. capped (sum_by brought l)) c.shared_by_level-by_level.ensures
