use Rattle.std.proofs.Common.{List, ℕ, subst, All}
use Rattle.dml_order.specs.Waves.{IsOfOneLevel, Rises, joined}
use Rattle.dml_engine.proofs.ReadyLemmas.{all_ready}
use Rattle.dml_engine.proofs.lists.cut_waves.Goals as goal

pub returns-in-Ok-clause-ready : goal.returns-in-Ok-clause-ready
returns-in-Ok-clause-ready c =
    let waves = c.in-Ok.list.items in
    let known = c.requires.levels in
    all_ready c.args.jobs.now c.args.settings.staging c.args.settings.chunk waves c.in-Ok.ensures.each_once
    (subst (λ (levels : List ℕ). Rises levels (joined waves)) known c.in-Ok.ensures.level_by_level)
    (subst (λ (levels : List ℕ). All (IsOfOneLevel levels) waves) known c.in-Ok.ensures.one_level)
    c.in-Ok.ensures.fit
