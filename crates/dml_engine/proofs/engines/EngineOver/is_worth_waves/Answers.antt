use Rattle.std.proofs.Common.{sym, ◌∙◌}
use Rattle.std.proofs.lemmas.Bool.{false≢true}
use Rattle.dml_engine.proofs.LoadLemmas.{not_worth}
use Rattle.dml_engine.proofs.engines.EngineOver.is_worth_waves.Goals as goal

pub returns-else-may_pay : goal.returns-else-may_pay
returns-else-may_pay g c =
    c.if-may_pay.false ∙ sym (not_worth c.args.self.now c.args.fences c.args.jobs.now (λ some. false≢true (sym c.if-may_pay.false ∙ c.may_pay.ensures.1 some)))
