use Rattle.dml_engine.proofs.engines.EngineOver.law_resume.Goals as goal

pub returns-clause-left : goal.returns-clause-left
returns-clause-left g c op is can faulted =
    c.law_resume.ensures.left c.args.self.now.image c.args.job.now c.args.self.now.settings.staging op is can faulted
