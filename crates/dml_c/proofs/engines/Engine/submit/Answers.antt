use Rattle.std.proofs.Common.{◌∙◌, List, Bool, length, rules, ap, arith}
use Rattle.dml_types.specs.Memory.{Memory, is_own}
use Rattle.dml_types.proofs.StepLemmas.{step_present}
use Rattle.dml_c.proofs.PageLemmas.{own_after_step}
use Rattle.dml_c.proofs.engines.Engine.submit.Goals as goal

-- a job leaves as many pages, and they are the image's own
pub invariant_of-self : goal.invariant_of-self
invariant_of-self c =
    let pages = ap (λ (m : Memory). length m.present) c.submit_to.ensures.image in
    let same = ap (λ (p : List Bool). length p) (step_present c.self.inside.image c.decode-job.result c.self.inside.staging) in (
      search (rules, c.submit_to.ensures.arena, c.self.invariant.0),
      omega (arith, pages, same, c.self.invariant.1),
      ap is_own c.submit_to.ensures.image ∙ (own_after_step c.self.inside.image c.decode-job.result c.self.inside.staging ∙ c.self.invariant.2),
    )
