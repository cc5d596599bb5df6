use Rattle.std.proofs.Common.{map, length, rules, ◌∙◌, List, Bool, ap, arith}
use Rattle.dml_types.specs.Memory.{Memory, is_own}
use Rattle.dml_desc.specs.Descriptor.{decoded}
use Rattle.dml_c.proofs.PageLemmas.{own_after_jobs, present_after_jobs}
use Rattle.dml_c.proofs.engines.Engine.submit_all.Goals as goal

-- jobs leave as many pages, and they are the image's own
pub invariant_of-self : goal.invariant_of-self
invariant_of-self c =
    let jobs = map decoded c.args.descriptors.now in
    let pages = ap (λ (m : Memory). length m.present) c.submit_list_bytes_to.ensures.image in
    let same = ap (λ (p : List Bool). length p) (present_after_jobs c.self.inside.image jobs c.self.inside.staging) in (
      search (rules, c.submit_list_bytes_to.ensures.arena, c.self.invariant.0),
      omega (arith, pages, same, c.self.invariant.1),
      ap is_own c.submit_list_bytes_to.ensures.image ∙ (own_after_jobs c.self.inside.image jobs c.self.inside.staging ∙ c.self.invariant.2),
    )
