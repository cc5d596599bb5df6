use Rattle.dml_image.proofs.TableLemmas.{page_evicted, whole_evicted}
use Rattle.dml_image.proofs.tables.Table.evict.Goals as goal

pub invariant_of-self : goal.invariant_of-self
invariant_of-self c = whole_evicted c.self.inside.pages.items c.args.page c.self.invariant

pub returns-clause-gone : goal.returns-clause-gone
returns-clause-gone c = λ _. page_evicted c.self.inside.pages.items _ _ c.self.view_is c.self.invariant c.requires
