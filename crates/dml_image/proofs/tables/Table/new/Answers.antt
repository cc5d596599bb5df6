use Rattle.std.proofs.Common.{◌≡◌, rules}
use Rattle.dml_image.proofs.TableLemmas.{all_made, all_none, none_made, none_present, none_whole}
use Rattle.dml_image.proofs.tables.Table.new.Goals as goal

made : (c : goal.In_ok-resize_with) → c.resize_with.new.self.items ≡ all_none c.args.pages
made c =
    let it = c.in_ok-resize_with.ensures.items in
    all_made _ _ it.0 c.args.pages c.in_ok-table.ensures.items it.2 (search rules) (none_made _ (λ before page after step. search rules) _ _ _ it.3)

pub invariant_of-result : goal.invariant_of-result
invariant_of-result c = rw (made c) (none_whole c.args.pages)

pub returns : goal.returns
returns c = rw (made c) (none_present c.args.pages)
