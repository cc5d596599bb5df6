use Rattle.std.proofs.Common.{Some}
use Rattle.std.proofs.lemmas.List.{map-set}
use Rattle.dml_pool.specs.Slots.{behind}
use Rattle.dml_pool.proofs.order.refer.Goals as goal

pub returns : goal.returns
returns c = map-set behind c.args.slots.now c.args.task (Some c.args.place)
