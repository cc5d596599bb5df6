use Rattle.std.proofs.Common.{arith}
use Rattle.dml_types.specs.Job.{no_op_job}
use Rattle.dml_core.specs.Types.{Submit}
use Rattle.dml_core.proofs.GatherLemmas.{refused_in}
use Rattle.dml_core.proofs.worlds.World.gather.Goals as goal

pub returns-clause-refused : goal.returns-clause-refused
returns-clause-refused c = λ is.
    refused_in c.gather_row.new.self c.args.steps.now c.min-most.result c.gather_row.result.taken (Submit 0 no_op_job) (omega (arith, c.min-most.ensures)) (c.gather_row.ensures.refused is)
