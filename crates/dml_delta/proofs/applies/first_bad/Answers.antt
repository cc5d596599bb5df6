use Rattle.std.proofs.Common.{◌-◌, arith}
use Rattle.dml_delta.proofs.RecordLemmas.{entry_present}
use Rattle.dml_delta.proofs.applies.first_bad.Goals as goal

pub bad_entry-requires-clause-present : goal.bad_entry-requires-clause-present
bad_entry-requires-clause-present c =
    λ behind.
    entry_present c.args.image.now c.args.job.now.source c.args.from (c.args.entry - c.args.from) (c.args.entry - 1) c.requires.present (omega arith) (omega arith)
