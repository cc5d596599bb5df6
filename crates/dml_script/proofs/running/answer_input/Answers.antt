use Rattle.std.proofs.Common.{sym, subst}
use Rattle.dml_script.specs.Runnable.{IsRunnable}
use Rattle.dml_script.proofs.FitLemmas.{runnable}
use Rattle.dml_script.proofs.running.answer_input.Goals as goal

pub answer_script-requires-clause-runnable : goal.answer_script-requires-clause-runnable
answer_script-requires-clause-runnable g c κs within =
    let script = c.in_ok-script.script in
    subst (IsRunnable c.args.settings.staging) (sym c.lines.ensures)
    (runnable c.args.settings.staging c.args.bytes.now script c.requires.within c.in_ok-script.ensures)
