use Rattle.std.proofs.Common.{Option, List, ap, subst, ◌∷◌}
use Rattle.dml_grammar.specs.declared.lines.Line.{Line}
use Rattle.dml_script.specs.Run.{answer_of, lines_from}
use Rattle.dml_script.specs.Runnable.{MayCome}
use Rattle.dml_script.specs.Watching.{inner_of, IsWritten}
use Rattle.dml_script.proofs.BytesLemmas.{on_success, written_all, written_kept, written_on, written_start, written_toward}
use Rattle.dml_script.proofs.ListLemmas.{next_lines}
use Rattle.dml_script.proofs.RunLemmas.{on_error}
use Rattle.dml_script.proofs.running.answer_lines.Goals as goal

pub loop-ahead-init : goal.loop-ahead-init
loop-ahead-init g c =
    let before = g.W.Write.contents (inner_of c.args.writer.now) in
    let whole = answer_of c.args.session c.args.lines in
    let same = next_lines c.in_ok-ahead.ahead c.args.lines c.next_line.new.self c.in_ok-ahead.ensures.line in
    record {
      passed = c.requires.writer;
      come = subst (λ (lines : List Line). MayCome c.args.session lines) same c.requires.lines;
      written = subst (λ (lines : List Line). IsWritten before before (answer_of c.args.session lines) whole) same (written_start before whole);
    }

pub returns-in_err-ahead-2-clause-front : goal.returns-in_err-ahead-2-clause-front
returns-in_err-ahead-2-clause-front g c =
    let before = g.W.Write.contents (inner_of c.args.writer.now) in
    let between = g.W.Write.contents (inner_of c.loop-ahead.writer) in
    let now = g.W.Write.contents (inner_of c.answer_line.new.writer) in
    let session = c.loop-ahead.session in
    let whole = answer_of c.args.session c.args.lines in
    let left = c.in-Some.line ∷ c.loop-ahead.lines in
    let same = ap (λ (ahead : Option Line). lines_from ahead c.loop-ahead.lines) c.in-Some.is in
    on_error _ _
    (written_toward before between now (answer_of session left) whole
    (subst (λ (lines : List Line). IsWritten before between (answer_of session lines) whole) same c.loop-ahead.invariant.written)
    c.in_err-ahead-2.ensures.front)

pub loop-ahead-preserved : goal.loop-ahead-preserved
loop-ahead-preserved g c =
    let before = g.W.Write.contents (inner_of c.args.writer.now) in
    let between = g.W.Write.contents (inner_of c.loop-ahead.writer) in
    let now = g.W.Write.contents (inner_of c.answer_line.new.writer) in
    let session = c.loop-ahead.session in
    let whole = answer_of c.args.session c.args.lines in
    let left = c.in-Some.line ∷ c.loop-ahead.lines in
    let same = ap (λ (ahead : Option Line). lines_from ahead c.loop-ahead.lines) c.in-Some.is in
    record {
      passed = c.in_ok-ahead-2.ensures.passed (λ e. cc);
      come = c.in_ok-ahead-2.ensures.lines;
      written =
          written_on before between now (answer_of session left) _ whole
          (subst (λ (lines : List Line). IsWritten before between (answer_of session lines) whole) same c.loop-ahead.invariant.written)
          c.in_ok-ahead-2.ensures.written;
    }

pub returns-clause-ok : goal.returns-clause-ok
returns-clause-ok g c =
    let before = g.W.Write.contents (inner_of c.args.writer.now) in
    let between = g.W.Write.contents (inner_of c.loop-ahead.writer) in
    let now = g.W.Write.contents (inner_of c.flush.new.writer) in
    let whole = answer_of c.args.session c.args.lines in
    let none = ap (λ (ahead : Option Line). answer_of c.loop-ahead.session (lines_from ahead c.loop-ahead.lines)) c.in_default.is in
    on_success _ _ (written_all before between now _ whole c.loop-ahead.invariant.written none c.flush.ensures.same)

pub returns-clause-front : goal.returns-clause-front
returns-clause-front g c =
    let before = g.W.Write.contents (inner_of c.args.writer.now) in
    let between = g.W.Write.contents (inner_of c.loop-ahead.writer) in
    let now = g.W.Write.contents (inner_of c.flush.new.writer) in
    on_error _ _ (written_kept before between now _ _ c.loop-ahead.invariant.written c.flush.ensures.same)
