use Rattle.std.proofs.Common.{ap, arith, ◌∙◌, ◌+◌, ◌^◌, ◌<◌, ◌≤◌, ◌∷◌, ◌++◌, sym, [], refl, length}
use Rattle.dml_types.specs.Step.{memory_after, records_of}
use Rattle.dml_script.specs.AnswerLaws.{job_lines}
use Rattle.dml_script.specs.Run.{answer_of, lines_from}
use Rattle.dml_script.proofs.ListLemmas.{few_jobs, fewer_lines, front_text, jobs_come, jobs_text, list_gathered, reached, same_reached, written_text}
use Rattle.dml_script.proofs.RunLemmas.{on_error}
use Rattle.dml_script.proofs.sessions.Session.answer_list.Goals as goal

pub answer_jobs-requires-clause-counted : goal.answer_jobs-requires-clause-counted
answer_jobs-requires-clause-counted g c κs within =
    let begun = c.push_reserved.ensures.items ∙ ap (λ jobs. jobs ++ c.args.first ∷ []) (c.reserve.ensures.items ∙ c.clear.ensures.items) in
    let is = list_gathered c.args.first _ _ c.deref.result.now _ _ begun c.in_ok-ahead.ensures.lines c.deref.ensures.value in
    few_jobs c.self.inside.engine.settings.staging c.self.inside.jobs c.self.inside.engine.image _ _ _ _ c.self.view_is is c.requires.lines

pub overflow_add-self : goal.overflow_add-self
overflow_add-self g c =
    let begun = c.push_reserved.ensures.items ∙ ap (λ jobs. jobs ++ c.args.first ∷ []) (c.reserve.ensures.items ∙ c.clear.ensures.items) in
    let is = list_gathered c.args.first _ _ c.deref.result.now _ _ begun c.in_ok-ahead.ensures.lines c.deref.ensures.value in
    let few : c.self.inside.jobs + length c.deref.result.now < 2 ^ 32 =
    few_jobs c.self.inside.engine.settings.staging c.self.inside.jobs c.self.inside.engine.image _ _ _ _ c.self.view_is is c.requires.lines in
    omega (arith, few, c.len.ensures, c.deref.ensures.len)

pub returns-in_err-answer_jobs-clause-front : goal.returns-in_err-answer_jobs-clause-front
returns-in_err-answer_jobs-clause-front g c =
    let staging = c.self.inside.engine.settings.staging in
    let memory = c.self.inside.engine.image in
    let number = c.self.inside.jobs in
    let jobs = c.deref.result.now in
    let rest = lines_from c.in_ok-ahead.ahead c.gather.new.lines in
    let later = reached staging (memory_after memory jobs staging) (number + length jobs) in
    let begun = c.push_reserved.ensures.items ∙ ap (λ jobs. jobs ++ c.args.first ∷ []) (c.reserve.ensures.items ∙ c.clear.ensures.items) in
    let is = list_gathered c.args.first _ _ jobs _ rest begun c.in_ok-ahead.ensures.lines c.deref.ensures.value in
    on_error _ _
    (front_text _ _ (job_lines number (records_of memory jobs staging)) (answer_of later rest) _
    (jobs_text staging number memory jobs c.args.self.now later _ rest c.self.view_is refl is) c.in_err-answer_jobs.ensures.front)

pub returns-clause-lines : goal.returns-clause-lines
returns-clause-lines g c =
    let staging = c.self.inside.engine.settings.staging in
    let memory = c.self.inside.engine.image in
    let number = c.self.inside.jobs in
    let jobs = c.deref.result.now in
    let rest = lines_from c.in_ok-ahead.ahead c.gather.new.lines in
    let now = reached c.answer_jobs.new.engine.settings.staging c.answer_jobs.new.engine.image (number + c.len.result) in
    let begun = c.push_reserved.ensures.items ∙ ap (λ jobs. jobs ++ c.args.first ∷ []) (c.reserve.ensures.items ∙ c.clear.ensures.items) in
    let is = list_gathered c.args.first _ _ jobs _ rest begun c.in_ok-ahead.ensures.lines c.deref.ensures.value in
    let later = same_reached _ staging _ (memory_after memory jobs staging) _ (number + length jobs) (ap (λ settings. settings.staging) c.answer_jobs.ensures.settings)
    c.in_ok-answer_jobs.ensures.image (ap (λ n. number + n) (c.len.ensures ∙ sym c.deref.ensures.len)) in
    jobs_come staging number memory jobs c.args.self.now now _ rest c.self.view_is later is c.requires.lines

pub returns-clause-fewer : goal.returns-clause-fewer
returns-clause-fewer g c =
    let begun = c.push_reserved.ensures.items ∙ ap (λ jobs. jobs ++ c.args.first ∷ []) (c.reserve.ensures.items ∙ c.clear.ensures.items) in
    let is = list_gathered c.args.first _ _ c.deref.result.now _ _ begun c.in_ok-ahead.ensures.lines c.deref.ensures.value in
    let some : 1 ≤ length c.deref.result.now = omega (arith, c.push_reserved.ensures.len, c.in_ok-ahead.ensures.longer, c.deref.ensures.len) in
    fewer_lines _ _ _ _ is some

pub returns-clause-written : goal.returns-clause-written
returns-clause-written g c =
    let staging = c.self.inside.engine.settings.staging in
    let memory = c.self.inside.engine.image in
    let number = c.self.inside.jobs in
    let jobs = c.deref.result.now in
    let rest = lines_from c.in_ok-ahead.ahead c.gather.new.lines in
    let now = reached c.answer_jobs.new.engine.settings.staging c.answer_jobs.new.engine.image (number + c.len.result) in
    let begun = c.push_reserved.ensures.items ∙ ap (λ jobs. jobs ++ c.args.first ∷ []) (c.reserve.ensures.items ∙ c.clear.ensures.items) in
    let is = list_gathered c.args.first _ _ jobs _ rest begun c.in_ok-ahead.ensures.lines c.deref.ensures.value in
    let later = same_reached _ staging _ (memory_after memory jobs staging) _ (number + length jobs) (ap (λ settings. settings.staging) c.answer_jobs.ensures.settings)
    c.in_ok-answer_jobs.ensures.image (ap (λ n. number + n) (c.len.ensures ∙ sym c.deref.ensures.len)) in
    written_text _ _ (job_lines number (records_of memory jobs staging)) (answer_of now rest) _
    (jobs_text staging number memory jobs c.args.self.now now _ rest c.self.view_is later is) c.in_ok-answer_jobs.ensures.ok
