use Rattle.std.proofs.Common.{◌<◌, ◌≤◌, ◌++◌, List, [], ◌∷◌, length, map, take, ap, sym, subst, ◌∙◌, arith, All}
use Rattle.std.proofs.lemmas.List.{map_more}
use Rattle.std.proofs.lemmas.List.Elements.{All-append, All-cons, All-nil}
use Rattle.dml_types.specs.declared.jobs.Job.{Job}
use Rattle.dml_types.specs.Job.{no_op_job}
use Rattle.dml_types.specs.Refusal.{need}
use Rattle.dml_levels.specs.Waves.{job_at}
use Rattle.dml_engine.specs.Lists.{idle_record, judged, no_op_record, opened}
use Rattle.dml_engine.proofs.ListLemmas.{all_opened, record_more}
use Rattle.dml_engine.proofs.opening.open_all.Goals as goal

pub loop-i-preserved : goal.loop-i-preserved
loop-i-preserved c =
    let jobs = c.args.jobs.now in
    let staging = c.args.staging in
    let fences = c.args.fences in
    let checked = opened fences staging in
    let i = c.loop-i.i in
    let old = c.loop-i in
    let below : i < length jobs = omega arith in
    let inside : i < length old.records = omega (arith, c.loop-i.auto.records, c.requires.size) in
    let job = c.open-checked.result.0 in
    let small : need job ≤ staging = c.open-checked.ensures.need in (
      c.push_reserved.ensures.items
          ∙ (ap (λ (list : List Job). list ++ job ∷ []) old.invariant.0
          ∙ (ap (λ (last : Job). map checked (take i jobs) ++ last ∷ []) c.open-checked.ensures.checked
          ∙ sym (map_more checked jobs i no_op_job below))),
      c.push_reserved.ensures.capacity ∙ old.invariant.1,
      subst (All (λ (job : Job). need job ≤ staging)) (sym c.push_reserved.ensures.items)
          (All-append (λ (job : Job). need job ≤ staging) old.list.items (job ∷ []) old.invariant.2
          (All-cons (λ (job : Job). need job ≤ staging) job [] small (All-nil (λ (job : Job). need job ≤ staging)))),
      record_more old.records (λ k. idle_record staging (judged fences (job_at jobs k))) i c.open-checked.result.1 no_op_record inside old.invariant.3 c.open-checked.ensures.record,
    )

pub returns-clause-opened : goal.returns-clause-opened
returns-clause-opened c =
    all_opened c.args.fences c.args.jobs.now c.args.staging c.loop-i.i c.loop-i.records (omega (arith, c.loop-i.auto.records, c.requires.size)) (omega arith) c.loop-i.invariant.3
