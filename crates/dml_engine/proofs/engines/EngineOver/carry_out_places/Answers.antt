use Rattle.std.proofs.Common.{◌≡◌, ◌+◌, ◌<◌, true, false, List, Option, length, get_or, set, ap, ap₂, sym, ◌∙◌, arith}
use Rattle.std.proofs.lemmas.List.{get_or_default, length-set}
use Rattle.std.specs.Prelude.{unwrap_or}
use Rattle.dml_types.specs.declared.jobs.Job.{Job}
use Rattle.dml_types.specs.declared.records.Record.{Record}
use Rattle.dml_types.specs.Memory.{Memory}
use Rattle.dml_types.specs.declared.operations.Op.{Op}
use Rattle.dml_types.specs.declared.operations.Op.TheVariants.{NoOp}
use Rattle.dml_types.specs.declared.limits.Settings.{Settings}
use Rattle.dml_types.specs.Job.{no_op_job, unfenced}
use Rattle.dml_types.specs.Step.{step}
use Rattle.dml_desc.specs.Checked.{operation_of}
use Rattle.dml_levels.specs.Laws.{begun}
use Rattle.dml_levels.specs.Waves.{job_at}
use Rattle.dml_wave.specs.Waves.{is_busy}
use Rattle.dml_engine.specs.State.{State}
use Rattle.dml_engine.proofs.IdleLemmas.{Remaining, busy_more, idle_more}
use Rattle.dml_engine.proofs.engines.EngineOver.carry_out_places.Goals as goal
use Rattle.dml_engine.proofs.engines.EngineOver.carry_out_places.Goals.{then-is_busy, else-is_busy}

pub loop-place-preserved : goal.loop-place-preserved
loop-place-preserved g c =
    let jobs = c.args.jobs.now in
    let staging = c.args.self.now.settings.staging in
    let places = c.args.places.now in
    let at = c.loop-place.place-index in
    let now = begun c.loop-place.self.image c.loop-place.records in
    let known = c.loop-place.invariant in
    let below : at < length places = omega arith in
    let i = get_or places at 0 in
    let inside : i < length jobs = c.requires.places at 0 below in
    let job : c.index-jobs-i.result ≡ job_at jobs i = c.index-jobs-i.is ∙ get_or_default jobs i c.index-jobs-i.result no_op_job inside in
    let operation : operation_of (job_at jobs i) ≡ c.op.result =
    ap operation_of (sym job) ∙ ap (λ (o : Option Op). unwrap_or o NoOp) c.op.ensures.rules.operation in
    elim c.if-is_busy.branch [
      | else-is_busy w ↦
          let idle : is_busy (operation_of (job_at jobs i)) ≡ false = ap is_busy operation ∙ (sym c.is_busy.ensures ∙ w.if-is_busy.false) in (
            ap₂ (λ (image : Memory) (records : List Record). Remaining jobs staging places (begun image records) (at + 1)) (ap (λ (s : State). s.image) w.self-is) w.records-is
                ∙ (idle_more jobs staging places now at below idle ∙ known.0),
            ap length w.records-is ∙ known.1,
            ap (λ (s : State). s.settings) w.self-is ∙ known.2,
            ap (λ (s : State). s.watched) w.self-is ∙ known.3,
          )
      | then-is_busy w ↦
          let some : is_busy (operation_of (job_at jobs i)) ≡ true = ap is_busy operation ∙ (sym c.is_busy.ensures ∙ w.if-is_busy.true) in
          let done = w.carry_out_in_batch in
          let ran : Settings → Memory × Record = λ s. step now.image (unfenced (job_at jobs i)) s.staging in
          let again = w.index-jobs-i-then-is_busy in
          let given : w.job.result.now ≡ job_at jobs i = w.job.ensures.job ∙ (again.is ∙ get_or_default jobs i again.result no_op_job inside) in
          let image : done.new.self.image ≡ (ran c.args.self.now.settings).0 =
          done.ensures.image
          ∙ (ap (λ (j : Job). (step now.image (unfenced j) c.loop-place.self.settings.staging).0) given
          ∙ ap (λ (s : Settings). (ran s).0) known.2) in
          let answer : done.result ≡ (ran c.args.self.now.settings).1 =
          done.ensures.answer
          ∙ (ap (λ (j : Job). (step now.image (unfenced j) c.loop-place.self.settings.staging).1) given
          ∙ ap (λ (s : Settings). (ran s).1) known.2) in
          let next : begun done.new.self.image (set c.loop-place.records i done.result) ≡ begun (ran c.args.self.now.settings).0 (set c.loop-place.records i (ran c.args.self.now.settings).1) =
          ap₂ (λ (m : Memory) (r : Record). begun m (set c.loop-place.records i r)) image answer in (
            ap₂ (λ (image : Memory) (records : List Record). Remaining jobs staging places (begun image records) (at + 1)) (ap (λ (s : State). s.image) w.self-is) w.records-is
                ∙ (busy_more jobs staging places now (begun done.new.self.image (set c.loop-place.records i done.result)) at below inside some next ∙ known.0),
            ap length w.records-is ∙ (length-set c.loop-place.records i done.result ∙ known.1),
            ap (λ (s : State). s.settings) w.self-is ∙ (done.ensures.settings ∙ known.2),
            ap (λ (s : State). s.watched) w.self-is ∙ (done.ensures.watched ∙ known.3),
          )
    ]
