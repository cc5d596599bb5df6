use Rattle.std.proofs.Common.{◌≡◌, ℕ, ◌+◌, ◌<◌, get_or, length, map, min, set, refl, sym, ap, ◌∙◌, arith}
use Rattle.std.specs.List.{range_with_len}
use Rattle.std.proofs.lemmas.List.{ext_get_or, get_or-replicate, length-set}
use Rattle.std.proofs.lemmas.List.FromFn.{get_or-map-range_with_len, length-map-range_with_len}
use Rattle.dml_types.specs.Job.{no_op_job}
use Rattle.dml_engine.specs.declared.loads.Load.{Load}
use Rattle.dml_engine.specs.Loads.{capped, no_load, shared_at, with_job}
use Rattle.dml_engine.proofs.LevelLemmas.{passed, raised, shared_whole}
use Rattle.dml_engine.proofs.loads.shared_by_level.Goals.{then-level-lt-MOST_JOBS, else-level-lt-MOST_JOBS}
use Rattle.dml_engine.proofs.loads.shared_by_level.Goals as goal

pub loop-place-init : goal.loop-place-init
loop-place-init c = record { long = refl; shares = λ level below. get_or-replicate 1024 level 0 0 below }

pub loop-place-preserved : goal.loop-place-preserved
loop-place-preserved c =
    let jobs = c.args.jobs.now in
    let levels = c.args.levels.now in
    let place = c.loop-place.place in
    let table = c.loop-place.by_level in
    let some : place < length jobs = omega (arith, c.loop-place-test.true, c.min-place-end.ensures) in
    let more : place < length levels = omega (arith, c.loop-place-test.true, c.min-place-end.ensures) in
    elim c.if-level-lt-MOST_JOBS.branch [
      | then-level-lt-MOST_JOBS w ↦
          let job = w.index-jobs-place.result in
          let share : w.with-load.result.shared ≡ (with_job c.args.chunk no_load (get_or jobs place job)).shared =
          ap (λ (l : Load). l.shared) w.with-load.ensures
          ∙ (ap (λ l. (with_job c.args.chunk l job).shared) w.none.ensures ∙ ap (λ j. (with_job c.args.chunk no_load j).shared) w.index-jobs-place.is) in
          let put : c.if-level-lt-MOST_JOBS.by_level ≡ set table (get_or levels place 0) (capped (get_or table (get_or levels place 0) 0 + w.with-load.result.shared)) =
          w.by_level-is ∙ ap (set table (get_or levels place 0)) w.saturating_add.ensures in
          record {
            long = ap length put ∙ (length-set table (get_or levels place 0) _ ∙ c.loop-place.invariant.long);
            shares =
                λ level below.
                ap (λ l. get_or l level 0) put
                ∙ raised c.args.chunk jobs levels place 1024 job table w.with-load.result.shared some more c.loop-place.invariant.long c.loop-place.invariant.shares
                w.if-level-lt-MOST_JOBS.true share level below;
          }
      | else-level-lt-MOST_JOBS w ↦
          record {
            long = ap length w.by_level-is ∙ c.loop-place.invariant.long;
            shares =
                λ level below.
                ap (λ l. get_or l level 0) w.by_level-is
                ∙ passed c.args.chunk jobs levels place 1024 no_op_job table some more c.loop-place.invariant.shares w.if-level-lt-MOST_JOBS.false level below;
          }
    ]

pub returns : goal.returns
returns c =
    let jobs = c.args.jobs.now in
    let levels = c.args.levels.now in
    let share : ℕ → ℕ = λ level. capped (shared_at c.args.chunk jobs levels level) in
    let long : length c.loop-place.by_level ≡ length (map share (range_with_len 0 1024)) =
    c.loop-place.invariant.long ∙ sym (length-map-range_with_len share 0 1024) in
    let all : c.loop-place.place ≡ min (length jobs) (length levels) =
    omega (arith, c.loop-place-test.false, c.loop-place.auto.place-end, c.min-place-end.ensures) in
    ext_get_or 0 c.loop-place.by_level (map share (range_with_len 0 1024)) long (λ level inside.
    let below : level < 1024 = omega (arith, inside, c.loop-place.invariant.long) in
    c.loop-place.invariant.shares level below
    ∙ (ap capped (shared_whole c.args.chunk jobs levels c.loop-place.place level all)
    ∙ sym (get_or-map-range_with_len share 0 1024 level level 0 below (omega arith))))
