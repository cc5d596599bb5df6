use Rattle.std.proofs.Common.{◌≡◌, ◌<◌, ◌+◌, ℕ, length, get_or, List, sym, ap, subst, arith, ◌∙◌}
use Rattle.std.proofs.lemmas.List.{get_or_read}
use Rattle.dml_types.specs.declared.jobs.Job.{Job}
use Rattle.dml_types.specs.declared.spans.Span.{Span}
use Rattle.dml_types.specs.Job.{no_op_job}
use Rattle.dml_levels.specs.declared.cells.Cells.{Cells}
use Rattle.dml_levels.specs.Cells.{cover_of, footprint_of}
use Rattle.dml_levels.specs.Touched.{read_spans, written_spans}
use Rattle.dml_levels.proofs.RiseLemmas.{AreRisen, reads_within, risen_next, writes_within}
use Rattle.dml_levels.proofs.leveling.levels_by_cells.Goals as goal

footprint_is : (starts : List ℕ) (job : Job) (these those : List Span) (reads writes : List Cells) → these ≡ read_spans job → those ≡ written_spans job → reads ≡ cover_of starts these → writes ≡ cover_of starts those → record { reads = reads; writes = writes } ≡ footprint_of starts job
footprint_is starts job these those reads writes a b c d = cc

pub level_of-level-requires-clause-reads : goal.level_of-level-requires-clause-reads
level_of-level-requires-clause-reads c =
    reads_within c.args.starts.now c.job-item.result (record { reads = c.set.new.self; writes = c.set-in-loop-job.new.self }) (length c.loop-job.heights.written.items)
    (footprint_is c.args.starts.now c.job-item.result _ _ c.set.new.self c.set-in-loop-job.new.self c.touches-touched.ensures.reads c.touches-touched.ensures.writes c.set.ensures c.set-in-loop-job.ensures)
    c.loop-job.invariant.written_long

pub level_of-level-requires-clause-writes : goal.level_of-level-requires-clause-writes
level_of-level-requires-clause-writes c =
    writes_within c.args.starts.now c.job-item.result (record { reads = c.set.new.self; writes = c.set-in-loop-job.new.self }) (length c.loop-job.heights.touched.items)
    (footprint_is c.args.starts.now c.job-item.result _ _ c.set.new.self c.set-in-loop-job.new.self c.touches-touched.ensures.reads c.touches-touched.ensures.writes c.set.ensures c.set-in-loop-job.ensures)
    c.loop-job.invariant.touched_long

pub raise-requires-clause-reads : goal.raise-requires-clause-reads
raise-requires-clause-reads c =
    reads_within c.args.starts.now c.job-item.result (record { reads = c.set.new.self; writes = c.set-in-loop-job.new.self }) (length c.loop-job.heights.touched.items)
    (footprint_is c.args.starts.now c.job-item.result _ _ c.set.new.self c.set-in-loop-job.new.self c.touches-touched.ensures.reads c.touches-touched.ensures.writes c.set.ensures c.set-in-loop-job.ensures)
    c.loop-job.invariant.touched_long

pub raise-requires-clause-writes : goal.raise-requires-clause-writes
raise-requires-clause-writes c =
    writes_within c.args.starts.now c.job-item.result (record { reads = c.set.new.self; writes = c.set-in-loop-job.new.self }) (length c.loop-job.heights.touched.items)
    (footprint_is c.args.starts.now c.job-item.result _ _ c.set.new.self c.set-in-loop-job.new.self c.touches-touched.ensures.reads c.touches-touched.ensures.writes c.set.ensures c.set-in-loop-job.ensures)
    c.loop-job.invariant.touched_long

pub loop-job-preserved : goal.loop-job-preserved
loop-job-preserved c =
    let jobs = c.args.jobs.now in
    let starts = c.args.starts.now in
    let levels = c.loop-job.levels.items in
    let i : ℕ = c.loop-job.job-index in
    let level = c.level_of-level.result in
    let new = c.raise.new.self in
    let room : i < length jobs = omega arith in
    let own : c.job-item.result ≡ get_or jobs i no_op_job = get_or_read jobs i _ room c.job-item.is no_op_job in
    subst (λ (list : List ℕ). AreRisen starts jobs (i + 1) list new) (sym c.in_ok-push.ensures.items)
    (risen_next starts jobs (record { reads = c.set.new.self; writes = c.set-in-loop-job.new.self }) i levels c.loop-job.heights new level c.saturating_add.result
    c.requires.starts room
    (footprint_is starts c.job-item.result _ _ c.set.new.self c.set-in-loop-job.new.self c.touches-touched.ensures.reads c.touches-touched.ensures.writes c.set.ensures c.set-in-loop-job.ensures
    ∙ ap (footprint_of starts) own)
    c.loop-job.invariant c.level_of-level.ensures
    (λ low. omega (arith, low, room)) c.raise.ensures.touched c.raise.ensures.written)
