use Rattle.std.proofs.Common.{◌≡◌, ◌+◌, ◌-◌, ◌<◌, ◌∙◌, ℕ, length, take, subst, arith}
use Rattle.dml_types.specs.Job.{no_op_job}
use Rattle.dml_core.specs.Types.{Submit}
use Rattle.dml_core.specs.Gather.{AreGathered, listed}
use Rattle.dml_core.proofs.GatherLemmas.{fetched_as_before, gather_less}
use Rattle.dml_core.proofs.gathering.take_back.Goals as goal

pub loop-left-preserved : goal.loop-left-preserved
loop-left-preserved c =
    let steps = c.args.steps.now in
    let left = c.loop-left.left in
    let within = c.loop-left.invariant.0 in
    let below : left - 1 < length steps = omega arith in
    let old = listed c.loop-left.sent.items c.loop-left.fetched.items in
    let new = listed c.take_back_step.new.sent.items c.take_back_step.new.fetched.items in
    let whole : left ≡ left - 1 + 1 = omega arith in (
      omega arith,
      omega arith,
      λ first all.
          gather_less first old new steps (left - 1) (Submit 0 no_op_job) below
          (let P : ℕ → Type 0 = λ n. AreGathered first (take n steps) old in subst P whole (c.loop-left.invariant.2 first all))
          c.take_back_step.ensures.lists,
      λ none.
          fetched_as_before old new steps c.args.from (left - 1) (Submit 0 no_op_job) none (omega arith) below c.take_back_step.ensures.lists
          ∙ c.loop-left.invariant.3 none,
      c.take_back_step.ensures.parts,
    )
