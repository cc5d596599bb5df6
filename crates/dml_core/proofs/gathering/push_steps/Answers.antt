use Rattle.std.proofs.Common.{◌≡◌, ◌-◌, ◌<◌, ◌≤◌, ℕ, true, false, not, drop, length, rules, sym, subst, arith}
use Rattle.dml_types.specs.Job.{no_op_job}
use Rattle.std.specs.Prelude.{◌&&◌}
use Rattle.dml_core.specs.Types.{Step, Submit}
use Rattle.dml_core.specs.Gather.{FetchesAt, fetch_follows, is_of_row, listed, may_join}
use Rattle.dml_core.proofs.GatherLemmas.{few_more, gather_more, none_at_end}
use Rattle.dml_core.proofs.gathering.push_steps.Goals as goal
use Rattle.dml_core.proofs.gathering.push_steps.Goals.{then-i-end, else-i-end}

pub loop-i-preserved : goal.loop-i-preserved
loop-i-preserved c =
    let steps = c.args.steps.now in
    let i = c.loop-i.i in
    let end = c.if-i-end.end in
    let first = listed c.args.sent.now.items c.args.fetched.now.items in
    let old = listed c.loop-i.sent.items c.loop-i.fetched.items in
    let new = listed c.push_step.new.sent.items c.push_step.new.fetched.items in
    let below : i < length steps = omega arith in
    let joined : c.push_step.result ≡ true = search rules in
    let may = c.push_step.ensures.taken joined in
    let more = c.push_step.ensures.more joined in
    let behind : i ≤ end = elim c.if-i-end.branch [ then-i-end w ↦ search rules | else-i-end w ↦ search rules ] in
    let clients : c.len-clients.result ≡ length c.args.sent.now.items = search rules in
    record {
      all = gather_more first old new steps i (Submit 0 no_op_job) below c.loop-i.invariant.all may more;
      counted = c.push_step.ensures.open_jobs;
      parts = c.push_step.ensures.parts;
      onward = omega (arith, behind, c.if-i-end-2.false);
      within = elim c.if-i-end.branch [ then-i-end w ↦ search rules | else-i-end w ↦ search rules ];
      last = λ some.
          elim c.if-i-end.branch [
            | then-i-end w ↦
                subst (λ (k : ℕ). FetchesAt steps (k - 1)) (sym w.end-is)
                (w.fetch_from-end.ensures.last (omega (arith, behind, w.end-is, c.if-i-end-2.false)))
            | else-i-end w ↦
                subst (λ (k : ℕ). FetchesAt steps (k - 1)) (sym w.end-is)
                (c.loop-i.invariant.last (omega (arith, some, w.end-is)))
          ];
      follows = λ k from before.
          elim c.if-i-end.branch [
            | then-i-end w ↦
                subst (λ (n : ℕ). fetch_follows n (drop k steps) ≡ true) clients
                (w.fetch_from-end.ensures.follows k (omega (arith, from)) (omega (arith, before, w.end-is)))
            | else-i-end w ↦ c.loop-i.invariant.follows k (omega (arith, from)) (omega (arith, before, w.end-is))
          ];
      few = λ begun. few_more steps i (Submit 0 no_op_job) old.fetched new.fetched below c.requires.fetch c.loop-i.invariant.few (c.push_step.ensures.few joined) c.push_step.ensures.fixed;
      fixed = λ none. absurd (let e : ⊥ = omega (arith, none) in e);
    }

pub returns-clause-refused : goal.returns-clause-refused
returns-clause-refused c =
    let steps = c.args.steps.now in
    none_at_end (λ (s : Step). false ≡ (is_of_row s && not (may_join (listed c.loop-i.sent.items c.loop-i.fetched.items) s))) steps (length steps) (omega arith)
