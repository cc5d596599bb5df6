use Rattle.std.proofs.Common.{◌≡◌, ℕ, ◌+◌, ◌<◌, ◌≤◌, [], List, length, get_or, max, ⊎_elim, sym, ◌∙◌, ap, subst, arith, below_more}
use Rattle.std.specs.List.{Any}
use Rattle.std.specs.Ordering.{nat_cmp, ord_max}
use Rattle.std.proofs.lemmas.Bool.{cases_lt}
use Rattle.std.proofs.lemmas.List.{get_or_default}
use Rattle.std.proofs.lemmas.List.Elements.{All-from_get_or}
use Rattle.dml_types.specs.declared.jobs.Job.{Job}
use Rattle.dml_types.specs.Refusal.{need}
use Rattle.dml_desc.specs.Descriptor.{decoded}
use Rattle.dml_effect.specs.Straight.{TakesStaging}
use Rattle.dml_c.proofs.lending.greatest_need.Goals as goal
use Rattle.dml_c.proofs.lending.greatest_need.Goals.{then-takes_staging, else-takes_staging}

-- the greater of two numbers
greater : (a b : ℕ) → ord_max nat_cmp a b ≡ max a b
greater a b = grind arith

-- a job that takes staging needs just so many bytes
abbrev NeedsJust : ℕ → ℕ → List ℕ → Type 0
NeedsJust staging bytes d = TakesStaging (decoded d) staging × (need (decoded d) ≡ bytes)

-- a list of which no job among the first i needs more than `most`, and some job needs that
record IsMost (ds : List (List ℕ)) (staging i most : ℕ) : Type 0 where
  enough : (k : ℕ) → k < i → TakesStaging (decoded (get_or ds k [])) staging → need (decoded (get_or ds k [])) ≤ most
  least : 0 < most → Any (NeedsJust staging most) ds

module _ (ds : List (List ℕ)) (staging i most : ℕ) (known : IsMost ds staging i most) where
  -- one job more, that takes staging, and one that takes none
  with_one : i < length ds → TakesStaging (decoded (get_or ds i [])) staging → IsMost ds staging (i + 1) (max most (need (decoded (get_or ds i []))))
  with_one low takes =
      let own : ℕ = need (decoded (get_or ds i [])) in
      record {
        enough =
            below_more (λ k. TakesStaging (decoded (get_or ds k [])) staging → need (decoded (get_or ds k [])) ≤ max most own) i
            (λ k below takes_too. omega (arith, known.enough k below takes_too))
            (λ _. omega arith);
        least = λ some.
            ⊎_elim
            (λ (over : most < own).
            let same : own ≡ max most own = omega (arith, over) in
            (i, get_or ds i [], low, get_or_default ds i (get_or ds i []) [] low, (takes, same)))
            (λ (within : own ≤ most).
            let same : most ≡ max most own = omega (arith, within) in
            subst (λ n. Any (NeedsJust staging n) ds) same (known.least (omega (arith, same, some))))
            (cases_lt most own);
      }

  with_none : (TakesStaging (decoded (get_or ds i [])) staging → ⊥) → IsMost ds staging (i + 1) most
  with_none not = record {
    enough = below_more (λ k. TakesStaging (decoded (get_or ds k [])) staging → need (decoded (get_or ds k [])) ≤ most) i known.enough (λ takes. absurd (not takes));
    least = known.least;
  }

pub loop-i-preserved : goal.loop-i-preserved
loop-i-preserved c =
    let ds = c.args.descriptors.now in
    let staging = c.args.staging in
    let i = c.loop-i.i in
    let low : i < length ds = omega (arith, c.loop-i-test.true) in
    let known : IsMost ds staging i c.loop-i.most = record { enough = c.loop-i.invariant.enough; least = c.loop-i.invariant.least } in
    let more : IsMost ds staging (i + 1) c.if-takes_staging.most =
    elim c.if-takes_staging.branch [
      | then-takes_staging w ↦
          let takes = subst (λ (j : Job). TakesStaging j staging) c.decode-job.ensures (c.takes_staging.ensures.0 w.if-takes_staging.true) in
          let own : w.need.result ≡ need (decoded (get_or ds i [])) = w.need.ensures ∙ ap need c.decode-job.ensures in
          let same : max c.loop-i.most (need (decoded (get_or ds i []))) ≡ c.if-takes_staging.most =
          sym (w.most-is ∙ (w.max-most.ensures ∙ (greater c.loop-i.most w.need.result ∙ ap (max c.loop-i.most) own))) in
          subst (IsMost ds staging (i + 1)) same (with_one ds staging i c.loop-i.most known low takes)
      | else-takes_staging w ↦
          subst (IsMost ds staging (i + 1)) (sym w.most-is)
          (with_none ds staging i c.loop-i.most known (λ takes.
          let test = c.takes_staging.ensures.1 (subst (λ (j : Job). TakesStaging j staging) (sym c.decode-job.ensures) takes) in
          let other = w.if-takes_staging.false in
          absurd (cc)))
    ] in
    record { enough = more.enough; least = more.least }

pub returns : goal.returns
returns c =
    let ds = c.args.descriptors.now in
    let known = c.loop-i.invariant in
    let all : length ds ≤ c.loop-i.i = omega (arith, c.loop-i-test.false) in
    record {
      enough =
          All-from_get_or (λ d. TakesStaging (decoded d) c.args.staging → need (decoded d) ≤ c.loop-i.most) ds []
          (λ k low. known.enough k (omega (arith, low, all)));
      least = known.least;
    }
