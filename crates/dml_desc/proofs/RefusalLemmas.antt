-- A job's refusal is the status of the first rule that it breaks.
use Rattle.std.proofs.Common.{◌≡◌, ℕ, zero, suc, ◌<◌, Bool, true, false, List, [], ◌∷◌, Option, None, Some, refl, sym, ap, subst, ◌∙◌, inl, inr, arith}
use Rattle.std.specs.Prelude.{slice_get}
use Rattle.std.specs.Option.{option_map}
use Rattle.dml_types.specs.declared.jobs.Job.{Job}
use Rattle.dml_types.specs.declared.operations.Op.{Op}
use Rattle.dml_types.specs.declared.statuses.Status.{Status}
use Rattle.dml_types.specs.Job.{op_of}
use Rattle.dml_types.specs.Refusal.{rules_of, first_broken, refusal_under}
use Rattle.dml_desc.specs.RefusalLaws.{IsKept, IsFirstBroken, BreaksNone, IsRefusedBy, RefusedByFirstBroken, AcceptedWhereNoneBroken, OneStatusAtMost}

-- the status that a list of rules gives is that of the first broken one
first_broken_is : (rules : List (Bool × Status)) (status : Status) → first_broken rules ≡ Some status → IsFirstBroken rules status
first_broken_is [] status h = absurd (cc)
first_broken_is ((true, s) ∷ rules) status h =
    record { place = 0; broken = cc; earlier = λ i below. absurd (omega arith) }
first_broken_is ((false, s) ∷ rules) status h =
    let rest = first_broken_is rules status h in record {
      place = suc rest.place;
      broken = rest.broken;
      earlier = λ i. elim i as (λ (n : ℕ). n < suc rest.place → IsKept ((false, s) ∷ rules) n) [
        | zero ↦ λ below. refl
        | suc n ↦ λ below. rest.earlier n (omega arith)
      ];
    }

first_broken_gives : (rules : List (Bool × Status)) (status : Status) (place : ℕ) → slice_get rules place ≡ Some (true, status)
    → ((i : ℕ) → i < place → IsKept rules i) → first_broken rules ≡ Some status
first_broken_gives [] status place broken earlier = absurd (cc)
first_broken_gives ((true, s) ∷ rules) status zero broken earlier = ap (option_map (λ (rule : Bool × Status). rule.1)) broken
first_broken_gives ((true, s) ∷ rules) status (suc place) broken earlier = let first : true ≡ false = earlier 0 (omega arith) in absurd (cc)
first_broken_gives ((false, s) ∷ rules) status zero broken earlier =
    let test : Some false ≡ Some true = ap (option_map (λ (rule : Bool × Status). rule.0)) broken in absurd (cc)
first_broken_gives ((false, s) ∷ rules) status (suc place) broken earlier =
    first_broken_gives rules status place broken (λ i below. earlier (suc i) (omega arith))

-- it gives none exactly where none is broken
none_broken : (rules : List (Bool × Status)) → first_broken rules ≡ None → (place : ℕ) → IsKept rules place
none_broken [] h place = tt
none_broken ((true, s) ∷ rules) h place = absurd (cc)
none_broken ((false, s) ∷ rules) h zero = refl
none_broken ((false, s) ∷ rules) h (suc place) = none_broken rules h place

gives_none : (rules : List (Bool × Status)) → ((place : ℕ) → IsKept rules place) → first_broken rules ≡ None
gives_none [] kept = refl
gives_none ((true, s) ∷ rules) kept = let first : true ≡ false = kept 0 in absurd (cc)
gives_none ((false, s) ∷ rules) kept = gives_none rules (λ place. kept (suc place))

refused_to : (o : Option Op) (job : Job) (staging : ℕ) (status : Status) → op_of job ≡ o → refusal_under o job staging ≡ Some status → IsRefusedBy job staging status
refused_to None job staging status e h = inl (e, cc)
refused_to (Some op) job staging status e h =
    inr (record { op = op; operation = e; rule = first_broken_is (rules_of op job staging) status h })

refused_from : (o : Option Op) (job : Job) (staging : ℕ) (status : Status) → op_of job ≡ o → IsRefusedBy job staging status → refusal_under o job staging ≡ Some status
refused_from None job staging status e (inl h) = cc
refused_from None job staging status e (inr b) = let other = sym e ∙ b.operation in absurd (cc)
refused_from (Some op) job staging status e (inl h) = let other = sym e ∙ h.0 in absurd (cc)
refused_from (Some op) job staging status e (inr b) =
    let same : b.op ≡ op = cc (sym e ∙ b.operation) in
    let rule = subst (λ (o : Op). IsFirstBroken (rules_of o job staging) status) same b.rule in
    first_broken_gives (rules_of op job staging) status rule.place rule.broken rule.earlier

pub refused_by_first_broken : RefusedByFirstBroken
refused_by_first_broken job staging status =
    (refused_to (op_of job) job staging status refl, refused_from (op_of job) job staging status refl)

accepted_to : (o : Option Op) (job : Job) (staging : ℕ) → op_of job ≡ o → refusal_under o job staging ≡ None → BreaksNone job staging
accepted_to None job staging e h = absurd (cc)
accepted_to (Some op) job staging e h = record { op = op; operation = e; kept = none_broken (rules_of op job staging) h }

accepted_from : (o : Option Op) (job : Job) (staging : ℕ) → op_of job ≡ o → BreaksNone job staging → refusal_under o job staging ≡ None
accepted_from None job staging e b = let other = sym e ∙ b.operation in absurd (cc)
accepted_from (Some op) job staging e b =
    let same : b.op ≡ op = cc (sym e ∙ b.operation) in
    gives_none (rules_of op job staging) (subst (λ (o : Op). (place : ℕ) → IsKept (rules_of o job staging) place) same b.kept)

pub accepted_where_none_broken : AcceptedWhereNoneBroken
accepted_where_none_broken job staging =
    (accepted_to (op_of job) job staging refl, accepted_from (op_of job) job staging refl)

pub one_status_at_most : OneStatusAtMost
one_status_at_most job staging a b first second =
    let at_a = (refused_by_first_broken job staging a).1 first in
    let at_b = (refused_by_first_broken job staging b).1 second in
    cc (sym at_a ∙ at_b)
