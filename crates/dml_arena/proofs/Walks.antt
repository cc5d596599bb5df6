-- What the walks share. Assumes `Logic`.
use Rattle.dml_arena.proofs.Steps.{ℕ, zero, suc, List, [], ◌∷◌, Ura, ent, fact, Logic, Item, Goal, Seq}
use lib.ListN.{take, drop}
use Rattle.std.proofs.Common.{subst, take-append-drop}
use mir.Syntax.{Body}
use base.Logic.{via, fst∗}
use prog.Wp.{Env, Calls, Loops, Wp, after_seq}
use types.Kit.{Post, any_q, post, ⋆, ⊢++}
use contract.Monad.{fact_use}
use denote.Builtin.{unit}
use denote.Signature.{Slot, plain}

-- the k-th parameter
abbrev pub slot_at : {n : ℕ} → ℕ → List (Slot n) → Slot n
slot_at k [] = plain (λ _. unit)
slot_at zero (s ∷ ss) = s
slot_at (suc k) (s ∷ ss) = slot_at k ss

-- after an arm of a `match`, b runs
abbrev pub then_runs : {M : Type 1} {𝓤 : Ura M} (𝓛 : Logic 𝓤) → Calls 𝓤 𝓛.H → Loops 𝓤 𝓛.H → Env 𝓤 𝓛.H → Body → Post 𝓤 𝓛.H → Post 𝓤 𝓛.H
then_runs {𝓤 = 𝓤} 𝓛 C Λ E b q = any_q (after_seq 𝓤 𝓛.H (Wp 𝓤 𝓛.H C Λ E b (post 𝓤 𝓛.H q)) (post 𝓤 𝓛.H q))

-- the first n entries tell a fact, and stay
pub learns : {M : Type 1} {𝓤 : Ura M} {𝓛 : Logic 𝓤} {K : Type 0} {Γ : List (Item 𝓤)} {G : Goal 𝓤 𝓛.H}
    → K → (n : ℕ) (φ : Type 0) → ent 𝓤 (⋆ 𝓛 (take n Γ)) (fact 𝓤 φ) → (φ → Seq K 𝓛 Γ G) → Seq K 𝓛 Γ G
learns {𝓤 = 𝓤} {𝓛} {Γ = Γ} t n φ shown k =
    let front : List (Item 𝓤) = take n Γ in
    let back : List (Item 𝓤) = drop n Γ in
    let cut = via 𝓤 _ (⊢++ 𝓛 front back) (fst∗ 𝓤 (⋆ 𝓛 front) (⋆ 𝓛 back)) in
    let whole = subst (λ (Δ : List (Item 𝓤)). ent 𝓤 (⋆ 𝓛 Δ) (⋆ 𝓛 front)) (take-append-drop n Γ) cut in
    record { prf = fact_use 𝓤 φ (via 𝓤 (⋆ 𝓛 front) whole shown) (λ x. (k x).prf) }
