-- The machine values of the crate's structs: what such a struct's fields own tells them, and is made of nothing.
use Rattle.dml_arena.proofs.Steps.{◌≡◌, ℕ, ◌^◌, ◌<◌, List, [], ◌∷◌, ◌++◌, refl, ◌∙◌, w64, Ura, ent, emp, Fml, Logic, sem, RattleType, Ptr}
use mir.Val.{Val, vint, vstruct, vcons, vnil, of_list}
use denote.Builtin.{usize}
use denote.RawPtr.{RawPtr, ptr_val}
use denote.Shadow.{shadow, makes_shadow}
use denote.Struct.Struct.{Struct}

-- a struct as its fields alone: what they own does not read its name
abbrev plainly : List RattleType → RattleType
plainly Rs = Struct (record { name = []; args = []; types = []; fields = Rs })

-- what takes no bytes
abbrev pub mark : Val
mark = vstruct vnil

abbrev pub memory_val : Ptr → ℕ → Val
memory_val p n = vstruct (vcons (ptr_val p) (vcons (vint w64 n) vnil))

abbrev pub memory_own : Ptr → ℕ → List Val → Fml
memory_own p n = (plainly (RawPtr ∷ usize ∷ [])).own_val (p, (n, tt))

pub memory_told : (p : Ptr) (n : ℕ) (vs : List Val) → shadow (memory_own p n vs) → (vs ≡ memory_val p n ∷ []) × (n < 2 ^ 64)
memory_told p n vs s = (s.1.0 ∙ (λ i. vstruct (of_list (s.1.1.0 i ++ (s.1.1.1.0.0 i ++ []))) ∷ []), s.1.1.1.0.1)

pub memory_made : {M : Type 1} {𝓤 : Ura M} (𝓛 : Logic 𝓤) (p : Ptr) (n : ℕ) → n < 2 ^ 64 → ent 𝓤 (emp 𝓤) (sem 𝓛 (memory_own p n (memory_val p n ∷ [])))
memory_made 𝓛 p n small = makes_shadow 𝓛 (memory_own p n (memory_val p n ∷ [])) (λ _. (tt, (tt, ((tt, tt), tt)))) ((ptr_val p ∷ [], (vint w64 n ∷ [], tt)), (refl, (refl, ((refl, small), tt))))

abbrev pub lease_val : Val
lease_val = vstruct (vcons mark vnil)

abbrev pub lease_own : List Val → Fml
lease_own = (plainly (plainly [] ∷ [])).own_val (tt, tt)

pub lease_told : (vs : List Val) → shadow (lease_own vs) → vs ≡ lease_val ∷ []
lease_told vs s = s.1.0 ∙ (λ i. vstruct (of_list (s.1.1.0.1.0 i ++ [])) ∷ [])

pub lease_made : {M : Type 1} {𝓤 : Ura M} (𝓛 : Logic 𝓤) → ent 𝓤 (emp 𝓤) (sem 𝓛 (lease_own (lease_val ∷ [])))
lease_made 𝓛 = makes_shadow 𝓛 (lease_own (lease_val ∷ [])) (λ _. (tt, ((λ _. (tt, tt)), tt))) ((mark ∷ [], tt), (refl, ((tt, (refl, tt)), tt)))

abbrev pub span_val : Ptr → Val
span_val p = vstruct (vcons (ptr_val p) (vcons mark vnil))

abbrev pub span_own : Ptr → List Val → Fml
span_own p = (plainly (RawPtr ∷ plainly [] ∷ [])).own_val (p, (tt, tt))

pub span_told : (p : Ptr) (vs : List Val) → shadow (span_own p vs) → vs ≡ span_val p ∷ []
span_told p vs s = s.1.0 ∙ (λ i. vstruct (of_list (s.1.1.0 i ++ (s.1.1.1.0.1.0 i ++ []))) ∷ [])

pub span_own_made : {M : Type 1} {𝓤 : Ura M} (𝓛 : Logic 𝓤) (p : Ptr) → ent 𝓤 (emp 𝓤) (sem 𝓛 (span_own p (span_val p ∷ [])))
span_own_made 𝓛 p = makes_shadow 𝓛 (span_own p (span_val p ∷ [])) (λ _. (tt, (tt, ((λ _. (tt, tt)), tt)))) ((ptr_val p ∷ [], (mark ∷ [], tt)), (refl, (refl, ((tt, (refl, tt)), tt))))
