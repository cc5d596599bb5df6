-- Empty puts left out.
use Rattle.std.proofs.Common.{◌≡◌, ℕ, ◌<◌, Bool, false, not, List, [], ◌∷◌, length, refl, sym, ◌∙◌, ap, arith, cond, eqb}
use Rattle.dml_types.specs.Memory.{Memory, Put, put, put_of, puts_made}
use Rattle.dml_types.proofs.MemoryLemmas.{put_nil}
use Rattle.dml_effect.specs.Effects.{some_puts}

-- a put with bytes stays, and one without goes
pub some_put : (address : ℕ) (bytes : List ℕ) (puts : List Put) → 0 < length bytes → some_puts (put_of address bytes ∷ puts) ≡ put_of address bytes ∷ some_puts puts
some_put address bytes puts some =
    ap (λ (b : Bool). cond (not b) (put_of address bytes ∷ some_puts puts) (some_puts puts)) (apart (length bytes) some)
  where
    apart : (a : ℕ) → 0 < a → eqb a 0 ≡ false
    apart a h = grind arith

pub no_put : (address : ℕ) (bytes : List ℕ) (puts : List Put) → bytes ≡ [] → some_puts (put_of address bytes ∷ puts) ≡ some_puts puts
no_put address bytes puts none = ap (λ (b : List ℕ). some_puts (put_of address b ∷ puts)) none

-- the image is the same without them
pub puts_made_some : (memory : Memory) (puts : List Put) → puts_made memory (some_puts puts) ≡ puts_made memory puts
puts_made_some memory [] = refl
puts_made_some memory (p ∷ puts) =
    elim p.bytes as (λ (bytes : List ℕ). puts_made memory (cond (not (eqb (length bytes) 0)) (put_of p.address bytes ∷ some_puts puts) (some_puts puts)) ≡ puts_made (put memory p.address bytes) puts) [
      | [] ↦ puts_made_some memory puts ∙ ap (λ (m : Memory). puts_made m puts) (sym (put_nil memory p.address))
      | x ∷ xs ↦ ap (puts_made memory) (some_put p.address (x ∷ xs) puts (omega arith)) ∙ puts_made_some (put memory p.address (x ∷ xs)) puts
    ]
