-- What was found for a subcommand, by the clauses of clap's getters.
use Rattle.std.proofs.Common.{◌≡◌, ◌∙◌, ℕ, sym, ap, ap₂, List, Option, Some, None, true, false, true≢false, is_some, inl, inr, codes}
use Rattle.std.specs.Option.{option_map, unwrap_or}
use Rattle.std.specs.Borrow.{Bor}
use Rattle.std.specs.Str.{bytes_eq}
use Rattle.std.proofs.lemmas.Slice.Eq.{bytes_eq-Decides}
use Rattle.clap.specs.Words.{Row, Text, first_of}
use Rattle.dml_command.specs.Line.{HasSettings, IsAsked}

from_some : {T : Type 0} (x y : T) → Some x ≡ Some y → x ≡ y
from_some x y e = ap (λ o. unwrap_or o x) e

-- an option whose two parts are known
pub both_parts : {T A B : Type 0} (f : T → A × B) (o : Option T) (a : A) (b : B) → Some a ≡ option_map (λ t. (f t).0) o
    → Some b ≡ option_map (λ (p : A × B). p.1) (option_map f o) → option_map f o ≡ Some (a, b)
both_parts {T} {A} {B} f None a b first second = absurd (true≢false (ap (λ (o : Option A). is_some o) first))
both_parts {T} {A} {B} f (Some t) a b first second =
    ap₂ (λ (x : A) (y : B). Some (x, y)) (sym (from_some a (f t).0 first)) (sym (from_some b (f t).1 second))

-- the first value of an id behind a reference
pub text_found : (o : Option (Bor (List ℕ))) (t : Option (List ℕ)) → option_map (λ s. s.now) o ≡ t → is_some t ≡ is_some o
text_found None t e = ap (λ (x : Option (List ℕ)). is_some x) (sym e)
text_found (Some s) t e = ap (λ (x : Option (List ℕ)). is_some x) (sym e)

-- ---- the command that is asked for

run≢decode : codes "run" ≡ codes "decode" → ⊥
run≢decode e = true≢false (sym ((bytes_eq-Decides (codes "run") (codes "decode")).1 e))

module _ (name : Text) (rows : List Row) where
  pub asked_run : IsAsked (Some (name, rows)) → bytes_eq name (codes "run") ≡ true → HasSettings rows
  asked_run (inl run) is = run.1
  asked_run (inr decode) is = absurd (run≢decode (sym ((bytes_eq-Decides name (codes "run")).0 is) ∙ decode.0))

  pub asked_decode : IsAsked (Some (name, rows)) → bytes_eq name (codes "run") ≡ false → (name ≡ codes "decode") × (is_some (first_of (codes "HEX") rows) ≡ true)
  asked_decode (inl run) not = absurd (true≢false (sym ((bytes_eq-Decides name (codes "run")).1 run.0) ∙ not))
  asked_decode (inr decode) not = decode
