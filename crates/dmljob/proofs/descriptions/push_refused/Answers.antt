use Rattle.std.proofs.Common.{◌≡◌, ◌∙◌, ap, ap₂, append_assoc, arith, ℕ, List, ◌++◌}
use Rattle.dml_script.specs.Output.{byte_text}
use Rattle.dmljob.proofs.descriptions.push_refused.Goals as goal

-- three texts written one after another
written : (old a b c byte feed first second third : List ℕ) → first ≡ old ++ a → byte ≡ b → second ≡ first ++ byte → feed ≡ c → third ≡ second ++ feed
    → third ≡ old ++ ((a ++ b) ++ c)
written old a b c byte feed first second third is_first is_b is_second is_c is_third =
    is_third ∙ ap₂ (λ (xs ys : List ℕ). xs ++ ys) (is_second ∙ ap₂ (λ (xs ys : List ℕ). xs ++ ys) is_first is_b ∙ append_assoc old a b) is_c
    ∙ append_assoc old (a ++ b) c

pub returns : goal.returns
returns c = written _ _ _ _ _ _ _ _ _ c.in_ok-push_str.ensures.bytes (ap byte_text c.code.ensures) c.in_ok-push_byte.ensures.digits (c.in_ok-push.ensures.ascii (omega arith))
    c.in_ok-push.ensures.bytes
