use Rattle.std.proofs.Common.{◌∙◌, ◌≡◌, refl, sym, subst, true≢false, Ok, Err}
use Rattle.hex.specs.Hex.{decode_of, decode_sized}
use Rattle.hex.proofs.HexLemmas.{IsOk-decode_sized, decode_sized-twice}
use Rattle.dml_command.specs.Request.{IsDescriptorText, Judges}
use Rattle.dml_command.specs.declared.refusals.LineRefusal.TheVariants.{NotHex}
use Rattle.dml_command.specs.declared.requests.Request.TheVariants.{Decode}
use Rattle.dml_command.proofs.requests.request_of.Goals as goal

pub returns-in-Ok-clause-judged : goal.returns-in-Ok-clause-judged
returns-in-Ok-clause-judged c =
    let text = c.in-Decode.hex.now in
    let decoded : decode_sized text 64 ≡ Ok c.in-Ok.bytes = sym c.in-Ok.ensures in
    let digits : IsDescriptorText text = (IsOk-decode_sized text 64).0 (rw decoded refl) in
    let bytes : decode_of text ≡ Ok c.in-Ok.bytes = sym (decode_sized-twice text 64 digits.0) ∙ decoded in
    subst (λ line. Judges line (Ok (Decode c.in-Ok.bytes))) (sym c.in-Decode.is) (digits, bytes)

pub returns-in-Err-clause-judged : goal.returns-in-Err-clause-judged
returns-in-Err-clause-judged c =
    let text = c.in-Decode.hex.now in
    let decoded : decode_sized text 64 ≡ Err c.in-Err.field-0 = sym c.in-Err.ensures in
    let refused : IsDescriptorText text → ⊥ = λ digits. let bad = rw decoded at ((IsOk-decode_sized text 64).1 digits) in true≢false (sym bad) in
    subst (λ line. Judges line (Err NotHex)) (sym c.in-Decode.is) (refused, refl)
