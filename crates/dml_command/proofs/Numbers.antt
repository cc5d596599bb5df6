-- The number of an option, as `u32` reads its text.
use Rattle.std.proofs.Common.{◌≡◌, ◌∙◌, ◌^◌, ◌<◌, cond, ◌&&◌, ℕ, Bool, true, false, refl, sym, ap, lit<, List, [], ◌∷◌, length, Option, Some, None, Result, Ok, Err, nat_lt, lt-ltb, ltb-true, true≢false}
use Rattle.std.specs.Char.{digit_value}
use Rattle.std.specs.List.{list_all}
use Rattle.std.specs.Prelude.{is_some, option_and_then, pos}
use Rattle.std.specs.Result.{result_ok}
use Rattle.std.specs.Str.Parse.{AllDigits, IsNumeral, ParsesUnsigned, digits_value, without_leading_plus}
use Rattle.clap.specs.Lexer.{without_minus}
use Rattle.clap.specs.ValueTests.{accepts}
use Rattle.clap.specs.Words.{ReadsOne, Text, one_text, rows_of}
use Rattle.clap.specs.declared.parser.matches.Found.{Found}
use Rattle.clap.specs.declared.builder.value_parser.ValueParser.TheVariants as parser
use Rattle.clap.proofs.CallerReads.{signed_reads}
use Rattle.clap.proofs.WalkLemmas.{one_text-rows}
use Rattle.clap.proofs.ValueTestLemmas.{accepts-Accepts}
use Rattle.dml_command.specs.Line.{parsed_number, option_in}

digits_pass : (ds : List ℕ) → AllDigits 10 ds → list_all (λ d. nat_lt (digit_value d) 10) ds ≡ true
digits_pass [] h = refl
digits_pass (d ∷ ds) h = rw (lt-ltb (digit_value d) 10 h.0) (digits_pass ds h.1)

both : (a b : Bool) → (a && b) ≡ true → (a ≡ true) × (b ≡ true)
both true b e = (refl, e)
both false b e = absurd (true≢false (sym e))

digits_from : (ds : List ℕ) → list_all (λ d. nat_lt (digit_value d) 10) ds ≡ true → AllDigits 10 ds
digits_from [] e = tt
digits_from (d ∷ ds) e = let parts = both _ _ e in (ltb-true _ _ parts.0, digits_from ds parts.1)

abbrev is_number : List ℕ → Bool
is_number ds = nat_lt 0 (length ds) && list_all (λ d. nat_lt (digit_value d) 10) ds && nat_lt (digits_value 10 ds) (2 ^ 32)

-- a result is what the text has, where it is that of `parse`
number_read : {E : Type 0} (text : Text) (r : Result ℕ E) → ParsesUnsigned 32 10 text r → result_ok r ≡ parsed_number text
number_read text (Ok n) h =
    let ds = without_leading_plus text in
    rw (lt-ltb 0 (length ds) h.0.0.0, digits_pass ds h.0.0.1, lt-ltb (digits_value 10 ds) (2 ^ 32) h.0.1) (ap Some h.1)
number_read text (Err e) h = go (is_number (without_leading_plus text)) refl
  where
    go : (b : Bool) → is_number (without_leading_plus text) ≡ b → None ≡ parsed_number text
    go false t = rw t refl
    go true t =
        let outer = both _ _ t in
        let inner = both _ _ outer.0 in
        absurd (h ((ltb-true _ _ inner.0, digits_from (without_leading_plus text) inner.1), ltb-true _ _ outer.1))

module _ {E : Type 0} (gives : Text → Result ℕ E → Type 0) (parses : (t : Text) (r : Result ℕ E) → gives t r → ParsesUnsigned 32 10 t r) where
  -- what a getter reads of the text
  text_read : (text : Text) (r : Option ℕ) → ReadsOne gives text r → r ≡ parsed_number text
  text_read text (Some n) h = number_read {E = E} text (Ok n) (parses text (Ok n) h)
  text_read text None h = number_read {E = E} text (Err h.0) (parses text (Err h.0) h.1)

  option_read : (text : Option Text) (r : Option ℕ) → (text ≡ None → r ≡ None) → ((t : Text) → text ≡ Some t → ReadsOne gives t r)
      → r ≡ option_and_then parsed_number text
  option_read None r none value = none refl
  option_read (Some t) r none value = text_read t r (value t refl)

  pub number_found : (f : Found) (id : Text) (r : Option ℕ) → (one_text f id ≡ None → r ≡ None) → ((t : Text) → one_text f id ≡ Some t → ReadsOne gives t r)
      → r ≡ option_in (rows_of f) id
  number_found f id r none value = option_read (one_text f id) r none value ∙ ap (option_and_then parsed_number) (one_text-rows f id)

is_digits_number : (ds : List ℕ) → IsNumeral 10 ds × (digits_value 10 ds < 2 ^ 32) → is_number ds ≡ true
is_digits_number ds h = rw (lt-ltb 0 (length ds) h.0.0, digits_pass ds h.0.1, lt-ltb (digits_value 10 ds) (2 ^ 32) h.1) refl

-- a text that an option takes has a number
parsed : (text : Text) → ReadsOne {T = ℕ} {E = Unit {0}} (λ t r. ParsesUnsigned 32 10 t r) text (parsed_number text)
parsed text = go (is_number (without_leading_plus text)) refl
  where
    go : (b : Bool) → is_number (without_leading_plus text) ≡ b
        → ReadsOne {T = ℕ} {E = Unit {0}} (λ t r. ParsesUnsigned 32 10 t r) text (cond b (Some (digits_value 10 (without_leading_plus text))) None)
    go true e =
        let outer = both _ _ e in
        let inner = both _ _ outer.0 in
        (((ltb-true _ _ inner.0, digits_from (without_leading_plus text) inner.1), ltb-true _ _ outer.1), refl)
    go false e = (tt, λ h. true≢false (sym (is_digits_number (without_leading_plus text) h) ∙ e))

pub has_number : (t : Text) → accepts false (parser.Signed (pos 0) (pos 4294967295)) t ≡ true → is_some (parsed_number (without_minus t)) ≡ true
has_number t pass =
    let read = signed_reads (Unit {0}) (λ u r. ParsesUnsigned 32 10 u r) 32 0 4294967295 t (parsed_number (without_minus t)) (parsed (without_minus t)) (λ u r h. h)
    (lit< tt) (accepts-Accepts false (parser.Signed (pos 0) (pos 4294967295)) t pass) in
    ap is_some read.1
