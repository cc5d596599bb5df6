-- Words without a fault give a command what it needs: numbers for the three options of `run`, a word to `decode`.
use Rattle.std.proofs.Common.{◌≡◌, ◌∙◌, ◌⊎◌, ◌||◌, Bool, true, false, cond, not, refl, sym, ap, subst, inl, inr, List, [], ◌∷◌, length, Some, codes, true≢false, is_some}
use Rattle.std.specs.Prelude.{find, option_and_then, pos}
use Rattle.std.specs.Option.{option_map_or}
use Rattle.std.specs.Str.{bytes_eq}
use Rattle.clap.specs.Words.{Row, Rule, Shape, Text, built, first_of, new_rule}
use Rattle.clap.specs.Facts.{explicit_source}
use Rattle.clap.specs.Faults.{check_fault, level_fault, use_fault}
use Rattle.clap.specs.Kinds.{check_kinds, range_kinds}
use Rattle.clap.specs.Simple.{filled, help_rule, new_shape, with_index}
use Rattle.clap.specs.Takes.{is_given}
use Rattle.clap.specs.ValueTests.{accepts}
use Rattle.clap.specs.Walk.{has_row, nothing_held, rows_after, settled, used, walk, with_default, with_values}
use Rattle.clap.specs.declared.builder.value_parser.Reading.TheVariants.{AsWritten, WithoutMinus}
use Rattle.clap.specs.declared.builder.value_parser.ValueParser.{ValueParser}
use Rattle.clap.specs.declared.builder.value_parser.ValueParser.TheVariants as parser
use Rattle.clap.specs.declared.parser.matches.ValueSource.TheVariants.{DefaultValue}
use Rattle.dml_command.specs.Line.{HasSettings, dmljob, parsed_number, option_in, option_rule}
use Rattle.dml_command.proofs.Kept.{OfFound, known_found, level_keeps}
use Rattle.dml_command.proofs.Numbers.{has_number}
use Rattle.dml_command.proofs.Read.{AllRead, first_read, one_read, row_added, row_stays, used_read, with_values_read}
use Rattle.dml_command.proofs.Steps.{cons≢nil}

abbrev first_shape : List Shape → Shape
first_shape [] = new_shape []
first_shape (s ∷ ss) = s

abbrev other_shapes : List Shape → List Shape
other_shapes [] = []
other_shapes (s ∷ ss) = ss

abbrev pub run_shape : Shape
run_shape = first_shape (built dmljob).subs

abbrev pub decode_shape : Shape
decode_shape = first_shape (other_shapes (built dmljob).subs)

abbrev filled_help : Rule
filled_help = with_index 1 (filled help_rule)

same_either : {X : Type 0} (P : X → Type 0) (x : X) (b : Bool) → P x → P (cond b x x)
same_either P x true h = h
same_either P x false h = h

-- ---- run

abbrev number : ValueParser
number = parser.Signed (pos 0) (pos 4294967295)

abbrev AllNumbers : List Row → Type 0
AllNumbers = AllRead WithoutMinus (accepts false number)

abbrev filled_option : Text → Text → Rule
filled_option name default = with_index 1 (filled (option_rule name default))

abbrev IsOfRun : Rule → Type 0
IsOfRun a = ((name : Text) × (default : Text) × (a ≡ filled_option name default)) ⊎ (a ≡ filled_help)

of_run : (p : Rule → Bool) → OfFound IsOfRun (find p run_shape.rules)
of_run p = known_found IsOfRun p run_shape.rules
    (inl (codes "workers", codes "4", refl), (inl (codes "chunk", codes "4096", refl), (inl (codes "arena", codes "1048576", refl), (inr refl, tt))))

option_used : (name default : Text) (values : List Text) (rows : List Row) → use_fault false (filled_option name default) values rows ≡ [] → AllNumbers rows
    → AllNumbers (used (filled_option name default) values rows)
option_used name default [] rows free fine = absurd (cons≢nil _ _ free)
option_used name default (v ∷ vs) rows free fine = used_read WithoutMinus false number false name v vs rows (range_kinds 1 1 (length (v ∷ vs))) free fine

run_keeps : (a : Rule) → IsOfRun a → (values : List Text) (rows : List Row) → use_fault false a values rows ≡ [] → AllNumbers rows → AllNumbers (used a values rows)
run_keeps a (inl option) values rows free fine =
    subst (λ (r : Rule). use_fault false r values rows ≡ [] → AllNumbers (used r values rows)) (sym option.2) (λ f. option_used option.0 option.1 values rows f fine) free
run_keeps a (inr is) values rows free fine = subst (λ (r : Rule). AllNumbers (used r values rows)) (sym is) fine

module _ (name default : Text) (passes : accepts false number default ≡ true) where
  default_read : (rows : List Row) → AllNumbers rows → AllNumbers (with_default rows (filled_option name default))
  default_read rows fine = go (has_row name rows)
    where
      go : (b : Bool) → AllNumbers (cond b rows (with_values name WithoutMinus DefaultValue (default ∷ []) rows))
      go true = fine
      go false = with_values_read WithoutMinus (accepts false number) name DefaultValue default [] rows passes fine

default_given : (name default : Text) (rows : List Row) → bytes_eq name name ≡ true → has_row name (with_default rows (filled_option name default)) ≡ true
default_given name default rows same = go (has_row name rows) refl
  where
    go : (b : Bool) → has_row name rows ≡ b → has_row name (cond b rows (with_values name WithoutMinus DefaultValue (default ∷ []) rows)) ≡ true
    go true e = e
    go false e = row_added name WithoutMinus DefaultValue (default ∷ []) rows same

default_stays : (name default other : Text) (rows : List Row) → has_row other rows ≡ true → has_row other (with_default rows (filled_option name default)) ≡ true
default_stays name default other rows has = go (has_row name rows)
  where
    go : (b : Bool) → has_row other (cond b rows (with_values name WithoutMinus DefaultValue (default ∷ []) rows)) ≡ true
    go true = has
    go false = row_stays name other WithoutMinus DefaultValue (default ∷ []) rows has

help_leaves : (P : List Row → Type 0) (rows : List Row) → P rows → P (with_default rows filled_help)
help_leaves P rows h = same_either P rows (has_row (codes "help") rows) h

has_option : (name : Text) (rows : List Row) → AllNumbers rows → has_row name rows ≡ true → is_some (option_in rows name) ≡ true
has_option name rows fine has =
    let value = one_read WithoutMinus (accepts false number) name rows fine has in
    ap (λ t. is_some (option_and_then parsed_number t)) value.1 ∙ has_number value.0 value.2

pub run_given : (words : List Text) → level_fault run_shape [] nothing_held words false [] ≡ [] → HasSettings (rows_after run_shape.rules [] words)
run_given words free =
    let before = (settled run_shape.rules (walk run_shape.rules [] nothing_held words).held).rows in
    let held : AllNumbers before = level_keeps run_shape IsOfRun AllNumbers of_run run_keeps [] words false [] free tt in
    let workers = codes "workers" in
    let chunk = codes "chunk" in
    let arena = codes "arena" in
    let rows1 = with_default before (filled_option workers (codes "4")) in
    let rows2 = with_default rows1 (filled_option chunk (codes "4096")) in
    let rows3 = with_default rows2 (filled_option arena (codes "1048576")) in
    let rows = with_default rows3 filled_help in
    let fine1 = default_read workers (codes "4") refl before held in
    let fine2 = default_read chunk (codes "4096") refl rows1 fine1 in
    let fine3 = default_read arena (codes "1048576") refl rows2 fine2 in
    let fine : AllNumbers rows = help_leaves AllNumbers rows3 fine3 in
    let has_workers = default_stays arena (codes "1048576") workers rows2
    (default_stays chunk (codes "4096") workers rows1 (default_given workers (codes "4") before refl)) in
    let has_chunk = default_stays arena (codes "1048576") chunk rows2 (default_given chunk (codes "4096") rows1 refl) in
    let has_arena = default_given arena (codes "1048576") rows2 refl in (
      has_option workers rows fine (help_leaves (λ r. has_row workers r ≡ true) rows3 has_workers),
      has_option chunk rows fine (help_leaves (λ r. has_row chunk r ≡ true) rows3 has_chunk),
      has_option arena rows fine (help_leaves (λ r. has_row arena r ≡ true) rows3 has_arena),
    )

-- ---- decode

abbrev AllTexts : List Row → Type 0
AllTexts = AllRead AsWritten (accepts false parser.String)

abbrev filled_hex : Rule
filled_hex = with_index 1 (filled (record (new_rule (codes "HEX")) { required = true }))

abbrev IsOfDecode : Rule → Type 0
IsOfDecode a = (a ≡ filled_hex) ⊎ (a ≡ filled_help)

of_decode : (p : Rule → Bool) → OfFound IsOfDecode (find p decode_shape.rules)
of_decode p = known_found IsOfDecode p decode_shape.rules (inl refl, (inr refl, tt))

hex_used : (values : List Text) (rows : List Row) → use_fault false filled_hex values rows ≡ [] → AllTexts rows → AllTexts (used filled_hex values rows)
hex_used [] rows free fine = absurd (cons≢nil _ _ free)
hex_used (v ∷ vs) rows free fine = used_read AsWritten false parser.String false (codes "HEX") v vs rows (range_kinds 1 1 (length (v ∷ vs))) free fine

decode_keeps : (a : Rule) → IsOfDecode a → (values : List Text) (rows : List Row) → use_fault false a values rows ≡ [] → AllTexts rows → AllTexts (used a values rows)
decode_keeps a (inl is) values rows free fine =
    subst (λ (r : Rule). use_fault false r values rows ≡ [] → AllTexts (used r values rows)) (sym is) (λ f. hex_used values rows f fine) free
decode_keeps a (inr is) values rows free fine = subst (λ (r : Rule). AllTexts (used r values rows)) (sym is) fine

given_row : (id : Text) (rows : List Row) → is_given id rows ≡ true → has_row id rows ≡ true
given_row id [] given = absurd (true≢false (sym given))
given_row id (r ∷ rs) given = go (bytes_eq r.id id) given (given_row id rs)
  where
    go : (b : Bool) → option_map_or (λ x. explicit_source x.source) (cond b (Some r) (find (λ x. bytes_eq x.id id) rs)) false ≡ true
        → (is_given id rs ≡ true → has_row id rs ≡ true) → (b || has_row id rs) ≡ true
    go true e more = refl
    go false e more = more e

wanted_given : (given : Bool) → check_kinds false false (not given || false) ≡ [] → given ≡ true
wanted_given true free = refl
wanted_given false free = absurd (cons≢nil _ _ free)

pub decode_given : (words : List Text) → level_fault decode_shape [] nothing_held words false [] ≡ []
    → check_fault decode_shape (rows_after decode_shape.rules [] words) false ≡ [] → is_some (first_of (codes "HEX") (rows_after decode_shape.rules [] words)) ≡ true
decode_given words free checks =
    let hex = codes "HEX" in
    let before = (settled decode_shape.rules (walk decode_shape.rules [] nothing_held words).held).rows in
    let held : AllTexts before = level_keeps decode_shape IsOfDecode AllTexts of_decode decode_keeps [] words false [] free tt in
    let rows1 = with_default before filled_hex in
    let rows = with_default rows1 filled_help in
    let fine1 : AllTexts rows1 = same_either AllTexts before (has_row hex before) held in
    let fine : AllTexts rows = help_leaves AllTexts rows1 fine1 in
    let has = given_row hex rows (wanted_given (is_given hex rows) checks) in
    ap is_some (first_read AsWritten (accepts false parser.String) hex rows fine has).1
