-- Rows whose values a parser took.
use Rattle.std.proofs.Common.{◌≡◌, ◌∙◌, ◌||◌, Bool, true, false, cond, refl, sym, ap, ap₂, List, [], ◌∷◌, ◌++◌, Option, Some, true≢false}
use Rattle.std.specs.Option.{option_map}
use Rattle.std.specs.Prelude.{find, option_and_then, slice_get}
use Rattle.std.specs.Str.{bytes_eq}
use Rattle.clap.specs.Words.{Kinds, Row, Text, first_of, one_of}
use Rattle.clap.specs.Faults.{repeat_fault}
use Rattle.clap.specs.Kinds.{or_else, value_kinds, values_kinds}
use Rattle.clap.specs.Values.{read_as, refused_kind}
use Rattle.clap.specs.ValueTests.{accepts}
use Rattle.clap.specs.Walk.{at_row, has_row, more_values, row_text, with_values, without}
use Rattle.clap.specs.declared.builder.value_parser.Reading.{Reading}
use Rattle.clap.specs.declared.builder.value_parser.ValueParser.{ValueParser}
use Rattle.clap.specs.declared.error.kind.ErrorKind.{ErrorKind}
use Rattle.clap.specs.declared.parser.matches.ValueSource.{ValueSource}
use Rattle.clap.specs.declared.parser.matches.ValueSource.TheVariants.{CommandLine}
use Rattle.dml_command.proofs.Steps.{cons≢nil, first_none, second_none}

-- ---- the id of a value has a row

has_cons : (b c : Bool) → c ≡ true → (b || c) ≡ true
has_cons true c e = refl
has_cons false c e = e

added_by : (id other : Text) (how : Reading) (source : ValueSource) (values : List Text) (r : Row) (rs : List Row) (same : Bool)
    → has_row other (r ∷ rs) ≡ true → (has_row other rs ≡ true → has_row other (with_values id how source values rs) ≡ true)
    → has_row other (cond same (more_values source values r ++ rs) (r ∷ with_values id how source values rs)) ≡ true
added_by id other how source values r rs true has more = has
added_by id other how source values r rs false has more = kept (bytes_eq r.id other) has
  where
    kept : (b : Bool) → (b || has_row other rs) ≡ true → (b || has_row other (with_values id how source values rs)) ≡ true
    kept true e = refl
    kept false e = more e

pub row_stays : (id other : Text) (how : Reading) (source : ValueSource) (values : List Text) (rows : List Row) → has_row other rows ≡ true
    → has_row other (with_values id how source values rows) ≡ true
row_stays id other how source values [] has = absurd (true≢false (sym has))
row_stays id other how source values (r ∷ rs) has =
    added_by id other how source values r rs (bytes_eq r.id id) has (row_stays id other how source values rs)

pub row_added : (id : Text) (how : Reading) (source : ValueSource) (values : List Text) (rows : List Row) → bytes_eq id id ≡ true
    → has_row id (with_values id how source values rows) ≡ true
row_added id how source values [] same = rw same refl
row_added id how source values (r ∷ rs) same = go (bytes_eq r.id id) refl (row_added id how source values rs same)
  where
    go : (b : Bool) → bytes_eq r.id id ≡ b → has_row id (with_values id how source values rs) ≡ true
        → has_row id (cond b (more_values source values r ++ rs) (r ∷ with_values id how source values rs)) ≡ true
    go true e more = rw e refl
    go false e more = has_cons (bytes_eq r.id id) _ more

-- ---- each row has a value that passed a test

module _ (how : Reading) (test : Text → Bool) where
  abbrev pub Starts : List Text → Type 0
  Starts [] = ⊥
  Starts (v ∷ vs) = test v ≡ true

  abbrev pub IsRead : Row → Type 0
  IsRead r = (r.reading ≡ how) × Starts r.values

  abbrev pub AllRead : List Row → Type 0
  AllRead [] = Unit {0}
  AllRead (r ∷ rs) = IsRead r × AllRead rs

  starts_append : (xs ys : List Text) → Starts xs → Starts (xs ++ ys)
  starts_append [] ys h = absurd h
  starts_append (x ∷ xs) ys h = h

  AllRead-append : (xs ys : List Row) → AllRead xs → AllRead ys → AllRead (xs ++ ys)
  AllRead-append [] ys a b = b
  AllRead-append (x ∷ xs) ys a b = (a.0, AllRead-append xs ys a.1 b)

  at_row_read : (id : Text) (change : Row → List Row) (missing rows : List Row) → ((r : Row) → IsRead r → AllRead (change r)) → AllRead missing → AllRead rows
      → AllRead (at_row id change missing rows)
  at_row_read id change missing [] changed none fine = none
  at_row_read id change missing (r ∷ rs) changed none fine = go (bytes_eq r.id id) (at_row_read id change missing rs changed none fine.1)
    where
      go : (b : Bool) → AllRead (at_row id change missing rs) → AllRead (cond b (change r ++ rs) (r ∷ at_row id change missing rs))
      go true more = AllRead-append (change r) rs (changed r fine.0) fine.1
      go false more = (fine.0, more)

  pub with_values_read : (id : Text) (source : ValueSource) (v : Text) (vs : List Text) (rows : List Row) → test v ≡ true → AllRead rows
      → AllRead (with_values id how source (v ∷ vs) rows)
  with_values_read id source v vs rows pass fine =
      at_row_read id (more_values source (v ∷ vs)) _ rows (λ r good. ((good.0, starts_append r.values (v ∷ vs) good.1), tt)) ((refl, pass), tt) fine

  pub without_read : (id : Text) (rows : List Row) → AllRead rows → AllRead (without id rows)
  without_read id rows fine = at_row_read id (λ _. []) [] rows (λ r good. tt) tt fine

  -- the value of an id that has a row
  abbrev Found : Text → List Row → Type 0
  Found id rows = (r : Row) × (find (λ x. bytes_eq x.id id) rows ≡ Some r) × IsRead r

  row_found : (id : Text) (rows : List Row) → AllRead rows → has_row id rows ≡ true → Found id rows
  row_found id [] fine has = absurd (true≢false (sym has))
  row_found id (r ∷ rs) fine has = go (bytes_eq r.id id) has (row_found id rs fine.1)
    where
      go : (b : Bool) → (b || has_row id rs) ≡ true → (has_row id rs ≡ true → Found id rs)
          → (x : Row) × (cond b (Some r) (find (λ y. bytes_eq y.id id) rs) ≡ Some x) × IsRead x
      go true e more = (r, refl, fine.0)
      go false e more = more e

  first_of_values : (values : List Text) → Starts values → (v : Text) × (slice_get values 0 ≡ Some v) × (test v ≡ true)
  first_of_values [] h = absurd h
  first_of_values (v ∷ vs) h = (v, refl, h)

  pub one_read : (id : Text) (rows : List Row) → AllRead rows → has_row id rows ≡ true → (v : Text) × (one_of id rows ≡ Some (read_as how v)) × (test v ≡ true)
  one_read id rows fine has =
      let found = row_found id rows fine has in
      let value = first_of_values found.0.values found.2.1 in
      (value.0, ap (option_and_then row_text) found.1 ∙ ap₂ (λ (way : Reading) (o : Option Text). option_map (read_as way) o) found.2.0 value.1, value.2)

  pub first_read : (id : Text) (rows : List Row) → AllRead rows → has_row id rows ≡ true → (v : Text) × (first_of id rows ≡ Some v) × (test v ≡ true)
  first_read id rows fine has =
      let found = row_found id rows fine has in
      let value = first_of_values found.0.values found.2.1 in
      (value.0, ap (option_and_then (λ (r : Row). slice_get r.values 0)) found.1 ∙ value.1, value.2)

-- ---- a use of an argument that has one value

accepted : (passes : Bool) (kind : ErrorKind) → cond passes [] (kind ∷ []) ≡ [] → passes ≡ true
accepted true kind e = refl
accepted false kind e = absurd (cons≢nil kind [] e)

pub used_read : (how : Reading) (ignore_case : Bool) (parser : ValueParser) (again : Bool) (id : Text) (v : Text) (vs : List Text) (rows : List Row) (ranges : Kinds)
    → or_else ranges (or_else (repeat_fault again id rows) (values_kinds ignore_case parser (v ∷ vs))) ≡ [] → AllRead how (accepts ignore_case parser) rows
    → AllRead how (accepts ignore_case parser) (with_values id how CommandLine (v ∷ vs) (without id rows))
used_read how ignore_case parser again id v vs rows ranges free fine =
    let repeats = repeat_fault again id rows in
    let values = values_kinds ignore_case parser (v ∷ vs) in
    let of_values = second_none repeats values (second_none ranges (or_else repeats values) free) in
    let first = first_none (value_kinds ignore_case parser v) (values_kinds ignore_case parser vs) of_values in
    with_values_read how (accepts ignore_case parser) id CommandLine v vs (without id rows) (accepted (accepts ignore_case parser v) (refused_kind parser) first)
    (without_read how (accepts ignore_case parser) id rows fine)
