-- Words in which clap finds no fault name one of the program's two commands.
use Rattle.std.proofs.Common.{◌≡◌, ◌&&◌, ◌||◌, ℕ, Bool, true, false, cond, not, refl, sym, subst, inl, inr, List, [], ◌∷◌, Option, Some, None, drop, codes, true≢false, is_some, fold}
use Rattle.std.specs.List.{list_any}
use Rattle.std.specs.Option.{option_map, option_map_or}
use Rattle.std.specs.Str.{bytes_eq}
use Rattle.std.proofs.lemmas.Slice.Eq.{bytes_eq-Decides}
use Rattle.clap.specs.Words.{Kinds, Row, Rule, Shape, Text, built, fault_of, subcommand_of}
use Rattle.clap.specs.Facts.{explicit_source}
use Rattle.clap.specs.Faults.{check_fault, defaults_fault, entered_fault, level_fault, other_fault, settle_fault, turn_fault, walk_fault, word_fault}
use Rattle.clap.specs.Kinds.{check_kinds, or_else}
use Rattle.clap.specs.Lexer.{long_of, short_of}
use Rattle.clap.specs.Simple.{entered, names_of, rows_at}
use Rattle.clap.specs.Takes.{is_given}
use Rattle.clap.specs.Walk.{Held, Names, Outcome, Step, Waiting, Walk, after_flag, after_step, answers_to, arg_by_index, done, finished, idle, long_or_other, next, nothing_held, option, plain, plain_word, positional, refused, settled, subcommand, subcommand_met, subcommand_or_other, to_positional, trailing, value, waits, walk, walk_from, walked, walked_from, word_met}
use Rattle.dml_command.specs.Line.{IsAsked, dmljob}
use Rattle.dml_command.proofs.Given.{decode_given, decode_shape, run_given, run_shape}
use Rattle.dml_command.proofs.Steps.{cons≢nil, first_none, second_none}

-- ---- no word is taken for `help`

-- the walk stopped at a subcommand of this name
abbrev IsHelp : Option (Text × List Text) → Type 0
IsHelp None = ⊥
IsHelp (Some p) = bytes_eq p.0 (codes "help") ≡ true

abbrev IsHelpStep : Step → Type 0
IsHelpStep (subcommand name) = bytes_eq name (codes "help") ≡ true
IsHelpStep _ = ⊥

plain_is_none : (c : List Rule) (waiting : Waiting) (word : Text) (h : Held) → IsHelpStep (plain_word c waiting word h).1 → ⊥
plain_is_none c idle word h bad = bad
plain_is_none c (option id) word h bad = bad
plain_is_none c positional word h bad = bad

flag_is_none : (c : List Rule) (waiting : Waiting) (word : Text) (h : Held) (outcome : Outcome) → IsHelpStep (after_flag c waiting word h outcome).1 → ⊥
flag_is_none c waiting word h done bad = bad
flag_is_none c waiting word h (waits id) bad = bad
flag_is_none c waiting word h plain bad = plain_is_none c waiting word h bad
flag_is_none c waiting word h refused bad = plain_is_none c waiting word h bad

module _ (c : List Rule) (waiting : Waiting) (word : Text) (h : Held) where
  short_is_none : (flags : Option Text) → IsHelpStep (Rattle.clap.specs.Walk.short_or_plain c waiting word flags h).1 → ⊥
  short_is_none None bad = plain_is_none c waiting word h bad
  short_is_none (Some flags) bad = flag_is_none c waiting word _ _ bad

  other_is_none : (long : Option (Text × Option Text)) → IsHelpStep (long_or_other c waiting word long h).1 → ⊥
  other_is_none None bad = short_is_none (short_of word) bad
  other_is_none (Some p) bad = flag_is_none c waiting word _ _ bad

  rest_is_none : (position : ℕ) (ends : Bool) → IsHelpStep (cond ends (h, trailing position) (long_or_other c waiting word (long_of word) h)).1 → ⊥
  rest_is_none position true bad = bad
  rest_is_none position false bad = other_is_none (long_of word) bad

module _ (s : Shape) (names : Names) (keeps : s.disable_help_subcommand ≡ false) (waiting : Waiting) (position : ℕ) (word : Text) (h : Held) where
  met_is_none : (met : Option Text) → IsHelpStep (subcommand_or_other s.rules met waiting position word h).1 → other_fault s met word h ≡ [] → ⊥
  met_is_none None bad none = rest_is_none s.rules waiting word h position (bytes_eq word (45 ∷ 45 ∷ [])) bad
  met_is_none (Some name) bad none = let refused = rw (bad, keeps) at none in cons≢nil _ _ refused

  word_is_none : (is_trailing : Bool) → IsHelpStep (word_met s.rules names is_trailing waiting position word h).1 → word_fault s names is_trailing waiting word h ≡ [] → ⊥
  word_is_none true bad none = bad
  word_is_none false bad none = met_is_none (subcommand_met names waiting word) bad none

module _ (c : List Rule) (word : Text) (w : Walk) (h : Held) (goes_on : w.stopped ≡ None) where
  here : IsHelp w.stopped → ⊥
  here bad = subst IsHelp goes_on bad

  at_positional : (a : Option Rule) → IsHelp (to_positional c a word w h).stopped → ⊥
  at_positional None bad = here bad
  at_positional (Some a) bad = bad

  after_is_none : (step : Step) → (IsHelpStep step → ⊥) → IsHelp (after_step c word w h step).stopped → ⊥
  after_is_none (next waiting) none bad = here bad
  after_is_none (trailing position) none bad = here bad
  after_is_none (subcommand name) none bad = none bad
  after_is_none value none bad = at_positional (arg_by_index c w.position) bad

module _ (s : Shape) (names : Names) (keeps : s.disable_help_subcommand ≡ false) where
  turn_from : (w : Walk) (word : Text) (stopped : Option (Text × List Text)) → w.stopped ≡ stopped → (IsHelp stopped → ⊥) → turn_fault s names w word ≡ []
      → IsHelp (walked_from s.rules names stopped w word).stopped → ⊥
  turn_from w word (Some p) is none free bad = none bad
  turn_from w word None is none free bad =
      let met = word_met s.rules names w.is_trailing w.waiting w.position word w.held in
      let free_turn : or_else (word_fault s names w.is_trailing w.waiting word w.held) _ ≡ [] = rw is at free in
      after_is_none s.rules word w met.0 is met.1
      (λ help. word_is_none s names keeps w.waiting w.position word w.held w.is_trailing help (first_none _ _ free_turn)) bad

  walk_stays : (w : Walk) (words : List Text) → (IsHelp w.stopped → ⊥) → walk_fault s names w words ≡ []
      → IsHelp (fold (walked s.rules names) w words).stopped → ⊥
  unfolding walk_fault walked
  walk_stays w [] none free bad = none bad
  walk_stays w (word ∷ words) none free bad =
      walk_stays (walked s.rules names w word) words (turn_from w word w.stopped refl none (first_none _ _ free)) (second_none _ _ free) bad

-- ---- a command is met

same_word : (xs ys : List ℕ) → bytes_eq xs ys ≡ true → bytes_eq ys xs ≡ true
same_word xs ys e = (bytes_eq-Decides ys xs).1 (sym ((bytes_eq-Decides xs ys).0 e))

left_of_or : (b : Bool) → (b || false) ≡ true → b ≡ true
left_of_or true e = refl
left_of_or false e = e

refused_without : (help missing : Bool) → check_kinds help true missing ≡ [] → ⊥
refused_without true missing free = cons≢nil _ _ free
refused_without false missing free = cons≢nil _ _ free

command_met : (s : Shape) (rows : List Row) (is_met : Bool) → s.subcommand_required ≡ true → check_fault s rows is_met ≡ [] → is_met ≡ true
command_met s rows true needs free = refl
command_met s rows false needs free =
    let help = s.arg_required_else_help && not (list_any (λ r. explicit_source r.source) rows) in
    let missing = not (s.subcommand_negates_reqs && false) && list_any (λ a. a.required && not (is_given a.id rows)) s.rules in
    let refused : check_kinds help true missing ≡ [] = rw needs at free in
    absurd (refused_without help missing refused)

level_free : (s : Shape) (names : Names) (h : Held) (words : List Text) (is_met : Bool) (below : Kinds) → level_fault s names h words is_met below ≡ []
    → (walk_fault s names (walk_from h) words ≡ []) × (check_fault s (finished s.rules (walk s.rules names h words).held) is_met ≡ [])
    × (below ≡ [])
level_free s names h words is_met below free =
    let end = (walk s.rules names h words).held in
    let checks = check_fault s (finished s.rules end) is_met in
    let defaults = defaults_fault (settled s.rules end).rows s.rules in
    let settles = settle_fault s.rules s.args_override_self end in
    let walks = walk_fault s names (walk_from h) words in
    let after_defaults = or_else defaults checks in
    let after_settles = or_else settles after_defaults in
    let after_walk = or_else below after_settles in (
      first_none walks after_walk free,
      second_none defaults checks (second_none settles after_defaults (second_none below after_settles (second_none walks after_walk free))),
      first_none below after_settles (second_none walks after_walk free),
    )

-- the first of three that passes is no third where the third does not pass, and has what it needs
one_of_two : (help : Shape) (words : List Text) (is_run is_decode is_help : Bool) → (is_help ≡ true → ⊥)
    → option_map_or (λ s. level_fault s [] nothing_held words false []) (cond is_run (Some run_shape) (cond is_decode (Some decode_shape) (cond is_help (Some help) None))) [] ≡ []
    → is_some (option_map (λ s. rows_at s words) (cond is_run (Some run_shape) (cond is_decode (Some decode_shape) (cond is_help (Some help) None)))) ≡ true
    → IsAsked (option_map (λ s. rows_at s words) (cond is_run (Some run_shape) (cond is_decode (Some decode_shape) (cond is_help (Some help) None))))
one_of_two help words true is_decode is_help none free met = inl (refl, run_given words free)
one_of_two help words false true is_help none free met =
    inr (refl, decode_given words free (level_free decode_shape [] nothing_held words false [] free).1)
one_of_two help words false false true none free met = absurd (none refl)
one_of_two help words false false false none free met = absurd (true≢false (sym met))

stop_asked : (stop : Option (Text × List Text)) → (IsHelp stop → ⊥) → entered_fault (built dmljob) stop ≡ [] → is_some (entered (built dmljob) stop) ≡ true
    → IsAsked (entered (built dmljob) stop)
stop_asked None none free met = absurd (true≢false (sym met))
stop_asked (Some p) none free met =
    one_of_two _ p.1 _ _ _ (λ is_help. none (same_word (codes "help") p.0 (left_of_or _ is_help))) free met

pub asked : (words : List Text) → fault_of dmljob words ≡ [] → IsAsked (subcommand_of dmljob words)
asked words free =
    let app = built dmljob in
    let rest = drop 1 words in
    let end = walk app.top.rules (names_of app) nothing_held rest in
    let is_met = is_some (entered app end.stopped) in
    let parts = level_free app.top (names_of app) nothing_held rest is_met (entered_fault app end.stopped) free in
    stop_asked end.stopped (walk_stays app.top (names_of app) refl (walk_from nothing_held) rest (λ bad. bad) parts.0) parts.2
    (command_met app.top (finished app.top.rules end.held) is_met refl parts.1)
