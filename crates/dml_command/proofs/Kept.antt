-- A fact of what was found that each use of an argument keeps, and each default, holds at the end of a level of a parse without fault.
use Rattle.std.proofs.Common.{◌≡◌, ◌&&◌, ℕ, Bool, true, false, cond, refl, List, [], ◌∷◌, Option, Some, None, drop, length, zero, suc, is_some, fold}
use Rattle.std.specs.Option.{option_map_or}
use Rattle.std.specs.Prelude.{encode_utf8, find, slice_get}
use Rattle.std.specs.Str.{bytes_eq, chars}
use Rattle.clap.specs.Words.{Kinds, Row, Rule, Shape, Text}
use Rattle.clap.specs.Faults.{bundle_step_fault, check_fault, defaults_fault, level_fault, stray_fault, flag_word_fault, flags_fault, long_fault, option_fault, other_fault, positional_fault, react_fault, settle_fault, short_fault, step_fault, turn_fault, use_fault, walk_fault, word_fault}
use Rattle.clap.specs.Kinds.{or_else}
use Rattle.clap.specs.Lexer.{long_of, short_of}
use Rattle.clap.specs.Walk.{Held, Names, Outcome, Step, Waiting, Walk, after_flag, after_step, arg_by_id, arg_by_index, arg_by_long, arg_by_short, attached_value, bundle_met, bundle_step, done, finished, flag_met, idle, is_pending, long_met, long_or_other, next, nothing_held, option, option_met, option_word, plain, plain_word, positional, pushed, reacted, refused, settled, settled_rows, short_met, short_or_plain, subcommand, subcommand_met, subcommand_or_other, takes_several, takes_values, to_positional, trailing, used, used_by_id, value, waits, walk, walk_from, walked, walked_from, word_met}
use Rattle.clap.specs.declared.error.kind.ErrorKind.TheVariants.{TooManyValues}
use Rattle.dml_command.proofs.Steps.{first_none, second_none}

abbrev pub OfFound : (Rule → Type 0) → Option Rule → Type 0
OfFound Known None = Unit {0}
OfFound Known (Some a) = Known a

abbrev pub AllKnown : (Rule → Type 0) → List Rule → Type 0
AllKnown Known [] = Unit {0}
AllKnown Known (a ∷ rest) = Known a × AllKnown Known rest

pub known_found : (Known : Rule → Type 0) (p : Rule → Bool) (rules : List Rule) → AllKnown Known rules → OfFound Known (find p rules)
known_found Known p [] all = tt
known_found Known p (a ∷ rest) all = go (p a) (known_found Known p rest all.1)
  where
    go : (b : Bool) → OfFound Known (find p rest) → OfFound Known (cond b (Some a) (find p rest))
    go true more = all.0
    go false more = more

-- Known are the rules of the level, and Fine is the fact
module _ (s : Shape) (Known : Rule → Type 0) (Fine : List Row → Type 0) (known : (p : Rule → Bool) → OfFound Known (find p s.rules))
    (keeps : (a : Rule) → Known a → (values : List Text) (rows : List Row) → use_fault s.args_override_self a values rows ≡ [] → Fine rows → Fine (used a values rows)) where
  abbrev again : Bool
  again = s.args_override_self

  used_keeps : (a : Option Rule) → OfFound Known a → (values : List Text) (rows : List Row)
      → option_map_or (λ r. use_fault again r values rows) a [] ≡ [] → Fine rows → Fine (used_by_id a values rows)
  used_keeps None is values rows free fine = fine
  used_keeps (Some a) is values rows free fine = keeps a is values rows free fine

  settled_from : (p : Option (Text × List Text)) (rows : List Row)
      → option_map_or (λ q. option_map_or (λ a. use_fault again a q.1 rows) (arg_by_id s.rules q.0) []) p [] ≡ [] → Fine rows
      → Fine (settled_rows s.rules p rows)
  settled_from None rows free fine = fine
  settled_from (Some p) rows free fine = used_keeps (arg_by_id s.rules p.0) (known (λ a. bytes_eq a.id p.0)) p.1 rows free fine

  pub settled_keeps : (h : Held) → settle_fault s.rules again h ≡ [] → Fine h.rows → Fine (settled s.rules h).rows
  settled_keeps h free fine = settled_from h.pending h.rows free fine

  reacted_keeps : (a : Rule) → Known a → (values : List Text) (h : Held) → react_fault s.rules again a values h ≡ [] → Fine h.rows
      → Fine (reacted s.rules a values h).rows
  reacted_keeps a is values h free fine =
      let before = settle_fault s.rules again h in
      let this = use_fault again a values (settled s.rules h).rows in
      keeps a is values (settled s.rules h).rows (second_none before this free) (settled_keeps h (first_none before this free) fine)

  option_keeps : (a : Rule) → Known a → (v : Option Text) (h : Held) → option_fault s.rules again a v h ≡ [] → Fine h.rows
      → Fine (option_met s.rules a v h).0.rows
  option_keeps a is (Some v) h free fine = reacted_keeps a is (v ∷ []) h free fine
  option_keeps a is None h free fine = settled_keeps h free fine

  flag_keeps : (a : Rule) → Known a → (v : Option Text) (h : Held) → cond (is_some v) (TooManyValues ∷ []) (react_fault s.rules again a [] h) ≡ [] → Fine h.rows
      → Fine (flag_met s.rules a v h).0.rows
  flag_keeps a is (Some v) h free fine = fine
  flag_keeps a is None h free fine = reacted_keeps a is [] h free fine

  long_by : (takes : Bool) (a : Rule) → Known a → (v : Option Text) (h : Held)
      → cond takes (option_fault s.rules again a v h) (cond (is_some v) (TooManyValues ∷ []) (react_fault s.rules again a [] h)) ≡ [] → Fine h.rows
      → Fine (cond takes (option_met s.rules a v h) (flag_met s.rules a v h)).0.rows
  long_by true a is v h free fine = option_keeps a is v h free fine
  long_by false a is v h free fine = flag_keeps a is v h free fine

  long_keeps : (a : Option Rule) → OfFound Known a → (v : Option Text) (h : Held) → long_fault s.rules again a v h ≡ [] → Fine h.rows
      → Fine (long_met s.rules a v h).0.rows
  long_keeps None is v h free fine = fine
  long_keeps (Some a) is v h free fine = long_by (takes_values a) a is v h free fine

  -- ---- a bundle of flags

  short_by : (takes : Bool) (a : Rule) → Known a → (v : Option Text) (h : Held) (met : Held → Held × Outcome) (fault : Held → Kinds)
      → ((k : Held) → fault k ≡ [] → Fine k.rows → Fine (met k).0.rows)
      → cond takes (option_fault s.rules again a v h) (or_else (react_fault s.rules again a [] h) (fault (reacted s.rules a [] h))) ≡ [] → Fine h.rows
      → Fine (cond takes (option_met s.rules a v h) (met (reacted s.rules a [] h))).0.rows
  short_by true a is v h met fault next_keeps free fine = option_keeps a is v h free fine
  short_by false a is v h met fault next_keeps free fine =
      let this = react_fault s.rules again a [] h in
      let rest = fault (reacted s.rules a [] h) in
      next_keeps (reacted s.rules a [] h) (second_none this rest free) (reacted_keeps a is [] h (first_none this rest free) fine)

  short_keeps : (a : Option Rule) → OfFound Known a → (rest : Text) (h : Held) (met : Held → Held × Outcome) (fault : Held → Kinds)
      → ((k : Held) → fault k ≡ [] → Fine k.rows → Fine (met k).0.rows) → short_fault s.rules again a rest h fault ≡ [] → Fine h.rows
      → Fine (short_met s.rules a rest h met).0.rows
  short_keeps None is rest h met fault next_keeps free fine = fine
  short_keeps (Some a) is rest h met fault next_keeps free fine = short_by (takes_values a) a is (attached_value rest) h met fault next_keeps free fine

  bundle_step_keeps : (x : Option ℕ) (flags : Text) (skip : ℕ) (so_far : Outcome) (h : Held) (met : Text → ℕ → Outcome → Held → Held × Outcome)
      (fault : Text → ℕ → Held → Kinds) → ((t : Text) (n : ℕ) (o : Outcome) (k : Held) → fault t n k ≡ [] → Fine k.rows → Fine (met t n o k).0.rows)
      → bundle_step_fault s.rules again x flags skip h fault ≡ [] → Fine h.rows → Fine (bundle_step s.rules x flags skip so_far h met).0.rows
  bundle_step_keeps None flags skip so_far h met fault next_keeps free fine = fine
  bundle_step_keeps (Some x) flags zero so_far h met fault next_keeps free fine =
      let rest = drop (length (encode_utf8 x)) flags in
      short_keeps (arg_by_short s.rules x) (known (λ a. _)) rest h (met rest 0 done) (fault rest 0) (next_keeps rest 0 done) free fine
  bundle_step_keeps (Some x) flags (suc skip) so_far h met fault next_keeps free fine =
      next_keeps (drop (length (encode_utf8 x)) flags) skip so_far h free fine

  bundle_keeps : (k : ℕ) (flags : Text) (skip : ℕ) (so_far : Outcome) (h : Held) → flags_fault s.rules again k flags skip h ≡ [] → Fine h.rows
      → Fine (bundle_met s.rules k flags skip so_far h).0.rows
  unfolding bundle_met flags_fault
  bundle_keeps zero flags skip so_far h free fine = fine
  bundle_keeps (suc k) flags skip so_far h free fine =
      bundle_step_keeps (slice_get (chars flags) 0) flags skip so_far h (bundle_met s.rules k) (flags_fault s.rules again k) (bundle_keeps k) free fine

  -- ---- a word

  value_keeps : (a : Option Rule) (id : Text) (word : Text) (h : Held) → Fine h.rows → Fine (option_word a id word h).0.rows
  value_keeps None id word h fine = fine
  value_keeps (Some a) id word h fine = fine

  plain_keeps : (waiting : Waiting) (word : Text) (h : Held) → Fine h.rows → Fine (plain_word s.rules waiting word h).0.rows
  plain_keeps idle word h fine = fine
  plain_keeps (option id) word h fine = value_keeps (arg_by_id s.rules id) id word h fine
  plain_keeps positional word h fine = fine

  after_keeps : (waiting : Waiting) (word : Text) (h : Held) (outcome : Outcome) → Fine h.rows → Fine (after_flag s.rules waiting word h outcome).0.rows
  after_keeps waiting word h done fine = fine
  after_keeps waiting word h (waits id) fine = fine
  after_keeps waiting word h plain fine = plain_keeps waiting word h fine
  after_keeps waiting word h refused fine = plain_keeps waiting word h fine

  short_word_keeps : (flags : Option Text) (waiting : Waiting) (word : Text) (h : Held)
      → option_map_or (λ f. flags_fault s.rules again (length f) f h.skip (record h { skip = 0 })) flags [] ≡ [] → Fine h.rows
      → Fine (short_or_plain s.rules waiting word flags h).0.rows
  short_word_keeps None waiting word h free fine = plain_keeps waiting word h fine
  short_word_keeps (Some flags) waiting word h free fine =
      after_keeps waiting word _ _ (bundle_keeps (length flags) flags h.skip plain (record h { skip = 0 }) free fine)

  flag_word_keeps : (long : Option (Text × Option Text)) (waiting : Waiting) (word : Text) (h : Held) → flag_word_fault s.rules again long word h ≡ [] → Fine h.rows
      → Fine (long_or_other s.rules waiting word long h).0.rows
  flag_word_keeps None waiting word h free fine = short_word_keeps (short_of word) waiting word h free fine
  flag_word_keeps (Some p) waiting word h free fine =
      after_keeps waiting word _ _ (long_keeps (arg_by_long s.rules p.0) (known (λ a. _)) p.1 h free fine)

  ends_keeps : (ends : Bool) (waiting : Waiting) (position : ℕ) (word : Text) (h : Held) → cond ends [] (flag_word_fault s.rules again (long_of word) word h) ≡ []
      → Fine h.rows → Fine (cond ends (h, trailing position) (long_or_other s.rules waiting word (long_of word) h)).0.rows
  ends_keeps true waiting position word h free fine = fine
  ends_keeps false waiting position word h free fine = flag_word_keeps (long_of word) waiting word h free fine

  met_keeps : (met : Option Text) (waiting : Waiting) (position : ℕ) (word : Text) (h : Held) → other_fault s met word h ≡ [] → Fine h.rows
      → Fine (subcommand_or_other s.rules met waiting position word h).0.rows
  met_keeps None waiting position word h free fine = ends_keeps (bytes_eq word (45 ∷ 45 ∷ [])) waiting position word h free fine
  met_keeps (Some name) waiting position word h free fine = fine

  word_keeps : (names : _) (is_trailing : Bool) (waiting : Waiting) (position : ℕ) (word : Text) (h : Held) → word_fault s names is_trailing waiting word h ≡ [] → Fine h.rows
      → Fine (word_met s.rules names is_trailing waiting position word h).0.rows
  word_keeps names true waiting position word h free fine = fine
  word_keeps names false waiting position word h free fine = met_keeps (subcommand_met names waiting word) waiting position word h free fine

  -- ---- the walk

  positional_by : (waits : Bool) (a : Rule) (word : Text) (h : Held) → cond waits [] (settle_fault s.rules again h) ≡ [] → Fine h.rows
      → Fine (pushed a.id word (cond waits h (settled s.rules h))).rows
  positional_by true a word h free fine = fine
  positional_by false a word h free fine = settled_keeps h free fine

  to_positional_keeps : (a : Option Rule) (word : Text) (w : Walk) (h : Held) → option_map_or (λ r. positional_fault s.rules again r h) a (stray_fault s) ≡ [] → Fine h.rows
      → Fine (to_positional s.rules a word w h).held.rows
  to_positional_keeps None word w h free fine = fine
  to_positional_keeps (Some a) word w h free fine = positional_by (is_pending a h.pending && takes_several a) a word h free fine

  step_keeps : (step : Step) (word : Text) (w : Walk) (h : Held) → step_fault s w.position h step ≡ [] → Fine h.rows → Fine (after_step s.rules word w h step).held.rows
  step_keeps (next waiting) word w h free fine = fine
  step_keeps (trailing position) word w h free fine = fine
  step_keeps (subcommand name) word w h free fine = fine
  step_keeps value word w h free fine = to_positional_keeps (arg_by_index s.rules w.position) word w h free fine

  turn_keeps : (names : Names) (w : Walk) (word : Text) (stopped : Option (Text × List Text)) → w.stopped ≡ stopped → turn_fault s names w word ≡ [] → Fine w.held.rows
      → Fine (walked_from s.rules names stopped w word).held.rows
  turn_keeps names w word (Some p) is free fine = fine
  turn_keeps names w word None is free fine =
      let met = word_met s.rules names w.is_trailing w.waiting w.position word w.held in
      let faults = word_fault s names w.is_trailing w.waiting word w.held in
      let after = step_fault s w.position met.0 met.1 in
      let none : or_else faults after ≡ [] = rw is at free in
      step_keeps met.1 word w met.0 (second_none faults after none)
      (word_keeps names w.is_trailing w.waiting w.position word w.held (first_none faults after none) fine)

  walk_keeps : (names : Names) (w : Walk) (words : List Text) → walk_fault s names w words ≡ [] → Fine w.held.rows
      → Fine (fold (walked s.rules names) w words).held.rows
  unfolding walk_fault walked
  walk_keeps names w [] free fine = fine
  walk_keeps names w (word ∷ words) free fine =
      let this = turn_fault s names w word in
      let rest = walk_fault s names (walked s.rules names w word) words in
      walk_keeps names (walked s.rules names w word) words (second_none this rest free) (turn_keeps names w word w.stopped refl (first_none this rest free) fine)

  -- what is held before the defaults
  pub level_keeps : (names : Names) (words : List Text) (is_met : Bool) (below : Kinds) → level_fault s names nothing_held words is_met below ≡ [] → Fine []
      → Fine (settled s.rules (walk s.rules names nothing_held words).held).rows
  level_keeps names words is_met below free fine =
      let end = (walk s.rules names nothing_held words).held in
      let walks = walk_fault s names (walk_from nothing_held) words in
      let settles = settle_fault s.rules again end in
      let after_settles = or_else (defaults_fault (settled s.rules end).rows s.rules) (check_fault s (finished s.rules end) is_met) in
      let after_walk = or_else below (or_else settles after_settles) in
      settled_keeps end (first_none settles after_settles (second_none below (or_else settles after_settles) (second_none walks after_walk free)))
      (walk_keeps names (walk_from nothing_held) words (first_none walks after_walk free) fine)
