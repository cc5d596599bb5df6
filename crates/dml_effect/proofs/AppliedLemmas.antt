-- The apply of all entries is the operation's equation.
use Rattle.std.proofs.Common.{◌≡◌, ℕ, zero, suc, ◌+◌, ◌-◌, ◌*◌, ◌/◌, ◌<◌, ◌≤◌, Bool, true, false, List, [], ◌∷◌, length, map, Option, None, Some, is_some, cond, eqb, rules, refl, sym, ◌∙◌, ap, ap₂, subst, arith, ⊎_elim}
use Rattle.std.specs.Prelude.{IfSome, option_map, slice_range}
use Rattle.std.specs.Int.{from_le_bytes, w16}
use Rattle.std.specs.List.{range_with_len}
use Rattle.std.proofs.lemmas.Bool.{cases_eq, eq-eqb, ne_eqb, and_from}
use Rattle.std.proofs.lemmas.List.{places, same_lists}
use Rattle.dml_types.specs.declared.jobs.Job.{Job}
use Rattle.dml_types.specs.declared.records.Record.{Record}
use Rattle.dml_types.specs.declared.operations.Op.TheVariants.{ApplyDelta}
use Rattle.dml_types.specs.Memory.{Memory, IsWhole, Put, bytes_at, has_all, put_of}
use Rattle.dml_types.specs.Job.{op_of}
use Rattle.dml_types.specs.declared.statuses.Status.TheVariants.{Success}
use Rattle.dml_types.specs.Effect.{Effect, Fault, ended}
use Rattle.dml_types.specs.Delta.{applied, apply_answer, entry_put, entry_offset}
use Rattle.dml_types.specs.Chunk.{apply_bad, apply_staged}
use Rattle.dml_types.proofs.FirstLemmas.{fails_before}
use Rattle.dml_types.proofs.MemoryLemmas.{bytes_at_none, has_all_within, length_bytes_at}
use Rattle.dml_desc.proofs.CheckedLemmas.{checked_step_is}
use Rattle.dml_desc.specs.Checked.{checked_effect, checked_step, IsChecked}
use Rattle.dml_delta.proofs.RecordLemmas.{good_present, none_found}
use Rattle.dml_delta.specs.Bad.{bad_of}
use Rattle.dml_delta.specs.declared.applies.ApplyPiece.{ApplyPiece}
use Rattle.dml_delta.specs.declared.applies.BadEntry.{BadEntry}
use Rattle.dml_effect.specs.Chunks.{IsApplyFrom, IsWholeApply}
use Rattle.dml_effect.specs.Applies.{applied_record, block_put, block_puts}
use Rattle.dml_effect.specs.Effects.{are_present, some_puts}
use Rattle.dml_effect.proofs.ApplyChunkLemmas.{bad_there, blocked, fault_at, bad_is, good, good_within, none_bad, sound_entry, staged_is, stop_is_bad}
use Rattle.dml_effect.proofs.PutLemmas.{some_put}
use Rattle.dml_effect.proofs.WholeLemmas.{IsDone, effect_of_checked}

-- what is read of bytes that were read
slice_read : (memory : Memory) (address n a b : ℕ) → a ≤ b → b ≤ n → slice_range (bytes_at memory address n) a b ≡ bytes_at memory (address + a) (b - a)
slice_read memory address n a b order within = same_lists _ _ (search (rules, places)) (λ k d h. grind (arith, places))

-- the same puts for the numbers of a range
same_puts : (f g : ℕ → Put) (a n : ℕ) → ((i : ℕ) → a ≤ i → i < a + n → f i ≡ g i) → map f (range_with_len a n) ≡ map g (range_with_len a n)
same_puts f g a zero same = refl
same_puts f g a (suc n) same =
    ap₂ (λ (p : Put) (ps : List Put). p ∷ ps) (same a (omega arith) (omega arith))
    (same_puts f g (a + 1) n (λ i low high. same i (omega arith) (omega arith)))

module _ (memory : Memory) (job : Job) where
  abbrev count : ℕ
  count = job.delta_size / 10

  abbrev sound : ℕ
  sound = good memory job 0 count

  -- the record
  pub answer_of_apply : applied_record count (apply_bad memory job 0 count) ≡ (applied memory job).answer
  unfolding applied
  answer_of_apply =
      ⊎_elim (λ all.
      let none = none_bad memory job 0 count (omega arith) (omega (arith, all)) in
      ap (applied_record count) none
      ∙ (ap (λ (n : ℕ). apply_answer n None) (sym all)
      ∙ ap (λ (b : Bool). apply_answer sound (cond b None (fault_at memory job 0 sound))) (sym (eq-eqb sound count all))))
      (λ apart.
      let short : sound < count - 0 = omega (arith, apart, good_within memory job 0 count) in
      let stop : is_some (fault_at memory job 0 sound) ≡ true = ap (λ (x : ℕ). is_some (fault_at memory job 0 x)) (omega arith) ∙ stop_is_bad memory job 0 count short in
      ap (applied_record count) (bad_there memory job 0 count sound (omega arith) apart)
      ∙ (told (fault_at memory job 0 sound) stop
      ∙ ap (λ (b : Bool). apply_answer sound (cond b None (fault_at memory job 0 sound))) (sym (ne_eqb sound count apart))))
      (cases_eq sound count)
    where
      told : (o : Option Fault) → is_some o ≡ true → applied_record count (option_map (λ (fault : Fault). (sound, fault)) o) ≡ apply_answer sound o
      told None some = absurd (cc)
      told (Some fault) some = refl

  -- an entry before the first bad one
  entry_sound : (i : ℕ) → i < sound → fault_at memory job 0 i ≡ None
  entry_sound i below = none_found (fault_at memory job 0 i) (ap (λ (x : ℕ). is_some (fault_at memory job 0 x)) (omega arith) ∙ fails_before (count - 0) (blocked memory job 0) i below)

  all_here : has_all memory (job.source + 10 * 0) (10 * sound) ≡ true
  all_here = good_present memory job 0 sound (λ i below. ap (fault_at memory job 0) (omega arith) ∙ entry_sound i below)

  module _ (whole : IsWhole memory) where
    abbrev staged : List ℕ
    staged = bytes_at memory (job.source + 10 * 0) (10 * sound)

    long : length staged ≡ 10 * sound
    long =
        ⊎_elim (λ none. ap (λ (xs : List ℕ). length xs) (bytes_at_none memory (job.source + 10 * 0) (10 * sound) (omega (arith, none))) ∙ omega (arith, none))
        (λ some. length_bytes_at memory (job.source + 10 * 0) (10 * sound) (has_all_within memory (job.source + 10 * 0) (10 * sound) whole all_here (omega (arith, some))))
        (cases_eq sound 0)

    same_put : (i : ℕ) → i < sound → block_put job.target staged i ≡ entry_put memory job i
    same_put i below =
        let start : job.source + 10 * 0 + 10 * i ≡ job.source + 10 * i = omega arith in
        let place : job.source + 10 * 0 + (10 * i + 2) ≡ job.source + 10 * i + 2 = omega arith in
        let two : 10 * i + 2 - 10 * i ≡ 2 = omega arith in
        let eight : 10 * i + 10 - (10 * i + 2) ≡ 8 = omega arith in
        ap₂ (λ (number bytes : List ℕ). put_of (job.target + 8 * from_le_bytes w16 number) bytes)
        (slice_read memory (job.source + 10 * 0) (10 * sound) (10 * i) (10 * i + 2) (omega arith) (omega (arith, below)) ∙ ap₂ (bytes_at memory) start two)
        (slice_read memory (job.source + 10 * 0) (10 * sound) (10 * i + 2) (10 * i + 10) (omega arith) (omega (arith, below)) ∙ ap₂ (bytes_at memory) place eight)

    eight_bytes : (i : ℕ) → i < sound → length (bytes_at memory (job.source + 10 * i + 2) 8) ≡ 8
    eight_bytes i below =
        let within = has_all_within memory (job.source + 10 * i) 10 whole (sound_entry memory job 0 i (entry_sound i below)).0 (omega arith) in
        length_bytes_at memory (job.source + 10 * i + 2) 8 (omega (arith, within))

    -- the puts of a range of good entries have bytes, which are present
    all_some : (a n : ℕ) → a + n ≤ sound → some_puts (map (entry_put memory job) (range_with_len a n)) ≡ map (entry_put memory job) (range_with_len a n)
    all_some a zero within = refl
    all_some a (suc n) within =
        let address = job.target + 8 * entry_offset memory job a in
        let bytes = bytes_at memory (job.source + 10 * a + 2) 8 in
        some_put address bytes (map (entry_put memory job) (range_with_len (a + 1) n)) (omega (arith, eight_bytes a (omega arith)))
        ∙ ap (λ (ps : List Put). put_of address bytes ∷ ps) (all_some (a + 1) n (omega arith))

    all_present : (a n : ℕ) → a + n ≤ sound → are_present memory (map (entry_put memory job) (range_with_len a n)) ≡ true
    all_present a zero within = refl
    all_present a (suc n) within =
        let address = job.target + 8 * entry_offset memory job a in
        let bytes = bytes_at memory (job.source + 10 * a + 2) 8 in
        and_from (has_all memory address (length bytes)) (are_present memory (map (entry_put memory job) (range_with_len (a + 1) n)))
        (ap (has_all memory address) (eight_bytes a (omega arith)) ∙ (sound_entry memory job 0 a (entry_sound a (omega arith))).1)
        (all_present (a + 1) n (omega arith))

    puts_same : block_puts job.target (apply_staged memory job 0 count) ≡ map (entry_put memory job) (range_with_len 0 sound)
    puts_same =
        let number : length staged / 10 ≡ sound = omega (arith, long) in
        ap (block_puts job.target) (staged_is memory job 0 count)
        ∙ (ap (λ (n : ℕ). map (block_put job.target staged) (range_with_len 0 n)) number
        ∙ same_puts (block_put job.target staged) (entry_put memory job) 0 sound (λ i low high. same_put i (omega (arith, high))))

    -- the puts
    pub puts_of_apply : IsDone memory (block_puts job.target (apply_staged memory job 0 count)) (applied memory job).puts
    unfolding applied
    puts_of_apply = record {
      same = puts_same ∙ sym (all_some 0 sound (omega arith));
      present = ap (are_present memory) puts_same ∙ all_present 0 sound (omega arith);
    }

-- of a checked job
pub record_of_apply : (memory : Memory) (job : Job) → op_of job ≡ Some ApplyDelta → IsChecked job → applied_record (job.delta_size / 10) (apply_bad memory job 0 (job.delta_size / 10)) ≡ (checked_step memory job).1
record_of_apply memory job operation checked =
    answer_of_apply memory job ∙ ap (λ (p : Memory × Record). p.1) (sym (checked_step_is memory job ApplyDelta checked operation))

pub puts_of_checked : (memory : Memory) (job : Job) → IsWhole memory → op_of job ≡ Some ApplyDelta → IsChecked job → block_puts job.target (apply_staged memory job 0 (job.delta_size / 10)) ≡ some_puts (checked_effect memory job).puts
puts_of_checked memory job whole operation checked =
    (puts_of_apply memory job whole).same ∙ ap (λ (e : Effect). some_puts e.puts) (effect_of_checked memory job ApplyDelta operation checked)

-- what is known of the piece of a whole apply
pub value_of_whole : (memory : Memory) (job : Job) (whole : Option ApplyPiece) (piece : ApplyPiece) → IsWholeApply memory job whole → whole ≡ Some piece → IsApplyFrom memory job 0 piece × (piece.to ≡ job.delta_size / 10)
value_of_whole memory job whole piece is some = subst (IsWholeApply memory job) some is

pub none_of_whole : (memory : Memory) (job : Job) (whole : Option ApplyPiece) → IsWholeApply memory job whole → whole ≡ None → job.delta_size / 10 ≡ 0
none_of_whole memory job whole is none = subst (IsWholeApply memory job) none is

-- a bad entry is one of the chunk's
abbrev number_of : Option (ℕ × Fault) → ℕ
number_of None = 0
number_of (Some bad) = bad.0

pub bad_within : (memory : Memory) (job : Job) (to : ℕ) (bad : Option BadEntry) → option_map bad_of bad ≡ apply_bad memory job 0 to → IfSome bad (λ b. b.entry ≤ to)
bad_within memory job to None is = tt
bad_within memory job to (Some b) is =
    let x = 0 + good memory job 0 to in
    let named : b.entry ≡ number_of (cond (eqb x to) None (option_map (λ (fault : Fault). (x, fault)) (fault_at memory job 0 x))) = ap number_of (is ∙ bad_is memory job 0 to) in
    omega (arith, named, bounded x (eqb x to) (fault_at memory job 0 x), good_within memory job 0 to)
  where
    bounded : (x : ℕ) (b : Bool) (o : Option Fault) → number_of (cond b None (option_map (λ (fault : Fault). (x, fault)) o)) ≤ x
    bounded x true o = omega arith
    bounded x false None = omega arith
    bounded x false (Some fault) = omega arith

-- an empty record
module _ (memory : Memory) (job : Job) (empty : job.delta_size / 10 ≡ 0) (operation : op_of job ≡ Some ApplyDelta) (checked : IsChecked job) where
  pub record_of_none : ended Success 0 0 0 ≡ (checked_step memory job).1
  record_of_none =
      let nothing = none_bad memory job 0 (job.delta_size / 10) (omega arith) (omega (arith, empty, good_within memory job 0 (job.delta_size / 10))) in
      ap (λ (n : ℕ). ended Success 0 n 0) (omega (arith, empty))
      ∙ (ap (applied_record (job.delta_size / 10)) (sym nothing) ∙ record_of_apply memory job operation checked)

  pub puts_of_none : IsWhole memory → ◌≡◌ {A = List Put} [] (some_puts (checked_effect memory job).puts)
  puts_of_none whole =
      let nothing = staged_is memory job 0 (job.delta_size / 10) ∙ bytes_at_none memory (job.source + 10 * 0) (10 * good memory job 0 (job.delta_size / 10)) (omega (arith, empty, good_within memory job 0 (job.delta_size / 10))) in
      ap (block_puts job.target) (sym nothing) ∙ puts_of_checked memory job whole operation checked
