-- Two neighbouring chunks of an apply are the chunk of both.
use Rattle.std.proofs.Common.{◌≡◌, ◌≢◌, ℕ, ◌+◌, ◌-◌, ◌*◌, ◌/◌, ◌<◌, ◌≤◌, Bool, true, false, not, ◌&&◌, List, [], ◌∷◌, ◌++◌, Option, None, Some, is_some, cond, eqb, nat_lt, nat_le, refl, sym, ◌∙◌, ap, ap₂, arith, ⊎_elim}
use Rattle.std.specs.Prelude.{find, option_map, unwrap_or}
use Rattle.std.specs.Option.{option_or}
use Rattle.std.specs.Iterator.Adapters.{once_item, once_steps}
use Rattle.std.specs.declared.iter.Once.{Once}
use Rattle.std.proofs.lemmas.Bool.{cases_eq, cases_lt, eq-eqb, lt-ltb, le-ltb, and_parts, ne_eqb, not-false}
use Rattle.dml_types.specs.declared.jobs.Job.{Job}
use Rattle.dml_types.specs.declared.statuses.Status.TheVariants.{NotRising, OffsetRange}
use Rattle.dml_types.specs.declared.operations.Op.{Op}
use Rattle.dml_types.specs.declared.operations.Op.TheVariants.{ApplyDelta}
use Rattle.dml_types.specs.Job.{op_of}
use Rattle.dml_types.specs.Refusal.{need, operation_need}
use Rattle.dml_types.specs.Memory.{first, Memory, bytes_at, has_all}
use Rattle.dml_types.specs.Effect.{Fault, read_fault, write_fault}
use Rattle.dml_types.specs.Delta.{entry_fault, first_absent, good_entries, has_block, entry_offset}
use Rattle.dml_types.specs.Chunk.{apply_bad, apply_first, apply_last, apply_staged}
use Rattle.dml_types.proofs.FirstLemmas.{first_le, first_is, first_agree, first_left, first_right, passes_at}
use Rattle.dml_delta.specs.Bad.{bad_of}
use Rattle.dml_delta.specs.declared.applies.ApplyPiece.{ApplyPiece}
use Rattle.dml_delta.specs.declared.applies.BadEntry.{BadEntry}
use Rattle.dml_arena.specs.Piece.{Piece}
use Rattle.dml_effect.specs.Applies.{falls}
use Rattle.dml_effect.specs.Chunks.{IsApplyFrom, YieldsApplies}
use Rattle.dml_effect.proofs.ChunkLemmas.{bytes_append}
use Rattle.dml_effect.proofs.JoinLemmas.{IsJoinedWith, once_yields}

abbrev pub not_rising : Fault
not_rising = record { status = NotRising; address = 0 }

-- the first of four causes
abbrev first_cause : Bool → Fault → Bool → Fault → Bool → Fault → Bool → Fault → Option Fault
first_cause a f b g c h d k =
    let causes : List (Bool × Fault) = (a, f) ∷ (b, g) ∷ (c, h) ∷ (d, k) ∷ [] in
    option_map (λ cause. cause.1) (find (λ cause. cause.0) causes)

none_holds : (a : Bool) (f : Fault) (b : Bool) (g : Fault) (c : Bool) (h : Fault) (d : Bool) (k : Fault) → first_cause a f b g c h d k ≡ None → (a ≡ false) × (d ≡ false)
none_holds true f b g c h d k none = absurd (cc)
none_holds false f true g c h d k none = absurd (cc)
none_holds false f false g true h d k none = absurd (cc)
none_holds false f false g false h true k none = absurd (cc)
none_holds false f false g false h false k none = (refl, refl)

-- the fault of an entry, by whether all its bytes are present and its offset does not rise
abbrev fault_when : Memory → Job → ℕ → Bool → Bool → Option Fault
fault_when memory job x present fallen =
    let offset = entry_offset memory job x in
    first_cause (not present) (read_fault (first_absent memory (job.source + 10 * x) 10)) fallen not_rising
    (nat_le (job.size / 8) offset) (record { status = OffsetRange; address = 0 })
    (not (has_block memory job.target offset)) (write_fault (first_absent memory (job.target + 8 * offset) 8))

module _ (memory : Memory) (job : Job) where
  abbrev pub fault_at : ℕ → ℕ → Option Fault
  fault_at behind x = entry_fault behind memory job x

  abbrev pub here : ℕ → Bool
  here x = has_all memory (job.source + 10 * x) 10

  abbrev drops : ℕ → Bool
  drops x = nat_le (entry_offset memory job x) (entry_offset memory job (x - 1))

  by_place : (behind x : ℕ) (behind_it : Bool) → nat_lt behind x ≡ behind_it → fault_at behind x ≡ fault_when memory job x (here x) (behind_it && drops x)
  by_place behind x behind_it is = ap (λ (b : Bool). fault_when memory job x (here x) (b && drops x)) is

  -- all bytes of a good entry and of its block are present
  pub sound_entry : (behind x : ℕ) → fault_at behind x ≡ None → (here x ≡ true) × (has_block memory job.target (entry_offset memory job x) ≡ true)
  sound_entry behind x none =
      let offset = entry_offset memory job x in
      let parts = none_holds (not (here x)) (read_fault (first_absent memory (job.source + 10 * x) 10)) (nat_lt behind x && drops x) not_rising
      (nat_le (job.size / 8) offset) (record { status = OffsetRange; address = 0 })
      (not (has_block memory job.target offset)) (write_fault (first_absent memory (job.target + 8 * offset) 8)) none in
      (not-false (here x) parts.0, not-false (has_block memory job.target offset) parts.1)

  -- entries behind both starts are judged alike
  later_alike : (a b x : ℕ) → a < x → b < x → fault_at a x ≡ fault_at b x
  later_alike a b x first_low second_low = by_place a x true (lt-ltb a x first_low) ∙ sym (by_place b x true (lt-ltb b x second_low))

  -- a chunk's first entry, judged behind an earlier one
  first_absent_alike : (from mid : ℕ) → here mid ≡ false → fault_at from mid ≡ fault_at mid mid
  first_absent_alike from mid gone =
      ap (λ (b : Bool). fault_when memory job mid b (nat_lt from mid && drops mid)) gone
      ∙ sym (ap (λ (b : Bool). fault_when memory job mid b (nat_lt mid mid && drops mid)) gone)

  first_rising : (from mid : ℕ) → from < mid → drops mid ≡ false → fault_at from mid ≡ fault_at mid mid
  first_rising from mid low rises =
      by_place from mid true (lt-ltb from mid low)
      ∙ (ap (fault_when memory job mid (here mid)) rises ∙ sym (by_place mid mid false (le-ltb mid mid (omega arith))))

  first_falling : (from mid : ℕ) → from < mid → here mid ≡ true → drops mid ≡ true → fault_at from mid ≡ Some not_rising
  first_falling from mid low present fallen =
      by_place from mid true (lt-ltb from mid low) ∙ ap₂ (fault_when memory job mid) present fallen

  -- how many are good, and the bad one behind them
  abbrev pub good : ℕ → ℕ → ℕ
  good from to = good_entries memory job from to

  abbrev pub blocked : ℕ → ℕ → Bool
  blocked from i = is_some (fault_at from (from + i))

  abbrev bad_by : ℕ → ℕ → ℕ → Option (ℕ × Fault)
  bad_by from to x = cond (eqb x to) None (option_map (λ (fault : Fault). (x, fault)) (fault_at from x))

  pub bad_is : (from to : ℕ) → apply_bad memory job from to ≡ bad_by from to (from + good from to)
  unfolding apply_bad
  bad_is from to = refl

  pub good_within : (from to : ℕ) → good from to ≤ to - from
  good_within from to = first_le (to - from) (blocked from)

  pub none_bad : (from to : ℕ) → from ≤ to → good from to ≡ to - from → apply_bad memory job from to ≡ None
  none_bad from to order all =
      bad_is from to ∙ ap (λ (b : Bool). cond b None (option_map (λ (fault : Fault). (from + good from to, fault)) (fault_at from (from + good from to)))) (eq-eqb (from + good from to) to (omega (arith, all)))

  pub bad_there : (from to x : ℕ) → from + good from to ≡ x → x ≢ to → apply_bad memory job from to ≡ option_map (λ (fault : Fault). (x, fault)) (fault_at from x)
  bad_there from to x is apart =
      bad_is from to ∙ (ap (bad_by from to) is
      ∙ ap (λ (b : Bool). cond b None (option_map (λ (fault : Fault). (x, fault)) (fault_at from x))) (ne_eqb x to apart))

  pub stop_is_bad : (from to : ℕ) → good from to < to - from → is_some (fault_at from (from + good from to)) ≡ true
  stop_is_bad from to short = passes_at (to - from) (blocked from) short

  some_bad : (from to : ℕ) → good from to < to - from → is_some (apply_bad memory job from to) ≡ true
  some_bad from to short =
      ap (is_some {T = ℕ × Fault}) (bad_there from to (from + good from to) refl (λ same. absurd (omega (arith, same))))
      ∙ (some_mapped (fault_at from (from + good from to)) ∙ stop_is_bad from to short)
    where
      some_mapped : (o : Option Fault) → is_some {T = ℕ × Fault} (option_map (λ (fault : Fault). (from + good from to, fault)) o) ≡ is_some o
      some_mapped None = refl
      some_mapped (Some fault) = refl

  pub all_good : (from to : ℕ) → apply_bad memory job from to ≡ None → good from to ≡ to - from
  all_good from to none =
      ⊎_elim (λ short. let some : is_some (apply_bad memory job from to) ≡ true = some_bad from to short in absurd (cc (some, ap is_some none)))
      (λ past. omega (arith, good_within from to)) (cases_lt (good from to) (to - from))

  pub stopped_short : (from to : ℕ) (bad : ℕ × Fault) → from ≤ to → apply_bad memory job from to ≡ Some bad → good from to < to - from
  stopped_short from to bad order some =
      ⊎_elim (λ short. short)
      (λ past.
      let none = none_bad from to order (omega (arith, good_within from to)) in
      absurd (cc (none, some)))
      (cases_lt (good from to) (to - from))

  -- what else a chunk tells
  abbrev last_by : ℕ → ℕ → Option ℕ
  last_by from k = cond (eqb k 0) None (Some (entry_offset memory job (from + k - 1)))

  last_is : (from to : ℕ) → apply_last memory job from to ≡ last_by from (good from to)
  unfolding apply_last
  last_is from to = refl

  pub staged_is : (from to : ℕ) → apply_staged memory job from to ≡ bytes_at memory (job.source + 10 * from) (10 * good from to)
  unfolding apply_staged
  staged_is from to = refl

  abbrev first_by : ℕ → Bool → Option ℕ
  first_by from told = cond told (Some (entry_offset memory job from)) None

  first_is_by : (from to : ℕ) → apply_first memory job from to ≡ first_by from (not (eqb from to) && here from)
  unfolding apply_first
  first_is_by from to = refl

  same_first : (from mid to : ℕ) → from < mid → mid ≤ to → apply_first memory job from to ≡ apply_first memory job from mid
  same_first from mid to low high =
      first_is_by from to ∙ (ap (λ (b : Bool). first_by from (not b && here from)) (ne_eqb from to (λ same. absurd (omega (arith, same)))
      ∙ sym (ne_eqb from mid (λ same. absurd (omega (arith, same))))) ∙ sym (first_is_by from mid))

-- a chunk cut in two
module _ (memory : Memory) (job : Job) (from mid to : ℕ) (low : from ≤ mid) (high : mid ≤ to) where
  abbrev both : ℕ
  both = good memory job from to

  long : to - from ≡ mid - from + (to - mid)
  long = omega arith

  -- the same entries are good as in the front
  pub record IsFront (bad : ℕ × Fault) : Type 0 where
    pub bad_one : apply_bad memory job from to ≡ Some bad
    pub first_offset : apply_first memory job from to ≡ apply_first memory job from mid
    pub last_offset : apply_last memory job from to ≡ apply_last memory job from mid
    pub staged : apply_staged memory job from to ≡ apply_staged memory job from mid

  front_same : both ≡ good memory job from mid → (apply_last memory job from to ≡ apply_last memory job from mid) × (apply_staged memory job from to ≡ apply_staged memory job from mid)
  front_same same = (
    last_is memory job from to ∙ (ap (last_by memory job from) same ∙ sym (last_is memory job from mid)),
    staged_is memory job from to ∙ (ap (λ (k : ℕ). bytes_at memory (job.source + 10 * from) (10 * k)) same ∙ sym (staged_is memory job from mid)),
  )

  pub front_stopped : (bad : ℕ × Fault) → apply_bad memory job from mid ≡ Some bad → IsFront bad
  front_stopped bad some =
      let short = stopped_short memory job from mid bad low some in
      let same : both ≡ good memory job from mid = ap (λ (n : ℕ). first n (blocked memory job from)) long ∙ first_left (mid - from) (to - mid) (blocked memory job from) short in
      let x = from + good memory job from mid in
      let there : from + both ≡ x = omega (arith, same) in
      record {
        bad_one = bad_there memory job from to x there (λ e. absurd (omega (arith, e, short))) ∙ (sym (bad_there memory job from mid x refl (λ e. absurd (omega (arith, e, short)))) ∙ some);
        first_offset = same_first memory job from mid to (omega (arith, short)) high;
        last_offset = (front_same same).0;
        staged = (front_same same).1;
      }

  -- behind a front that is good
  module _ (none : apply_bad memory job from mid ≡ None) where
    all : good memory job from mid ≡ mid - from
    all = all_good memory job from mid none

    rest : both ≡ mid - from + first (to - mid) (λ i. blocked memory job from (mid - from + i))
    rest = ap (λ (n : ℕ). first n (blocked memory job from)) long ∙ first_right (mid - from) (to - mid) (blocked memory job from) all

    -- the offset of the front's last entry
    last_before : (last : ℕ) → apply_last memory job from mid ≡ Some last → (from < mid) × (entry_offset memory job (mid - 1) ≡ last)
    last_before last is =
        ⊎_elim (λ empty. let gone : last_by memory job from (good memory job from mid) ≡ None = ap (λ (b : Bool). cond b None (Some (entry_offset memory job (from + good memory job from mid - 1)))) (eq-eqb _ 0 empty) in absurd (cc (gone, is, last_is memory job from mid)))
        (λ some.
        let told : last_by memory job from (good memory job from mid) ≡ Some (entry_offset memory job (from + good memory job from mid - 1)) = ap (λ (b : Bool). cond b None (Some (entry_offset memory job (from + good memory job from mid - 1)))) (ne_eqb _ 0 some) in
        let place : mid - 1 ≡ from + good memory job from mid - 1 = omega (arith, all, some) in
        (omega (arith, all, some), ap (entry_offset memory job) place ∙ cc (told, is, last_is memory job from mid)))
        (cases_eq (good memory job from mid) 0)

    last_none : apply_last memory job from mid ≡ None → from ≡ mid
    last_none is =
        ⊎_elim (λ empty. omega (arith, all, empty))
        (λ some.
        let told : last_by memory job from (good memory job from mid) ≡ Some (entry_offset memory job (from + good memory job from mid - 1)) = ap (λ (b : Bool). cond b None (Some (entry_offset memory job (from + good memory job from mid - 1)))) (ne_eqb _ 0 some) in
        absurd (cc (told, is, last_is memory job from mid)))
        (cases_eq (good memory job from mid) 0)

    -- the offset of the first entry behind it
    first_behind : (offset : ℕ) → apply_first memory job mid to ≡ Some offset → (mid < to) × (here memory job mid ≡ true) × (entry_offset memory job mid ≡ offset)
    first_behind offset is = go (not (eqb mid to) && here memory job mid) refl
      where
        apart : not (eqb mid to) ≡ true → mid < to
        apart differ =
            ⊎_elim (λ same. let equal = eq-eqb mid to same in absurd (cc (ap not equal, differ))) (λ other. omega (arith, other)) (cases_eq mid to)

        go : (b : Bool) → (not (eqb mid to) && here memory job mid) ≡ b → (mid < to) × (here memory job mid ≡ true) × (entry_offset memory job mid ≡ offset)
        go true told =
            let parts = and_parts (not (eqb mid to)) (here memory job mid) told in
            let value : apply_first memory job mid to ≡ Some (entry_offset memory job mid) = first_is_by memory job mid to ∙ ap (first_by memory job mid) told in
            (apart parts.0, parts.1, cc (value, is))
        go false told =
            let value : apply_first memory job mid to ≡ None = first_is_by memory job mid to ∙ ap (first_by memory job mid) told in
            absurd (cc (value, is))

    -- its first entry does not rise above the front's last
    pub front_fallen : falls (apply_last memory job from mid) (apply_first memory job mid to) ≡ true → IsFront (mid, not_rising)
    front_fallen fallen = go (apply_last memory job from mid) (apply_first memory job mid to) refl refl fallen
      where
        go : (l f : Option ℕ) → apply_last memory job from mid ≡ l → apply_first memory job mid to ≡ f → falls l f ≡ true → IsFront (mid, not_rising)
        go None f is_last is_first h = absurd (cc)
        go (Some last) None is_last is_first h = absurd (cc)
        go (Some last) (Some offset) is_last is_first h =
            let before = last_before last is_last in
            let behind = first_behind offset is_first in
            let drop : drops memory job mid ≡ true = ap₂ (λ (a b : ℕ). nat_le a b) behind.2 before.1 ∙ h in
            let stop : fault_at memory job from mid ≡ Some not_rising = first_falling memory job from mid before.0 behind.1 drop in
            let start : from + (mid - from + 0) ≡ mid = omega arith in
            let none_more : first (to - mid) (λ i. blocked memory job from (mid - from + i)) ≡ 0 =
            first_is (to - mid) (λ i. blocked memory job from (mid - from + i)) 0 (omega arith) (λ i below. absurd (omega arith))
            (λ below. ap (λ (x : ℕ). is_some (fault_at memory job from x)) start ∙ ap is_some stop) in
            let same : both ≡ good memory job from mid = omega (arith, rest, none_more, all) in
            record {
              bad_one = bad_there memory job from to mid (omega (arith, same, all)) (λ e. absurd (omega (arith, e, behind.0))) ∙ ap (option_map (λ (fault : Fault). (mid, fault))) stop;
              first_offset = same_first memory job from mid to before.0 high;
              last_offset = (front_same same).0;
              staged = (front_same same).1;
            }

    -- it rises, or there is nothing to rise above
    alike : falls (apply_last memory job from mid) (apply_first memory job mid to) ≡ false → mid < to → fault_at memory job from mid ≡ fault_at memory job mid mid
    alike rises some = go (apply_last memory job from mid) (apply_first memory job mid to) refl refl rises
      where
        gone : apply_first memory job mid to ≡ None → (b : Bool) → here memory job mid ≡ b → b ≡ false
        gone none false is = refl
        gone none true is =
            let told : (not (eqb mid to) && here memory job mid) ≡ true = ap₂ (λ (a b : Bool). not a && b) (ne_eqb mid to (λ e. absurd (omega (arith, e, some)))) is in
            let value : apply_first memory job mid to ≡ Some (entry_offset memory job mid) = first_is_by memory job mid to ∙ ap (first_by memory job mid) told in
            absurd (cc (value, none))

        go : (l f : Option ℕ) → apply_last memory job from mid ≡ l → apply_first memory job mid to ≡ f → falls l f ≡ false → fault_at memory job from mid ≡ fault_at memory job mid mid
        go None f is_last is_first h = ap (λ (x : ℕ). fault_at memory job x mid) (last_none is_last)
        go (Some last) None is_last is_first h = first_absent_alike memory job from mid (gone is_first (here memory job mid) refl)
        go (Some last) (Some offset) is_last is_first h =
            let before = last_before last is_last in
            let behind = first_behind offset is_first in
            first_rising memory job from mid before.0 (ap₂ (λ (a b : ℕ). nat_le a b) behind.2 before.1 ∙ h)

    module _ (rises : falls (apply_last memory job from mid) (apply_first memory job mid to) ≡ false) where
      each_alike : (i : ℕ) → i < to - mid → fault_at memory job from (mid + i) ≡ fault_at memory job mid (mid + i)
      each_alike i below =
          ⊎_elim (λ none.
          let start : mid + i ≡ mid = omega (arith, none) in
          ap (fault_at memory job from) start ∙ (alike rises (omega (arith, below)) ∙ ap (fault_at memory job mid) (sym start)))
          (λ some. later_alike memory job from mid (mid + i) (omega (arith, some)) (omega (arith, some)))
          (cases_eq i 0)

      joined : both ≡ mid - from + good memory job mid to
      joined =
          rest
          ∙ ap (λ (k : ℕ). mid - from + k)
          (first_agree (to - mid) (λ i. blocked memory job from (mid - from + i)) (blocked memory job mid)
          (λ i below.
          let place : from + (mid - from + i) ≡ mid + i = omega arith in
          ap (λ (x : ℕ). is_some (fault_at memory job from x)) place ∙ ap is_some (each_alike i below)))

      pub on_bad : apply_bad memory job from to ≡ apply_bad memory job mid to
      on_bad =
          let x = mid + good memory job mid to in
          let place : from + both ≡ x = omega (arith, joined) in
          bad_is memory job from to
          ∙ (ap (bad_by memory job from to) place
          ∙ (⊎_elim (λ end.
          ap (λ (b : Bool). cond b None (option_map (λ (fault : Fault). (x, fault)) (fault_at memory job from x))) (eq-eqb x to end)
          ∙ sym (ap (λ (b : Bool). cond b None (option_map (λ (fault : Fault). (x, fault)) (fault_at memory job mid x))) (eq-eqb x to end)))
          (λ apart.
          ap (λ (o : Option Fault). cond (eqb x to) None (option_map (λ (fault : Fault). (x, fault)) o))
          (each_alike (good memory job mid to) (omega (arith, apart, good_within memory job mid to))))
          (cases_eq x to)
          ∙ sym (bad_is memory job mid to)))

      pub on_last : apply_last memory job from to ≡ option_or (apply_last memory job mid to) (apply_last memory job from mid)
      on_last =
          ⊎_elim (λ none.
          let same : both ≡ good memory job from mid = omega (arith, joined, all, none) in
          let nothing : apply_last memory job mid to ≡ None = last_is memory job mid to ∙ ap (λ (b : Bool). cond b None (Some (entry_offset memory job (mid + good memory job mid to - 1)))) (eq-eqb _ 0 none) in
          (front_same same).0 ∙ sym (ap (λ (o : Option ℕ). option_or o (apply_last memory job from mid)) nothing))
          (λ some.
          let place : from + both - 1 ≡ mid + good memory job mid to - 1 = omega (arith, joined, some) in
          let more : both ≢ 0 = λ none. absurd (omega (arith, joined, some, none)) in
          let value : apply_last memory job mid to ≡ Some (entry_offset memory job (mid + good memory job mid to - 1)) = last_is memory job mid to ∙ ap (λ (b : Bool). cond b None (Some (entry_offset memory job (mid + good memory job mid to - 1)))) (ne_eqb _ 0 some) in
          last_is memory job from to
          ∙ (ap (λ (b : Bool). cond b None (Some (entry_offset memory job (from + both - 1)))) (ne_eqb _ 0 more)
          ∙ (ap (λ (k : ℕ). Some (entry_offset memory job k)) place
          ∙ sym (ap (λ (o : Option ℕ). option_or o (apply_last memory job from mid)) value))))
          (cases_eq (good memory job mid to) 0)

      pub on_first : apply_first memory job from to ≡ cond (eqb from mid) (apply_first memory job mid to) (apply_first memory job from mid)
      on_first =
          ⊎_elim (λ same.
          ap (λ (x : ℕ). apply_first memory job x to) same
          ∙ sym (ap (λ (b : Bool). cond b (apply_first memory job mid to) (apply_first memory job from mid)) (eq-eqb from mid same)))
          (λ apart.
          same_first memory job from mid to (omega (arith, apart)) high
          ∙ sym (ap (λ (b : Bool). cond b (apply_first memory job mid to) (apply_first memory job from mid)) (ne_eqb from mid apart)))
          (cases_eq from mid)

      pub on_staged : apply_staged memory job from to ≡ apply_staged memory job from mid ++ apply_staged memory job mid to
      on_staged =
          let start = job.source + 10 * from in
          let next = job.source + 10 * mid in
          let n = good memory job from mid in
          let m = good memory job mid to in
          let beside : next ≡ start + 10 * n = omega (arith, all) in
          let count : 10 * both ≡ 10 * n + 10 * m = omega (arith, joined, all) in
          staged_is memory job from to
          ∙ (ap (bytes_at memory start) count
          ∙ (bytes_append memory start next (10 * n) (10 * m) beside
          ∙ sym (ap₂ (λ (xs ys : List ℕ). xs ++ ys) (staged_is memory job from mid) (staged_is memory job mid to))))

-- the pieces of both: the piece that a stop leaves, and the one of both
module _ (memory : Memory) (job : Job) (below above : ApplyPiece) (low : IsApplyFrom memory job 0 below) (high : IsApplyFrom memory job below.to above) where
  abbrev pub fallen : Bool
  fallen = falls below.last above.first

  fallen_is : fallen ≡ falls (apply_last memory job 0 below.to) (apply_first memory job below.to above.to)
  fallen_is = ap₂ falls low.last high.first

  front_value : (stop : Option BadEntry) (bad : ℕ × Fault) → option_map bad_of stop ≡ Some bad → IsFront memory job 0 below.to above.to low.order high.order bad
      → IsApplyFrom memory job 0 (record { from = below.from; to = above.to; bad = stop; first = below.first; last = below.last; staged = below.staged })
  front_value stop bad told front = record {
    begins = low.begins;
    order = omega (arith, low.order, high.order);
    bad = told ∙ sym front.bad_one;
    first = low.first ∙ sym front.first_offset;
    last = low.last ∙ sym front.last_offset;
    staged = low.staged ∙ sym front.staged;
  }

  abbrev pub stop_told : Option (ℕ × Fault) → Bool → Option (ℕ × Fault)
  stop_told bad fell = option_or bad (cond fell (Some (above.from, not_rising)) None)

  pub stopped_value : (stop : Option BadEntry) → option_map bad_of stop ≡ stop_told (option_map bad_of below.bad) fallen → is_some stop ≡ true
      → IsApplyFrom memory job 0 (record { from = below.from; to = above.to; bad = stop; first = below.first; last = below.last; staged = below.staged })
  stopped_value stop told some = go (option_map bad_of below.bad) refl fallen refl
    where
      mapped : (o : Option BadEntry) → is_some (option_map bad_of o) ≡ is_some o
      mapped None = refl
      mapped (Some bad) = refl

      go : (b : Option (ℕ × Fault)) → option_map bad_of below.bad ≡ b → (f : Bool) → fallen ≡ f
          → IsApplyFrom memory job 0 (record { from = below.from; to = above.to; bad = stop; first = below.first; last = below.last; staged = below.staged })
      go (Some bad) is f fell =
          front_value stop bad (told ∙ ap₂ stop_told is fell) (front_stopped memory job 0 below.to above.to low.order high.order bad (sym low.bad ∙ is))
      go None is true fell =
          front_value stop (below.to, not_rising) (told ∙ (ap₂ stop_told is fell ∙ ap (λ (x : ℕ). Some (x, not_rising)) high.begins))
          (front_fallen memory job 0 below.to above.to low.order high.order (sym low.bad ∙ is) (sym fallen_is ∙ fell))
      go None is false fell =
          let nothing : option_map bad_of stop ≡ None = told ∙ ap₂ stop_told is fell in
          absurd (cc (ap is_some nothing, mapped stop, some))

  pub joined_value : (stop : Option BadEntry) (staged : Piece) (begin end : Option ℕ) → end ≡ option_or above.last below.last → begin ≡ cond (eqb below.from above.from) above.first below.first → option_map bad_of stop ≡ stop_told (option_map bad_of below.bad) fallen → is_some stop ≡ false
      → staged.bytes ≡ below.staged.bytes ++ above.staged.bytes
      → IsApplyFrom memory job 0 (record { from = below.from; to = above.to; bad = above.bad; first = begin; last = end; staged = staged })
  joined_value stop staged begin end ends begins told none bytes =
      let parts = both_none (option_map bad_of below.bad) fallen (sym told ∙ nothing stop none) in
      let sound : apply_bad memory job 0 below.to ≡ None = sym low.bad ∙ parts.0 in
      let rises : falls (apply_last memory job 0 below.to) (apply_first memory job below.to above.to) ≡ false = sym fallen_is ∙ parts.1 in
      record {
        begins = low.begins;
        order = omega (arith, low.order, high.order);
        bad = high.bad ∙ sym (on_bad memory job 0 below.to above.to low.order high.order sound rises);
        first = begins ∙ (ap₂ (λ (a b : ℕ). cond (eqb a b) above.first below.first) low.begins high.begins ∙ (ap₂ (λ (f g : Option ℕ). cond (eqb 0 below.to) f g) high.first low.first ∙ sym (on_first memory job 0 below.to above.to low.order high.order sound rises)));
        last = ends ∙ (ap₂ option_or high.last low.last ∙ sym (on_last memory job 0 below.to above.to low.order high.order sound rises));
        staged = bytes ∙ (ap₂ (λ (xs ys : List ℕ). xs ++ ys) low.staged high.staged ∙ sym (on_staged memory job 0 below.to above.to low.order high.order sound rises));
      }
    where
      nothing : (o : Option BadEntry) → is_some o ≡ false → option_map bad_of o ≡ None
      nothing None is = refl
      nothing (Some bad) is = absurd (cc)

      both_none : (bad : Option (ℕ × Fault)) (f : Bool) → stop_told bad f ≡ None → (bad ≡ None) × (f ≡ false)
      both_none None false is = (refl, refl)
      both_none None true is = absurd (cc)
      both_none (Some bad) f is = absurd (cc)

-- what is joined so far, and what is to come
abbrev pub IsApplyJoined : Memory → Job → {S : Type 0} → (S → Option ApplyPiece → S → Type 0) → Option ApplyPiece → S → Type 0
IsApplyJoined memory job steps whole rest =
    IsJoinedWith (IsApplyFrom memory job) (λ p. p.to) (λ p. p.staged) (λ p. is_some p.bad) (job.delta_size / 10) steps whole rest

-- an apply that is one piece
pub once_yields_apply : (memory : Memory) (job : Job) (piece : ApplyPiece) (pieces : Once ApplyPiece) → once_item pieces ≡ Some piece → IsApplyFrom memory job 0 piece → piece.to ≡ job.delta_size / 10 → YieldsApplies once_steps memory job pieces
once_yields_apply memory job piece pieces item value end =
    record { chunks = piece ∷ []; yields = once_yields piece pieces item; values = (value, tt, end) }

-- what a scan gives is the chunk's value
pub scanned_value : (memory : Memory) (job : Job) (from to : ℕ) (piece : ApplyPiece) → from ≤ to → (piece.from ≡ from) × (piece.to ≡ to)
    → option_map bad_of piece.bad ≡ apply_bad memory job from to → piece.first ≡ apply_first memory job from to → piece.last ≡ apply_last memory job from to
    → piece.staged.bytes ≡ apply_staged memory job from to → IsApplyFrom memory job from piece
scanned_value memory job from to piece order chunk bad offset last staged =
    let end = sym chunk.1 in
    record {
      begins = chunk.0;
      order = omega (arith, order, end);
      bad = bad ∙ ap (apply_bad memory job from) end;
      first = offset ∙ ap (apply_first memory job from) end;
      last = last ∙ ap (apply_last memory job from) end;
      staged = staged ∙ ap (apply_staged memory job from) end;
    }

-- the staging that an apply needs
pub need_of_apply : (job : Job) → op_of job ≡ Some ApplyDelta → need job ≡ job.delta_size
need_of_apply job operation = ap (λ (o : Option Op). unwrap_or (option_map (λ op. operation_need op job) o) 0) operation
