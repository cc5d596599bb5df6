-- The fields of descriptors and completion records, read from their bytes.
use Rattle.std.proofs.Common.{◌≡◌, ℕ, ◌+◌, ◌-◌, ◌<◌, ◌≤◌, ◌&&◌, Bool, true, List, [], ◌∷◌, ◌++◌, Option, None, Some, length, replicate, zero, suc, subst, inl, inr, ◌||◌, false, slice_index, refl, sym, ap, ◌∙◌, arith, nat_le, nat_lt}
use Rattle.std.specs.Prelude.{slice_range, slice_get}
use Rattle.std.specs.Option.{option_map}
use Rattle.std.proofs.lemmas.Option.{same_Some}
use Rattle.std.specs.List.{list_any}
use Rattle.std.specs.Int.{w32, w64, to_le_bytes}
use Rattle.std.proofs.lemmas.Nat.{from_le_bytes-to_le_bytes_4, from_le_bytes-to_le_bytes_8}
use Rattle.std.proofs.lemmas.Bool.{cases_eq}
use Rattle.std.proofs.lemmas.List.{get_or-append_right, get_or-replicate}
use Rattle.std.proofs.lemmas.List.Edits.{get_or-between, length-between}
use Rattle.dml_types.specs.Effect.{code_of}
use Rattle.std.proofs.lemmas.Grind.{same_number_lists}
use Rattle.std.proofs.lemmas.Bool.Decides.{nat_tests}
use Rattle.dml_types.specs.declared.jobs.Job.{Job}
use Rattle.dml_types.specs.declared.operations.Op.{Op}
use Rattle.dml_types.specs.declared.operations.Op.TheVariants.{NoOp, Move, Fill, Compare, ComparePattern, CreateDelta, ApplyDelta, Dualcast}
use Rattle.dml_desc.specs.Descriptor.{common_fields, with_own_fields, decoded, bytes_of_record, bytes_of_batch}
use Rattle.dml_types.specs.Job.{op_of, plain}
use Rattle.dml_desc.specs.Laws.{common, own, RecordHasItsFields, BatchHasItsFields, DecodedByMeaning, has_meaning}

-- zeros after a list
zeros_from : (xs : List ℕ) (n start place : ℕ) → length xs ≡ start → start ≤ place → place < start + n → slice_index (xs ++ replicate n 0) place ≡ 0
zeros_from xs n start place long from below =
    get_or-append_right xs (replicate n 0) start place 0 long from ∙ get_or-replicate n (place - start) 0 0 (omega arith)

-- a fact at a place and at each later one
from_place : (P : ℕ → Type 0) (place i : ℕ) → place ≤ i → P place → (suc place ≤ i → P i) → P i
from_place P place i from here later = elim (cases_eq place i) [
  | inl same ↦ subst P same here
  | inr other ↦ later (omega arith)
]

pub record_has_its_fields : RecordHasItsFields
record_has_its_fields outcome completed fault delta_size =
    let fields = code_of outcome.status ∷ outcome.result ∷ 0 ∷ 0 ∷ to_le_bytes w32 outcome.completed ++ to_le_bytes w64 outcome.fault ++ to_le_bytes w32 outcome.delta_size in
    let IsZero : ℕ → Type 0 = λ place. slice_index (bytes_of_record outcome) place ≡ 0 in
    record {
      size = refl;
      status = refl;
      result = refl;
      completed = from_le_bytes-to_le_bytes_4 outcome.completed completed;
      fault = from_le_bytes-to_le_bytes_8 outcome.fault fault;
      delta_size = from_le_bytes-to_le_bytes_4 outcome.delta_size delta_size;
      zeros_before = λ place from below.
          from_place IsZero 2 place from refl (λ past. from_place IsZero 3 place past refl (λ out. absurd (omega arith)));
      zeros_after = λ place from below. zeros_from fields 12 20 place refl from below;
    }

pub batch_has_its_fields : BatchHasItsFields
batch_has_its_fields outcome completed =
    let fields = code_of outcome.status ∷ 0 ∷ 0 ∷ 0 ∷ to_le_bytes w32 outcome.completed in
    let IsZero : ℕ → Type 0 = λ place. slice_index (bytes_of_batch outcome) place ≡ 0 in
    record {
      size = refl;
      status = refl;
      completed = from_le_bytes-to_le_bytes_4 outcome.completed completed;
      zeros_before = λ place from below.
          from_place IsZero 1 place from refl (λ past. from_place IsZero 2 place past refl (λ third. from_place IsZero 3 place third refl (λ out. absurd (omega arith))));
      zeros_after = λ place from below. zeros_from fields 24 8 place refl from below;
    }

-- a field whose bytes agree
Agree : List ℕ → List ℕ → ℕ → ℕ → Type 0
Agree a b place n = (i : ℕ) → place ≤ i → i < place + n → slice_index a i ≡ slice_index b i

same_field : (a b : List ℕ) (place n : ℕ) → length a ≡ 64 → length b ≡ 64 → place + n ≤ 64 → Agree a b place n
    → slice_range a place (place + n) ≡ slice_range b place (place + n)
unfolding Agree
same_field a b place n long_a long_b within agree =
    let size_a = length-between a place (place + n) (omega arith) in
    let size_b = length-between b place (place + n) (omega arith) in
    same_number_lists _ _ (size_a ∙ sym size_b) (λ k below.
    let inside : place + k < place + n = omega (arith, size_a) in
    get_or-between a place (place + n) k 0 inside ∙ agree (place + k) (omega arith) inside
    ∙ sym (get_or-between b place (place + n) k 0 inside))

-- a place in one of the fields has a meaning
in_field : (start n place : ℕ) (others : Bool) → start ≤ place → place < start + n → ((nat_le start place && nat_lt place (start + n)) || others) ≡ true
in_field start n place others from below = grind (arith, nat_tests)

in_others : (this others : Bool) → others ≡ true → (this || others) ≡ true
in_others true others h = refl
in_others false others h = h

in_fields : (fields : List (ℕ × ℕ)) (k start n place : ℕ) → slice_get fields k ≡ Some (start, n) → start ≤ place → place < start + n
    → list_any (λ field. nat_le field.0 place && nat_lt place (field.0 + field.1)) fields ≡ true
in_fields [] k start n place found from below = absurd (cc)
in_fields (field ∷ fields) zero start n place found from below =
    let first : field.0 ≡ start = same_Some _ _ (ap (option_map (λ (f : ℕ × ℕ). f.0)) found) in
    let second : field.1 ≡ n = same_Some _ _ (ap (option_map (λ (f : ℕ × ℕ). f.1)) found) in
    in_field field.0 field.1 place _ (omega arith) (omega arith)
in_fields (field ∷ fields) (suc k) start n place found from below = in_others _ _ (in_fields fields k start n place found from below)

has_meaning_in : (o : Option Op) (k start n place : ℕ) → slice_get (common ++ own o) k ≡ Some (start, n) → start ≤ place → place < start + n → has_meaning o place ≡ true
has_meaning_in o k start n place found from below = in_fields (common ++ own o) k start n place found from below

-- descriptors that agree on the bytes with a meaning have the same fields
SameMeaning : Option Op → List ℕ → List ℕ → Type 0
SameMeaning o a b = (place : ℕ) → has_meaning o place ≡ true → slice_index a place ≡ slice_index b place

same_common_fields : (o : Option Op) (a b : List ℕ) → length a ≡ 64 → length b ≡ 64 → SameMeaning o a b → common_fields a ≡ common_fields b
unfolding SameMeaning Agree
same_common_fields o a b long_a long_b same =
    let opcode = same 7 refl in
    let flags = same_field a b 4 4 long_a long_b (omega arith)
    (λ i from below. same i (has_meaning_in o 0 4 4 i refl from below)) in
    let source = same_field a b 16 8 long_a long_b (omega arith)
    (λ i from below. same i (has_meaning_in o 1 16 8 i refl from below)) in
    let target = same_field a b 24 8 long_a long_b (omega arith)
    (λ i from below. same i (has_meaning_in o 2 24 8 i refl from below)) in
    let size = same_field a b 32 4 long_a long_b (omega arith)
    (λ i from below. same i (has_meaning_in o 3 32 4 i refl from below)) in
    cc

same_own_fields : (o : Option Op) (a b : List ℕ) (job : Job) → length a ≡ 64 → length b ≡ 64 → SameMeaning o a b → with_own_fields o a job ≡ with_own_fields o b job
unfolding SameMeaning Agree
same_own_fields None a b job long_a long_b same = refl
same_own_fields (Some NoOp) a b job long_a long_b same = refl
same_own_fields (Some Move) a b job long_a long_b same = refl
same_own_fields (Some Fill) a b job long_a long_b same = refl
same_own_fields (Some Compare) a b job long_a long_b same = let expected = same 40 refl in cc
same_own_fields (Some ComparePattern) a b job long_a long_b same = let expected = same 40 refl in cc
same_own_fields (Some CreateDelta) a b job long_a long_b same =
    let extra = same_field a b 40 8 long_a long_b (omega arith)
    (λ i from below. same i (has_meaning_in (Some CreateDelta) 4 40 8 i refl from below)) in
    let delta_size = same_field a b 48 4 long_a long_b (omega arith)
    (λ i from below. same i (has_meaning_in (Some CreateDelta) 5 48 4 i refl from below)) in
    let expected = same 56 refl in
    cc
same_own_fields (Some ApplyDelta) a b job long_a long_b same =
    let delta_size = same_field a b 40 4 long_a long_b (omega arith)
    (λ i from below. same i (has_meaning_in (Some ApplyDelta) 4 40 4 i refl from below)) in
    cc
same_own_fields (Some Dualcast) a b job long_a long_b same =
    let extra = same_field a b 40 8 long_a long_b (omega arith)
    (λ i from below. same i (has_meaning_in (Some Dualcast) 4 40 8 i refl from below)) in
    cc

-- the operation is that of the opcode alone
opcode_kept : (o : Option Op) (bytes : List ℕ) (job : Job) → (with_own_fields o bytes job).opcode ≡ job.opcode
opcode_kept None bytes job = refl
opcode_kept (Some NoOp) bytes job = refl
opcode_kept (Some Move) bytes job = refl
opcode_kept (Some Fill) bytes job = refl
opcode_kept (Some Compare) bytes job = refl
opcode_kept (Some ComparePattern) bytes job = refl
opcode_kept (Some CreateDelta) bytes job = refl
opcode_kept (Some ApplyDelta) bytes job = refl
opcode_kept (Some Dualcast) bytes job = refl

pub op_of-decoded : (bytes : List ℕ) → op_of (decoded bytes) ≡ op_of (common_fields bytes)
unfolding decoded
op_of-decoded bytes = ap (λ n. op_of (plain n)) (opcode_kept (op_of (common_fields bytes)) bytes (common_fields bytes))

pub decoded_by_meaning : DecodedByMeaning
unfolding decoded SameMeaning
decoded_by_meaning a b long_a long_b same =
    let o = op_of (common_fields a) in
    let here : SameMeaning o a b = subst (λ (o : Option Op). SameMeaning o a b) (op_of-decoded a) same in
    let common = same_common_fields o a b long_a long_b here in
    same_own_fields o a b (common_fields a) long_a long_b here ∙ ap (λ job. with_own_fields (op_of job) b job) common
