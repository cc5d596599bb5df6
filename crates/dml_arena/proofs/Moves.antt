-- `ptr::copy` of bytes to a lower place, at a call. Assumes `Logic`.
use Rattle.dml_arena.proofs.Steps.{◌≡◌, ℕ, ◌+◌, ◌*◌, ◌^◌, ◌<◌, List, [], ◌∷◌, refl, sym, ap, arith, w64, length, Ura, full_share, SProp, ent, sep, emp, id⊢, Lft, Share, ftrue, fsep, feq, flft, ◌⊑◌, fact, fact_i, Logic, sem, ‵, raw, ◌⊛◌, some, later, ◌$◌, ◌∵◌, !, qed, by, move, keep, drop, use0, use1, split, join, pick, fsplit, fjoin, feq_l, feq_i, rewrite, await, updating, now, done, RattleType, block_ptr, Val, vint, vptr, vunit, nothing, param, bytes}
use base.Logic.{guard}
use contract.BorrowLft.{⊑_static}
use contract.Monad.{Fun}
use mathlib.Core.Bool.{false}
use prog.Memory.{Memory}
use prog.Routine.{Routine}
use types.Kit.{flt_i, check}
use denote.Array.{Array}
use denote.ArrayMemory.{Array-apart, Array-whole}
use denote.Builtin.{u8, unit}
use denote.Memory.{part_at}
use denote.Param.Laws.{Laws, of_field}
use denote.Param.Shared.{copy_shared}
use denote.Steps.{only}
use denote.Struct.Field.{u8-field}
use denote.Struct.Laws.{u8-laws, u8-copy}
use denote.Triple.Spec.{triple_of}
use denote.Triple.Statement.{Contract}
use Rattle.core.specs.Ptr.{Shift, IsShiftWithinBlock}
use Rattle.core.specs.contracts.ptr.copy as CP
use Rattle.dml_arena.proofs.Fronts.{rm, held}

-- a byte, as a type argument
abbrev pub Byte : RattleType
Byte = param 0 u8

pub byte_laws : Laws u8
byte_laws = of_field u8-field u8-laws refl (copy_shared u8-field u8-copy)

module _ {M : Type 1} {𝓤 : Ura M} (𝓛 : Logic 𝓤) where
  pub whole_of : (n : ℕ) (xs : List ℕ) (b o : ℕ) → length xs ≡ n → ent 𝓤 (sem 𝓛 (bytes full_share xs b o)) (sem 𝓛 (part_at (Array Byte n) full_share xs b o))
  whole_of n xs b o e = qed 𝓛 (‵ (bytes full_share xs b o) ∷ []) ∵ feq_i ! ℕ (length xs) n e $ fjoin ! $ by ! (Array-whole 𝓛 Byte full_share n xs b o)

  pub whole_is : (n : ℕ) (xs : List ℕ) (b o : ℕ) → ent 𝓤 (sem 𝓛 (part_at (Array Byte n) full_share xs b o)) (sem 𝓛 (bytes full_share xs b o))
  whole_is n xs b o = qed 𝓛 (‵ (part_at (Array Byte n) full_share xs b o) ∷ []) ∵
      use1 𝓛 (‵ (fsep (feq ℕ (length xs) n) (bytes full_share xs b o))) (Array-apart 𝓛 Byte full_share tt n xs b o) $ fsplit ! $ drop ! $ done !

module _ {M : Type 1} {𝓤 : Ura M} (𝓛 : Logic 𝓤) (at_mem : Memory → SProp 𝓤) (run : Routine → Fun 𝓤) where
  open 𝓛 use {H, A}

  abbrev pub Copies : Contract 𝓤
  Copies = triple_of 𝓛 (CP.signature u8) (CP.spec u8 𝓛 at_mem run)

  -- the n bytes xs move down by gap places, to o
  module _ (κ : Lft) (q : Share) (b o gap n : ℕ) (xs : List ℕ) where
    abbrev from : ℕ
    from = o + gap

    abbrev shift : Shift ℕ
    shift = record { up = false; distance = gap; items = xs }

    abbrev pub at_copies : Copies.Ghost
    at_copies = (((κ, tt), (q, tt), tt, (block_ptr b from, (block_ptr b o, (n, tt))), (vptr b from ∷ [], (vptr b o ∷ [], (vint w64 n ∷ [], tt)))), shift)

    abbrev Apart : Type 0
    Apart = IsShiftWithinBlock Byte false gap n (block_ptr b from) (block_ptr b o)

    pub Copies-goes : n ≡ length xs → 0 < gap → from + n < 2 ^ 63 → ent 𝓤 (sep 𝓤 (sem 𝓛 (held 𝓛 b xs from)) (sep 𝓤 (sem 𝓛 (rm 𝓛 b gap o)) (A.lft κ q))) (Copies.pre at_copies)
    Copies-goes long room fits =
        let place : from ≡ gap * 1 + o = omega arith in
        let apart : Apart = (ap (block_ptr b) place, omega (arith, fits), omega (arith, room)) in
        let small : n < 2 ^ 64 = omega (arith, fits) in
        qed 𝓛 (‵ (held 𝓛 b xs from) ∷ ‵ (rm 𝓛 b gap o) ∷ ‵ (flft κ q) ∷ []) ∵
        use1 𝓛 (‵ (part_at (Array Byte n) full_share xs b from)) (whole_of 𝓛 n xs b from (sym long)) $ fjoin ! $
        use0 𝓛 (raw (fact 𝓤 Apart)) (fact_i 𝓤 Apart (emp 𝓤) apart) $ join ! $ use0 𝓛 (raw (fact 𝓤 (κ ⊑ u8.lives))) (fact_i 𝓤 (κ ⊑ u8.lives) (emp 𝓤) (⊑_static κ)) $ join ! $
        nothing ! $ flt_i ! n (2 ^ 64) small $ feq_i ! (List Val) (vint w64 n ∷ []) (vint w64 n ∷ []) refl $ fjoin ! $ fjoin ! $
        feq_i ! (List Val) (vptr b o ∷ []) (vptr b o ∷ []) refl $ fjoin ! $ feq_i ! (List Val) (vptr b from ∷ []) (vptr b from ∷ []) refl $ fjoin ! $
        nothing ! $ move ! (3 ∷ 0 ∷ []) $ join ! $ join ! $ done !

    pub Copies-gives : n ≡ length xs → (v : Val) → ent 𝓤 (Copies.post at_copies v) (H.⇛ (guard 𝓤 (v ≡ vunit) (sep 𝓤 (sem 𝓛 (held 𝓛 b xs o)) (sep 𝓤 (sem 𝓛 (rm 𝓛 b gap (o + length xs))) (A.lft κ q)))))
    Copies-gives long v =
        let place : n * 1 + o ≡ o + length xs = omega (arith, long) in
        qed 𝓛 (raw (Copies.post at_copies v) ∷ []) ∵ updating ! $
        use1 𝓛 (later (some (λ (r : Unit {0}). ((‵ (flft κ q) ⊛ ‵ ftrue) ⊛ ‵ (unit.own_val r (v ∷ [])))
        ⊛ some (λ (ws : Unit {0} × (Unit {0} × (Unit {0} × Unit {0}))). ‵ (fsep ftrue (fsep ftrue (fsep ftrue ftrue))) ⊛ ‵ (fsep (part_at (Array Byte n) full_share xs b o) (rm 𝓛 b gap (n * 1 + o))))))) (id⊢ 𝓤 _) $ await ! tt $ pick ! (λ r.
        split ! $ move ! (1 ∷ []) $ pick ! (λ ws. split ! $ drop ! $ fsplit ! $ use1 𝓛 (‵ (held 𝓛 b xs o)) (whole_is 𝓛 n xs b o) $
        rewrite ! 1 (λ (z : ℕ). ‵ (rm 𝓛 b gap z)) place refl $ move ! (2 ∷ []) $ split ! $ split ! $ move ! (2 ∷ []) $ feq_l ! (λ e. now ! $ check ! (ap only e) $ keep ! (2 ∷ 3 ∷ 0 ∷ []) $ done !)))
