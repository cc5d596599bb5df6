-- An empty `Vec` owns the same at other lifetimes of its elements: its block, with room for as many. Assumes `Logic`.
use Rattle.core.specs.Prelude.{◌≡◌, ℕ, ◌-◌, ◌*◌, ◌^◌, Bool, true, false, List, [], ◌∷◌, map, length}
use mathlib.Core.Path.{refl, sym, ap, subst, ◌∙◌}
use seplogic.Ra.Ura.{Ura}
use mir.Syntax.{Ty, ty_array}
use mir.Raw.{raw}
use mir.Val.{Val}
use base.Fraction.{full_share}
use base.Logic.{ent, id⊢, mono∗, via, ex_e, ex_i}
use base.Fml.{Fml, fsep, flt, fex}
use types.Logic.{Logic, sem}
use denote.RattleType.{RattleType}
use denote.Memory.{lone, raw_all, cell_raw, part_of, part_at}
use denote.Array.{Array, each, shape}
use denote.Param.{param}
use denote.RawPtr.{Ptr, block_ptr, null_ptr, room_for, in_block, ◌+ₚ◌}
use denote.Builtin.{RawPtr, usize}
use denote.Sub.{Subs, sub_refl, sub-fields, lone_same, size_same}
use denote.Struct.Owning.{fields}
use denote.Struct.Owning as owning
use Rattle.core.specs.declared.alloc.Allocator.{Ghosts}
use Rattle.core.specs.Mem.{type_size}
use Rattle.core.specs.Allocator.{block_with_items}
use Rattle.std_alloc.specs.Vec.Ownership.{owns_if, has_block, vec_owns}
use Rattle.std_alloc.specs.Vec.Covariant.{in_vec}
use Rattle.std_alloc.specs.contracts.vec.Vec as W

module _ {M : Type 1} {𝓤 : Ura M} (𝓛 : Logic 𝓤) (R S : RattleType) (to : R.Denot → S.Denot) (lies : raw_all R.mir ≡ raw_all S.mir) where
  turned : {X : Type 0} (F : X → Fml) (x y : X) → x ≡ y → ent 𝓤 (sem 𝓛 (F x)) (sem 𝓛 (F y))
  turned F x y e = subst (λ z. ent 𝓤 (sem 𝓛 (F x)) (sem 𝓛 (F z))) e (id⊢ 𝓤 (sem 𝓛 (F x)))

  same : (P Q : Fml) → P ≡ Q → ent 𝓤 (sem 𝓛 P) (sem 𝓛 Q)
  same P Q e = subst (λ (X : Fml). ent 𝓤 (sem 𝓛 P) (sem 𝓛 X)) e (id⊢ 𝓤 (sem 𝓛 P))

  small : (c : ℕ) → ent 𝓤 (sem 𝓛 (flt (c * type_size R) (2 ^ 63))) (sem 𝓛 (flt (c * type_size S) (2 ^ 63)))
  small c = turned (λ (z : ℕ). flt (c * z) (2 ^ 63)) (type_size R) (type_size S) (size_same R.mir S.mir lies)

  each_none : (us : List Val) → each R.Denot R.own_val [] us ≡ each S.Denot S.own_val [] us
  each_none [] = refl
  each_none (u ∷ us) = refl

  none_own : (vs : List Val) → (Array R 0).own_val [] vs ≡ (Array S 0).own_val [] vs
  none_own vs i = fex (List Val) (λ us. fsep (shape {X = R.Denot} 0 [] vs us) (each_none us i))

  none_part : (b o : ℕ) → ent 𝓤 (sem 𝓛 (part_at (Array R 0) full_share [] b o)) (sem 𝓛 (part_at (Array S 0) full_share [] b o))
  unfolding part_of
  none_part b o = same _ _ (λ i. fex (List Val) (λ vs. fsep (cell_raw full_share (ap (λ τ. ty_array τ 0 ∷ []) (lone_same R.mir S.mir lies) i) vs b o) (none_own vs i)))

  holds : (t : Ty → Ptr → Fml) (c : ℕ) (p : Ptr) (y : Bool) → ent 𝓤 (sem 𝓛 (in_block p (owns_if y (block_with_items t R p 0 c [])))) (sem 𝓛 (in_block p (owns_if y (block_with_items t S p 0 c []))))
  holds t c null_ptr y = id⊢ 𝓤 _
  holds t c (block_ptr b o) false = id⊢ 𝓤 _
  holds t c (block_ptr b o) true = mono∗ 𝓤 (none_part b o)
      (turned (λ (z : Ty × ℕ). fsep (room_for (ty_array z.0 (c - 0)) (block_ptr b o +ₚ (0 * z.1))) (t (ty_array z.0 c) (block_ptr b o))) (raw (lone R.mir), type_size R) (raw (lone S.mir), type_size S)
      (λ i. (lone_same R.mir S.mir lies i, size_same R.mir S.mir lies i)))

  heap : (t : Ty → Ptr → Fml) (p : Ptr) (n c : ℕ) (xs : List R.Denot) → n ≡ length xs → xs ≡ [] → ent 𝓤 (sem 𝓛 (vec_owns t R p n c xs)) (sem 𝓛 (vec_owns t S p n c (map to xs)))
  heap t p n c xs long none =
      let zero : n ≡ 0 = long ∙ ap length none in
      via 𝓤 _ (turned (λ (z : ℕ × List R.Denot). vec_owns t R p z.0 c z.1) (n, xs) (0, []) (λ i. (zero i, none i)))
      (via 𝓤 _ (mono∗ 𝓤 (small c) (holds t c p (has_block c)))
      (turned (λ (z : ℕ × List S.Denot). vec_owns t S p z.0 c z.1) (0, []) (n, map to xs) (λ i. (sym zero i, map to (sym none i)))))

  module _ (Z : RattleType) (g : Ghosts Z.Denot) where
    abbrev four : Subs 𝓛 (fields (W.the_type R Z g)) (fields (W.the_type S Z g))
    four = (((λ x. x), sub_refl 𝓛 RawPtr), (((λ x. x), sub_refl 𝓛 usize), (((λ x. x), sub_refl 𝓛 usize), (((λ x. x), sub_refl 𝓛 Z), tt))))

    pub empty_owns : (d : (W.the_row R Z g).Denot) (vs : List Val) → d.items ≡ [] → ent 𝓤 (sem 𝓛 ((W.the_row R Z g).own_val d vs)) (sem 𝓛 ((W.the_row S Z g).own_val (in_vec to d) vs))
    empty_owns d vs none =
        mono∗ 𝓤 ((sub-fields 𝓛 (owning.shape (W.the_type R Z g)) (owning.shape (W.the_type S Z g)) four).owns (owning.to (W.the_type R Z g) d) vs)
        (heap (g.dealloc_token d.alloc) d.ptr d.len d.cap d.items d.ok.0 none)

    pub empty_lies : raw_all (W.the_row R Z g).mir ≡ raw_all (W.the_row S Z g).mir
    empty_lies = (sub-fields 𝓛 (owning.shape (W.the_type R Z g)) (owning.shape (W.the_type S Z g)) four).lies

    pub empty_part : (d : (W.the_row R Z g).Denot) (b o : ℕ) → d.items ≡ [] → ent 𝓤 (sem 𝓛 (part_at (param 0 (W.the_row R Z g)) full_share d b o)) (sem 𝓛 (part_at (param 0 (W.the_row S Z g)) full_share (in_vec to d) b o))
    unfolding part_of
    empty_part d b o none =
        ex_e 𝓤 _ (λ vs. via 𝓤 _
        (mono∗ 𝓤
        (same (cell_raw full_share (raw_all (param 0 (W.the_row R Z g)).mir) vs b o) (cell_raw full_share (raw_all (param 0 (W.the_row S Z g)).mir) vs b o)
        (ap (λ τ. cell_raw full_share (τ ∷ []) vs b o) (lone_same (W.the_row R Z g).mir (W.the_row S Z g).mir empty_lies)))
        (empty_owns d vs none))
        (ex_i 𝓤 (λ (ws : List Val). sem 𝓛 (fsep (cell_raw full_share (raw_all (param 0 (W.the_row S Z g)).mir) ws b o) ((W.the_row S Z g).own_val (in_vec to d) ws))) vs))
