-- The calls by which `fill` copies: room becomes a row of empty places, the row is filled, and is bytes again. Assumes `Logic`.
use Rattle.dml_arena.proofs.Steps.{◌≡◌, ℕ, ◌*◌, ◌^◌, ◌<◌, List, [], ◌∷◌, ◌++◌, refl, sym, ap, subst, ◌∙◌, arith, w64, length, Ura, SProp, ent, sep, emp, id⊢, Lft, Share, ftrue, fsep, flft, ◌⊑◌, fact, fact_i, Logic, sem, Goal, Seq, Item, ‵, raw, ◌⊛◌, some, later, ◌$◌, ◌∵◌, !, qed, by, move, keep, drop, use0, use1, split, split3, join, pick, rewrite, fsplit, fsplit3, fjoin, fjoin3, fpick, feq_l, feq_i, await, updating, now, done, RattleType, RawPtr, Ptr, block_ptr, Val, vint, vptr, vstruct, has_ty, WT, Holds, type_at, nothing, heard, Tuple, u8, usize}
use Rattle.dml_arena.proofs.Walks.{slot_at}
use base.Logic.{ex, guard}
use contract.BorrowLft.{⊑_static}
use contract.Monad.{Fun}
use lib.ListN.{replicate, length-replicate}
use mathlib.Core.Bool.{Bool, false}
use mir.Val.{of_list}
use prog.Memory.{Memory}
use prog.Routine.{Routine}
use types.Kit.{flt_i, check, show}
use denote.Param.{layout}
use denote.RawPtr.{in_block}
use denote.Ref.{Bor}
use denote.Slice.{shr_slice_vals}
use denote.Steps.{only}
use denote.Triple.Spec.{triple_of}
use denote.Triple.Statement.{Contract}
use Rattle.core.proofs.mem.Param.{El}
use Rattle.core.proofs.slots.Opens.{Sr, row_val, words_val, row_had, row_made}
use Rattle.core.proofs.slots.Places.{of_room, to_row}
use Rattle.core.specs.Mem.Slots.{slots_items, slots_filled, slots_ptr, slots_len, slots_counts}
use Rattle.core.specs.Mem.Slots.Ownership.{Filled, slots, owned}
use Rattle.core.specs.contracts.slots.Slots.from_raw_parts as FR
use Rattle.core.specs.contracts.slots.Slots.into_raw_parts as IR
use Rattle.dml_arena.specs.contracts.span.filled_with as FW
use Rattle.dml_arena.proofs.Fronts.{rm, held}
use Rattle.dml_arena.proofs.Moves.{Byte, byte_laws}

-- a row of places for bytes
abbrev pub Row : RattleType
Row = Sr (record { row = u8; laws = byte_laws })

abbrev pub Parts : RattleType
Parts = Tuple (RawPtr ∷ usize ∷ [])

pub words_typed : (v : Val) (b o n : ℕ) → v ≡ row_val b o n → n < 2 ^ 64 → Holds (has_ty (layout Row) v) × WT v
words_typed v b o n e small = subst (λ (u : Val). Holds (has_ty (layout Row) u) × WT u) (sym e) (tt, (tt, (record { fits = small }, tt)))

pub parts_typed : (v : Val) (b o n : ℕ) → v ≡ row_val b o n → n < 2 ^ 64 → Holds (has_ty (layout Parts) v) × WT v
parts_typed v b o n e small = subst (λ (u : Val). Holds (has_ty (layout Parts) u) × WT u) (sym e) (tt, (tt, (record { fits = small }, tt)))

module _ {M : Type 1} {𝓤 : Ura M} {𝓛 : Logic 𝓤} {K : Type 0} {Γ : List (Item 𝓤)} {G : Goal 𝓤 𝓛.H} where
  -- a row's machine value is learned, and the row stays
  words_seen : K → (r : Row.Denot) (vs : List Val)
      → ((b o : ℕ) → slots_ptr r ≡ block_ptr b o → vs ≡ row_val b o (slots_len r) ∷ [] → Seq K 𝓛 (‵ (Row.own_val r (row_val b o (slots_len r) ∷ [])) ∷ Γ) G) → Seq K 𝓛 (‵ (Row.own_val r vs) ∷ Γ) G
  words_seen t r vs k = let E : El = record { row = u8; laws = byte_laws } in row_had E t r vs (λ b o at e small fits. row_made E t r b o at small fits $ k b o at e)

module _ {M : Type 1} {𝓤 : Ura M} (𝓛 : Logic 𝓤) (at_mem : Memory → SProp 𝓤) (run : Routine → Fun 𝓤) where
  open 𝓛 use {H, A}

  abbrev pub From : Contract 𝓤
  From = triple_of 𝓛 (FR.signature u8) (FR.spec u8 𝓛 at_mem run)

  abbrev pub Fills : Contract 𝓤
  Fills = triple_of 𝓛 FW.signature (FW.spec 𝓛 at_mem run)

  abbrev pub Into : Contract 𝓤
  Into = triple_of 𝓛 (IR.signature u8) (IR.spec u8 𝓛 at_mem run)

  -- places from o on, for as many bytes as xs has
  module _ (κ : Lft) (q : Share) (b o : ℕ) (xs : List ℕ) where
    abbrev n : ℕ
    n = length xs

    abbrev empty : List Bool
    empty = replicate n false

    abbrev pub at_from : From.Ghost
    at_from = (((κ, tt), (q, tt), tt, (block_ptr b o, (n, tt)), (vptr b o ∷ [], (vint w64 n ∷ [], tt))), (xs, empty))

    -- a row of these places
    abbrev pub Lies : Row.Denot → Type 0
    Lies r = (slots_ptr r ≡ block_ptr b o) × (slots_len r ≡ n)

    abbrev pub Got : Val → Row.Denot → SProp 𝓤
    Got v r = guard 𝓤 ((v ≡ row_val b o n) × Lies r) (sep 𝓤 (sem 𝓛 (Row.own_val r (row_val b o n ∷ []))) (A.lft κ q))

    pub from_goes : n < 2 ^ 63 → ent 𝓤 (sep 𝓤 (sem 𝓛 (rm 𝓛 b n o)) (A.lft κ q)) (From.pre at_from)
    from_goes fits =
        let E : El = record { row = u8; laws = byte_laws } in
        let Ok : Type 0 = (n ≡ length xs) × (n ≡ length empty) in
        let wide : n * 1 < 2 ^ 63 = omega (arith, fits) in
        let small : n < 2 ^ 64 = omega (arith, fits) in
        qed 𝓛 (‵ (rm 𝓛 b n o) ∷ ‵ (flft κ q) ∷ []) ∵ use1 𝓛 (‵ (slots Byte (block_ptr b o) xs empty)) (of_room E 𝓛 b xs o) $
        flt_i ! (n * 1) (2 ^ 63) wide $ fjoin ! $ use0 𝓛 (raw (fact 𝓤 Ok)) (fact_i 𝓤 Ok (emp 𝓤) (refl, sym (length-replicate n false))) $ join ! $
        use0 𝓛 (raw (fact 𝓤 (κ ⊑ u8.lives))) (fact_i 𝓤 (κ ⊑ u8.lives) (emp 𝓤) (⊑_static κ)) $ join ! $
        nothing ! $ flt_i ! n (2 ^ 64) small $ feq_i ! (List Val) (vint w64 n ∷ []) (vint w64 n ∷ []) refl $ fjoin ! $ feq_i ! (List Val) (vptr b o ∷ []) (vptr b o ∷ []) refl $ fjoin3 ! $
        nothing ! $ move ! (3 ∷ 0 ∷ []) $ join ! $ join ! $ done !

    got : (v : Val) (r : Row.Denot) → Lies r → ent 𝓤 (sep 𝓤 (sem 𝓛 (Row.own_val r (v ∷ []))) (A.lft κ q)) (Got v r)
    got v r lies = qed 𝓛 (‵ (Row.own_val r (v ∷ [])) ∷ ‵ (flft κ q) ∷ []) ∵ words_seen ! r (v ∷ []) (λ b' o' at e.
        let same : row_val b' o' (slots_len r) ≡ row_val b o n = λ i. words_val ((sym at ∙ lies.0) i) (lies.1 i) in
        rewrite ! 0 (λ (u : Val). ‵ (Row.own_val r (u ∷ []))) same refl $ check ! (ap only e ∙ same, lies) $ done !)

    pub from_gives : (v : Val) → ent 𝓤 (From.post at_from v) (H.⇛ (ex 𝓤 (Got v)))
    from_gives v =
        let Made : Row.Denot → Type 0 = λ r. (slots_ptr r ≡ block_ptr b o) × (slots_len r ≡ n) × (slots_items r ≡ xs) × (slots_filled r ≡ empty) in
        qed 𝓛 (raw (From.post at_from v) ∷ []) ∵ updating ! $
        use1 𝓛 (later (some (λ (r : Row.Denot). ((‵ (flft κ q) ⊛ ‵ ftrue) ⊛ ‵ (Row.own_val r (v ∷ []))) ⊛ some (λ (ws : Unit {0} × (Unit {0} × Unit {0})). ‵ (fsep ftrue (fsep ftrue ftrue)) ⊛ raw (fact 𝓤 (Made r)))))) (id⊢ 𝓤 _) $ await ! tt $ pick ! (λ r.
        split ! $ move ! (1 ∷ []) $ pick ! (λ ws. split ! $ drop ! $ heard ! (Made r) (λ is. split ! $ split ! $ move ! (2 ∷ 0 ∷ []) $ now ! $ show ! (Got v) r $ keep ! (0 ∷ 1 ∷ []) $ by ! (got v r (is.0, is.1)))))

    -- the row r is filled with xs, which are behind the slice s
    module _ (s : Bor (List ℕ)) (is : s.now ≡ xs) (r : Row.Denot) where
      abbrev Src : RattleType
      Src = type_at (slot_at 1 FW.signature.params) (κ, tt)

      abbrev pub at_fills : Fills.Ghost
      at_fills = (((κ, tt), (q, tt), tt, (r, (s, tt)), (row_val b o n ∷ [], (shr_slice_vals s, tt))), tt)

      abbrev pub Full : Row.Denot → Type 0
      Full r' = (slots_items r' ≡ xs) × Filled (slots_filled r') 0 n

      pub fills_goes : Lies r → ent 𝓤 (sep 𝓤 (sem 𝓛 (Row.own_val r (row_val b o n ∷ []))) (sep 𝓤 (sem 𝓛 (Src.own_val s (shr_slice_vals s))) (A.lft κ q))) (Fills.pre at_fills)
      fills_goes lies =
          let Ok : Type 0 = slots_len r ≡ length s.now in
          qed 𝓛 (‵ (Row.own_val r (row_val b o n ∷ [])) ∷ ‵ (Src.own_val s (shr_slice_vals s)) ∷ ‵ (flft κ q) ∷ []) ∵
          use0 𝓛 (raw (fact 𝓤 Ok)) (fact_i 𝓤 Ok (emp 𝓤) (lies.1 ∙ (λ i. length (sym is i)))) $ nothing ! $ move ! (3 ∷ 0 ∷ []) $ fjoin ! $ move ! (2 ∷ 0 ∷ []) $ fjoin ! $
          nothing ! $ move ! (3 ∷ 0 ∷ []) $ join ! $ join ! $ done !

      pub fills_gives : Lies r → (v : Val) → ent 𝓤 (Fills.post at_fills v) (H.⇛ (ex 𝓤 (λ (r' : Row.Denot). guard 𝓤 (Full r') (Got v r'))))
      fills_gives lies v =
          let Place : Row.Denot → Type 0 = λ r'. (slots_ptr r' ≡ slots_ptr r) × (slots_len r' ≡ slots_len r) in
          let Items : Row.Denot → Type 0 = λ r'. slots_items r' ≡ s.now in
          let All : Row.Denot → Type 0 = λ r'. Filled (slots_filled r') 0 (length s.now) in
          qed 𝓛 (raw (Fills.post at_fills v) ∷ []) ∵ updating ! $
          use1 𝓛 (later (some (λ (r' : Row.Denot). ((‵ (flft κ q) ⊛ ‵ ftrue) ⊛ ‵ (Row.own_val r' (v ∷ []))) ⊛ some (λ (ws : Unit {0} × (Unit {0} × Unit {0})). ‵ (fsep ftrue (fsep ftrue ftrue))
          ⊛ raw (fact 𝓤 (Place r')) ⊛ raw (fact 𝓤 (Items r')) ⊛ raw (fact 𝓤 (All r')))))) (id⊢ 𝓤 _) $ await ! tt $ pick ! (λ r'.
          split ! $ move ! (1 ∷ []) $ pick ! (λ ws. split ! $ drop ! $ split3 ! $ heard ! (Place r') (λ place. heard ! (Items r') (λ items. heard ! (All r') (λ all. split ! $ split ! $ move ! (2 ∷ 0 ∷ []) $ now ! $
          show ! (λ (u : Row.Denot). guard 𝓤 (Full u) (Got v u)) r' $ check ! (items ∙ is, subst (λ (zs : List ℕ). Filled (slots_filled r') 0 (length zs)) is all) $
          keep ! (0 ∷ 1 ∷ []) $ by ! (got v r' (place.0 ∙ lies.0, place.1 ∙ lies.1)))))))

    -- a full row is bytes
    module _ (r : Row.Denot) where
      abbrev pub at_into : Into.Ghost
      at_into = (((κ, tt), (q, tt), tt, (r, tt), (row_val b o n ∷ [], tt)), tt)

      pub into_goes : ent 𝓤 (sep 𝓤 (sem 𝓛 (Row.own_val r (row_val b o n ∷ []))) (A.lft κ q)) (Into.pre at_into)
      into_goes =
          qed 𝓛 (‵ (Row.own_val r (row_val b o n ∷ [])) ∷ ‵ (flft κ q) ∷ []) ∵ nothing ! $ use0 𝓛 (raw (fact 𝓤 (κ ⊑ u8.lives))) (fact_i 𝓤 (κ ⊑ u8.lives) (emp 𝓤) (⊑_static κ)) $ join ! $
          nothing ! $ move ! (2 ∷ 0 ∷ []) $ fjoin ! $ nothing ! $ move ! (3 ∷ 0 ∷ []) $ join ! $ join ! $ done !

      full : (fs : List Bool) → length fs ≡ n → Filled fs 0 n → ent 𝓤 (sem 𝓛 (slots Byte (block_ptr b o) xs fs)) (sem 𝓛 (held 𝓛 b xs o))
      full fs long all = let E : El = record { row = u8; laws = byte_laws } in to_row E 𝓛 b xs fs o long (λ k less. all k (omega arith) (subst (λ (m : ℕ). k < m) long less))

      pub into_gives : Lies r → (slots_items r ≡ xs) × Filled (slots_filled r) 0 n → (v : Val) → ent 𝓤 (Into.post at_into v) (H.⇛ (guard 𝓤 (v ≡ row_val b o n) (sep 𝓤 (sem 𝓛 (held 𝓛 b xs o)) (A.lft κ q))))
      into_gives lies is v =
          let Told : Parts.Denot → Type 0 = λ p. (p.0 ≡ slots_ptr r) × (p.1 ≡ slots_len r) in
          let fs : List Bool = slots_filled r in
          let long : length fs ≡ n = sym (slots_counts r).1 ∙ lies.1 in
          qed 𝓛 (raw (Into.post at_into v) ∷ []) ∵ updating ! $
          use1 𝓛 (later (some (λ (p : Parts.Denot). ((‵ (flft κ q) ⊛ ‵ ftrue) ⊛ ‵ (Parts.own_val p (v ∷ []))) ⊛ some (λ (ws : Unit {0} × Unit {0}). ‵ (fsep ftrue ftrue)
          ⊛ raw (fact 𝓤 (Told p)) ⊛ ‵ (owned Byte (slots_ptr r) (slots_len r) (slots_items r) fs))))) (id⊢ 𝓤 _) $ await ! tt $ pick ! (λ p.
          split ! $ move ! (1 ∷ []) $ pick ! (λ ws. split ! $ drop ! $ split ! $ heard ! (Told p) (λ told. fsplit ! $ drop ! $
          rewrite ! 0 (λ (u : List ℕ). ‵ (in_block (slots_ptr r) (slots Byte (slots_ptr r) u fs))) is.0 refl $
          rewrite ! 0 (λ (u : Ptr). ‵ (in_block u (slots Byte u xs fs))) lies.0 refl $ use1 𝓛 (‵ (held 𝓛 b xs o)) (full fs long is.1) $ move ! (1 ∷ []) $ split ! $ split ! $ move ! (2 ∷ []) $
          fpick ! (λ vss. fsplit ! $ feq_l ! (λ value. fsplit3 ! $ feq_l ! (λ e₀. fsplit ! $ feq_l ! (λ e₁. now ! $
          check ! (ap only value ∙ (λ i. vstruct (of_list (e₀ i ++ (e₁ i ++ [])))) ∙ (λ i. words_val ((told.0 ∙ lies.0) i) ((told.1 ∙ lies.1) i))) $ keep ! (4 ∷ 2 ∷ []) $ done !)))))))
