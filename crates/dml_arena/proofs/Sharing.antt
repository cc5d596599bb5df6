-- A `&` to a span holds its bytes, and a span may cross threads. Assumes `Logic`.
use Rattle.dml_arena.proofs.Steps.{ℕ, ◌+◌, ◌-◌, ◌≤◌, List, [], ◌∷◌, refl, length, Ura, full_share, ent, sep, emp, Lft, GName, Fml, Incl, Incl-refl, Incl-trans, fsep, feq, froom, fbor, meet_⊑_left, meet_⊑_right, ⊑_meet, fact, fact_i, Logic, sem, lfts, ‵, raw, ◌⊛◌, later, ◌$◌, ◌∵◌, !, qed, move, keep, drop, use0, use1, use2, split, fsplit, fjoin, fpick, fpack, feq_i, await, w8, updating, now, done, span, RattleType, Ptr, block_ptr, null_ptr, block_of, count_of, bytes}
use base.Fml.{fhide}
use mathlib.Core.List.{◌++◌}
use base.Shift.{Keyless}
use denote.Builtin.{u8}
use denote.Exit.{Exit, unchanged, leaves, hidden, under}
use denote.Param.Send.{IsSend, Quiet, AllSend, part_keyless, owning_send, struct_send, sendable}
use denote.Memory.{hidden_shr}
use denote.Opens.{hide, unhide}
use denote.Plain.{uint_row_laws}
use denote.RawPtr.{RawPtr}
use denote.Ref.{NamedLft, MutRef}
use denote.SharingLaws.{shortens}
use denote.Slice.{elements_shared}
use denote.Struct.Owning.{shape, fields, to}
use denote.Struct.Struct.{Struct, exits_of}
use Rattle.core.specs.contracts.marker.PhantomData as marker
use Rattle.dml_arena.specs.contracts.span.Span as C
use Rattle.dml_arena.specs.declared.span.Span.{Span}
use denote.Array.{Array, Array-row_laws}
use denote.Memory.{part_at}
use denote.RawPtr.Bytes.{bytes_whole, bytes_apart}
use denote.Copied.{uint_Copied}
use denote.Shares.{Shares, Shares-Array, bor-Cut, peels}
use denote.Struct.Lending.{lent_at, lent_at_shr_laws, lent_out, Lends, Lends-lies, Lends-false}
use denote.Steps.{heard}
use Rattle.dml_arena.specs.Ownership.{bytes_type, front, Front, span_owns, span_lent}

module _ {M : Type 1} {𝓤 : Ura M} (𝓛 : Logic 𝓤) where
  open 𝓛 use {H, A}

  bytes_share : (n : ℕ) (l : Lft) → Shares 𝓛 (Array u8 n) l
  bytes_share n l = Shares-Array 𝓛 u8 tt n l ((uint_Copied 𝓛 w8).shares full_share l)

  pub Lends-span : (κ : Lft) (γ : GName) (p : Ptr) (n : ℕ) (xs : List ℕ) (l : Lft) → Incl l κ → Lends 𝓛 (span_owns κ γ p n xs) (span_lent κ p xs) l
  Lends-span κ γ null_ptr n xs l ends α ts inc sp = Lends-false 𝓛 (span_lent κ null_ptr xs) l α ts inc sp
  Lends-span κ γ (block_ptr b o) n xs l ends α ts inc sp =
      let m : ℕ = length xs in
      let κ' : Lft = α ++ κ in
      let both : Incl (span ts) κ' = ⊑_meet (span ts) α κ sp (Incl-trans inc ends) in
      let P : Fml = span_owns κ γ (block_ptr b o) n xs in
      let Bytes : Fml = part_at (Array u8 m) full_share xs b o in
      let Room : Fml = froom (bytes_type (n - m)) b (o + m) in
      let fits : Type 0 = m ≤ n in
      qed 𝓛 (‵ (fbor α P) ∷ raw (lfts 𝓛 ts) ∷ []) {P = H.⇛ (sep 𝓤 (sem 𝓛 (span_lent κ (block_ptr b o) xs α)) (lfts 𝓛 ts))} (
      updating ! $ use1 𝓛 (‵ (fbor κ' P)) (𝓛.bors.bor_shorten α κ' P (meet_⊑_left α κ)) $
      use2 𝓛 (later (‵ (fbor κ' (front n xs b o)) ⊛ raw (lfts 𝓛 ts))) (peels 𝓛 (Front n) κ' κ ts both γ xs b o (meet_⊑_right α κ)) $ await ! tt $
      use1 𝓛 (later (‵ (fbor κ' Bytes) ⊛ (‵ (fbor κ' Room) ⊛ raw (lfts 𝓛 ts)))) (bor-Cut 𝓛 κ' ts both (front n xs b o) Bytes Room (fact 𝓤 fits)
      (qed 𝓛 (‵ Bytes ∷ ‵ Room ∷ raw (fact 𝓤 fits) ∷ []) {P = sem 𝓛 (front n xs b o)} (move ! (2 ∷ []) $ heard ! fits (λ fit.
      use1 𝓛 (‵ (fsep (feq ℕ (length xs) m) (bytes full_share xs b o))) (bytes_apart 𝓛 full_share m xs b o) $ fsplit ! $ drop ! $ fjoin ! $ fpack ! fits (λ _. fsep (bytes full_share xs b o) Room) fit $ done !)))
      (qed 𝓛 (‵ (front n xs b o) ∷ []) {P = sep 𝓤 (sem 𝓛 Bytes) (sep 𝓤 (sem 𝓛 Room) (fact 𝓤 fits))} (fpick ! (λ fit. fsplit ! $ feq_i ! ℕ (length xs) m refl $ fjoin ! $
      use1 𝓛 (‵ Bytes) (bytes_whole 𝓛 full_share m xs b o) $ use0 𝓛 (raw (fact 𝓤 fits)) (fact_i 𝓤 fits (emp 𝓤) fit) $ move ! (1 ∷ 2 ∷ 0 ∷ []) $ done !)))) $
      await ! tt $ split ! $ move ! (1 ∷ []) $ split ! $ drop ! $ move ! (1 ∷ 0 ∷ []) $
      use2 𝓛 (later (‵ (span_lent κ (block_ptr b o) xs α) ⊛ raw (lfts 𝓛 ts))) (Lends-lies 𝓛 (Array u8 m) l (block_ptr b o) xs (bytes_share m l xs) κ' ts inc both) $ await ! tt $ now ! $ done !)

  -- a `&` to a span shows where its bytes lie, and holds them
  pub shown : (a : NamedLft) (κ : Lft) → Incl κ a.lft → (h : Span) (b o : ℕ)
      → ent 𝓤 (sem 𝓛 (hidden_shr (C.the_row a) κ h b o)) (sep 𝓤 (sem 𝓛 (hidden_shr RawPtr κ h.ptr b (o + 0))) (sem 𝓛 (fhide (elements_shared u8 h.bytes (block_of h.ptr) (count_of h.ptr) κ))))
  shown a κ within h b o =
      let xs : List ℕ = h.bytes in
      let m : ℕ = length xs in
      let R : RattleType = Array u8 m in
      let Words : RattleType = Struct (shape (C.the_type a)) in
      let laws = lent_at_shr_laws R (Array-row_laws u8 (uint_row_laws w8) m) h.ptr xs in
      let here : Incl κ (κ ++ a.lft) = ⊑_meet κ κ a.lft (Incl-refl κ) within in
      qed 𝓛 (‵ (hidden_shr (C.the_row a) κ h b o) ∷ []) ∵
      use1 𝓛 (‵ (hidden_shr Words κ (h.ptr, (tt, tt)) b o) ⊛ ‵ (span_lent a.lft h.ptr xs κ)) (lent_out 𝓛 (C.struct a) (C.the_codes (marker.the_row (MutRef a.mir a.lft u8)).coded) (C.the_heap a.lft) (C.the_lent a.lft) κ h b o) $ split ! $
      unhide ! $ fsplit ! $ fsplit ! $ keep ! (0 ∷ 3 ∷ []) $ move ! (1 ∷ []) $ use1 𝓛 (‵ (lent_at R h.ptr xs κ)) (shortens 𝓛 (lent_at R h.ptr xs) laws (κ ++ a.lft) κ here) $
      fsplit ! $ drop ! $ fsplit ! $ drop ! $ hide ! $ move ! (1 ∷ 0 ∷ []) $ done !

-- ---- a span may cross threads: what it stores names no thread
bytes-Keyless : (xs : List ℕ) (b o : ℕ) → Keyless (bytes full_share xs b o)
bytes-Keyless [] b o = tt
bytes-Keyless (x ∷ xs) b o = (part_keyless u8 (search sendable) full_share x b o, bytes-Keyless xs b (o + 1))

owned-Keyless : (κ : Lft) (γ : GName) (p : Ptr) (n : ℕ) (xs : List ℕ) → Keyless (span_owns κ γ p n xs)
owned-Keyless κ γ (block_ptr b o) n xs = (tt, λ ys. ((λ _. (bytes-Keyless ys b o, tt)), tt))
owned-Keyless κ γ null_ptr n xs = tt

leaves_nothing : {D X : Type 0} (f : D → X) (e : Exit X) → Quiet e → Quiet (hidden (under f e))
leaves_nothing f unchanged q = λ x w. tt
leaves_nothing f (leaves L l P s r) q = λ d. q (f d)

pub Span-send : (a : NamedLft) → IsSend (C.the_row a)
Span-send a =
    let O = C.the_type a in
    let all : AllSend (fields O) = (search sendable, (search sendable, tt)) in
    owning_send O all (λ d. owned-Keyless a.lft d.name d.ptr d.room d.bytes) (λ k. leaves_nothing (to O) (exits_of k (fields O)) ((struct_send (shape O) all).leaving k))
