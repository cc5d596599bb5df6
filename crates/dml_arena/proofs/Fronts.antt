-- Room for bytes is cut and glued, and so are bytes with room behind them. `front` is in `specs/Ownership.antt`.
--     rooms_cut, rooms_glued      room for t bytes is room for m and for n side by side, where m + n ≡ t
--     front_of            bytes, and r places of room behind them
--     fresh, spent        room that holds no bytes yet;  and what held some is room again
--     cut_fresh, both_spent       of two such side by side
--     shortened           the bytes past the first k become room
--     opened_behind, two_held     room behind the bytes is taken out;  bytes behind bytes, and room behind them
--     met, gap_closed     two side by side as one: where the bytes touch;  and once they were moved over the gap between them
-- Assumes `Logic`.
use Rattle.dml_arena.proofs.Steps.{◌≡◌, ℕ, ◌+◌, ◌-◌, ◌≤◌, List, [], ◌∷◌, ◌++◌, refl, sym, ap, subst, ◌∙◌, arith, length, take, Ura, full_share, SProp, ent, sep, id⊢, Fml, ftrue, fsep, froom, Logic, sem, ‵, ◌⊛◌, ◌$◌, ◌∵◌, !, qed, by, move, drop, use0, use1, use2, split, fsplit, fjoin, fpick, fpack, rewrite, done, w8, ty_int, bytes}
use Rattle.std.proofs.Common.{◌⊎◌, inl, inr}
use mathlib.Core.List.{append-nil}
use lib.ListN.{drop as past_first, length-append, length-take, length-drop, take-append-drop}
use denote.RawPtr.Room.{room_cut, room_glue, past_bytes}
use denote.RawPtr.Bytes.{bytes_cut, bytes_glue, bytes-room}
use Rattle.dml_arena.specs.Ownership.{bytes_type, front}

module _ {M : Type 1} {𝓤 : Ura M} (𝓛 : Logic 𝓤) (b : ℕ) where
  abbrev ◌⊢◌ : SProp 𝓤 → SProp 𝓤 → Type 1
  P ⊢ Q = ent 𝓤 P Q

  abbrev ◌∗◌ : SProp 𝓤 → SProp 𝓤 → SProp 𝓤
  P ∗ Q = sep 𝓤 P Q

  abbrev ⟦◌⟧ : Fml → SProp 𝓤
  ⟦ P ⟧ = sem 𝓛 P

  infix 26 ◌⊢◌
  infixr 35 ◌∗◌
  -- room for n bytes from o on, and the bytes xs there
  abbrev pub rm : ℕ → ℕ → Fml
  rm n o = froom (bytes_type n) b o

  abbrev pub held : List ℕ → ℕ → Fml
  held xs o = bytes full_share xs b o

  pub rooms_cut : (m n t o : ℕ) → m + n ≡ t → ⟦ rm t o ⟧ ⊢ ⟦ rm m o ⟧ ∗ ⟦ rm n (o + m) ⟧
  rooms_cut m n t o e = subst (λ (k : ℕ). ⟦ rm k o ⟧ ⊢ ⟦ rm m o ⟧ ∗ ⟦ rm n (o + m) ⟧) e
      (subst (λ (k : ℕ). ⟦ rm (m + n) o ⟧ ⊢ ⟦ rm m o ⟧ ∗ ⟦ rm n k ⟧) (past_bytes m o) (room_cut 𝓛 (ty_int w8) m n b o))

  pub rooms_glued : (m n t o : ℕ) → m + n ≡ t → ⟦ rm m o ⟧ ∗ ⟦ rm n (o + m) ⟧ ⊢ ⟦ rm t o ⟧
  rooms_glued m n t o e = subst (λ (k : ℕ). ⟦ rm m o ⟧ ∗ ⟦ rm n (o + m) ⟧ ⊢ ⟦ rm k o ⟧) e
      (subst (λ (k : ℕ). ⟦ rm m o ⟧ ∗ ⟦ rm n k ⟧ ⊢ ⟦ rm (m + n) o ⟧) (past_bytes m o) (room_glue 𝓛 (ty_int w8) m n b o))

  pub front_of : (n : ℕ) (xs : List ℕ) (o r : ℕ) → length xs + r ≡ n → ⟦ held xs o ⟧ ∗ ⟦ rm r (o + length xs) ⟧ ⊢ ⟦ front n xs b o ⟧
  front_of n xs o r e =
      let m : ℕ = length xs in
      let fit : m ≤ n = omega (arith, e) in
      let left : r ≡ n - m = omega (arith, e) in
      qed 𝓛 (‵ (held xs o) ∷ ‵ (rm r (o + m)) ∷ []) ∵ rewrite ! 1 (λ (k : ℕ). ‵ (rm k (o + m))) left refl $ fjoin ! $
      fpack ! (m ≤ n) (λ _. fsep (held xs o) (rm (n - m) (o + m))) fit $ done !

  pub fresh : (n o : ℕ) → ⟦ rm n o ⟧ ⊢ ⟦ front n [] b o ⟧
  fresh n o =
      let here : o ≡ o + 0 = omega arith in
      qed 𝓛 (‵ (rm n o) ∷ []) ∵ rewrite ! 0 (λ (k : ℕ). ‵ (rm n k)) here refl $ use0 𝓛 (‵ ftrue) (id⊢ 𝓤 _) $ by ! (front_of n [] o n (omega arith))

  pub spent : (n : ℕ) (xs : List ℕ) (o : ℕ) → ⟦ front n xs b o ⟧ ⊢ ⟦ rm n o ⟧
  spent n xs o = qed 𝓛 (‵ (front n xs b o) ∷ []) ∵ fpick ! (λ fit. fsplit ! $ use1 𝓛 (‵ (rm (length xs) o)) (bytes-room 𝓛 xs b o) $
      by ! (rooms_glued (length xs) (n - length xs) n o (omega (arith, fit))))

  pub cut_fresh : (m n o : ℕ) → m ≤ n → ⟦ front n [] b o ⟧ ⊢ ⟦ front m [] b o ⟧ ∗ ⟦ front (n - m) [] b (o + m) ⟧
  cut_fresh m n o fit = qed 𝓛 (‵ (front n [] b o) ∷ []) ∵ use1 𝓛 (‵ (rm n o)) (spent n [] o) $
      use1 𝓛 (‵ (rm m o) ⊛ ‵ (rm (n - m) (o + m))) (rooms_cut m (n - m) n o (omega (arith, fit))) $ split ! $ use1 𝓛 (‵ (front m [] b o)) (fresh m o) $
      move ! (1 ∷ []) $ use1 𝓛 (‵ (front (n - m) [] b (o + m))) (fresh (n - m) (o + m)) $ move ! (1 ∷ 0 ∷ []) $ done !

  pub both_spent : (m n t o : ℕ) (xs ys : List ℕ) → m + n ≡ t → ⟦ front m xs b o ⟧ ∗ ⟦ front n ys b (o + m) ⟧ ⊢ ⟦ rm t o ⟧
  both_spent m n t o xs ys e = qed 𝓛 (‵ (front m xs b o) ∷ ‵ (front n ys b (o + m)) ∷ []) ∵ use1 𝓛 (‵ (rm m o)) (spent m xs o) $
      move ! (1 ∷ []) $ use1 𝓛 (‵ (rm n (o + m))) (spent n ys (o + m)) $ move ! (1 ∷ 0 ∷ []) $ by ! (rooms_glued m n t o e)

  pub shortened : (n k : ℕ) (xs : List ℕ) (o : ℕ) → k ≤ length xs → ⟦ front n xs b o ⟧ ⊢ ⟦ front n (take k xs) b o ⟧
  shortened n k xs o less =
      let kept : List ℕ = take k xs in
      let gone : List ℕ = past_first k xs in
      let long : length kept ≡ k = omega (arith, length-take k xs) in
      let rest : length gone ≡ length xs - k = length-drop k xs in
      let next : o + length kept + length gone ≡ o + length xs = omega (arith, long, rest) in
      let whole : xs ≡ kept ++ gone = sym (take-append-drop k xs) in
      qed 𝓛 (‵ (front n xs b o) ∷ []) ∵ fpick ! (λ fit. fsplit ! $ rewrite ! 0 (λ (zs : List ℕ). ‵ (held zs o)) whole refl $
      use1 𝓛 (‵ (held kept o) ⊛ ‵ (held gone (o + length kept))) (bytes_cut 𝓛 full_share kept gone b o) $ split ! $ move ! (1 ∷ []) $
      use1 𝓛 (‵ (rm (length gone) (o + length kept))) (bytes-room 𝓛 gone b (o + length kept)) $
      rewrite ! 2 (λ (z : ℕ). ‵ (rm (n - length xs) z)) (sym next) refl $ move ! (0 ∷ 2 ∷ []) $
      use2 𝓛 (‵ (rm (n - k) (o + length kept))) (rooms_glued (length gone) (n - length xs) (n - k) (o + length kept) (omega (arith, rest, fit, less))) $
      move ! (1 ∷ 0 ∷ []) $ by ! (front_of n kept o (n - k) (omega (arith, long, fit, less))))

  pub opened_behind : (n m j : ℕ) (o : ℕ) → m + j ≤ n → ⟦ rm (n - m) (o + m) ⟧ ⊢ ⟦ rm j (o + m) ⟧ ∗ ⟦ rm (n - m - j) (o + m + j) ⟧
  opened_behind n m j o fit = rooms_cut j (n - m - j) (n - m) (o + m) (omega (arith, fit))

  pub two_held : (n : ℕ) (xs ys : List ℕ) (o r : ℕ) → length xs + length ys + r ≡ n
      → ⟦ held xs o ⟧ ∗ (⟦ held ys (o + length xs) ⟧ ∗ ⟦ rm r (o + length xs + length ys) ⟧) ⊢ ⟦ front n (xs ++ ys) b o ⟧
  two_held n xs ys o r e =
      let long = length-append xs ys in
      let next : o + length xs + length ys ≡ o + length (xs ++ ys) = omega (arith, long) in
      qed 𝓛 (‵ (held xs o) ∷ ‵ (held ys (o + length xs)) ∷ ‵ (rm r (o + length xs + length ys)) ∷ []) ∵
      use2 𝓛 (‵ (held (xs ++ ys) o)) (bytes_glue 𝓛 full_share xs ys b o) $ rewrite ! 1 (λ (z : ℕ). ‵ (rm r z)) next refl $
      by ! (front_of n (xs ++ ys) o r (omega (arith, long, e)))

  pub met : (m n o : ℕ) (xs ys : List ℕ) → (length xs ≡ m) ⊎ (ys ≡ []) → ⟦ front m xs b o ⟧ ∗ ⟦ front n ys b (o + m) ⟧ ⊢ ⟦ front (m + n) (xs ++ ys) b o ⟧
  met m n o xs ys (inl full) =
      let here : o + m ≡ o + length xs = omega (arith, full) in
      let j : ℕ = length ys in
      qed 𝓛 (‵ (front m xs b o) ∷ ‵ (front n ys b (o + m)) ∷ []) ∵ fpick ! (λ _. fsplit ! $ move ! (1 ∷ []) $ drop ! $ move ! (1 ∷ []) $ fpick ! (λ fit. fsplit ! $
      rewrite ! 0 (λ (z : ℕ). ‵ (held ys z)) here refl $ rewrite ! 1 (λ (z : ℕ). ‵ (rm (n - j) (z + j))) here refl $ move ! (2 ∷ []) $
      by ! (two_held (m + n) xs ys o (n - j) (omega (arith, full, fit)))))
  met m n o xs ys (inr none) =
      let all : xs ≡ xs ++ ys = sym (append-nil xs) ∙ ap (λ (zs : List ℕ). xs ++ zs) (sym none) in
      qed 𝓛 (‵ (front m xs b o) ∷ ‵ (front n ys b (o + m)) ∷ []) ∵ fpick ! (λ fit. fsplit ! $ move ! (2 ∷ []) $ use1 𝓛 (‵ (rm n (o + m))) (spent n ys (o + m)) $
      let here : o + m ≡ o + length xs + (m - length xs) = omega (arith, fit) in
      rewrite ! 0 (λ (z : ℕ). ‵ (rm n z)) here refl $ move ! (2 ∷ 0 ∷ []) $
      use2 𝓛 (‵ (rm (m - length xs + n) (o + length xs))) (rooms_glued (m - length xs) n (m - length xs + n) (o + length xs) refl) $ move ! (1 ∷ 0 ∷ []) $
      use2 𝓛 (‵ (front (m + n) xs b o)) (front_of (m + n) xs o (m - length xs + n) (omega (arith, fit))) $ rewrite ! 0 (λ (zs : List ℕ). ‵ (front (m + n) zs b o)) all refl $ done !)

  -- what is held from o on and behind the gap, the gap, and the room behind all
  pub gap_closed : (m n o : ℕ) (xs ys : List ℕ) → length xs ≤ m → length ys ≤ n
      → ⟦ held xs o ⟧ ∗ (⟦ held ys (o + length xs) ⟧ ∗ (⟦ rm (m - length xs) (o + length xs + length ys) ⟧ ∗ ⟦ rm (n - length ys) (o + m + length ys) ⟧)) ⊢ ⟦ front (m + n) (xs ++ ys) b o ⟧
  gap_closed m n o xs ys fit fits =
      let i : ℕ = length xs in
      let j : ℕ = length ys in
      let r : ℕ = m - i + (n - j) in
      let here : o + m + j ≡ o + i + j + (m - i) = omega (arith, fit) in
      qed 𝓛 (‵ (held xs o) ∷ ‵ (held ys (o + i)) ∷ ‵ (rm (m - i) (o + i + j)) ∷ ‵ (rm (n - j) (o + m + j)) ∷ []) ∵
      rewrite ! 3 (λ (z : ℕ). ‵ (rm (n - j) z)) here refl $ move ! (2 ∷ 3 ∷ []) $
      use2 𝓛 (‵ (rm r (o + i + j))) (rooms_glued (m - i) (n - j) r (o + i + j) refl) $ move ! (1 ∷ 2 ∷ 0 ∷ []) $
      by ! (two_held (m + n) xs ys o r (omega (arith, fit, fits)))
