-- Loans of bytes are made, cut and joined. Assumes `Logic`.
--     neighbour, joined       where the second of two neighbours lies;  and the two as one
--     span_made       an open borrow closes as a loan of n bytes, where room for n bytes makes what was borrowed
--     span_cut        an empty loan is cut in two
--     both_opened, both_closed       two neighbours are opened at once, and closed as one, whatever the bytes are by then
use Rattle.dml_arena.proofs.Steps.{◌≡◌, ℕ, ◌+◌, ◌-◌, ◌≤◌, List, [], ◌∷◌, refl, sym, ap, ◌∙◌, arith, Ura, SProp, ent, sep, emp, id⊢, Item, Lft, GName, Share, Fml, ftrue, fsep, fobs, fbor, fobor, flft, Logic, sem, Body, ‵, raw, ◌⊛◌, some, later, ◌$◌, ◌∵◌, !, qed, by, move, keep, drop, use1, use2, use3, split, split3, join, pick, fsplit, fjoin, fpick, fpack, rewrite, suffices, group, await, updating, now, done, Ptr, block_ptr, block_of, count_of, ◌++◌, ◌^◌, ◌<◌, length-append, length}
use base.Logic.{ex, upd_i}
use base.Fml.{fseps, fwand, fupd, fdead, fauth}
use types.Kit.{assume, show, mean}
use types.Mut.{open_ref}
use types.Tokens.{bor_open, obor_alter, name_agree, name_new, name_set}
use types.Merge.{bor_combine}
use types.Follow.{after₂, takes_two}
use denote.Steps.{nothing}
use Rattle.dml_arena.specs.declared.span.Span.{Span}
use Rattle.dml_arena.specs.Ownership.{front, Front}
use Rattle.dml_arena.proofs.Fronts.{rm, rooms_cut, fresh, spent, cut_fresh, both_spent}

-- where the second of two neighbours lies
pub neighbour : (r p : Ptr) (b o m : ℕ) → r ≡ block_ptr (block_of r) (count_of r) → p ≡ block_ptr b o → block_of r ≡ block_of p → count_of r ≡ count_of p + m → r ≡ block_ptr b (o + m)
neighbour r p b o m solid e same next = solid ∙ (λ i. block_ptr ((same ∙ ap block_of e) i) ((next ∙ ap (λ (s : Ptr). count_of s + m) e) i))

-- two neighbours as one, under the name γ
pub joined_fits : (x z : Span) (b o : ℕ) → z.ptr ≡ block_ptr b (o + x.room) → o + (x.room + z.room) < 2 ^ 63
joined_fits x z b o e = let place = ap count_of e in let fits = z.fits in omega (arith, place, fits)

pub joined_held : (x z : Span) → length (x.bytes ++ z.bytes) ≤ x.room + z.room
joined_held x z = let long = length-append x.bytes z.bytes in let first = x.held in let second = z.held in omega (arith, long, first, second)

abbrev pub joined : (x z : Span) (b o : ℕ) → z.ptr ≡ block_ptr b (o + x.room) → GName → Span
joined x z b o e γ = record {
  ptr = block_ptr b o;
  mark = record {};
  name = γ;
  tie = x.tie;
  room = x.room + z.room;
  bytes = x.bytes ++ z.bytes;
  fits = joined_fits x z b o e;
  held = joined_held x z;
  solid = refl;
}

module _ {M : Type 1} {𝓤 : Ura M} (𝓛 : Logic 𝓤) (κ : Lft) (q : Share) (b : ℕ) where
  open 𝓛 use {H, A}

  -- a loan of n bytes at o, of which the first are xs, under the name γ
  abbrev pub Loan : ℕ → ℕ → List ℕ → GName → Fml
  Loan n o xs γ = fsep (fobs γ ((Front n).coded.code xs)) (fbor κ (Body (Front n) b o γ))

  abbrev pub Made : ℕ → ℕ → List ℕ → SProp 𝓤
  Made n o xs = ex 𝓤 (λ (γ : GName). sep 𝓤 (sem 𝓛 (Loan n o xs γ)) (A.lft κ q))

  module _ (n o : ℕ) (P : Fml) (Rest : SProp 𝓤) (back : ent 𝓤 (sep 𝓤 (sem 𝓛 (rm 𝓛 b n o)) Rest) (sem 𝓛 P)) where
    way_back : (γ : GName) → ent 𝓤 Rest (sem 𝓛 (fwand (fsep (fdead κ) (fseps (Body (Front n) b o γ ∷ []))) (fupd P)))
    unfolding fseps
    way_back γ = qed 𝓛 (raw Rest ∷ []) ∵ assume ! (‵ (fsep (fdead κ) (fseps (Body (Front n) b o γ ∷ [])))) $ suffices ! (sem 𝓛 P) (upd_i 𝓤 (sem 𝓛 P)) $
        fsplit ! $ drop ! $ fsplit ! $ fpick ! (λ ys. fsplit ! $ use1 𝓛 (‵ (rm 𝓛 b n o)) (spent 𝓛 b n ys o) $ keep ! (0 ∷ 3 ∷ []) $ by ! back)

    pub span_made : (xs : List ℕ) → ent 𝓤 (sep 𝓤 (A.obor κ q P) (sep 𝓤 (sem 𝓛 (front n xs b o)) Rest)) (H.⇛ (Made n o xs))
    unfolding fseps
    span_made xs =
        qed 𝓛 (‵ (fobor κ q P) ∷ ‵ (front n xs b o) ∷ raw Rest ∷ []) ∵ updating ! $ name_new ! tt ((Front n).coded.code xs) (λ γ.
        move ! (3 ∷ 1 ∷ []) $ fjoin ! $ fpack ! (List ℕ) (λ ys. fsep (front n ys b o) (fauth γ ((Front n).coded.code ys))) xs $
        -- [what is lent; the name's half; the open borrow; the rest]
        move ! (3 ∷ []) $ use1 𝓛 (‵ (fwand (fsep (fdead κ) (fseps (Body (Front n) b o γ ∷ []))) (fupd P))) (way_back γ) $
        nothing ! $ move ! (2 ∷ 0 ∷ []) $ fjoin ! $ move ! (3 ∷ 0 ∷ 1 ∷ []) $ obor_alter ! tt (Body (Front n) b o γ ∷ []) $
        use1 𝓛 (‵ (fbor κ (Body (Front n) b o γ)) ⊛ ‵ ftrue) (id⊢ 𝓤 _) $ split ! $ now ! $ show ! (λ (δ : GName). sep 𝓤 (sem 𝓛 (Loan n o xs δ)) (A.lft κ q)) γ $
        move ! (3 ∷ 0 ∷ []) $ fjoin ! $ keep ! (0 ∷ 2 ∷ []) $ done !)

  -- the two loans, side by side
  abbrev pub Halves : ℕ → ℕ → ℕ → GName × GName → Item 𝓤
  Halves m n o γs = ‵ (Loan m o [] γs.0) ⊛ ‵ (Loan n (o + m) [] γs.1) ⊛ ‵ (flft κ q)

  pub span_cut : (m n o : ℕ) (γ : GName) → m ≤ n → ent 𝓤 (sep 𝓤 (sem 𝓛 (Loan n o [] γ)) (A.lft κ q)) (H.⇛ (mean 𝓛 (some (Halves m (n - m) o))))
  span_cut m n o γ fit =
      let F : List ℕ → List ℕ → List ℕ = λ _ _. [] in
      let code = (Front n).coded.code [] in
      let back = λ (xs ys : List ℕ). qed 𝓛 (‵ (front m xs b o) ∷ ‵ (front (n - m) ys b (o + m)) ∷ raw (emp 𝓤) ∷ []) {P = sem 𝓛 (front n [] b o)} (
      use2 𝓛 (‵ (rm 𝓛 b n o)) (both_spent 𝓛 b m (n - m) n o xs ys (omega (arith, fit))) $ use1 𝓛 (‵ (front n [] b o)) (fresh 𝓛 b n o) $ keep ! (0 ∷ []) $ done !) in
      qed 𝓛 (‵ (Loan n o [] γ) ∷ ‵ (flft κ q) ∷ []) ∵ updating ! $ fsplit ! $ open_ref ! tt (Front n) {x = []} {b = b} {o = o} $
      use1 𝓛 (‵ (front m [] b o) ⊛ ‵ (front (n - m) [] b (o + m))) (cut_fresh 𝓛 b m n o fit) $ split ! $ nothing ! $ move ! (3 ∷ 4 ∷ 5 ∷ 1 ∷ 2 ∷ 0 ∷ []) $ group ! 6 $
      use1 𝓛 (later (some (λ (γs : GName × GName). (‵ (fobs γs.0 ((Front m).coded.code [])) ⊛ ‵ (fbor κ (Body (Front m) b o γs.0))) ⊛ (‵ (fobs γs.1 ((Front (n - m)).coded.code [])) ⊛ ‵ (fbor κ (Body (Front (n - m)) b (o + m) γs.1)))
      ⊛ ‵ (flft κ q) ⊛ ‵ (after₂ (Front n) (Front m) (Front (n - m)) γ γs.0 γs.1 F))))
      (takes_two 𝓛 (Front n) (Front m) (Front (n - m)) F κ q b o b o b (o + m) γ (emp 𝓤) back code code [] []) $ await ! tt $ pick ! (λ γs. split3 ! $
      split ! $ fjoin ! $ move ! (1 ∷ []) $ split ! $ fjoin ! $ move ! (2 ∷ []) $ split ! $ now ! $ show ! (λ (δs : GName × GName). mean 𝓛 (Halves m (n - m) o δs)) γs $ keep ! (3 ∷ 2 ∷ 0 ∷ []) $ done !)

  module _ (m n o : ℕ) (γ₁ γ₂ : GName) where
    abbrev pub Pair : Fml
    Pair = fsep (Body (Front m) b o γ₁) (Body (Front n) b (o + m) γ₂)

    -- the right to close both, once they are room
    abbrev pub Names : SProp 𝓤
    Names = sep 𝓤 (A.auth γ₁ ((Front m).coded.code [])) (A.auth γ₂ ((Front n).coded.code []))

    pub both_opened : (xs ys : List ℕ) → ent 𝓤 (sep 𝓤 (sem 𝓛 (Loan m o xs γ₁)) (sep 𝓤 (sem 𝓛 (Loan n (o + m) ys γ₂)) (A.lft κ q)))
        (H.⇛ (sep 𝓤 (sem 𝓛 (front m xs b o)) (sep 𝓤 (sem 𝓛 (front n ys b (o + m))) (sep 𝓤 (A.obor κ q Pair) Names))))
    both_opened xs ys =
        qed 𝓛 (‵ (Loan m o xs γ₁) ∷ ‵ (Loan n (o + m) ys γ₂) ∷ ‵ (flft κ q) ∷ []) ∵ updating ! $ fsplit ! $ move ! (2 ∷ []) $ fsplit ! $ move ! (3 ∷ 1 ∷ 4 ∷ []) $
        use3 𝓛 (later (‵ (fbor κ Pair) ⊛ ‵ (flft κ q))) (bor_combine 𝓛 κ q (Body (Front m) b o γ₁) (Body (Front n) b (o + m) γ₂)) $ await ! tt $ split ! $ bor_open ! tt $
        -- [the open borrow; both; the second's half of its name; the first's]
        move ! (1 ∷ []) $ fsplit ! $ fpick ! (λ us. fsplit ! $ move ! (5 ∷ 1 ∷ []) $ name_agree ! (Front m).coded (λ is. name_set ! tt ((Front m).coded.code []) $ drop ! $
        -- [the first's authority; its bytes; the second; the open borrow; its half]
        move ! (2 ∷ []) $ fpick ! (λ vs. fsplit ! $ move ! (5 ∷ 1 ∷ []) $ name_agree ! (Front n).coded (λ is'. name_set ! tt ((Front n).coded.code []) $ drop ! $
        rewrite ! 1 (λ (zs : List ℕ). ‵ (front n zs b (o + m))) (sym is') refl $ rewrite ! 3 (λ (zs : List ℕ). ‵ (front m zs b o)) (sym is) refl $
        move ! (2 ∷ 0 ∷ []) $ join ! $ now ! $ move ! (2 ∷ 1 ∷ 3 ∷ 0 ∷ []) $ done !))))

    pub both_closed : (xs : List ℕ) → ent 𝓤 (sep 𝓤 (A.obor κ q Pair) (sep 𝓤 (sem 𝓛 (front (m + n) xs b o)) Names)) (H.⇛ (Made (m + n) o xs))
    both_closed = span_made (m + n) o Pair Names
        (qed 𝓛 (‵ (rm 𝓛 b (m + n) o) ∷ (‵ (fauth γ₁ ((Front m).coded.code [])) ⊛ ‵ (fauth γ₂ ((Front n).coded.code []))) ∷ []) ∵
        use1 𝓛 (‵ (rm 𝓛 b m o) ⊛ ‵ (rm 𝓛 b n (o + m))) (rooms_cut 𝓛 b m n (m + n) o refl) $ split ! $ use1 𝓛 (‵ (front m [] b o)) (fresh 𝓛 b m o) $
        move ! (1 ∷ []) $ use1 𝓛 (‵ (front n [] b (o + m))) (fresh 𝓛 b n (o + m)) $ move ! (2 ∷ []) $ split ! $ move ! (2 ∷ 1 ∷ []) $ fjoin ! $
        fpack ! (List ℕ) (λ ys. fsep (front n ys b (o + m)) (fauth γ₂ ((Front n).coded.code ys))) [] $ move ! (2 ∷ 1 ∷ []) $ fjoin ! $
        fpack ! (List ℕ) (λ xs. fsep (front m xs b o) (fauth γ₁ ((Front m).coded.code xs))) [] $ fjoin ! $ done !)
