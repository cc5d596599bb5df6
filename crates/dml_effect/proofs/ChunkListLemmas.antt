-- The chunks of a job, cut one after another from a region.
use Rattle.std.proofs.Common.{◌≡◌, ℕ, List, [], ◌∷◌, ◌++◌, refl, sym, ◌∙◌, subst}
use Rattle.dml_arena.specs.Piece.{Piece}
use Rattle.dml_effect.specs.Chunks.{AreChunksFrom, IsBehind}

module _ {P : Type 0} (IsValueFrom : ℕ → P → Type 0) (end : P → ℕ) (region : P → Piece) where
  -- the first of some pieces stands behind a region, or what is left does
  abbrev pub IsNextTo : Piece → Piece → List P → Type 0
  IsNextTo left before [] = IsBehind before left
  IsNextTo left before (next ∷ pieces) = IsBehind before (region next)

  -- the values of all chunks from an offset up to `last`, before what is left of the region
  abbrev pub AreChunksBefore : Piece → ℕ → ℕ → List P → Type 0
  AreChunksBefore left last from [] = from ≡ last
  AreChunksBefore left last from (piece ∷ pieces) =
      IsValueFrom from piece × IsNextTo left (region piece) pieces × AreChunksBefore left last (end piece) pieces

  pub one_more : (pieces : List P) (from last : ℕ) (left rest : Piece) (piece : P) → AreChunksBefore left last from pieces → IsValueFrom last piece
      → (region piece).opening ≡ left.opening → (region piece).start ≡ left.start → IsBehind (region piece) rest
      → AreChunksBefore rest (end piece) from (pieces ++ (piece ∷ []))
  one_more [] from last left rest piece chunks value opening start behind = (subst (λ (n : ℕ). IsValueFrom n piece) (sym chunks) value, behind, refl)
  one_more (p ∷ []) from last left rest piece chunks value opening start behind =
      (chunks.0, (opening ∙ chunks.1.0, start ∙ chunks.1.1), one_more [] (end p) last left rest piece chunks.2 value opening start behind)
  one_more (p ∷ q ∷ pieces) from last left rest piece chunks value opening start behind =
      (chunks.0, chunks.1, one_more (q ∷ pieces) (end p) last left rest piece chunks.2 value opening start behind)

  pub all_chunks : (pieces : List P) (from last : ℕ) (left : Piece) → AreChunksBefore left last from pieces → AreChunksFrom IsValueFrom end region last from pieces
  all_chunks [] from last left chunks = chunks
  all_chunks (p ∷ []) from last left chunks = (chunks.0, tt, chunks.2)
  all_chunks (p ∷ q ∷ pieces) from last left chunks = (chunks.0, chunks.1, all_chunks (q ∷ pieces) (end p) last left chunks.2)
