-- One more chunk at the end of those of a job.
use Rattle.std.proofs.Common.{ℕ, List, [], ◌∷◌, ◌++◌, refl, sym, subst}
use Rattle.std.specs.Bool.{⊤}
use Rattle.dml_arena.specs.Piece.{Piece}
use Rattle.dml_effect.specs.Chunks.{AreChunksFrom, IsBehind}

-- a place lies right behind the last of some chunks
abbrev pub LastIsBefore : {P : Type 0} → (P → Piece) → List P → Piece → Type 0
LastIsBefore region [] next = ⊤
LastIsBefore region (piece ∷ []) next = IsBehind (region piece) next
LastIsBefore region (piece ∷ second ∷ pieces) next = LastIsBefore region (second ∷ pieces) next

module _ {P : Type 0} (IsValueFrom : ℕ → P → Type 0) (end : P → ℕ) (region : P → Piece) where
  pub last_pushed : (pieces : List P) (last : P) (next : Piece) → IsBehind (region last) next → LastIsBefore region (pieces ++ last ∷ []) next
  last_pushed [] last next behind = behind
  last_pushed (piece ∷ []) last next behind = behind
  last_pushed (piece ∷ second ∷ pieces) last next behind = last_pushed (second ∷ pieces) last next behind

  pub chunks_pushed : (from to : ℕ) (pieces : List P) (last : P) → AreChunksFrom IsValueFrom end region to from pieces
      → IsValueFrom to last → LastIsBefore region pieces (region last)
      → AreChunksFrom IsValueFrom end region (end last) from (pieces ++ last ∷ [])
  chunks_pushed from to [] last chunks value behind = (subst (λ (n : ℕ). IsValueFrom n last) (sym chunks) value, tt, refl)
  chunks_pushed from to (piece ∷ []) last chunks value behind =
      (chunks.0, behind, chunks_pushed (end piece) to [] last chunks.2 value tt)
  chunks_pushed from to (piece ∷ second ∷ pieces) last chunks value behind =
      (chunks.0, chunks.1, chunks_pushed (end piece) to (second ∷ pieces) last chunks.2 value behind)
