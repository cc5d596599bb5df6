-- The pieces of a create that were joined so far, and those that are to come.
use Rattle.std.proofs.Common.{◌≡◌, ℕ, ◌+◌, false, List, [], ◌∷◌, Option, None, Some, sym, ◌∙◌, ap, ap₂, arith}
use Rattle.std.specs.Prelude.{◌/◌, is_some}
use Rattle.std.specs.Iterator.{AlwaysYields}
use Rattle.std.specs.Iterator.Adapters.{once_item, once_steps}
use Rattle.std.specs.declared.iter.Once.{Once}
use Rattle.dml_types.specs.declared.jobs.Job.{Job}
use Rattle.dml_types.specs.Memory.{Memory}
use Rattle.dml_types.specs.Chunk.{create_fault, create_staged}
use Rattle.dml_delta.specs.declared.creates.CreatePiece.{CreatePiece}
use Rattle.dml_effect.specs.Chunks.{IsCreateFrom, IsWholeCreate, YieldsCreates}
use Rattle.dml_effect.specs.Joined.{entries_joined, fault_joined}
use Rattle.dml_effect.proofs.CreateChunkLemmas.{neighbours_fault, neighbours_staged}
use Rattle.dml_effect.proofs.JoinLemmas.{IsJoinedWith, IsNext, first_joined, next_piece, both_joined, all_joined, once_yields}

module _ {S : Type 0} (steps : S → Option CreatePiece → S → Type 0) (memory : Memory) (job : Job) where
  abbrev pub IsCreateJoined : Option CreatePiece → S → Type 0
  IsCreateJoined whole rest =
      IsJoinedWith (IsCreateFrom memory job) (λ p. p.to) (λ p. p.staged) (λ p. is_some p.fault) (job.size / 8) steps whole rest

  pub creates_none : (rest : S) → YieldsCreates steps memory job rest → IsCreateJoined None rest
  creates_none rest given = record { chunks = given.chunks; yields = given.yields; joined = given.values }

  module _ (rest next : S) where
    pub creates_first : (piece : CreatePiece) → IsCreateJoined None rest → steps rest (Some piece) next → IsCreateJoined (Some piece) next
    creates_first piece before step = first_joined _ _ _ _ _ steps rest next piece before step

    -- the piece so far and the next one
    pub next_create : (below piece : CreatePiece) → IsCreateJoined (Some below) rest → steps rest (Some piece) next
        → (chunks : List CreatePiece) × AlwaysYields steps (λ p. p) next chunks × IsNext (IsCreateFrom memory job) (λ p. p.to) (λ p. p.staged) (λ p. is_some p.fault) (job.size / 8) below piece chunks
    next_create below piece before step = next_piece _ _ _ _ _ steps rest next below piece before step

    pub creates_next : (below piece both : CreatePiece)
        → IsCreateJoined (Some below) rest → steps rest (Some piece) next
        → both.from ≡ below.from → both.to ≡ piece.to
        → both.fault ≡ fault_joined below.fault piece.fault
        → both.staged.bytes ≡ entries_joined below.fault below.staged.bytes piece.staged.bytes
        → (is_some both.fault ≡ false → both.staged.opening ≡ piece.staged.opening)
        → (is_some both.fault ≡ false → both.staged.start + both.staged.room ≡ piece.staged.start + piece.staged.room)
        → IsCreateJoined (Some both) next
    creates_next below piece both before step from to fault staged opening end =
        let given = (next_create below piece before step).2 in
        let low = given.low in
        let high = given.high in
        let f = neighbours_fault memory job 0 below.to piece.to low.order high.order in
        let s = neighbours_staged memory job 0 below.to piece.to low.order high.order in
        let value : IsCreateFrom memory job 0 both = record {
          begins = from ∙ low.begins;
          order = omega arith;
          fault = fault ∙ (ap₂ fault_joined low.fault high.fault ∙ (sym f ∙ ap (create_fault memory job 0) (sym to)));
          staged = staged ∙ (ap (λ (g : Option (ℕ × ℕ)). entries_joined g below.staged.bytes piece.staged.bytes) low.fault ∙ (ap₂ (entries_joined (create_fault memory job 0 below.to)) low.staged high.staged ∙ (sym s ∙ ap (create_staged memory job 0) (sym to))));
        } in
        both_joined _ _ _ _ _ steps rest next below piece both before step value to opening end

    pub creates_all : (whole : Option CreatePiece) → IsCreateJoined whole rest → steps rest None next → IsWholeCreate memory job whole
    creates_all whole before step = all_joined _ _ _ _ _ steps rest next whole before step

-- a create that is one piece
pub once_yields_create : (memory : Memory) (job : Job) (piece : CreatePiece) (pieces : Once CreatePiece) → once_item pieces ≡ Some piece → IsWholeCreate memory job (Some piece) → YieldsCreates once_steps memory job pieces
once_yields_create memory job piece pieces item whole =
    record { chunks = piece ∷ []; yields = once_yields piece pieces item; values = (whole.0, tt, whole.1) }
