-- The pieces of a job that were joined so far are one chunk from its start on; those that are to come go on from there.
use Rattle.std.proofs.Common.{◌≡◌, ℕ, ◌+◌, ◌-◌, ◌≤◌, Bool, false, List, [], ◌∷◌, length, Option, None, Some, MatchOption, sym, ◌∙◌, ap, ap₂, subst, arith}
use Rattle.std.specs.Iterator.{AlwaysYields}
use Rattle.std.specs.Iterator.Adapters.{once_item, once_steps}
use Rattle.std.specs.declared.iter.Once.{Once}
use Rattle.std.proofs.lemmas.Iterator.Consumers.{YieldsList-from_shown}
use Rattle.dml_types.specs.declared.findings.Found.{Found}
use Rattle.dml_types.specs.declared.findings.Found.TheVariants.{All, Differs, Fault}
use Rattle.dml_types.specs.declared.jobs.Job.{Job}
use Rattle.dml_types.specs.declared.operations.Direction.{Direction}
use Rattle.dml_types.specs.declared.operations.Op.{Op}
use Rattle.dml_types.specs.Job.{op_of}
use Rattle.dml_types.specs.Memory.{Memory}
use Rattle.dml_types.specs.Chunk.{scan_done, scan_found, scan_staged}
use Rattle.dml_types.specs.Bytewise.{operation_direction}
use Rattle.dml_arena.specs.Piece.{Piece}
use Rattle.dml_scan.specs.declared.scans.ScanPiece.{ScanPiece}
use Rattle.dml_scan.specs.Found.{done_count}
use Rattle.dml_scan.specs.Work.{IsWorkDirection}
use Rattle.dml_scan.proofs.ReachLemmas.{done_found, scan_done_within}
use Rattle.dml_effect.specs.Chunks.{IsBehind, FirstIsBehind, AreChunksFrom, IsScanFrom, scan_size, YieldsScans, IsWholeScan}
use Rattle.dml_effect.specs.Joined.{found_joined, staged_joined, is_over}
use Rattle.dml_effect.proofs.ChunkLemmas.{neighbours_found, neighbours_staged}

-- pieces of any kind, with the test whether nothing behind a piece is done any more
module _ {P : Type 0} (IsValueFrom : ℕ → P → Type 0) (end : P → ℕ) (region : P → Piece) (over : P → Bool) (last : ℕ) where
  abbrev pub IsJoined : Option P → List P → Type 0
  IsJoined whole chunks = MatchOption whole (AreChunksFrom IsValueFrom end region last 0 chunks) (λ below.
      IsValueFrom 0 below × AreChunksFrom IsValueFrom end region last (end below) chunks × (over below ≡ false → FirstIsBehind region (region below) chunks))

  -- of an iterator
  pub record IsJoinedWith {S : Type 0} (steps : S → Option P → S → Type 0) (whole : Option P) (rest : S) : Type 0 where
    pub chunks : List P
    pub yields : AlwaysYields steps (λ piece. piece) rest chunks
    pub joined : IsJoined whole chunks

  -- the piece that comes next
  pub record IsNext (below piece : P) (chunks : List P) : Type 0 where
    pub low : IsValueFrom 0 below
    pub high : IsValueFrom (end below) piece
    pub beside : over below ≡ false → IsBehind (region below) (region piece)
    pub behind : FirstIsBehind region (region piece) chunks
    pub rest : AreChunksFrom IsValueFrom end region last (end piece) chunks

  module _ {S : Type 0} (steps : S → Option P → S → Type 0) (rest next : S) where
    pub first_joined : (piece : P) → IsJoinedWith steps None rest → steps rest (Some piece) next → IsJoinedWith steps (Some piece) next
    first_joined piece before step = go before.chunks before.yields before.joined
      where
        go : (chunks : List P) → AlwaysYields steps (λ p. p) rest chunks → AreChunksFrom IsValueFrom end region last 0 chunks → IsJoinedWith steps (Some piece) next
        go [] yields values = absurd (yields piece next step)
        go (first ∷ chunks) yields values =
            let turn = yields.1 piece next step in
            let same : first ≡ piece = sym turn.0 in
            record {
              chunks = chunks;
              yields = turn.1;
              joined = subst (λ (p : P). IsValueFrom 0 p × AreChunksFrom IsValueFrom end region last (end p) chunks × (over p ≡ false → FirstIsBehind region (region p) chunks)) same
                  (values.0, values.2, λ _. values.1);
            }

    pub next_piece : (below piece : P) → IsJoinedWith steps (Some below) rest → steps rest (Some piece) next → (chunks : List P) × AlwaysYields steps (λ p. p) next chunks × IsNext below piece chunks
    next_piece below piece before step = go before.chunks before.yields before.joined
      where
        go : (chunks : List P) → AlwaysYields steps (λ p. p) rest chunks → IsJoined (Some below) chunks → (chunks : List P) × AlwaysYields steps (λ p. p) next chunks × IsNext below piece chunks
        go [] yields joined = absurd (yields piece next step)
        go (first ∷ chunks) yields joined =
            let turn = yields.1 piece next step in
            let same : first ≡ piece = sym turn.0 in (
              chunks,
              turn.1,
              subst (λ (p : P). IsNext below p chunks) same
                  (record { low = joined.0; high = joined.1.0; beside = joined.2; behind = joined.1.1; rest = joined.1.2 }),
            )

    -- both are joined to one, which ends where the later one ends, and whose region does where more is to be done
    pub both_joined : (below piece both : P) → IsJoinedWith steps (Some below) rest → steps rest (Some piece) next
        → IsValueFrom 0 both → end both ≡ end piece
        → (over both ≡ false → (region both).opening ≡ (region piece).opening)
        → (over both ≡ false → (region both).start + (region both).room ≡ (region piece).start + (region piece).room)
        → IsJoinedWith steps (Some both) next
    both_joined below piece both before step value ends opening place =
        let given = next_piece below piece before step in
        record {
          chunks = given.0;
          yields = given.1;
          joined = (
            value,
            subst (λ (n : ℕ). AreChunksFrom IsValueFrom end region last n given.0) (sym ends) given.2.rest,
            λ on. behind_both given.0 (opening on) (place on) given.2.behind,
          );
        }
      where
        behind_both : (chunks : List P) → (region both).opening ≡ (region piece).opening → (region both).start + (region both).room ≡ (region piece).start + (region piece).room → FirstIsBehind region (region piece) chunks → FirstIsBehind region (region both) chunks
        behind_both [] opened ended behind = tt
        behind_both (first ∷ chunks) opened ended behind = (behind.0 ∙ sym opened, behind.1 ∙ sym ended)

    pub all_joined : (whole : Option P) → IsJoinedWith steps whole rest → steps rest None next → MatchOption whole (last ≡ 0) (λ piece. IsValueFrom 0 piece × (end piece ≡ last))
    all_joined whole before step = go before.chunks before.yields whole before.joined
      where
        go : (chunks : List P) → AlwaysYields steps (λ p. p) rest chunks → (w : Option P) → IsJoined w chunks → MatchOption w (last ≡ 0) (λ piece. IsValueFrom 0 piece × (end piece ≡ last))
        go (first ∷ chunks) yields w joined = absurd (yields.0 next step)
        go [] yields None joined = sym joined
        go [] yields (Some below) joined = (joined.0, joined.1)

-- one piece is all
pub once_yields : {P : Type 0} (piece : P) (pieces : Once P) → once_item pieces ≡ Some piece → AlwaysYields once_steps (λ p. p) pieces (piece ∷ [])
once_yields {P} piece pieces item = (
  λ j step. let none : ◌≡◌ {A = Option P} None (Some piece) = step.0 ∙ item in absurd (cc),
  λ x j step.
      let first : Some x ≡ Some piece = step.0 ∙ item in
      (cc, λ y k next. let none : ◌≡◌ {A = Option P} (Some y) None = next.0 ∙ step.1 in absurd (cc)),
)

-- an array's pieces come in its order
pub array_yields : {P S : Type 0} (shown : S → List P) (pieces : S) (list : List P) → shown pieces ≡ list
    → AlwaysYields (λ s r t. MatchOption r ((length (shown s) ≡ 0) × (t ≡ s)) (λ x. shown s ≡ x ∷ shown t)) (λ piece. piece) pieces list
array_yields {P} {S} shown pieces list is =
    let steps : S → Option P → S → Type 0 = λ s r t. MatchOption r ((length (shown s) ≡ 0) × (t ≡ s)) (λ x. shown s ≡ x ∷ shown t) in
    subst (AlwaysYields steps (λ piece. piece) pieces) is
    (YieldsList-from_shown steps (λ piece. piece) shown (λ (s t : S) (h : steps s None t). h.0) (λ (s : S) (x : P) (t : S) (h : steps s (Some x) t). h) pieces).runs

-- Scans: what is joined so far, and what is to come
abbrev pub IsScanJoined : Op → Memory → Job → Direction → {S : Type 0} → (S → Option ScanPiece → S → Type 0) → Option ScanPiece → S → Type 0
IsScanJoined op memory job direction steps whole rest =
    IsJoinedWith (IsScanFrom op memory job) (λ p. p.to) (λ p. p.staged) (λ p. is_over direction p.found) (scan_size op job) steps whole rest

pub record IsJoinedSoFar {S : Type 0} (steps : S → Option ScanPiece → S → Type 0) (memory : Memory) (job : Job) (direction : Direction) (whole : Option ScanPiece) (rest : S) : Type 0 where
  pub op : Op
  pub operation : op_of job ≡ Some op
  pub way : direction ≡ operation_direction op job
  pub scans : IsScanJoined op memory job direction steps whole rest

-- a chunk's value does no more than its bytes
pub value_done : (op : Op) (memory : Memory) (job : Job) (from : ℕ) (piece : ScanPiece) → IsScanFrom op memory job from piece → done_count 0 piece.found ≤ piece.to - piece.from
value_done op memory job from piece value =
    let found : done_count (piece.to - from) piece.found ≡ scan_done op memory job from piece.to = ap (done_count (piece.to - from)) value.found ∙ done_found op memory job from piece.to in
    omega (arith, found, scan_done_within op memory job from piece.to, fewer (piece.to - from) piece.found, value.begins)
  where
    fewer : (n : ℕ) (found : Found) → done_count 0 found ≤ done_count n found
    fewer n All = omega arith
    fewer n (Differs done) = omega arith
    fewer n (Fault done place write) = omega arith

module _ {S : Type 0} (steps : S → Option ScanPiece → S → Type 0) (memory : Memory) (job : Job) (direction : Direction) where
  pub joined_none : (rest : S) → IsWorkDirection job direction → YieldsScans steps memory job rest → IsJoinedSoFar steps memory job direction None rest
  joined_none rest way given = record {
    op = given.op;
    operation = given.operation;
    way = way given.op given.operation;
    scans = record { chunks = given.chunks; yields = given.yields; joined = given.values };
  }

  module _ (rest next : S) where
    pub joined_first : (piece : ScanPiece) → IsJoinedSoFar steps memory job direction None rest → steps rest (Some piece) next → IsJoinedSoFar steps memory job direction (Some piece) next
    joined_first piece before step =
        record { op = before.op; operation = before.operation; way = before.way; scans = first_joined _ _ _ _ _ steps rest next piece before.scans step }

    -- the piece so far and the next one
    pub neighbour : (below piece : ScanPiece) → (before : IsJoinedSoFar steps memory job direction (Some below) rest) → steps rest (Some piece) next
        → (chunks : List ScanPiece) × AlwaysYields steps (λ p. p) next chunks × IsNext (IsScanFrom before.op memory job) (λ p. p.to) (λ p. p.staged) (λ p. is_over direction p.found) (scan_size before.op job) below piece chunks
    neighbour below piece before step = next_piece _ _ _ _ _ steps rest next below piece before.scans step

    pub joined_next : (below piece both : ScanPiece)
        → IsJoinedSoFar steps memory job direction (Some below) rest → steps rest (Some piece) next
        → both.from ≡ below.from → both.to ≡ piece.to
        → both.found ≡ found_joined direction (below.to - below.from) below.found (piece.to - piece.from) piece.found
        → both.staged.bytes ≡ staged_joined direction below.found below.staged.bytes piece.found piece.staged.bytes
        → (is_over direction both.found ≡ false → both.staged.opening ≡ piece.staged.opening)
        → (is_over direction both.found ≡ false → both.staged.start + both.staged.room ≡ piece.staged.start + piece.staged.room)
        → IsJoinedSoFar steps memory job direction (Some both) next
    joined_next below piece both before step from to found staged opening end =
        let given = (neighbour below piece before step).2 in
        let low = given.low in
        let high = given.high in
        let op = before.op in
        let way = sym before.way in
        let f = neighbours_found op memory job 0 below.to piece.to low.order high.order direction way in
        let s = neighbours_staged op memory job 0 below.to piece.to low.order high.order direction way in
        let below_long : below.to - below.from ≡ below.to - 0 = ap (λ (n : ℕ). below.to - n) low.begins in
        let piece_long : piece.to - piece.from ≡ piece.to - below.to = ap (λ (n : ℕ). piece.to - n) high.begins in
        let value : IsScanFrom op memory job 0 both = record {
          begins = from ∙ low.begins;
          order = omega arith;
          found = found ∙ (ap₂ (λ (n m : ℕ). found_joined direction n below.found m piece.found) below_long piece_long ∙ (ap₂ (λ (a b : Found). found_joined direction (below.to - 0) a (piece.to - below.to) b) low.found high.found ∙ (sym f ∙ ap (scan_found op memory job 0) (sym to))));
          staged = staged ∙ (ap₂ (λ (a b : Found). staged_joined direction a below.staged.bytes b piece.staged.bytes) low.found high.found ∙ (ap₂ (λ (xs ys : List ℕ). staged_joined direction (scan_found op memory job 0 below.to) xs (scan_found op memory job below.to piece.to) ys) low.staged high.staged ∙ (sym s ∙ ap (scan_staged op memory job 0) (sym to))));
        } in
        record { op = op; operation = before.operation; way = before.way; scans = both_joined _ _ _ _ _ steps rest next below piece both before.scans step value to opening end }

    pub joined_all : (whole : Option ScanPiece) → IsJoinedSoFar steps memory job direction whole rest → steps rest None next → IsWholeScan memory job whole
    joined_all whole before step =
        record { op = before.op; operation = before.operation; value = all_joined _ _ _ _ _ steps rest next whole before.scans step }

-- a job that is one piece
pub once_yields_scan : (memory : Memory) (job : Job) (piece : ScanPiece) (pieces : Once ScanPiece) → once_item pieces ≡ Some piece → IsWholeScan memory job (Some piece) → YieldsScans once_steps memory job pieces
once_yields_scan memory job piece pieces item whole =
    record { op = whole.op; operation = whole.operation; chunks = piece ∷ []; yields = once_yields piece pieces item; values = (whole.value.0, tt, whole.value.1) }
