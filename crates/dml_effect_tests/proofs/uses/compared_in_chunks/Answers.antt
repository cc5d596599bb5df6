use Rattle.std.proofs.Common.{◌≡◌, ℕ, ◌+◌, ◌⊎◌, ⊎_elim, List, [], ◌∷◌, ◌++◌, Some, refl, sym, ◌∙◌, ap, subst, arith, rules}
use Rattle.std.proofs.lemmas.Iterator.Adapters.{YieldsList-from_vec}
use Rattle.dml_types.specs.declared.jobs.Job.{Job}
use Rattle.dml_types.specs.declared.operations.Op.{Op}
use Rattle.dml_types.specs.declared.operations.Op.TheVariants.{ApplyDelta, Compare, ComparePattern, CreateDelta}
use Rattle.dml_types.specs.Job.{op_of}
use Rattle.dml_types.specs.Chunk.{scan_found, scan_staged}
use Rattle.dml_scan.specs.declared.scans.ScanPiece.{ScanPiece}
use Rattle.dml_effect.specs.Chunks.{AreChunksFrom, IsBehind, IsScanFrom, GoesByOffsets, scan_size}
use Rattle.dml_effect.proofs.ChunkListLemmas.{AreChunksBefore, all_chunks, one_more}
use Rattle.dml_effect_tests.proofs.uses.compared_in_chunks.Goals as goal

is_scanned : (job : Job) → (op_of job ≡ Some Compare) ⊎ (op_of job ≡ Some ComparePattern) → GoesByOffsets job
is_scanned job one = (
  λ (e : op_of job ≡ Some CreateDelta). ⊎_elim (λ is. absurd (cc)) (λ is. absurd (cc)) one,
  λ (e : op_of job ≡ Some ApplyDelta). ⊎_elim (λ is. absurd (cc)) (λ is. absurd (cc)) one,
)

-- a compare goes over its whole size
whole_size : (op : Op) (job : Job) → op_of job ≡ Some op → (op_of job ≡ Some Compare) ⊎ (op_of job ≡ Some ComparePattern) → scan_size op job ≡ job.size
whole_size op job operation one =
    ⊎_elim
    (λ (is : op_of job ≡ Some Compare). let same : op ≡ Compare = cc (sym operation ∙ is) in ap (λ (o : Op). scan_size o job) same)
    (λ (is : op_of job ≡ Some ComparePattern). let same : op ≡ ComparePattern = cc (sym operation ∙ is) in ap (λ (o : Op). scan_size o job) same)
    one

pub loop-from-preserved : goal.loop-from-preserved
loop-from-preserved c =
    let memory = c.args.image.now in
    let job = c.args.job.now in
    let op = c.op-op.result in
    let from = c.loop-from.from in
    let piece = c.scan_chunk.result in
    let scan = c.scan_chunk.ensures in
    let cut = c.cut-low.ensures in
    let rest = c.cut-low.result.1 in
    let value : IsScanFrom op memory job from piece = record {
      begins = scan.chunk.0;
      order = omega (arith, scan.chunk.1);
      found = scan.found ∙ ap (scan_found op memory job from) (sym scan.chunk.1);
      staged = scan.staged ∙ ap (scan_staged op memory job from) (sym scan.chunk.1);
    } in
    let opening : piece.staged.opening ≡ c.loop-from.rest.opening = scan.place.opening ∙ cut.opening.0 in
    let start = scan.place.start ∙ cut.front.0 in
    let behind : IsBehind piece.staged rest = (cut.opening.1 ∙ sym {A = ℕ} opening, omega (arith, start, scan.place.room, cut.front.1, cut.back.0)) in
    let before = λ (n : ℕ) (pieces : List ScanPiece). AreChunksBefore (IsScanFrom op memory job) (λ p. p.to) (λ p. p.staged) rest n 0 pieces in
    let more : before piece.to (c.loop-from.pieces.items ++ (piece ∷ [])) =
    one_more (IsScanFrom op memory job) (λ p. p.to) (λ p. p.staged) c.loop-from.pieces.items 0 from c.loop-from.rest rest piece c.loop-from.invariant.chunks value opening start behind in
    record {
      within = omega (arith, c.min.ensures, c.loop-from.invariant.within);
      empty = cut.back.2;
      chunks = subst (before (from + c.min.result)) (sym {A = List ScanPiece} c.in_ok-push.ensures.items) (subst (λ (n : ℕ). before n (c.loop-from.pieces.items ++ (piece ∷ []))) scan.chunk.1 more);
    }

pub join_found-requires : goal.join_found-requires
join_found-requires c κs =
    let memory = c.args.image.now in
    let job = c.args.job.now in
    let op = c.op-op.result in
    let operation = c.op-op.ensures.rules.operation in
    let pieces = c.loop-from.pieces.items in
    let size = ap (λ (j : Job). j.size) c.job.ensures.job in
    let last : c.loop-from.from ≡ scan_size op job =
    omega (arith, size, whole_size op job operation c.requires.operation, c.loop-from.invariant.within, c.loop-from-test.false) in
    let values = all_chunks (IsScanFrom op memory job) (λ p. p.to) (λ p. p.staged) pieces 0 c.loop-from.from c.loop-from.rest c.loop-from.invariant.chunks in (
      (refl, tt),
      (
        is_scanned job c.requires.operation,
        (
          tt,
          (
            tt,
            record {
              op = op;
              operation = operation;
              chunks = pieces;
              yields = (YieldsList-from_vec pieces c.into_iter.ensures.rest (search (rules, c.into_iter.ensures.len))).runs;
              values = subst (λ (n : ℕ). AreChunksFrom (IsScanFrom op memory job) (λ p. p.to) (λ p. p.staged) n 0 pieces) last values;
            },
          ),
        ),
      ),
    )
