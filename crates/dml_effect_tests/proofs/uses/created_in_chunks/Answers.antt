use Rattle.std.proofs.Common.{◌≡◌, ℕ, ◌+◌, ◌/◌, List, [], ◌∷◌, ◌++◌, refl, sym, ◌∙◌, ap, subst, arith, rules}
use Rattle.std.proofs.lemmas.Iterator.Adapters.{YieldsList-from_vec}
use Rattle.dml_types.specs.declared.jobs.Job.{Job}
use Rattle.dml_types.specs.Chunk.{create_fault, create_staged}
use Rattle.dml_delta.specs.declared.creates.CreatePiece.{CreatePiece}
use Rattle.dml_effect.specs.Chunks.{AreChunksFrom, IsBehind, IsCreateFrom}
use Rattle.dml_effect.proofs.ChunkListLemmas.{AreChunksBefore, all_chunks, one_more}
use Rattle.dml_effect_tests.proofs.uses.created_in_chunks.Goals as goal

pub loop-from-preserved : goal.loop-from-preserved
loop-from-preserved c =
    let memory = c.args.image.now in
    let job = c.args.job.now in
    let from = c.loop-from.from in
    let piece = c.scan_create.result in
    let scan = c.scan_create.ensures in
    let cut = c.cut-low.ensures in
    let rest = c.cut-low.result.1 in
    let value : IsCreateFrom memory job from piece = record {
      begins = scan.chunk.0;
      order = omega (arith, scan.chunk.1);
      fault = scan.fault ∙ ap (create_fault memory job from) (sym scan.chunk.1);
      staged = scan.staged ∙ ap (create_staged memory job from) (sym scan.chunk.1);
    } in
    let opening : piece.staged.opening ≡ c.loop-from.rest.opening = scan.place.opening ∙ cut.opening.0 in
    let start = scan.place.start ∙ cut.front.0 in
    let behind : IsBehind piece.staged rest = (cut.opening.1 ∙ sym {A = ℕ} opening, omega (arith, start, scan.place.room, cut.front.1, cut.back.0)) in
    let before = λ (n : ℕ) (pieces : List CreatePiece). AreChunksBefore (IsCreateFrom memory job) (λ p. p.to) (λ p. p.staged) rest n 0 pieces in
    let more : before piece.to (c.loop-from.pieces.items ++ (piece ∷ [])) =
    one_more (IsCreateFrom memory job) (λ p. p.to) (λ p. p.staged) c.loop-from.pieces.items 0 from c.loop-from.rest rest piece c.loop-from.invariant.chunks value opening start behind in
    record {
      within = omega (arith, c.min.ensures, c.loop-from.invariant.within);
      empty = cut.back.2;
      fits = omega (arith, c.loop-from.invariant.fits, cut.back.1, c.min.ensures, c.loop-from.invariant.within);
      chunks = subst (before (from + c.min.result)) (sym {A = List CreatePiece} c.in_ok-push.ensures.items) (subst (λ (n : ℕ). before n (c.loop-from.pieces.items ++ (piece ∷ []))) scan.chunk.1 more);
    }

pub join_create-requires : goal.join_create-requires
join_create-requires c κs =
    let memory = c.args.image.now in
    let job = c.args.job.now in
    let pieces = c.loop-from.pieces.items in
    let size = ap (λ (j : Job). j.size) c.job.ensures.job in
    let last : c.loop-from.from ≡ job.size / 8 = omega (arith, size, c.loop-from.invariant.within, c.loop-from-test.false) in
    let values = all_chunks (IsCreateFrom memory job) (λ p. p.to) (λ p. p.staged) pieces 0 c.loop-from.from c.loop-from.rest c.loop-from.invariant.chunks in (
      (refl, tt),
      (
        c.requires.operation,
        (
          tt,
          (
            tt,
            record {
              chunks = pieces;
              yields = (YieldsList-from_vec pieces c.into_iter.ensures.rest (search (rules, c.into_iter.ensures.len))).runs;
              values = subst (λ (n : ℕ). AreChunksFrom (IsCreateFrom memory job) (λ p. p.to) (λ p. p.staged) n 0 pieces) last values;
            },
          ),
        ),
      ),
    )
