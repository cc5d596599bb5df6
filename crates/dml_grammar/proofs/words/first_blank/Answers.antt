use Rattle.std.proofs.Common.{◌≡◌, ◌+◌, ℕ, refl, arith}
use Rattle.std.proofs.lemmas.Simd.{chunk-fits, length-chunk, run_in_chunk_fails, run_in_chunk_le, run_in_chunk_stops, zip2_of_maps, zip2_splat}
use lib.Lanes.{chunk}
use mir.Syntax.{w8}
use Rattle.dml_grammar.specs.Text.{is_blank}
use Rattle.dml_grammar.proofs.LaneLemmas.{first_lane}
use Rattle.dml_grammar.proofs.words.first_blank.Goals as goal

pub returns-clause-within : goal.returns-clause-within
returns-clause-within c =
    let v = chunk 0 16 c.args.text.now in
    let long = length-chunk 0 16 c.args.text.now c.requires in
    run_in_chunk_le is_blank c.args.text.now 0 16 c.lowest_bit.result 0 c.requires
    (first_lane _ is_blank v _ c.lowest_bit.result 16 long (omega arith) (chunk-fits w8 0 16 c.args.text.now c.type_inv.text)
    (zip2_of_maps _ _ _ v (zip2_splat {Y = ℕ} _ v 16 _ long) (zip2_splat {Y = ℕ} _ v 16 _ long)) refl c.lowest_bit.ensures)

pub returns-clause-before : goal.returns-clause-before
returns-clause-before c = λ k low.
    let v = chunk 0 16 c.args.text.now in
    let long = length-chunk 0 16 c.args.text.now c.requires in
    run_in_chunk_fails is_blank c.args.text.now 0 16 c.lowest_bit.result 0 c.requires
    (first_lane _ is_blank v _ c.lowest_bit.result 16 long (omega arith) (chunk-fits w8 0 16 c.args.text.now c.type_inv.text)
    (zip2_of_maps _ _ _ v (zip2_splat {Y = ℕ} _ v 16 _ long) (zip2_splat {Y = ℕ} _ v 16 _ long)) refl c.lowest_bit.ensures)
    k (omega arith) (omega arith)

pub returns-clause-here : goal.returns-clause-here
returns-clause-here c = λ low.
    let v = chunk 0 16 c.args.text.now in
    let long = length-chunk 0 16 c.args.text.now c.requires in
    let at : 0 + c.lowest_bit.result ≡ c.lowest_bit.result = omega arith in
    rw at at (run_in_chunk_stops is_blank c.args.text.now 0 16 c.lowest_bit.result 0 c.requires
    (first_lane _ is_blank v _ c.lowest_bit.result 16 long (omega arith) (chunk-fits w8 0 16 c.args.text.now c.type_inv.text)
    (zip2_of_maps _ _ _ v (zip2_splat {Y = ℕ} _ v 16 _ long) (zip2_splat {Y = ℕ} _ v 16 _ long)) refl c.lowest_bit.ensures) low)
