-- Sample scripts, computed by the definition.
use Rattle.std.proofs.Common.{◌≡◌, ℕ, List, [], ◌∷◌, ◌++◌, Ok, Err, refl}
use Rattle.std.specs.Prelude.{codes}
use Rattle.std.specs.List.{join_with_byte}
use Rattle.dml_types.specs.Job.{no_op_job, fill_job}
use Rattle.dml_grammar.specs.declared.faults.Kind.TheVariants as kind
use Rattle.dml_grammar.specs.declared.lines.Line.TheVariants as line
use Rattle.hex.specs.Hex.{decode_pairs}
use Rattle.dml_grammar.specs.Grammar.{parse, parse_from, fault_at}

abbrev script : List (List ℕ) → List ℕ
script texts = join_with_byte 10 texts

-- fill_into_absent_page
fill_into_absent_page : parse (script (codes "image 2" ∷ codes "page 0" ∷ codes "fill 0x0807060504030201 4090 12" ∷ codes "show 4088 10" ∷ []))
    ≡ Ok (line.Image 2 ∷ line.Page 0 [] ∷ line.Job (fill_job 0x0807060504030201 4090 12) ∷ line.Show 4088 10 ∷ [])
unfolding parse parse_from
fill_into_absent_page = refl

-- poke_absent
poke_absent : parse (script (codes "image 2" ∷ codes "poke 0 01" ∷ [])) ≡ Err (fault_at 2 kind.BadRange)
unfolding parse parse_from decode_pairs
poke_absent = refl

-- empty_script
empty_script : parse [] ≡ Err (fault_at 1 kind.MissingImage)
unfolding parse parse_from
empty_script = refl

skipped_lines : parse (10 ∷ codes "# a" ++ 10 ∷ []) ≡ Err (fault_at 3 kind.MissingImage)
unfolding parse parse_from
skipped_lines = refl

poked_bytes : parse (script ((codes "image" ++ 9 ∷ codes "1" ++ 13 ∷ []) ∷ codes "page 0 fF" ∷ codes "poke 4095 a0" ∷ codes "noop flags 16" ∷ []))
    ≡ Ok (line.Image 1 ∷ line.Page 0 (255 ∷ []) ∷ line.Poke 4095 (160 ∷ []) ∷ line.Job (record no_op_job { flags = 16 }) ∷ [])
unfolding parse parse_from decode_pairs
poked_bytes = refl

number_before_digits : parse (script (codes "image 1" ∷ codes "page x 0" ∷ [])) ≡ Err (fault_at 2 kind.BadNumber)
unfolding parse parse_from decode_pairs
number_before_digits = refl
