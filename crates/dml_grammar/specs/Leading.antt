-- Numbers at the head of a line.
use Rattle.std.specs.Prelude.{◌≡◌, ℕ, List, ◌∷◌, Some}
use Rattle.dml_grammar.specs.Number.{word_number}
use Rattle.dml_grammar.specs.Text.{words}

-- the first word of a line writes a number, and the rest has the other words
abbrev pub BeginsWith : ℕ → List ℕ → List ℕ → Type 0
BeginsWith number rest line =
    (word : List ℕ) × (words line ≡ word ∷ words rest) × (word_number word ≡ Some number)
