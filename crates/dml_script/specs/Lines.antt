-- Parts of the text of an answer.
use Rattle.std.specs.Prelude.{ℕ, ◌+◌, ◌/◌, ◌%◌, List, [], ◌∷◌, ◌++◌, codes}
use Rattle.std.specs.Fmt.{decimal}
use Rattle.dml_types.specs.declared.records.Record.{Record}

-- the two decimal digits of a number below 100
abbrev pub pair_text : ℕ → List ℕ
pair_text number = (48 + number / 10) ∷ (48 + number % 10) ∷ []

-- the part of a record's line that is behind its status
abbrev pub effects_text : Record → List ℕ
effects_text answer =
    codes " result " ++ decimal answer.result ++ codes " completed " ++ decimal answer.completed
    ++ codes " fault " ++ decimal answer.fault ++ codes " delta " ++ decimal answer.delta_size ++ codes "\n"

-- the part of a show's line that is before its bytes
abbrev pub head_text : ℕ → List ℕ
head_text address = codes "show " ++ decimal address ++ codes " "
