-- The table of lines: which words may come after a first word, and what each of them is.
use Rattle.std.specs.Prelude.{ℕ, List, [], ◌∷◌, Option, codes, bytes_eq, find}
use Rattle.std.specs.Option.{option_map}
use Rattle.dml_types.specs.declared.operations.Op.{Op}
use Rattle.dml_types.specs.declared.operations.Op.TheVariants.{NoOp, Move, Fill, Compare, ComparePattern, CreateDelta, ApplyDelta, Dualcast}
use Rattle.dml_grammar.specs.declared.table.Word.{Word}
use Rattle.dml_grammar.specs.declared.table.Word.TheVariants as word
use Rattle.dml_grammar.specs.declared.table.Slot.{Slot}
use Rattle.dml_grammar.specs.declared.table.Slot.TheVariants.{Number, Digits}
use Rattle.dml_grammar.specs.declared.table.Suffix.{Suffix}
use Rattle.dml_grammar.specs.declared.table.Suffix.TheVariants.{Check, Flags}
use Rattle.dml_grammar.specs.declared.table.Part.{Part}
use Rattle.dml_grammar.specs.declared.table.Part.TheVariants.{One, Maybe, Named}

-- the first words of lines
abbrev pub first_words : List (List ℕ × Word)
first_words =
    (codes "image", word.Image) ∷ (codes "page", word.Page) ∷ (codes "poke", word.Poke)
    ∷ (codes "noop", word.Job NoOp) ∷ (codes "move", word.Job Move) ∷ (codes "fill", word.Job Fill)
    ∷ (codes "compare", word.Job Compare) ∷ (codes "compare-pattern", word.Job ComparePattern)
    ∷ (codes "create", word.Job CreateDelta) ∷ (codes "apply", word.Job ApplyDelta)
    ∷ (codes "dualcast", word.Job Dualcast) ∷ (codes "raw", word.Raw)
    ∷ (codes "batch", word.Batch) ∷ (codes "end", word.End) ∷ (codes "show", word.Show) ∷ []

abbrev pub find_word : List (List ℕ × Word) → List ℕ → Option Word
find_word rows text = option_map (λ row. row.1) (find (λ row. bytes_eq text row.0) rows)

abbrev pub word_named : List ℕ → Option Word
word_named text = find_word first_words text

-- an address, a pattern or a number whose range is looked for later: 64 bits; and a size of 32 bits
abbrev pub long : Part
long = One (Number 0xffff_ffff_ffff_ffff)

abbrev pub short : Part
short = One (Number 0xffff_ffff)

-- `check E` and `flags F`, which may be left out
abbrev pub check : Part
check = Named Check (Number 0xff)

abbrev pub flags : Part
flags = Named Flags (Number 0xffffff)

-- 1 to 4,096 bytes in hexadecimal
abbrev pub page_digits : Slot
page_digits = Digits 2 8192

-- the 64 bytes of a descriptor in hexadecimal
abbrev pub descriptor_digits : Slot
descriptor_digits = Digits 128 128

-- what comes after the word of a job, in this order
abbrev pub job_parts : Op → List Part
job_parts NoOp = flags ∷ []
job_parts Move = long ∷ long ∷ short ∷ flags ∷ []
job_parts Fill = long ∷ long ∷ short ∷ flags ∷ []
job_parts Compare = long ∷ long ∷ short ∷ check ∷ flags ∷ []
job_parts ComparePattern = long ∷ long ∷ short ∷ check ∷ flags ∷ []
job_parts CreateDelta = long ∷ long ∷ short ∷ long ∷ short ∷ check ∷ flags ∷ []
job_parts ApplyDelta = long ∷ short ∷ long ∷ short ∷ flags ∷ []
job_parts Dualcast = long ∷ long ∷ long ∷ short ∷ flags ∷ []

-- what comes after a first word
abbrev pub parts_of : Word → List Part
parts_of word.Image = long ∷ []
parts_of word.Page = long ∷ Maybe page_digits ∷ []
parts_of word.Poke = long ∷ One page_digits ∷ []
parts_of (word.Job op) = job_parts op
parts_of word.Raw = One descriptor_digits ∷ []
parts_of word.Batch = []
parts_of word.End = []
parts_of word.Show = long ∷ long ∷ []

-- the word that a suffix begins with
abbrev pub suffix_text : Suffix → List ℕ
suffix_text Check = codes "check"
suffix_text Flags = codes "flags"
