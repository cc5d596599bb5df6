-- Laws of the table of lines: a first word that was told by its letters, and a text that is none.
use Rattle.std.proofs.Common.{◌≡◌, ℕ, List, length, sym, ◌∙◌, ap, Some, None}
use Rattle.std.proofs.lemmas.Slice.Eq.{HasBytesAt, text_from_reads}
use Rattle.dml_grammar.specs.declared.table.Word.{Word}
use Rattle.dml_grammar.specs.Table.{word_named}

pub named_by_letters : (text name : List ℕ) (word : Word) → length text ≡ length name → HasBytesAt text 0 name → word_named name ≡ Some word
    → Some word ≡ word_named text
named_by_letters text name word long letters named = sym (ap word_named (text_from_reads text name long letters) ∙ named)

pub unnamed_by_letters : (text like : List ℕ) → length text ≡ length like → HasBytesAt text 0 like → None ≡ word_named like → None ≡ word_named text
unnamed_by_letters text like long letters none = none ∙ sym (ap word_named (text_from_reads text like long letters))
