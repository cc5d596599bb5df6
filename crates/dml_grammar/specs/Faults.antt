-- What each kind of fault is called.
use Rattle.std.specs.Prelude.{ℕ, List, codes}
use Rattle.dml_grammar.specs.declared.faults.Kind.{Kind}
use Rattle.dml_grammar.specs.declared.faults.Kind.TheVariants.{LongLine, NotAscii, UnknownWord, MissingImage, SecondImage, InBatch, StrayEnd, TooManyJobs, WrongWords, BadNumber, BadHex, BadRange, OpenBatch}

abbrev pub text_of : Kind → List ℕ
text_of LongLine = codes "the line is too long"
text_of NotAscii = codes "the line is not ASCII text"
text_of UnknownWord = codes "unknown word"
text_of MissingImage = codes "the script must begin with an image line"
text_of SecondImage = codes "a second image line"
text_of InBatch = codes "this line may not stand in a batch"
text_of StrayEnd = codes "no batch is open"
text_of TooManyJobs = codes "the batch has too many jobs"
text_of WrongWords = codes "wrong number or kind of words"
text_of BadNumber = codes "not a number of the right size"
text_of BadHex = codes "not hexadecimal text of the right length"
text_of BadRange = codes "out of range"
text_of OpenBatch = codes "the batch has no end"
