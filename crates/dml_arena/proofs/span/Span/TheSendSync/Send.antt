use denote.Ref.{NamedLft}
use denote.Param.Send.{IsSend}
use Rattle.dml_arena.proofs.Sharing.{Span-send}
use Rattle.dml_arena.specs.contracts.span.Span.{the_row}

pub send : (a : NamedLft) → IsSend (the_row a)
send = Span-send
