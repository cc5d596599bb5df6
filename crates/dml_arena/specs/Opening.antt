-- What an arena is once its regions are gone.
use base.Fml.{GName, Fml}
use denote.Ref.{MutBor}
use denote.Follow.{follows}
use Rattle.dml_arena.specs.Block.{Block}
use Rattle.dml_arena.specs.contracts.arena.Arena.{the_row}

-- once the loan named r has ended, the arena behind m is as it was lent, whatever its regions held
abbrev pub arena_stays : MutBor Block → GName → Fml
arena_stays m r = follows the_row the_row m.ghost_name r (λ _. m.now)
