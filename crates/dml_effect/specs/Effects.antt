-- What a contract sees of an effect: the record that answers, and the puts that its code keeps.
use Rattle.std.specs.Prelude.{Bool, not, List, [], ◌∷◌, length, filter, None, Some, nat_eq}
use Rattle.std.specs.List.{list_all}
use Rattle.dml_types.specs.Memory.{Memory, Put, put_of, has_all}
use Rattle.dml_types.specs.Effect.{Effect, effect_of}
use Rattle.dml_types.specs.Bytewise.{pattern_bytes}
use Rattle.dml_effect.specs.declared.effects.Puts.{Puts}
use Rattle.dml_effect.specs.declared.effects.Puts.TheVariants.{Nothing, Staged, Pattern, Entries}
use Rattle.dml_effect.specs.declared.effects.Effect.TheInside.{Inside}
use Rattle.dml_effect.specs.Applies.{block_puts}

abbrev pub puts_of : Puts → List Put
puts_of Nothing = []
puts_of (Staged first None bytes) = put_of first bytes.bytes ∷ []
puts_of (Staged first (Some second) bytes) = put_of first bytes.bytes ∷ put_of second bytes.bytes ∷ []
puts_of (Pattern address len pattern) = put_of address (pattern_bytes pattern len) ∷ []
puts_of (Entries target entries) = block_puts target entries.bytes

abbrev pub effect_view : Inside → Effect
effect_view e = effect_of (puts_of e.puts) e.answer

-- the puts that have a byte at least: an empty one changes no image
abbrev pub some_puts : List Put → List Put
some_puts puts = filter (λ p. not (nat_eq (length p.bytes) 0)) puts

-- each byte that is put is present
abbrev pub are_present : Memory → List Put → Bool
are_present memory puts = list_all (λ p. has_all memory p.address (length p.bytes)) puts
