-- The words of a line of a script.
use Rattle.std.specs.Prelude.{ℕ, Bool, not, ◌&&◌, ◌||◌, List, length, nat_eq, nat_le, filter}
use Rattle.std.specs.List.{slice_split}

-- a space or a tab
abbrev pub is_blank : ℕ → Bool
is_blank c = nat_eq c 32 || nat_eq c 9

-- the words of a line: the parts between blanks that are not empty
abbrev pub words : List ℕ → List (List ℕ)
words line = filter (λ word. not (nat_eq (length word) 0)) (slice_split is_blank line)

-- a byte of ASCII text: a tab, or one from the space to the tilde
abbrev pub is_text : ℕ → Bool
is_text c = nat_eq c 9 || (nat_le 32 c && nat_le c 126)
