use Rattle.std.proofs.Common.{◌≡◌, ◌++◌, drop, string_bytes}
use Rattle.std.specs.List.{flat_map}
use Rattle.dml_script.specs.Output.{shown_text}
use Rattle.dml_script.proofs.texts.push_shown.Given as goal

-- what is written and what is left to write are the whole
abbrev pub invariant-loop-byte : goal.invariant-loop-byte
invariant-loop-byte l =
    string_bytes l.text ++ flat_map shown_text (drop l.byte-index l.shown) ≡ string_bytes l.initial.text ++ flat_map shown_text l.shown
