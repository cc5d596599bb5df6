-- The run of a script's lines, one after another.
use Rattle.std.proofs.lemmas.Bool.{le-leb}
use Rattle.std.proofs.Common.{◌≡◌, ℕ, ◌≤◌, List, length, Option, Some, None, IfSome, Result, Ok, Err, OnErr, sym, ap, subst}
use Rattle.dml_grammar.specs.declared.lines.Line.{Line}
use Rattle.dml_grammar.specs.Grammar.{parse}
use Rattle.dml_script.specs.Run.{answer, session_answer, parsed_answer, longest_script, opening}
use Rattle.dml_script.specs.Watching.{AppendsFront}
use Rattle.dml_script.proofs.FitLemmas.{runnable}

pub on_error : {T E : Type 0} (r : Result T E) (P : Type 0) → P → OnErr r P
on_error (Ok x) P h = tt
on_error (Err e) P h = h

-- what holds of the bytes that were read holds of all that there were
pub of_all : (known : Option (List ℕ)) (bytes : List ℕ) (P : List ℕ → Type 0) → IfSome known (λ all. bytes ≡ all) → P bytes → IfSome known P
of_all None bytes P same holds = tt
of_all (Some all) bytes P same holds = subst P same holds

pub answer_is : (bytes : List ℕ) (staging : ℕ) (lines : List Line) → length bytes ≤ longest_script → parse bytes ≡ Ok lines
    → session_answer staging opening lines ≡ answer bytes staging
unfolding answer
answer_is bytes staging lines within parsed =
    rw (le-leb (length bytes) longest_script within) (ap (λ p. parsed_answer p staging) (sym parsed))

pub front_of_answer : {T E : Type 0} (r : Result T E) (old new : Option (List ℕ)) (bytes : List ℕ) (staging : ℕ) (lines : List Line) → length bytes ≤ longest_script
    → parse bytes ≡ Ok lines → AppendsFront old new (session_answer staging opening lines) → OnErr r (AppendsFront old new (answer bytes staging))
front_of_answer r old new bytes staging lines within parsed front =
    on_error r _ (subst (AppendsFront old new) (answer_is bytes staging lines within parsed) front)

-- what decides the answer of a whole input
pub ruleset input_steps = (runnable, answer_is, front_of_answer)
