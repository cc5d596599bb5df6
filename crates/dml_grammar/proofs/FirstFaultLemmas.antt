-- The law of `parse`: by induction on the lines of text, then both ways.
use Rattle.std.proofs.Common.{◌≡◌, inl, inr, ℕ, zero, suc, ◌+◌, ◌<◌, List, [], ◌∷◌, ◌++◌, length, Option, Some, None, is_some, Bool, true, false, cond, ◌⊎◌, Result, Ok, Err, refl, sym, ◌∙◌, ap, subst, arith, nat_eq}
use Rattle.std.specs.Result.{MatchResult}
use Rattle.std.specs.Str.Lines.{lines}
use Rattle.std.proofs.lemmas.Bool.{cases_order, eqb-true, eqb-false}
use Rattle.std.proofs.lemmas.List.{nil_from_length}
use Rattle.std.proofs.lemmas.Result.{MatchResult-at_ok, MatchResult-at_err}
use Rattle.dml_grammar.specs.declared.faults.Kind.{Kind}
use Rattle.dml_grammar.specs.declared.faults.Kind.TheVariants.{MissingImage, OpenBatch}
use Rattle.dml_grammar.specs.declared.faults.ScriptFault.{ScriptFault}
use Rattle.dml_grammar.specs.declared.lines.Line.{Line}
use Rattle.dml_grammar.specs.Grammar.{Skipped, Faulty, Fine, fault_at, open_jobs, opening_number, parse, parse_from, verdict}
use Rattle.dml_grammar.specs.FirstFault.{grown, lines_read, verdict_fault, line_fault, FaultlessBelow, AreLines, HasNoLine, HasOpenBatch, IsFaultAt, IsFirstFault, last_opened, verdict_opening, ReadsFaultless, NamesFirstFault}

-- what a result of `parse_from` says
abbrev Says : ℕ → ℕ → List Line → List (List ℕ) → Result (List Line) ScriptFault → Type 0
Says number opened before texts parsed = MatchResult parsed (AreLines before texts) (IsFirstFault number opened before texts)

-- a text without a fault before others that have none
faultless_more : (text : List ℕ) (texts : List (List ℕ)) (before after : List Line) (n : ℕ) → verdict_fault (verdict text before) ≡ None
    → grown before (verdict text before) ≡ after → FaultlessBelow after texts n → FaultlessBelow before (text ∷ texts) (suc n)
faultless_more text texts before after n none grows rest zero low = none
faultless_more text texts before after n none grows rest (suc place) low =
    subst (λ (so_far : List Line). line_fault so_far texts place ≡ None) (sym grows) (rest place (omega arith))

says_more : (text : List ℕ) (texts : List (List ℕ)) (number opened : ℕ) (before after : List Line) (parsed : Result (List Line) ScriptFault)
    → verdict_fault (verdict text before) ≡ None → grown before (verdict text before) ≡ after
    → Says (number + 1) (verdict_opening number opened (verdict text before)) after texts parsed → Says number opened before (text ∷ texts) parsed
says_more text texts number opened before after (Ok found) none grows says = record {
  faultless = faultless_more text texts before after (length texts) none grows says.faultless;
  lines = says.lines ∙ ap (λ so_far. lines_read so_far texts) (sym grows);
  some = says.some;
  closed = says.closed;
}
says_more text texts number opened before after (Err fault) none grows says =
    elim says as (λ _. IsFirstFault number opened before (text ∷ texts) fault) [
      | inl at ↦ inl (
        suc at.0,
        record {
          within = let h : at.0 < length texts = at.1.within in omega arith;
          line = let h : fault.line ≡ (number + 1) + at.0 = at.1.line in omega arith;
          kind = subst (λ (so_far : List Line). line_fault so_far texts at.0 ≡ Some fault.kind) (sym grows) at.1.kind;
          first = faultless_more text texts before after at.0 none grows at.1.first;
        },
      )
      | inr end ↦ inr (elim end [
        | inl without ↦ inl (record {
          faultless = faultless_more text texts before after (length texts) none grows without.faultless;
          none = ap (λ so_far. lines_read so_far texts) grows ∙ without.none;
          behind = without.behind ∙ ap (λ n. fault_at n MissingImage) (let e : (number + 1) + length texts ≡ number + suc (length texts) = omega arith in e);
        })
        | inr left ↦ inr (record {
          faultless = faultless_more text texts before after (length texts) none grows left.faultless;
          some = subst (λ (so_far : List Line). 0 < length (lines_read so_far texts)) (sym grows) left.some;
          unclosed = subst (λ (so_far : List Line). is_some (open_jobs (lines_read so_far texts)) ≡ true) (sym grows) left.unclosed;
          first = left.first ∙ ap (λ (so_far : List Line). fault_at (last_opened (number + 1) (verdict_opening number opened (verdict text before)) so_far texts) OpenBatch) (sym grows);
        })
      ])
    ]

says_faulty : (text : List ℕ) (texts : List (List ℕ)) (number opened : ℕ) (before : List Line) (kind : Kind) → verdict text before ≡ Faulty kind
    → Says number opened before (text ∷ texts) (Err (fault_at number kind))
says_faulty text texts number opened before kind faulty = inl (
  zero,
  record {
    within = omega arith;
    line = omega arith;
    kind = ap verdict_fault faulty;
    first = λ place low. absurd (omega arith);
  },
)

says_ended : (number opened : ℕ) (before : List Line) (none unclosed : Bool) → nat_eq (length before) 0 ≡ none → is_some (open_jobs before) ≡ unclosed
    → Says number opened before [] (elim (cond none (Some (fault_at number MissingImage)) (cond unclosed (Some (fault_at opened OpenBatch)) None)) [
      | None ↦ Ok before
      | Some fault ↦ Err fault
    ])
says_ended number opened before true unclosed none is = inr (inl (record {
  faultless = λ place low. absurd (omega arith);
  none = nil_from_length before (eqb-true (length before) 0 none);
  behind = ap (λ n. fault_at n MissingImage) (let e : number ≡ number + 0 = omega arith in e);
}))
says_ended number opened before false true some is = inr (inr (record {
  faultless = λ place low. absurd (omega arith);
  some = let h = eqb-false (length before) 0 some in omega arith;
  unclosed = is;
  first = refl;
}))
says_ended number opened before false false some is = record {
  faultless = λ place low. absurd (omega arith);
  lines = refl;
  some = let h = eqb-false (length before) 0 some in omega arith;
  closed = is;
}

says_end : (number opened : ℕ) (before : List Line) → Says number opened before [] (parse_from number opened before [])
unfolding parse_from
says_end number opened before = says_ended number opened before _ _ refl refl

says_from : (texts : List (List ℕ)) (number opened : ℕ) (before : List Line) → Says number opened before texts (parse_from number opened before texts)
unfolding parse_from
says_from [] number opened before = says_end number opened before
says_from (text ∷ texts) number opened before =
    elim (verdict text before) as (λ v. verdict text before ≡ v → Says number opened before (text ∷ texts) (elim v [
      | Skipped ↦ parse_from (number + 1) opened before texts
      | Faulty kind ↦ Err (fault_at number kind)
      | Fine found ↦ parse_from (number + 1) (opening_number number found opened) (before ++ found ∷ []) texts
    ])) [
      | Skipped ↦ λ is. says_more text texts number opened before before _ (ap verdict_fault is) (ap (grown before) is)
          (rw is (says_from texts (number + 1) opened before))
      | Faulty kind ↦ λ is. says_faulty text texts number opened before kind is
      | Fine found ↦ λ is. says_more text texts number opened before (before ++ found ∷ []) _ (ap verdict_fault is) (ap (grown before) is)
          (rw is (says_from texts (number + 1) (opening_number number found opened) (before ++ found ∷ [])))
    ] refl

says : (bytes : List ℕ) → Says 1 0 [] (lines bytes) (parse bytes)
unfolding parse
says bytes = says_from (lines bytes) 1 0 []

-- Both ways: no script has lines and a fault, nor two first faults.

none_and_some : (o : Option Kind) (kind : Kind) → o ≡ None → o ≡ Some kind → ⊥
none_and_some o kind none some = cc

is_not : (b : Bool) → b ≡ true → b ≡ false → ⊥
is_not b holds fails = cc

not_both : (number opened : ℕ) (before : List Line) (texts : List (List ℕ)) (found : List Line) (fault : ScriptFault)
    → AreLines before texts found → IsFirstFault number opened before texts fault → ⊥
not_both number opened before texts found fault are first =
    elim first [
      | inl at ↦ none_and_some _ fault.kind (are.faultless at.0 at.1.within) at.1.kind
      | inr end ↦ elim end [
        | inl without ↦
            let nothing : length found ≡ 0 = ap length (are.lines ∙ without.none) in
            let some : 0 < length found = are.some in
            absurd (omega arith)
        | inr left ↦ is_not _ left.unclosed (ap (λ (ls : List Line). is_some (open_jobs ls)) (sym are.lines) ∙ are.closed)
      ]
    ]

same_place : (number : ℕ) (before : List Line) (texts : List (List ℕ)) (one other : ScriptFault) (p q : ℕ)
    → IsFaultAt number before texts one p → IsFaultAt number before texts other q → p ≡ q
same_place number before texts one other p q at_p at_q =
    elim (cases_order p q) [
      | inl same ↦ same
      | inr apart ↦ elim apart [
        | inl low ↦ absurd (none_and_some _ one.kind (at_q.first p low) at_p.kind)
        | inr high ↦ absurd (none_and_some _ other.kind (at_p.first q high) at_q.kind)
      ]
    ]

same_kind : (kind other : Kind) → Some kind ≡ Some other → kind ≡ other
same_kind kind other same = cc

same_fault : (one other : ScriptFault) → one.line ≡ other.line → one.kind ≡ other.kind → one ≡ other
same_fault one other line kind = ap (λ n. fault_at n one.kind) line ∙ ap (λ k. fault_at other.line k) kind

not_empty : (ls : List Line) → ls ≡ [] → 0 < length ls → ⊥
not_empty ls none some = let nothing : length ls ≡ 0 = ap length none in absurd (omega arith)

-- a script without a faulty line ends in one way
same_end : (number opened : ℕ) (before : List Line) (texts : List (List ℕ)) (one other : ScriptFault)
    → HasNoLine number before texts one ⊎ HasOpenBatch number opened before texts one
    → HasNoLine number before texts other ⊎ HasOpenBatch number opened before texts other → one ≡ other
same_end number opened before texts one other (inl without) (inl also) = without.behind ∙ sym also.behind
same_end number opened before texts one other (inl without) (inr left) = absurd (not_empty (lines_read before texts) without.none left.some)
same_end number opened before texts one other (inr left) (inl without) = absurd (not_empty (lines_read before texts) without.none left.some)
same_end number opened before texts one other (inr left) (inr also) = left.first ∙ sym also.first

end_faultless : (number opened : ℕ) (before : List Line) (texts : List (List ℕ)) (fault : ScriptFault)
    → HasNoLine number before texts fault ⊎ HasOpenBatch number opened before texts fault → FaultlessBelow before texts (length texts)
end_faultless number opened before texts fault (inl without) = without.faultless
end_faultless number opened before texts fault (inr left) = left.faultless

same_first : (number opened : ℕ) (before : List Line) (texts : List (List ℕ)) (one other : ScriptFault)
    → IsFirstFault number opened before texts one → IsFirstFault number opened before texts other → one ≡ other
same_first number opened before texts one other (inl at) (inl also) =
    let place : at.0 ≡ also.0 = same_place number before texts one other at.0 also.0 at.1 also.1 in
    let line_one : one.line ≡ number + at.0 = at.1.line in
    let line_other : other.line ≡ number + also.0 = also.1.line in
    same_fault one other (let same : one.line ≡ other.line = omega arith in same)
    (same_kind one.kind other.kind (sym at.1.kind ∙ ap (line_fault before texts) place ∙ also.1.kind))
same_first number opened before texts one other (inl at) (inr end) =
    absurd (none_and_some _ one.kind (end_faultless number opened before texts other end at.0 at.1.within) at.1.kind)
same_first number opened before texts one other (inr end) (inl at) =
    absurd (none_and_some _ other.kind (end_faultless number opened before texts one end at.0 at.1.within) at.1.kind)
same_first number opened before texts one other (inr end) (inr also) = same_end number opened before texts one other end also

pub reads_faultless : ReadsFaultless
reads_faultless bytes found = (
  λ is. MatchResult-at_ok (AreLines [] (lines bytes)) (IsFirstFault 1 0 [] (lines bytes)) found is (says bytes),
  λ are. elim (parse bytes) as (λ parsed. Says 1 0 [] (lines bytes) parsed → parsed ≡ Ok found) [
    | Ok other ↦ λ says. ap Ok (says.lines ∙ sym are.lines)
    | Err fault ↦ λ says. absurd (not_both 1 0 [] (lines bytes) found fault are says)
  ] (says bytes),
)

pub names_first_fault : NamesFirstFault
names_first_fault bytes fault = (
  λ is. MatchResult-at_err (AreLines [] (lines bytes)) (IsFirstFault 1 0 [] (lines bytes)) fault is (says bytes),
  λ first. elim (parse bytes) as (λ parsed. Says 1 0 [] (lines bytes) parsed → parsed ≡ Err fault) [
    | Ok found ↦ λ says. absurd (not_both 1 0 [] (lines bytes) found fault says first)
    | Err other ↦ λ says. ap Err (same_first 1 0 [] (lines bytes) other fault says first)
  ] (says bytes),
)
