-- Laws of present pages and bytes.
use Rattle.std.proofs.Common.{◌≡◌, ℕ, ◌+◌, ◌-◌, ◌/◌, ◌%◌, ◌<◌, ◌≤◌, List, length, get_or, sym, ◌∙◌, ap, add-zero, zero-add, arith, true, ◌&&◌, inl, inr, ◌⊎◌}
use Rattle.std.specs.List.{range_with_len}
use Rattle.std.proofs.lemmas.List.FromFn.{length-range_with_len, get_or-range_with_len}
use Rattle.std.proofs.lemmas.List.Sums.{AllPass-from_list_all, list_all-from_AllPass}
use Rattle.std.proofs.lemmas.Bool.{cases_lt, cases_Bool, and_from, and_left, and_right, both_ways}
use Rattle.dml_grammar.specs.declared.lines.Line.{Line}
use Rattle.dml_grammar.specs.Grammar.{has_bytes, is_present}

-- an address among few bytes lies in the page of the first or of the last of them
two_pages : (address n i : ℕ) → i < n → n ≤ 4096
    → ((address + i) / 4096 ≡ address / 4096) ⊎ ((address + i) / 4096 ≡ address / 4096 + (address % 4096 + (n - 1)) / 4096)
two_pages address n i low few =
    elim (cases_lt (address % 4096 + i) 4096) [ inl same ↦ inl (omega arith) | inr next ↦ inr (omega arith) ]

last_page : (address n : ℕ) → 0 < n → (address + (n - 1)) / 4096 ≡ address / 4096 + (address % 4096 + (n - 1)) / 4096
last_page address n some = omega arith

-- a byte is present where its page is, for each of few bytes
each_byte : (before : List Line) (address n : ℕ) → n ≤ 4096 → is_present before (address / 4096) ≡ true
    → is_present before (address / 4096 + (address % 4096 + (n - 1)) / 4096) ≡ true
    → (i : ℕ) → i < n → is_present before ((address + i) / 4096) ≡ true
each_byte before address n few first last i low =
    elim (two_pages address n i low few) [
      | inl same ↦ ap (is_present before) same ∙ first
      | inr next ↦ ap (is_present before) next ∙ last
    ]

bytes_present : (before : List Line) (address n : ℕ) → ((i : ℕ) → i < n → is_present before ((address + i) / 4096) ≡ true)
    → has_bytes before address n ≡ true
bytes_present before address n each =
    list_all-from_AllPass (λ i. is_present before ((address + i) / 4096)) (range_with_len 0 n) (λ k d low.
    let within : k < n = omega (arith, length-range_with_len 0 n) in
    let place : get_or (range_with_len 0 n) k d ≡ k = get_or-range_with_len 0 n k d within ∙ zero-add k in
    rw place (each k within))

pub byte_present : (before : List Line) (address n i : ℕ) → i < n → has_bytes before address n ≡ true → is_present before ((address + i) / 4096) ≡ true
byte_present before address n i low all =
    let within : i < length (range_with_len 0 n) = omega (arith, length-range_with_len 0 n) in
    let place : get_or (range_with_len 0 n) i 0 ≡ i = get_or-range_with_len 0 n i 0 low ∙ zero-add i in
    rw place at (AllPass-from_list_all (λ i. is_present before ((address + i) / 4096)) (range_with_len 0 n) all i 0 within)

pub bytes_of_two_pages : (before : List Line) (address n : ℕ) → 0 < n → n ≤ 4096
    → (is_present before (address / 4096) && is_present before (address / 4096 + (address % 4096 + (n - 1)) / 4096)) ≡ has_bytes before address n
bytes_of_two_pages before address n some few =
    elim (cases_Bool (has_bytes before address n)) [
      | inl all ↦
          let first : is_present before ((address + 0) / 4096) ≡ true = byte_present before address n 0 some all in
          let last : is_present before ((address + (n - 1)) / 4096) ≡ true = byte_present before address n (n - 1) (omega arith) all in
          let first_page : is_present before (address / 4096) ≡ true = rw add-zero at first in
          let end_page : is_present before (address / 4096 + (address % 4096 + (n - 1)) / 4096) ≡ true = rw (last_page address n some) at last in
          and_from _ _ first_page end_page ∙ sym all
      | inr not_all ↦
          elim (cases_Bool (is_present before (address / 4096))) [
            | inr first ↦ and_left _ _ first ∙ sym not_all
            | inl first ↦ elim (cases_Bool (is_present before (address / 4096 + (address % 4096 + (n - 1)) / 4096))) [
              | inr last ↦ and_right _ _ last ∙ sym not_all
              | inl last ↦ absurd (both_ways _ not_all (bytes_present before address n (each_byte before address n few first last)))
            ]
          ]
    ]
