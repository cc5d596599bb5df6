-- The text of what is shown.
use Rattle.std.proofs.Common.{◌≡◌, ℕ, zero, suc, ◌+◌, ◌*◌, ◌-◌, ◌%◌, ◌≤◌, min, true, false, List, [], ◌∷◌, ◌++◌, None, Some, arith, length, map, take, replicate, refl, sym, ap, ◌∙◌}
use Rattle.std.proofs.lemmas.List.Concat.{flat_map-append}
use Rattle.std.proofs.lemmas.Slice.{take-put_mid}
use Rattle.std.specs.List.{flat_map}
use borrow.Rule.Slice.PartMut.{put_mid}
use Rattle.dml_types.specs.Memory.{Memory, IsMemory, bytes_at, has}
use Rattle.dml_script.proofs.SessionLemmas.{absent_shown, present_shown, shown_parts}
use Rattle.dml_script.specs.Output.{byte_text, shown_text}
use Rattle.dml_script.specs.Run.{shown_bytes}

bytes_shown : (bytes : List ℕ) → flat_map byte_text bytes ≡ flat_map shown_text (map (λ byte. Some byte) bytes)
bytes_shown [] = refl
bytes_shown (byte ∷ bytes) = ap (λ text. byte_text byte ++ text) (bytes_shown bytes)

-- of a present page its bytes are shown
pub present_text : (memory : Memory) (address n : ℕ) (bytes : List ℕ) → IsMemory memory → address % 4096 + n ≤ 4096 → has memory address ≡ true
    → bytes ≡ bytes_at memory address (length bytes) → length bytes ≡ min n (4096 - address % 4096)
    → flat_map byte_text bytes ≡ flat_map shown_text (shown_bytes memory address n)
present_text memory address n bytes good within present read long =
    bytes_shown bytes ∙ ap (flat_map shown_text) (present_shown memory address n bytes good within present read long)

dashes : (n : ℕ) → replicate (2 * n) 45 ≡ flat_map shown_text (replicate n None)
dashes zero = refl
dashes (suc n) =
    let twice : 2 * suc n ≡ suc (suc (2 * n)) = omega arith in
    ap (λ k. replicate k 45) twice ∙ ap (λ text. 45 ∷ 45 ∷ text) (dashes n)

-- of an absent page two dashes for each byte
pub absent_text : (memory : Memory) (address n size : ℕ) → size ≡ 2 * n → address % 4096 + n ≤ 4096 → has memory address ≡ false
    → replicate size 45 ≡ flat_map shown_text (shown_bytes memory address n)
absent_text memory address n size twice within absent =
    ap (λ k. replicate k 45) twice ∙ dashes n ∙ ap (flat_map shown_text) (absent_shown memory address n within absent)

-- one more part is put behind the others
pub part_more : (memory : Memory) (address at done count a k n : ℕ) (text part : List ℕ) → at ≡ address + done
    → a ≡ 2 * done → n ≡ 2 * (done + count) → n ≤ length text → length part ≡ 2 * count
    → take (2 * done) text ≡ flat_map shown_text (shown_bytes memory address done)
    → part ≡ flat_map shown_text (shown_bytes memory at count)
    → take n (put_mid a k text part) ≡ flat_map shown_text (shown_bytes memory address (done + count))
part_more memory address at done count a k n text part place begin end room long so_far is =
    take-put_mid a k text part n (omega arith) (omega arith)
    ∙ ap (λ a. take a text ++ part) begin
    ∙ ap (λ front. front ++ part) so_far
    ∙ ap (λ back. flat_map shown_text (shown_bytes memory address done) ++ back) (is ∙ ap (λ at. flat_map shown_text (shown_bytes memory at count)) place)
    ∙ sym (flat_map-append shown_text (shown_bytes memory address done) (shown_bytes memory (address + done) count))
    ∙ ap (flat_map shown_text) (sym (shown_parts memory address done count))
