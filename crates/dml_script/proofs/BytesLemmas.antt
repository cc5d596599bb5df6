-- What reads and writes, one after another, do to known bytes.
use Rattle.std.proofs.Common.{◌≡◌, ℕ, ◌-◌, ◌<◌, List, [], ◌++◌, length, take, drop, Option, None, Some, IfSome, Result, Ok, Err, OnOk, OnErr, refl, sym, ap, subst, ◌∙◌, append_assoc, append-nil, arith, length-append}
use Rattle.std.proofs.lemmas.List.{take-append-drop, take_rest}
use Rattle.std.proofs.KnownBytes.{Appends-trans, Appends-kept, Appends-nil, Consumes-trans, Consumes-whole}
use Rattle.std.specs.Io.KnownBytes.{Appends, Consumes, IsAtEnd, Keeps}
use Rattle.dml_script.specs.Watching.{AppendsFront, IsWritten}

-- what a reader gave is all that it had, where a read with room then gives nothing
pub consumed_all : (a b c : Option (List ℕ)) (bytes buffer : List ℕ) (n : ℕ) → Consumes a b bytes
    → Consumes b c (take n buffer) × (n ≡ 0 → 0 < length buffer → IsAtEnd c) → n ≡ 0 → 0 < length buffer → IfSome a (λ all. bytes ≡ all)
consumed_all a b c bytes buffer n taken read none room =
    let last : Consumes b c [] = subst (λ k. Consumes b c (take k buffer)) none read.0 in
    Consumes-whole a c bytes (λ all. bytes ≡ all) (subst (Consumes a c) (append-nil bytes) (Consumes-trans a b c bytes [] taken last)) (read.1 none room) refl

-- and it had at least as much
pub consumed_over : (a b : Option (List ℕ)) (bytes : List ℕ) (most : ℕ) → Consumes a b bytes → most < length bytes → IfSome a (λ all. most < length all)
consumed_over None b bytes most taken over = tt
consumed_over (Some all) None bytes most taken over = absurd taken
consumed_over (Some all) (Some rest) bytes most taken over = omega (arith, ap length taken, length-append bytes rest)

-- A front is written, and what is left to write completes the whole.

pub written_start : (old : Option (List ℕ)) (whole : List ℕ) → IsWritten old old whole whole
written_start old whole = ([], Appends-nil old, refl)

pub written_more : (a b c : Option (List ℕ)) (text left whole : List ℕ) → IsWritten a b (text ++ left) whole → Appends b c text → IsWritten a c left whole
written_more a b c text left whole written next =
    (written.0 ++ text, Appends-trans a b c _ _ written.1 next, append_assoc written.0 text left ∙ written.2)

-- a write of the first n bytes that are left
pub written_some : (a b c : Option (List ℕ)) (left rest whole : List ℕ) (n : ℕ) → IsWritten a b left whole → Appends b c (take n left) → rest ≡ drop n left
    → IsWritten a c rest whole
written_some a b c left rest whole n written next behind =
    written_more a b c (take n left) rest whole
    (subst (λ l. IsWritten a b l whole) (sym (take-append-drop n left) ∙ ap (λ l. take n left ++ l) (sym behind)) written) next

pub written_front : (a b : Option (List ℕ)) (left whole : List ℕ) → IsWritten a b left whole → AppendsFront a b whole
written_front a b left whole written = (written.0, left, sym written.2, written.1)

pub written_into : (a b c : Option (List ℕ)) (text left whole : List ℕ) → IsWritten a b (text ++ left) whole → AppendsFront b c text → AppendsFront a c whole
written_into a b c text left whole written next = (
  written.0 ++ next.0,
  next.1 ++ left,
  sym written.2 ∙ ap (λ l. written.0 ++ (l ++ left)) next.2 ∙ ap (λ l. written.0 ++ l) (append_assoc next.0 next.1 left) ∙ sym (append_assoc written.0 next.0 (next.1 ++ left)),
  Appends-trans a b c _ _ written.1 next.3,
)

-- where nothing is left and the writer is flushed, the whole is written
pub written_all : (a b c : Option (List ℕ)) (left whole : List ℕ) → IsWritten a b left whole → left ≡ [] → Keeps b c → Appends a c whole
written_all a b c left whole written none kept =
    let all : written.0 ≡ whole = sym (append-nil written.0) ∙ ap (λ l. written.0 ++ l) (sym none) ∙ written.2 in
    Appends-kept a b c whole (subst (Appends a b) all written.1) kept

pub written_kept : (a b c : Option (List ℕ)) (left whole : List ℕ) → IsWritten a b left whole → Keeps b c → AppendsFront a c whole
written_kept a b c left whole written kept = (written.0, left, sym written.2, Appends-kept a b c written.0 written.1 kept)

-- what is written behind other bytes
pub front_after : (a b c : Option (List ℕ)) (these those : List ℕ) → Appends a b these → AppendsFront b c those → AppendsFront a c (these ++ those)
front_after a b c these those first next = (
  these ++ next.0,
  next.1,
  ap (λ l. these ++ l) next.2 ∙ sym (append_assoc these next.0 next.1),
  Appends-trans a b c _ _ first next.3,
)

pub written_on : (a b c : Option (List ℕ)) (left rest whole : List ℕ) → IsWritten a b left whole → IsWritten b c rest left → IsWritten a c rest whole
written_on a b c left rest whole written next =
    written_more a b c next.0 rest whole (subst (λ (l : List ℕ). IsWritten a b l whole) (sym next.2) written) next.1

pub written_toward : (a b c : Option (List ℕ)) (left whole : List ℕ) → IsWritten a b left whole → AppendsFront b c left → AppendsFront a c whole
written_toward a b c left whole written front =
    written_into a b c left [] whole (subst (λ (l : List ℕ). IsWritten a b l whole) (sym (append-nil left)) written) front

-- What holds where a call succeeds, and where it fails.

pub on_success : {T E : Type 0} (r : Result T E) (P : Type 0) → P → OnOk r P
on_success (Ok x) P h = h
on_success (Err e) P h = tt

pub then_ok : {T E : Type 0} (r : Result T E) (P Q : Type 0) → (P → Q) → OnOk r P → OnOk r Q
then_ok (Ok x) P Q f h = f h
then_ok (Err e) P Q f h = tt

pub then_err : {T E : Type 0} (r : Result T E) (P Q : Type 0) → (P → Q) → OnErr r P → OnErr r Q
then_err (Ok x) P Q f h = tt
then_err (Err e) P Q f h = f h

-- what stands from a place of a buffer on
pub behind : (buffer : List ℕ) (at size : ℕ) → length buffer ≡ size → take (size - at) (drop at buffer) ≡ drop at buffer
behind buffer at size long = ap (λ size. take (size - at) (drop at buffer)) (sym long) ∙ take_rest buffer at
