-- What the block and a loan of a part of it own. Places are counts of bytes in the block's own memory.
--     room_of p n, holds_at p xs       room for n bytes at p;  and the bytes xs there
--     front n xs b o       n bytes from place o of block b on, of which the first hold xs
--     span_owns κ γ p n xs       a `&mut` to them for κ, with the ghost name γ
--     span_lent p xs       what a `&` to it holds
use Rattle.std.specs.Prelude.{ℕ, ◌+◌, ◌-◌, ◌≤◌, List, length}
use base.Stored.{coded_list, coded_ℕ}
use base.Fraction.{full_share}
use base.Fml.{Lft, GName, Fml, ffalse, fsep, fex, froom, fobs, fbor}
use mir.Syntax.{Ty, w8, ty_int, ty_array}
use types.SemTy.{SemTy, Body}
use denote.Builtin.{u8}
use denote.Array.{Array}
use denote.RawPtr.{Ptr, block_ptr, null_ptr, room_for}
use denote.RawPtr.Bytes.{bytes}
use denote.Sharing.{within}
use denote.Struct.Lending.{lent_at}

-- `[u8; n]` in memory
abbrev pub bytes_type : ℕ → Ty
bytes_type n = ty_array (ty_int w8) n

abbrev pub room_of : Ptr → ℕ → Fml
room_of p n = room_for (bytes_type n) p

-- the bytes xs at p
abbrev pub holds_at : Ptr → List ℕ → Fml
holds_at (block_ptr b o) xs = bytes full_share xs b o
holds_at null_ptr xs = ffalse

abbrev pub front : ℕ → List ℕ → ℕ → ℕ → Fml
front n xs b o =
    fex (length xs ≤ n) (λ _. fsep (bytes full_share xs b o) (froom (bytes_type (n - length xs)) b (o + length xs)))

-- the same as a type in memory, whose value is xs
abbrev pub Front : ℕ → SemTy
Front n = record { rep = List ℕ; coded = coded_list coded_ℕ; size = n; own_at = front n }

abbrev pub span_owns : Lft → GName → Ptr → ℕ → List ℕ → Fml
span_owns κ γ (block_ptr b o) n xs = fsep (fobs γ ((Front n).coded.code xs)) (fbor κ (Body (Front n) b o γ))
span_owns κ γ null_ptr n xs = ffalse

abbrev pub span_lent : Lft → Ptr → List ℕ → Lft → Fml
span_lent κ p xs = within κ (lent_at (Array u8 (length xs)) p xs)
