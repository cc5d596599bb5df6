-- What a contract sees of a region.
use Rattle.std.specs.Prelude.{◌≡◌, ℕ, ◌+◌, ◌^◌, ◌<◌, List, length}
use base.Fml.{GName}
use denote.RawPtr.{block_of, count_of}
use Rattle.dml_arena.specs.declared.region.Region.TheInside.{Inside}

-- `opening` is the block that the region is a part of, `start` its first place there, `room` how many bytes it
-- has place for, and `bytes` are those that it holds, from its start on. `tie` is for `arena_stays` alone
pub record Piece : Type 0 where
  pub opening : ℕ
  pub start : ℕ
  pub room : ℕ
  pub bytes : List ℕ
  pub tie : GName

-- the region keeps its place: its opening, its start and its room
pub record SamePlace (old new : Piece) : Type 0 where
  pub opening : new.opening ≡ old.opening
  pub start : new.start ≡ old.start
  pub room : new.room ≡ old.room

abbrev pub piece_of : Inside → Piece
piece_of r =
    record {
      opening = block_of r.span.ptr;
      start = r.start;
      room = r.room;
      bytes = r.span.bytes;
      tie = r.span.tie;
    }

-- the numbers that a region keeps are those of its span
pub record IsCounted (r : Inside) : Type 0 where
  pub start : r.start ≡ count_of r.span.ptr
  pub room : r.room ≡ r.span.room
  pub len : r.len ≡ length r.span.bytes
  pub ends : r.start + r.room < 2 ^ 32
