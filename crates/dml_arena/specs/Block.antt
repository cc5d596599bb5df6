-- What a contract sees of an arena.
use Rattle.std.specs.Prelude.{◌≡◌, ℕ}
use denote.RawPtr.{block_of, count_of}
use Rattle.dml_arena.specs.declared.arena.Arena.TheInside.{Inside}

-- `block` is which block of memory it has, and `size` how many bytes that has
pub record Block : Type 0 where
  pub block : ℕ
  pub size : ℕ

abbrev pub block_view : Inside → Block
block_view a = record { block = block_of a.memory.ptr; size = a.size }

-- the arena holds the right to free the very block that it has, whose first byte is at place 0
pub record IsWhole (a : Inside) : Type 0 where
  pub size : a.memory.size ≡ a.size
  pub start : count_of a.memory.ptr ≡ 0
  pub by : a.lease.alloc ≡ a.alloc
  pub of : a.lease.ptr ≡ a.memory.ptr
  pub all : a.lease.size ≡ a.memory.size
