-- A new image, and an image after a page was brought or evicted.
use Rattle.std.specs.Prelude.{ℕ, ◌-◌, ◌*◌, Bool, true, false, List, ◌++◌, length, None, replicate, slice_index_or, slice_set}
use Rattle.dml_types.specs.Memory.{Memory, memory_of, page_size, put}

-- no page is present
abbrev pub all_absent : ℕ → Memory
all_absent pages =
    memory_of (replicate pages false) (replicate (page_size * pages) 0) None

-- whether the page is present
abbrev pub has_page : Memory → ℕ → Bool
has_page memory page = slice_index_or memory.present page false

-- the bytes of a page that begins with these: zeros behind them
abbrev pub padded : List ℕ → List ℕ
padded bytes = bytes ++ replicate (page_size - length bytes) 0

-- the page is present with these bytes
abbrev pub brought : Memory → ℕ → List ℕ → Memory
brought memory page bytes =
    put (record memory { present = slice_set memory.present page true }) (page_size * page) bytes

-- the page is absent, and its bytes are 0
abbrev pub evicted : Memory → ℕ → Memory
evicted memory page =
    put (record memory { present = slice_set memory.present page false }) (page_size * page) (replicate page_size 0)
