-- What an image's own pages are to contracts: a table with the bytes of each page that is present.
use Rattle.std.specs.Prelude.{⊤, ◌≡◌, ℕ, List, [], ◌∷◌, Option, Some, None, flat_map, is_some, length, map, replicate}
use Rattle.dml_types.specs.Memory.{Memory, memory_of}

-- an absent page stands as zeros
abbrev pub page_bytes : Option (List ℕ) → List ℕ
page_bytes None = replicate 4096 0
page_bytes (Some bytes) = bytes

abbrev pub table_memory : List (Option (List ℕ)) → Memory
table_memory pages = memory_of (map is_some pages) (flat_map page_bytes pages) None

-- each page has 4,096 bytes
abbrev pub AreWhole : List (Option (List ℕ)) → Type 0
AreWhole [] = ⊤
AreWhole (page ∷ pages) = (length (page_bytes page) ≡ 4096) × AreWhole pages
