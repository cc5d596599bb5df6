-- A table of regions of the caller's memory: each has an address, and the bytes of whole pages.
use Rattle.std.specs.Prelude.{ℕ, ◌+◌, ◌/◌, ◌%◌, ◌||◌, ◌==◌, not, nat_lt, List, [], ◌∷◌, length, map, if◌then◌else◌}
use Rattle.dml_types.specs.Memory.{Memory, page_size}
use Rattle.dml_image.specs.Pieces.{Piece, pieces_memory}
use Rattle.dml_c.specs.declared.regions.CRegion.{CRegion}

abbrev pub addresses_of : List CRegion → List ℕ
addresses_of regions = map (λ r. r.address) regions

-- a region as a piece of memory
abbrev pub piece_of_region : CRegion → Piece
piece_of_region region =
    record { first = region.address / page_size; bytes = region.bytes.now; name = region.bytes.ghost_name }

abbrev pub pieces_of_regions : List CRegion → List Piece
pieces_of_regions regions = map piece_of_region regions

-- the memory of a table: a page in none of its regions is absent
abbrev pub memory_of_regions : List CRegion → Memory
memory_of_regions regions = pieces_memory (pieces_of_regions regions)

-- the address behind a region, and the most that it may be: that behind 2^32 - 1 pages
abbrev pub end_of_region : CRegion → ℕ
end_of_region region = region.address + length region.bytes.now

abbrev pub most_end : ℕ
most_end = 17592186040320

-- the code of the first rule that a region breaks where those before it end at this address; 0 where it breaks none:
-- whole pages and some, from the address of a page on, up to the most, and not before those others end
abbrev pub region_fault : ℕ → CRegion → ℕ
region_fault end region =
    let n = length region.bytes.now in
    if n == 0 || not (n % page_size == 0) then 14
    else (if not (region.address % page_size == 0) then 15
    else (if nat_lt most_end (end_of_region region) then 16
    else (if nat_lt region.address end then 17 else 0)))

-- the code of the first region that breaks one
abbrev pub first_fault : ℕ → List CRegion → ℕ
first_fault end [] = 0
first_fault end (region ∷ regions) =
    let code = region_fault end region in if code == 0 then first_fault (end_of_region region) regions else code

-- what is wrong with a table: it is empty, or has more than 64 regions, or one of them breaks a rule
abbrev pub table_fault : List CRegion → ℕ
table_fault regions =
    if length regions == 0 then 12 else (if nat_lt 64 (length regions) then 13 else first_fault 0 regions)
