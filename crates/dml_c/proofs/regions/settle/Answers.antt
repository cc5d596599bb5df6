use Rattle.std.proofs.Common.{◌*◌, length, map, sym, ◌∙◌, ap}
use Rattle.dml_types.specs.Memory.{Memory, Place}
use Rattle.dml_image.specs.Pieces.{pieces_memory, pieces_of, places_of}
use Rattle.dml_c.proofs.RegionLemmas.{as_many_places, place_starts}
use Rattle.dml_c.proofs.regions.settle.Goals as goal

pub put_back-requires-clause-as_many : goal.put_back-requires-clause-as_many
put_back-requires-clause-as_many c =
    sym (as_many_places c.into_segments-list.result.items)
    ∙ (ap (λ (m : Memory). length (places_of m.loan)) c.into_segments-list.ensures.memory ∙ c.requires.as_many)

pub put_back-requires-clause-addresses : goal.put_back-requires-clause-addresses
put_back-requires-clause-addresses c =
    c.requires.addresses
    ∙ (ap (λ (m : Memory). map (λ (p : Place). 4096 * p.first) (places_of m.loan)) (sym c.into_segments-list.ensures.memory)
    ∙ sym (place_starts (pieces_of c.into_segments-list.result.items)))

pub returns-clause-memory : goal.returns-clause-memory
returns-clause-memory c = ap pieces_memory c.put_back.ensures.given ∙ c.into_segments-list.ensures.memory
