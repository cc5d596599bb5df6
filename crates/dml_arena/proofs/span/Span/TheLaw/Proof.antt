-- A `&` to a span shows its words and its bytes. Assumes `Logic`.
use Rattle.dml_arena.proofs.Steps.{[], ◌++◌, Lft, Incl, Incl-trans, meet_⊑_left}
use denote.RattleType.{RattleType}
use denote.Builtin.{u8}
use denote.Ref.{NamedLft, MutRef}
use denote.Param.Shared.{copy_shared}
use denote.SharingLaws.{within_shr_laws}
use denote.Array.{Array, Array-row_laws}
use denote.Struct.Field.{RawPtr-field}
use denote.Struct.Laws.{RawPtr-copy, field_copy}
use denote.Struct.Lending.{of_Lends, lent_at, lent_at_shr_laws}
use lib.ListN.{length}
use mir.Syntax.{w8}
use denote.Plain.{uint_row_laws}
use Rattle.core.specs.contracts.marker.PhantomData as marker
use Rattle.dml_arena.specs.contracts.span.Span as C
use Rattle.dml_arena.proofs.Sharing.{Lends-span}
use Rattle.dml_arena.proofs.span.Span.TheLaw.Statement.{statement}

-- the type's own lifetime is its parameter's, written with what its fields add
no_longer : (κ : Lft) → Incl (κ ++ [] ++ [] ++ [] ++ []) κ
no_longer κ = let ends : (l : Lft) → Incl (l ++ []) l = λ l. meet_⊑_left l [] in Incl-trans (ends (κ ++ [] ++ [] ++ [])) (Incl-trans (ends (κ ++ [] ++ [])) (Incl-trans (ends (κ ++ [])) (ends κ)))

pub shares : (κ : NamedLft) → statement κ
shares κ =
    let R : RattleType = MutRef κ.mir κ.lft u8 in
    of_Lends (C.struct κ) (C.the_codes (marker.the_row R).coded) (C.the_heap κ.lft) (C.the_lent κ.lft)
    (λ d p. within_shr_laws κ.lft (lent_at (Array u8 (length d.bytes)) d.ptr d.bytes) (lent_at_shr_laws (Array u8 (length d.bytes)) (Array-row_laws u8 (uint_row_laws w8) (length d.bytes)) d.ptr d.bytes))
    (copy_shared RawPtr-field RawPtr-copy, (copy_shared (marker.the_field R) (field_copy (marker.the_type R) tt), tt))
    (λ M 𝓤 𝓛 d p. Lends-span 𝓛 κ.lft d.name d.ptr d.room d.bytes (C.the_row κ).lives (no_longer κ.lft))
