-- The arena's room is taken out of it, and put back. Assumes `Logic`.
--     Around       the arena, but for its room
--     room_out, room_in       the room comes out of the arena;  and goes back, whatever lies there by then
use Rattle.dml_arena.proofs.Steps.{◌≡◌, ℕ, List, [], ◌∷◌, refl, Ura, full_share, ent, sep, Fml, ftrue, fsep, Logic, sem, Item, ‵, ◌⊛◌, some, given, ◌$◌, ◌∵◌, !, qed, by, move, use1, pick, fsplit, fjoin, fpick, fpack, feq_i, feq_l, done, rewrite, RattleType, Val, vstruct}
use denote.Laws.{shows}
use denote.Memory.{part_at, part_of, cell_at, mem}
use denote.Model.Fields.{view_owns, view_made, plain_out, Plain-in}
use denote.RattleType.{Denots, Valss, flat, owns}
use denote.Steps.{peeks}
use denote.Struct.Declared as declared
use denote.Struct.Struct.{Shape, within}
use mir.Val.{of_list}
use types.Kit.{check, show, mean}
use Rattle.dml_arena.specs.Block.{Block}
use Rattle.dml_arena.specs.Ownership.{room_of}
use Rattle.dml_arena.specs.declared.arena.Arena.TheInside.{Inside}
use Rattle.dml_arena.specs.contracts.arena.Arena as arena
use Rattle.dml_arena.specs.contracts.arena.Arena.TheInside as inside
use Rattle.dml_arena.specs.contracts.memory.Memory as memory
use Rattle.dml_arena.proofs.Values.{memory_val, memory_own, memory_told}

abbrev pub Ar : RattleType
Ar = arena.the_row

abbrev pub In : RattleType
In = inside.the_row

abbrev pub S : Shape
S = declared.shape inside.the_type

-- what the fields past the first own
abbrev later_fields : (Rs : List RattleType) → Denots Rs → Valss Rs → Fml
later_fields [] a vss = ftrue
later_fields (R ∷ Rs) a vss = owns Rs a.1 vss.1

-- the fields behind a value
abbrev pub Seen : Block → Type 0
Seen d = (a : Inside) × ((arena.the_view a ≡ d) × arena.the_invariant a)

abbrev pub words : Valss S.fields → List Val
words vss = vstruct (of_list (flat S.fields vss)) ∷ []

module _ (b₀ o₀ : ℕ) where
  abbrev pub Around : Inside → Valss S.fields → Fml
  Around a vss = fsep (memory_own a.memory.ptr a.memory.size vss.0) (later_fields S.fields ((inside.the_type).to a) vss)

  abbrev pub Cell : Valss S.fields → Fml
  Cell vss = cell_at full_share In.mir (words vss) b₀ o₀

  module _ {M : Type 1} {𝓤 : Ura M} (𝓛 : Logic 𝓤) (d : Block) where
    abbrev pub Out : Seen d → Item 𝓤
    Out x = some (λ (vss : Valss S.fields). given (vss.0 ≡ memory_val x.0.memory.ptr x.0.memory.size ∷ []) (‵ (room_of x.0.memory.ptr x.0.memory.size) ⊛ ‵ (Around x.0 vss) ⊛ ‵ (Cell vss)))

    pub room_out : ent 𝓤 (sem 𝓛 ((mem Ar).own_at d b₀ o₀)) (mean 𝓛 (some Out))
    unfolding part_of
    room_out =
        qed 𝓛 (‵ (part_at Ar full_share d b₀ o₀) ∷ []) ∵
        use1 𝓛 (some (λ (x : Seen d). ‵ (part_at In full_share x.0 b₀ o₀))) (plain_out Ar In (view_owns In Block Ar.coded arena.the_view arena.the_invariant) 𝓛 full_share d b₀ o₀) $ pick ! (λ x.
        fpick ! (λ vs. fsplit ! $ move ! (1 ∷ []) $ fpick ! (λ vss. fsplit ! $ feq_l ! (λ value. fsplit ! $ rewrite ! 2 (λ (us : List Val). ‵ (cell_at full_share In.mir us b₀ o₀)) value refl $
        peeks ! memory.the_row _ (shows 𝓛 memory.the_row) x.0.memory vss.0 (λ told. fsplit ! $ move ! (0 ∷ 2 ∷ []) $ fjoin ! $ move ! (1 ∷ 0 ∷ 2 ∷ []) $
        show ! (λ (z : Seen d). mean 𝓛 (Out z)) x $ show ! (λ (us : Valss S.fields). mean 𝓛 (given (us.0 ≡ memory_val x.0.memory.ptr x.0.memory.size ∷ []) (‵ (room_of x.0.memory.ptr x.0.memory.size) ⊛ ‵ (Around x.0 us) ⊛ ‵ (Cell us)))) vss $
        check ! (memory_told x.0.memory.ptr x.0.memory.size vss.0 told.0).0 $ done !)))))

    pub room_in : (x : Seen d) (vss : Valss S.fields) → ent 𝓤 (sep 𝓤 (sem 𝓛 (room_of x.0.memory.ptr x.0.memory.size)) (sep 𝓤 (sem 𝓛 (Around x.0 vss)) (sem 𝓛 (Cell vss)))) (sem 𝓛 ((mem Ar).own_at d b₀ o₀))
    unfolding part_of
    room_in x vss =
        let held = (inside.the_type).to x.0 in
        qed 𝓛 (‵ (room_of x.0.memory.ptr x.0.memory.size) ∷ ‵ (Around x.0 vss) ∷ ‵ (Cell vss) ∷ []) ∵ move ! (1 ∷ []) $ fsplit ! $ move ! (0 ∷ 2 ∷ []) $ fjoin ! $ fjoin ! $
        feq_i ! (List Val) (words vss) (words vss) refl $ fjoin ! $ fpack ! (Valss S.fields) (within S held (words vss)) vss $ move ! (1 ∷ 0 ∷ []) $ fjoin ! $
        fpack ! (List Val) (λ us. fsep (cell_at full_share In.mir us b₀ o₀) (In.own_val x.0 us)) (words vss) $
        by ! (Plain-in Ar In (view_owns In Block Ar.coded arena.the_view arena.the_invariant) 𝓛 full_share d x.0 (view_made In Block Ar.coded arena.the_view arena.the_invariant 𝓛 d x.0 x.1) b₀ o₀)
