-- The levels of a list from the heights of its cells.
use Rattle.std.proofs.Common.{◌≡◌, inl, inr, ℕ, ◌+◌, ◌-◌, ◌<◌, ◌≤◌, Bool, List, [], ◌∷◌, ◌++◌, length, get_or, replicate, ap, refl, sym, ◌∙◌, subst, arith, ⊎_elim}
use Rattle.std.proofs.lemmas.Bool.{cases_lt}
use Rattle.std.proofs.lemmas.List.{get_or-replicate, length-replicate}
use Rattle.std.proofs.Math.ListN.{get_or-eq_default}
use Rattle.std.proofs.lemmas.List.Elements.{All-map}
use Rattle.std.specs.Prelude.{All}
use Rattle.std.specs.List.Sorted.{IsPermutation}
use Rattle.dml_types.specs.declared.jobs.Job.{Job}
use Rattle.dml_types.specs.declared.spans.Span.{Span}
use Rattle.dml_types.specs.Job.{no_op_job}
use Rattle.dml_types.specs.Conflict.{clash_of, level_over, clash_levels}
use Rattle.dml_order.proofs.LevelLemmas.{length_levels_of, level_among_le, level_le, levels_of_more}
use Rattle.dml_levels.specs.declared.cells.Cells.{Cells}
use Rattle.dml_levels.specs.Cells.{Footprint}
use Rattle.dml_levels.specs.declared.heights.Heights.{Heights}
use Rattle.dml_levels.specs.Cells.{IsCovered, IsLevelIn, IsRaised, IsTouched, all_starts, cells_of, cover_of, footprint_of}
use Rattle.dml_levels.specs.Touched.{read_spans, written_spans}
use Rattle.dml_levels.proofs.CellLemmas.{cell_within}
use Rattle.dml_levels.proofs.HeightLemmas.{AreHeights, heights_more, level_of_heights}
use Rattle.dml_levels.proofs.PlaceLemmas.{ReadsCell, TouchesCell, WritesCell, clash_of_shared, shared_of_clash}

-- what is known after the first i jobs
pub record AreRisen (starts : List ℕ) (jobs : List Job) (i : ℕ) (levels : List ℕ) (heights : Heights) : Type 0 where
  pub levels_so_far : levels ≡ clash_levels (clash_of jobs) i
  pub touched_long : length heights.touched.items ≡ length starts + 1
  pub written_long : length heights.written.items ≡ length starts + 1
  pub touched : AreHeights (TouchesCell starts jobs) levels i heights.touched.items
  pub written : AreHeights (WritesCell starts jobs) levels i heights.written.items

no_heights : (has : ℕ → ℕ → Type 0) (n : ℕ) (heights : List ℕ) → heights ≡ replicate n 0 → AreHeights has [] 0 heights
no_heights has n heights is = record {
  bound = λ k cell below covers. absurd (omega (arith, below));
  reached = λ cell. inl (ap (λ (list : List ℕ). get_or list cell 0) is ∙ zero_at n cell);
}
  where
    zero_at : (n cell : ℕ) → get_or {A = ℕ} (replicate n 0) cell 0 ≡ 0
    zero_at n cell =
        ⊎_elim (λ below. get_or-replicate {A = ℕ} n cell 0 0 below)
        (λ past. get_or-eq_default {A = ℕ} (replicate n 0) 0 (omega (arith, past, length-replicate {A = ℕ} n 0))) (cases_lt cell n)

pub risen_none : (starts : List ℕ) (jobs : List Job) (heights : Heights) → heights.touched.items ≡ replicate (length starts + 1) 0 → heights.written.items ≡ replicate (length starts + 1) 0 → AreRisen starts jobs 0 [] heights
risen_none starts jobs heights touched written = record {
  levels_so_far = refl;
  touched_long = ap length touched ∙ length-replicate {A = ℕ} (length starts + 1) 0;
  written_long = ap length written ∙ length-replicate {A = ℕ} (length starts + 1) 0;
  touched = no_heights (TouchesCell starts jobs) (length starts + 1) heights.touched.items touched;
  written = no_heights (WritesCell starts jobs) (length starts + 1) heights.written.items written;
}

-- each cell of a range is one of the list's
pub cover_within : (starts : List ℕ) (spans : List Span) (cells : ℕ) → length starts < cells → All (λ cover. cover.end ≤ cells) (cover_of starts spans)
cover_within starts spans cells room =
    All-map (λ (cover : Cells). cover.end ≤ cells) (cells_of starts) spans
    (λ k d below. omega (arith, room, cell_within starts ((get_or spans k d).start + ((get_or spans k d).len - 1))))

pub level_is : (starts : List ℕ) (jobs : List Job) (i : ℕ) (levels : List ℕ) (heights : Heights) (level : ℕ) → IsPermutation (all_starts jobs) starts → i < length jobs → AreRisen starts jobs i levels heights → IsLevelIn heights (footprint_of starts (get_or jobs i no_op_job)) level → level ≡ level_over (clash_of jobs) levels i
level_is starts jobs i levels heights level all below known found =
    level_of_heights (clash_of jobs) (ReadsCell starts jobs) (WritesCell starts jobs) (TouchesCell starts jobs) levels heights.written.items heights.touched.items i level
    known.written known.touched (λ k before clashing. shared_of_clash starts jobs k i clashing)
    (λ k cell before shared. clash_of_shared starts jobs k i cell all (omega (arith, before, below)) below shared)
    found.reads found.writes
    (⊎_elim (λ none. inl none)
    (λ at. inr (⊎_elim (λ read. inl (record { cell = read.cell; covers = read.covers; same = read.same })) (λ write. inr (record { cell = write.cell; covers = write.covers; same = write.same })) at)) found.reached)

-- one job more
pub risen_more : (starts : List ℕ) (jobs : List Job) (i : ℕ) (levels : List ℕ) (old new : Heights) (level height : ℕ) → IsPermutation (all_starts jobs) starts → i < length jobs → AreRisen starts jobs i levels old → IsLevelIn old (footprint_of starts (get_or jobs i no_op_job)) level → height ≡ level + 1 → IsRaised old.touched.items (TouchesCell starts jobs i) height new.touched.items → IsRaised old.written.items (WritesCell starts jobs i) height new.written.items → AreRisen starts jobs (i + 1) (levels ++ level ∷ []) new
risen_more starts jobs i levels old new level height all below known found above touched written =
    let long : length levels ≡ i = ap length known.levels_so_far ∙ length_levels_of (clash_of jobs) i in
    let is : level ≡ level_over (clash_of jobs) levels i = level_is starts jobs i levels old level all below known found in
    record {
      levels_so_far = ap (λ last. levels ++ last ∷ []) is
          ∙ (ap (λ list. list ++ level_over (clash_of jobs) list i ∷ []) known.levels_so_far ∙ sym (levels_of_more (clash_of jobs) i));
      touched_long = touched.same_length ∙ known.touched_long;
      written_long = written.same_length ∙ known.written_long;
      touched = heights_more (TouchesCell starts jobs) levels old.touched.items new.touched.items i level long known.touched
          (λ cell covers. omega (arith, above, touched.inside cell covers)) touched.outside;
      written = heights_more (WritesCell starts jobs) levels old.written.items new.written.items i level long known.written
          (λ cell covers. omega (arith, above, written.inside cell covers)) written.outside;
    }

-- all cells of a job are among those of the list
pub reads_within : (starts : List ℕ) (job : Job) (footprint : Footprint) (cells : ℕ) → footprint ≡ footprint_of starts job → cells ≡ length starts + 1 → All (λ cover. cover.end ≤ cells) footprint.reads
reads_within starts job footprint cells is long =
    subst (λ (f : Footprint). All (λ cover. cover.end ≤ cells) f.reads) (sym is) (cover_within starts (read_spans job) cells (omega (arith, long)))

pub writes_within : (starts : List ℕ) (job : Job) (footprint : Footprint) (cells : ℕ) → footprint ≡ footprint_of starts job → cells ≡ length starts + 1 → All (λ cover. cover.end ≤ cells) footprint.writes
writes_within starts job footprint cells is long =
    subst (λ (f : Footprint). All (λ cover. cover.end ≤ cells) f.writes) (sym is) (cover_within starts (written_spans job) cells (omega (arith, long)))

level_small : (clash : ℕ → ℕ → Bool) (levels : List ℕ) (i : ℕ) → levels ≡ clash_levels clash i → level_over clash levels i ≤ i
level_small clash levels i is =
    level_among_le clash levels i i (λ k under. omega (arith, ap (λ (list : List ℕ). get_or list k 0) is, level_le clash i k under))

-- the loop over the jobs
pub risen_next : (starts : List ℕ) (jobs : List Job) (footprint : Footprint) (i : ℕ) (levels : List ℕ) (old new : Heights) (level height : ℕ) → IsPermutation (all_starts jobs) starts → i < length jobs → footprint ≡ footprint_of starts (get_or jobs i no_op_job) → AreRisen starts jobs i levels old → IsLevelIn old footprint level → (level ≤ i → height ≡ level + 1) → IsRaised old.touched.items (IsTouched footprint) height new.touched.items → IsRaised old.written.items (IsCovered footprint.writes) height new.written.items → AreRisen starts jobs (i + 1) (levels ++ level ∷ []) new
risen_next starts jobs footprint i levels old new level height all room is known found above touched written =
    let job : Job = get_or jobs i no_op_job in
    let own : IsLevelIn old (footprint_of starts job) level = subst (λ (f : Footprint). IsLevelIn old f level) is found in
    risen_more starts jobs i levels old new level height all room known own
    (above (omega (arith, level_is starts jobs i levels old level all room known own, level_small (clash_of jobs) levels i known.levels_so_far)))
    (subst (λ (f : Footprint). IsRaised old.touched.items (IsTouched f) height new.touched.items) is touched)
    (subst (λ (f : Footprint). IsRaised old.written.items (IsCovered f.writes) height new.written.items) is written)
