-- A wave's effects committed one after another.
use Rattle.std.proofs.Common.{◌≡◌, ℕ, ◌<◌, ◌≤◌, Bool, true, false, List, [], ◌∷◌, Option, None, Some, IsTrue, cond, fold, set, map, zero, suc, refl, sym, ◌∙◌, ap, ap₂, subst, arith}
use Rattle.std.specs.Prelude.{unwrap_or, option_map, ◌||◌}
use Rattle.std.specs.List.{All, AllZip}
use Rattle.std.proofs.lemmas.List.Elements.{All-cons, All-filter, All-head, All-nil, All-tail, All-weaker}
use Rattle.std.proofs.lemmas.List.Sums.{sum_by-cons}
use Rattle.dml_types.specs.declared.jobs.Job.{Job}
use Rattle.dml_types.specs.declared.spans.Span.{Span}
use Rattle.dml_types.specs.declared.operations.Op.{Op}
use Rattle.dml_types.specs.declared.operations.Op.TheVariants.{NoOp, Move, Fill, Compare, ComparePattern, CreateDelta, ApplyDelta, Dualcast}
use Rattle.dml_types.specs.Job.{any_shares, op_of, reads, unfenced, writes}
use Rattle.dml_types.specs.Memory.{Memory, IsWhole, Put, memory_of, puts_made}
use Rattle.dml_types.specs.Conflict.{conflict, ranges_of}
use Rattle.dml_types.specs.Effect.{Effect}
use Rattle.dml_types.specs.Refusal.{need}
use Rattle.dml_types.specs.Step.{effect, step}
use Rattle.dml_types.proofs.MemoryLemmas.{puts_present}
use Rattle.dml_desc.specs.Checked.{checked_effect, operation_of}
use Rattle.dml_desc.proofs.CheckedLemmas.{effect_with}
use Rattle.dml_effect.specs.Effects.{are_present, some_puts}
use Rattle.dml_effect.proofs.PutLemmas.{puts_made_some}
use Rattle.dml_levels.specs.Laws.{Progress, begun, carried}
use Rattle.dml_levels.specs.Waves.{job_at, needs_of}
use Rattle.dml_levels.proofs.CommuteLemmas.{effect_stands, step_whole, still_apart}
use Rattle.dml_order.specs.Order.{run_all}
use Rattle.dml_wave.specs.declared.effects.JobEffect.{JobEffect}
use Rattle.dml_wave.specs.Effects.{IsEffectAt, IsEffectOf, committed}
use Rattle.dml_wave.specs.Waves.{AreApart, busy, is_busy}

-- puts change no page's presence
present_after : (memory : Memory) (puts others : List Put) → are_present (puts_made memory puts) others ≡ are_present memory others
present_after memory puts others =
    ap (λ (present : List Bool). are_present (memory_of present [] None) others) (puts_present memory puts)

pub all_present_after : (memory : Memory) (puts : List Put) (effects : List JobEffect) → All (λ done. IsTrue (are_present memory done.effect.puts)) effects
    → All (λ done. IsTrue (are_present (puts_made memory puts) done.effect.puts)) effects
all_present_after memory puts effects here =
    All-weaker (λ done. IsTrue (are_present memory done.effect.puts)) (λ done. IsTrue (are_present (puts_made memory puts) done.effect.puts))
    (λ done is. present_after memory puts done.effect.puts ∙ is) effects here

-- ranges are the same without the fence
abbrev ranges_under : Option Op → (Op → Job → List Span) → Job → List Span
ranges_under o table job = unwrap_or (option_map (λ op. table op job) o) []

reads_same : (op : Op) (job : Job) → reads op (unfenced job) ≡ reads op job
reads_same NoOp job = refl
reads_same Move job = refl
reads_same Fill job = refl
reads_same Compare job = refl
reads_same ComparePattern job = refl
reads_same CreateDelta job = refl
reads_same ApplyDelta job = refl
reads_same Dualcast job = refl

writes_same : (op : Op) (job : Job) → writes op (unfenced job) ≡ writes op job
writes_same NoOp job = refl
writes_same Move job = refl
writes_same Fill job = refl
writes_same Compare job = refl
writes_same ComparePattern job = refl
writes_same CreateDelta job = refl
writes_same ApplyDelta job = refl
writes_same Dualcast job = refl

ranges_unfenced : (job : Job) → (ranges_of reads (unfenced job) ≡ ranges_of reads job) × (ranges_of writes (unfenced job) ≡ ranges_of writes job)
ranges_unfenced job =
    elim (op_of job) as (λ (o : Option Op). (ranges_under o reads (unfenced job) ≡ ranges_under o reads job) × (ranges_under o writes (unfenced job) ≡ ranges_under o writes job)) [
      | None ↦ (refl, refl)
      | Some op ↦ (reads_same op job, writes_same op job)
    ]

conflict_unfenced : (a b : Job) → conflict (unfenced a) (unfenced b) ≡ conflict a b
conflict_unfenced a b =
    let first = ranges_unfenced a in
    let second = ranges_unfenced b in
    ap₂ (λ (reads_a writes_a : List Span). any_shares writes_a (ranges_of reads (unfenced b)) || any_shares writes_a (ranges_of writes (unfenced b)) || any_shares reads_a (ranges_of writes (unfenced b))) first.0 first.1
    ∙ ap₂ (λ (reads_b writes_b : List Span). any_shares (ranges_of writes a) reads_b || any_shares (ranges_of writes a) writes_b || any_shares (ranges_of reads a) writes_b) second.0 second.1

-- an effect stands behind a job with which its own does not conflict
stands : (memory : Memory) (a b : Job) (staging : ℕ) (done : Effect) → IsWhole memory → conflict a b ≡ false → need b ≤ staging → IsEffectOf memory b done → IsEffectOf (step memory (unfenced a) staging).0 b done
stands memory a b staging done whole apart enough is =
    let next = (step memory (unfenced a) staging).0 in
    let same : checked_effect next b ≡ checked_effect memory b =
    sym (effect_with next b staging is.checked enough)
    ∙ (effect_stands memory (unfenced a) (unfenced b) staging whole (still_apart staging (unfenced a) (unfenced b) (conflict_unfenced a b ∙ apart)) ∙ effect_with memory b staging is.checked enough) in
    record {
      checked = is.checked;
      answer = is.answer ∙ sym (ap (λ (e : Effect). e.answer) same);
      puts = is.puts ∙ sym (ap (λ (e : Effect). some_puts e.puts) same);
      present = present_after memory (effect memory (unfenced a) staging).puts done.puts ∙ is.present;
    }

module _ (jobs : List Job) (staging : ℕ) where
  abbrev Enough : ℕ → Type 0
  Enough k = need (job_at jobs k) ≤ staging

  -- the job at a place without its fence
  free_at : (i : ℕ) → job_at (map unfenced jobs) i ≡ unfenced (job_at jobs i)
  free_at i = at_map jobs i
    where
      at_map : (xs : List Job) (k : ℕ) → job_at (map unfenced xs) k ≡ unfenced (job_at xs k)
      at_map [] k = refl
      at_map (x ∷ xs) zero = refl
      at_map (x ∷ xs) (suc k) = at_map xs k

  all_stand : (memory : Memory) (a : Job) (places : List ℕ) (effects : List JobEffect) → IsWhole memory → All (λ k. conflict a (job_at jobs k) ≡ false) places → All Enough places
      → AllZip (IsEffectAt memory jobs) places effects → AllZip (IsEffectAt (step memory (unfenced a) staging).0 jobs) places effects
  all_stand memory a [] [] whole apart enough are = tt
  all_stand memory a [] (done ∷ effects) whole apart enough are = absurd are
  all_stand memory a (k ∷ places) [] whole apart enough are = absurd are
  all_stand memory a (k ∷ places) (done ∷ effects) whole apart enough are = (
    record {
      place = are.0.place;
      effect = stands memory a (job_at jobs k) staging done.effect whole (All-head (λ k. conflict a (job_at jobs k) ≡ false) k places apart) (All-head Enough k places enough) are.0.effect;
    },
    all_stand memory a places effects whole (All-tail (λ k. conflict a (job_at jobs k) ≡ false) k places apart) (All-tail Enough k places enough) are.1,
  )

  -- one commit is the step of its job
  committed_one : (now : Progress) (i : ℕ) (done : JobEffect) → Enough i → IsEffectAt now.image jobs i done → committed now done ≡ carried (map unfenced jobs) staging now i
  committed_one now i done enough is =
      let job = job_at jobs i in
      let same = effect_with now.image job staging is.effect.checked enough in
      let image : puts_made now.image done.effect.puts ≡ (step now.image (unfenced job) staging).0 =
      ap (puts_made now.image) is.effect.puts
      ∙ (puts_made_some now.image (checked_effect now.image job).puts ∙ sym (ap (λ (e : Effect). puts_made now.image e.puts) same)) in
      let answer : done.effect.answer ≡ (step now.image (unfenced job) staging).1 =
      is.effect.answer ∙ sym (ap (λ (e : Effect). e.answer) same) in
      ap₂ begun image (ap₂ (set now.records) is.place answer)
      ∙ ap (λ (j : Job). begun (step now.image j staging).0 (set now.records i (step now.image j staging).1)) (sym (free_at i))

  pub committed_all : (places : List ℕ) (effects : List JobEffect) (now : Progress) → IsWhole now.image → AreApart jobs places → All Enough places → AllZip (IsEffectAt now.image jobs) places effects
      → fold committed now effects ≡ run_all (carried (map unfenced jobs) staging) now places
  committed_all [] [] now whole apart enough are = refl
  committed_all [] (done ∷ effects) now whole apart enough are = absurd are
  committed_all (i ∷ places) [] now whole apart enough are = absurd are
  committed_all (i ∷ places) (done ∷ effects) now whole apart enough are =
      let job = job_at jobs i in
      let rest = All-tail Enough i places enough in
      let next = carried (map unfenced jobs) staging now i in
      let image : (step now.image (unfenced job) staging).0 ≡ next.image =
      ap (λ (j : Job). (step now.image j staging).0) (sym (free_at i)) in
      ap (λ (p : Progress). fold committed p effects) (committed_one now i done (All-head Enough i places enough) are.0)
      ∙ committed_all places effects next (subst IsWhole image (step_whole now.image (unfenced job) staging whole)) apart.1 rest
      (subst (λ (m : Memory). AllZip (IsEffectAt m jobs) places effects) image (all_stand now.image job places effects whole apart.0 rest are.1))

  -- what a wave is known by holds of its busy places
  pub busy_apart : (places : List ℕ) → AreApart jobs places → AreApart jobs (busy jobs places)
  busy_apart [] apart = tt
  busy_apart (i ∷ places) apart =
      let rest = busy_apart places apart.1 in
      elim (is_busy (operation_of (job_at jobs i))) as (λ (b : Bool). AreApart jobs (cond b (i ∷ busy jobs places) (busy jobs places))) [
        | true ↦ (All-filter (λ k. is_busy (operation_of (job_at jobs k))) (λ k. conflict (job_at jobs i) (job_at jobs k) ≡ false) places apart.0, rest)
        | false ↦ rest
      ]

  all_enough : (places : List ℕ) → needs_of jobs places ≤ staging → All Enough places
  all_enough [] few = All-nil Enough
  all_enough (i ∷ places) few =
      let sum = sum_by-cons (λ k. need (job_at jobs k)) i places in
      All-cons Enough i places (omega (arith, sum, few)) (all_enough places (omega (arith, sum, few)))

  pub busy_enough : (places : List ℕ) → needs_of jobs places ≤ staging → All Enough (busy jobs places)
  busy_enough places few =
      All-filter (λ k. is_busy (operation_of (job_at jobs k))) Enough places (all_enough places few)

-- what the commit of a wave asks of its effects
pub effects_within : (memory : Memory) (jobs : List Job) (n : ℕ) (places : List ℕ) (effects : List JobEffect) → All (λ i. i < n) places → AllZip (IsEffectAt memory jobs) places effects → All (λ done. done.place < n) effects
effects_within memory jobs n [] [] inside are = All-nil (λ done. done.place < n)
effects_within memory jobs n [] (done ∷ effects) inside are = absurd are
effects_within memory jobs n (i ∷ places) [] inside are = absurd are
effects_within memory jobs n (i ∷ places) (done ∷ effects) inside are =
    All-cons (λ d. d.place < n) done effects (subst (λ k. k < n) (sym are.0.place) (All-head (λ i. i < n) i places inside))
    (effects_within memory jobs n places effects (All-tail (λ i. i < n) i places inside) are.1)

pub effects_present : (memory : Memory) (jobs : List Job) (places : List ℕ) (effects : List JobEffect) → AllZip (IsEffectAt memory jobs) places effects → All (λ done. IsTrue (are_present memory done.effect.puts)) effects
effects_present memory jobs [] [] are = All-nil (λ done. IsTrue (are_present memory done.effect.puts))
effects_present memory jobs [] (done ∷ effects) are = absurd are
effects_present memory jobs (i ∷ places) [] are = absurd are
effects_present memory jobs (i ∷ places) (done ∷ effects) are =
    All-cons (λ d. IsTrue (are_present memory d.effect.puts)) done effects are.0.effect.present (effects_present memory jobs places effects are.1)
