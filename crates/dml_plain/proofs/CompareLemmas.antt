-- How far a compare goes, from the bytes that it looks at.
use Rattle.std.proofs.Common.{◌≡◌, ℕ, ◌+◌, ◌<◌, ◌≤◌, ◌&&◌, ◌==◌, Bool, true, false, not, refl, sym, ◌∙◌, ap}
use Rattle.dml_types.specs.declared.operations.Op.TheVariants.{Compare}
use Rattle.dml_types.specs.declared.jobs.Job.{Job}
use Rattle.dml_types.specs.Memory.{Memory, has, byte_at}
use Rattle.dml_types.specs.Bytewise.{length_of, passes}
use Rattle.dml_types.proofs.FirstLemmas.{first_is}

abbrev alike : Memory → ℕ → ℕ → Bool
alike memory one other = has memory one && has memory other && (byte_at memory one == byte_at memory other)

and_true : (a b c : Bool) → (a && (b && true)) && c ≡ a && b && c
and_true true true c = refl
and_true true false c = refl
and_true false b c = refl

alike_is : (memory : Memory) (job : Job) (i : ℕ) → passes Compare memory job i ≡ alike memory (job.source + i) (job.target + i)
alike_is memory job i =
    and_true (has memory (job.source + i)) (has memory (job.target + i)) (byte_at memory (job.source + i) == byte_at memory (job.target + i))

pub compare_length_is : (memory : Memory) (job : Job) (k : ℕ) → k ≤ job.size → ((i : ℕ) → i < k → alike memory (job.source + i) (job.target + i) ≡ true) → (k < job.size → alike memory (job.source + k) (job.target + k) ≡ false) → k ≡ length_of Compare memory job
compare_length_is memory job k within before here =
    sym (first_is job.size _ k within (λ i low. ap not (alike_is memory job i ∙ before i low)) (λ below. ap not (alike_is memory job k ∙ here below)))
