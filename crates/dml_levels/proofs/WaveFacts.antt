-- What is said of the waves of jobs.
use Rattle.std.proofs.Common.{◌≡◌, ℕ, List, length, sym, ◌∙◌, ap, subst}
use Rattle.dml_types.specs.declared.jobs.Job.{Job}
use Rattle.dml_types.specs.Conflict.{fenced_clash, fenced_levels}
use Rattle.dml_order.specs.Order.{IsOrder}
use Rattle.dml_order.specs.Waves.{joined}
use Rattle.dml_order.proofs.WaveLemmas.{waves_order}
use Rattle.dml_levels.specs.Waves.{fits_wave, waves}

pub each_once : (jobs : List Job) (given : List ℕ) (staging chunk : ℕ) (list : List (List ℕ)) → given ≡ fenced_levels jobs → list ≡ waves jobs given staging chunk → IsOrder (fenced_clash jobs) (length jobs) (joined list)
each_once jobs given staging chunk list same cut =
    subst (λ (these : List (List ℕ)). IsOrder (fenced_clash jobs) (length jobs) (joined these))
    (sym (cut ∙ ap (λ (own : List ℕ). waves jobs own staging chunk) same))
    (waves_order (fits_wave jobs staging chunk) (fenced_clash jobs) (length jobs))
