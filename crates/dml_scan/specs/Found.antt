-- How much of a chunk a scan did.
use Rattle.std.specs.Prelude.{ℕ}
use Rattle.dml_types.specs.declared.findings.Found.{Found}
use Rattle.dml_types.specs.declared.findings.Found.TheVariants.{All, Differs, Fault}

-- of n bytes
abbrev pub done_count : ℕ → Found → ℕ
done_count n All = n
done_count n (Differs done) = done
done_count n (Fault done place write) = done
