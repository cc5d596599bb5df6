-- Which jobs of a list have to wait for earlier ones.
use Rattle.std.specs.Prelude.{fold, unwrap_or, option_map, ℕ, zero, suc, ◌+◌, max, Bool, ◌||◌, List, [], ◌∷◌, ◌++◌, length, map, filter, slice_index, slice_index_or, slice_range}
use Rattle.dml_types.specs.Types.{Job, Op, Span, list_any, range_with_len}
use Rattle.dml_types.specs.Job.{op_of, is_fenced, no_op_job, any_shares, reads, writes}

-- the ranges that a job reads, or writes, by its descriptor alone
abbrev pub ranges_of : (Op → Job → List Span) → Job → List Span
ranges_of table job = unwrap_or (option_map (λ op. table op job) (op_of job)) []

-- a written range of one shares a byte with a range of the other
abbrev pub conflict : Job → Job → Bool
conflict a b =
    any_shares (ranges_of writes a) (ranges_of reads b)
    || any_shares (ranges_of writes a) (ranges_of writes b)
    || any_shares (ranges_of reads a) (ranges_of writes b)

-- the jobs at two places of a list clash where they conflict
abbrev pub clash_of : List Job → ℕ → ℕ → Bool
clash_of jobs i k = conflict (slice_index_or jobs i no_op_job) (slice_index_or jobs k no_op_job)

-- for any `clash` of places: one more than the greatest level of an earlier job that clashes with job i, 0
-- where none does
abbrev pub level_over : (ℕ → ℕ → Bool) → List ℕ → ℕ → ℕ
level_over clash levels i =
    fold max 0 (map (λ k. slice_index levels k + 1) (filter (λ k. clash k i) (range_with_len 0 i)))

-- the levels of the first n jobs
abbrev pub clash_levels : (ℕ → ℕ → Bool) → ℕ → List ℕ
clash_levels clash zero = []
clash_levels clash (suc n) = clash_levels clash n ++ level_over clash (clash_levels clash n) n ∷ []

-- the levels of a list's jobs: those clash that conflict
abbrev pub levels : List Job → List ℕ
levels jobs = clash_levels (clash_of jobs) (length jobs)

-- in a batch the jobs at two places also clash where one behind the first, up to the second, is fenced
abbrev pub fenced_clash : List Job → ℕ → ℕ → Bool
fenced_clash jobs i k = clash_of jobs i k || list_any is_fenced (slice_range jobs (i + 1) (k + 1))

abbrev pub fenced_levels : List Job → List ℕ
fenced_levels jobs = clash_levels (fenced_clash jobs) (length jobs)
