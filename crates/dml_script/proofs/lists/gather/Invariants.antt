use Rattle.std.proofs.Common.{◌≡◌, ◌≤◌, ◌++◌, length, map, vec_capacity, vec_len}
use Rattle.dml_grammar.specs.declared.lines.Line.TheVariants as line
use Rattle.dml_grammar.specs.Grammar.{most_jobs}
use Rattle.dml_script.proofs.lists.gather.Given as goal

abbrev pub invariant-loop-lines : goal.invariant-loop-lines
invariant-loop-lines l = record {
  longer : vec_len l.initial.list ≤ vec_len l.list;
  few : vec_len l.list ≤ most_jobs;
  room : most_jobs ≤ vec_capacity l.list;
  so_far : map (λ job. line.Job job) l.initial.list.items ++ l.initial.lines ≡ map (λ job. line.Job job) l.list.items ++ l.lines;
}

abbrev pub decreases-loop-lines : goal.decreases-loop-lines
decreases-loop-lines l = length l.lines
