use Rattle.std.proofs.Common.{◌≡◌, ℕ, ◌<◌, get_or, length, take}
use Rattle.dml_engine.specs.Loads.{capped, shared_at}
use Rattle.dml_engine.proofs.loads.shared_by_level.Given as goal

abbrev pub invariant-loop-place : goal.invariant-loop-place
invariant-loop-place l =
    record {
      long : length l.by_level ≡ 1024;
      shares : (level : ℕ) → level < 1024
          → get_or l.by_level level 0 ≡ capped (shared_at l.chunk (take l.place l.jobs) (take l.place l.levels) level);
    }
