use Rattle.std.proofs.Common.{◌≡◌, length, drop}
use Rattle.dml_order.specs.Order.{run_all}
use Rattle.dml_core.specs.World.{carry_out, progress}
use Rattle.dml_core.proofs.carrying.carry_out_wave.Given as goal

abbrev pub invariant-loop-place : goal.invariant-loop-place
invariant-loop-place l =
    (run_all (carry_out l.staging) (progress l.image l.fetched.items) (drop l.place-index l.wave)
    ≡ run_all (carry_out l.staging) (progress l.initial.image l.initial.fetched.items) l.wave)
    × (length l.fetched.items ≡ length l.initial.fetched.items)
    × (l.arena ≡ l.initial.arena)
