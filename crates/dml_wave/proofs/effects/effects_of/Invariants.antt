use Rattle.std.proofs.Common.{◌≤◌, length, map, take, drop, vec_len, vec_capacity}
use Rattle.std.specs.List.{AllZip}
use Rattle.dml_pool.specs.Slots.{behind}
use Rattle.dml_wave.specs.Effects.{HoldWave, IsEffectAt}
use Rattle.dml_wave.specs.Waves.{busy}
use Rattle.dml_wave.proofs.effects.effects_of.Given as goal

abbrev pub invariant-loop-place : goal.invariant-loop-place
invariant-loop-place l =
    record {
      slots : HoldWave l.image l.jobs l.chunk (drop l.place-index l.wave) (drop l.from (map behind l.slots));
      within : l.from ≤ length l.slots;
      found : AllZip (IsEffectAt l.image l.jobs) (busy l.jobs (take l.place-index l.wave)) l.effects.items;
      few : vec_len l.effects ≤ l.place-index;
      room : length l.wave ≤ vec_capacity l.effects;
    }
