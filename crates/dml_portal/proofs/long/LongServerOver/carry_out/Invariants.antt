use Rattle.std.proofs.Common.{◌≡◌, ◌-◌, ◌<◌, ◌≤◌, drop, length, map, take}
use Rattle.std.specs.Prelude.{vec_capacity}
use Rattle.dml_types.specs.Step.{memory_after, records_of}
use Rattle.dml_portal.specs.Log.{answers_in, sent_for}
use Rattle.dml_portal.specs.Lanes.{AreSameLanes, waiting}
use Rattle.dml_portal.specs.Parts.{ArePartly}
use Rattle.dml_portal.specs.Whole.{HaveRoom, HaveSentMore, received_by, room_by}
use Rattle.dml_portal.proofs.long.LongServerOver.carry_out.Given as goal

abbrev pub invariant-loop-from : goal.invariant-loop-from
invariant-loop-from g l =
    let start = l.initial.self in
    let now = l.self in
    let list = start.room.jobs.items in
    let staging = start.engine.settings.staging in
    record {
      within : l.from ≤ length list;
      jobs : now.room.jobs.items ≡ list;
      some : l.from < length list → 1 ≤ vec_capacity now.room.records;
      image : now.engine.image ≡ memory_after start.engine.image (take l.from list) staging;
      answers : answers_in (take l.from (drop l.start now.log.items)) ≡ records_of start.engine.image (take l.from list) staging;
      log : map sent_for now.log.items ≡ map sent_for start.log.items;
      earlier : take l.start now.log.items ≡ take l.start start.log.items;
      blocks : ArePartly (records_of start.engine.image (take l.from list) staging) start.lanes.items now.lanes.items;
      room : HaveRoom now.lanes.items;
      sent : HaveSentMore start.lanes.items now.lanes.items;
      received : map received_by now.lanes.items ≡ map received_by start.lanes.items;
      waiting : map waiting now.lanes.items ≡ map waiting start.lanes.items;
      late_room : map room_by now.lanes.items ≡ map room_by start.lanes.items;
      settings : now.engine.settings ≡ start.engine.settings;
      bound : now.most ≡ start.most;
      same : AreSameLanes start.lanes.items now.lanes.items;
    }

abbrev pub decreases-loop-from : goal.decreases-loop-from
decreases-loop-from g l = length l.initial.self.room.jobs.items - l.from
