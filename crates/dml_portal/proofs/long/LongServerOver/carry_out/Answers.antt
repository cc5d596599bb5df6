use Rattle.std.proofs.Common.{◌≡◌, ◌+◌, ◌-◌, ◌≤◌, ◌++◌, ◌∙◌, drop, length, take, slice_range, refl, sym, ap, subst, arith}
use Rattle.std.proofs.lemmas.List.{length-drop, length-map, length-take-le, take_all}
use Rattle.dml_types.specs.Step.{memory_after, records_of}
use Rattle.dml_portal.specs.Log.{answers_in, sent_for}
use Rattle.dml_portal.specs.Parts.{ArePartly}
use Rattle.dml_portal.proofs.LaneLemmas.{same_lanes}
use Rattle.dml_portal.proofs.LookLemmas.{same_lanes_again}
use Rattle.dml_portal.proofs.PartLemmas.{answers_more, front_of, part_more, parts_more, parts_none}
use Rattle.dml_portal.proofs.WholeLemmas.{sent_again, sent_along}
use Rattle.dml_portal.proofs.long.LongServerOver.carry_out.Goals as goal

pub loop-from-init : goal.loop-from-init
loop-from-init g c =
    let lanes = c.args.self.now.lanes.items in
    record {
      within = omega arith;
      jobs = refl;
      some = λ below. omega (arith, below, c.requires.room);
      image = refl;
      answers = refl;
      log = refl;
      earlier = refl;
      blocks = parts_none lanes;
      room = c.requires.late_room;
      sent = sent_again lanes;
      received = refl;
      waiting = refl;
      late_room = refl;
      settings = refl;
      bound = refl;
      same = same_lanes_again lanes;
    }

pub loop-from-preserved : goal.loop-from-preserved
loop-from-preserved g c =
    let start = c.args.self.now in
    let before = c.loop-from.invariant in
    let was = c.loop-from.self in
    let from = c.loop-from.from in
    let to = c.part_end-to.result in
    let jobs = start.room.jobs.items in
    let staging = start.engine.settings.staging in
    let part = slice_range jobs from to in
    let given = c.as_slice-in-loop-from.result.now in
    let given_are : given ≡ jobs = c.as_slice-in-loop-from.ensures.value ∙ before.jobs in
    let image = memory_after start.engine.image (take from jobs) staging in
    let done = records_of start.engine.image (take from jobs) staging in
    let more = records_of image part staging in
    let folds = c.law_of_folds.ensures in
    let all : take from jobs ++ part ≡ take to jobs = part_more jobs from to (omega (arith, c.part_end-to.ensures.more)) in
    let long : to ≤ length jobs = omega (arith, c.part_end-to.ensures.within, ap length before.jobs) in
    let number : length part ≡ to - from = length-take-le (to - from) (drop from jobs) (omega (arith, length-drop from jobs, long)) in
    let records_are : c.as_slice-records.result.now ≡ more =
    c.as_slice-records.ensures.value
    ∙ (c.submit_into.ensures.records
    ∙ (ap (λ m. records_of m (slice_range given from to) was.engine.settings.staging) before.image
    ∙ (ap (λ js. records_of image (slice_range js from to) was.engine.settings.staging) given_are
    ∙ ap (λ (s : _). records_of image part s.staging) before.settings))) in
    let as_many : length c.as_slice-records.result.now ≡ to - from = ap length records_are ∙ (folds.as_many image part staging ∙ number) in
    let both : done ++ more ≡ records_of start.engine.image (take to jobs) staging =
    sym (folds.records_in_parts start.engine.image (take from jobs) part staging) ∙ ap (λ js. records_of start.engine.image js staging) all in
    let rest : from + (to - from) ≡ to = omega (arith, c.part_end-to.ensures.more) in
    record {
      within = long;
      jobs = before.jobs;
      some = λ below. omega (arith, as_many, c.part_end-to.ensures.more, c.submit_into.new.records.ok.0);
      image =
          c.submit_into.ensures.image
          ∙ (ap (λ m. memory_after m (slice_range given from to) was.engine.settings.staging) before.image
          ∙ (ap (λ js. memory_after image (slice_range js from to) was.engine.settings.staging) given_are
          ∙ (ap (λ (s : _). memory_after image part s.staging) before.settings
          ∙ (sym (folds.image_in_parts start.engine.image (take from jobs) part staging)
          ∙ ap (λ js. memory_after start.engine.image js staging) all))));
      answers =
          ap (λ n. answers_in (take n (drop c.args.start c.answer_part.new.log.items))) (sym rest)
          ∙ (answers_more was.log.items c.answer_part.new.log.items c.args.start from (to - from) done c.as_slice-records.result.now as_many c.answer_part.ensures.earlier before.answers c.answer_part.ensures.answers
          ∙ (ap (λ rs. done ++ rs) records_are ∙ both));
      log = c.answer_part.ensures.sent ∙ before.log;
      earlier = front_of c.args.start from was.log.items c.answer_part.new.log.items c.answer_part.ensures.earlier ∙ before.earlier;
      blocks = subst (λ rs. ArePartly rs start.lanes.items c.push_or_keep_all.new.lanes.items) (ap (λ rs. done ++ rs) records_are ∙ both)
          (parts_more done c.as_slice-records.result.now start.lanes.items was.lanes.items c.push_or_keep_all.new.lanes.items before.same.0 c.push_or_keep_all.ensures.same.0 before.blocks c.push_or_keep_all.ensures.blocks);
      room = c.push_or_keep_all.ensures.room;
      sent = sent_along start.lanes.items was.lanes.items c.push_or_keep_all.new.lanes.items c.push_or_keep_all.ensures.same.0 before.same.0 before.sent c.push_or_keep_all.ensures.sent;
      received = c.push_or_keep_all.ensures.received ∙ before.received;
      waiting = c.push_or_keep_all.ensures.waiting ∙ before.waiting;
      late_room = c.push_or_keep_all.ensures.late_room ∙ before.late_room;
      settings = c.submit_into.ensures.settings ∙ before.settings;
      bound = before.bound;
      same = same_lanes start.lanes.items was.lanes.items c.push_or_keep_all.new.lanes.items before.same c.push_or_keep_all.ensures.same;
    }

pub returns-clause-answers : goal.returns-clause-answers
returns-clause-answers g c =
    let start = c.args.self.now in
    let jobs = start.room.jobs.items in
    let now = c.loop-from.self.log.items in
    let left = c.loop-from.invariant in
    let all : length jobs ≤ c.loop-from.from = omega (arith, c.loop-from-test.false, ap length left.jobs) in
    let long : length (drop c.args.start now) ≤ c.loop-from.from =
    omega (arith, length-drop c.args.start now, all, c.requires.log, ap length left.log, length-map now sent_for, length-map start.log.items sent_for) in
    sym (ap answers_in (take_all c.loop-from.from (drop c.args.start now) long))
    ∙ (left.answers ∙ ap (λ js. records_of start.engine.image js start.engine.settings.staging) (take_all c.loop-from.from jobs all))

pub returns-clause-image : goal.returns-clause-image
returns-clause-image g c =
    let start = c.args.self.now in
    let jobs = start.room.jobs.items in
    let left = c.loop-from.invariant in
    let all : length jobs ≤ c.loop-from.from = omega (arith, c.loop-from-test.false, ap length left.jobs) in
    left.image ∙ ap (λ js. memory_after start.engine.image js start.engine.settings.staging) (take_all c.loop-from.from jobs all)

pub returns-clause-blocks : goal.returns-clause-blocks
returns-clause-blocks g c =
    let start = c.args.self.now in
    let jobs = start.room.jobs.items in
    let left = c.loop-from.invariant in
    let all : length jobs ≤ c.loop-from.from = omega (arith, c.loop-from-test.false, ap length left.jobs) in
    subst (λ js. ArePartly (records_of start.engine.image js start.engine.settings.staging) start.lanes.items c.loop-from.self.lanes.items)
    (take_all c.loop-from.from jobs all) left.blocks
