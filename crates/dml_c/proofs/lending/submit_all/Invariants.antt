use Rattle.std.proofs.Common.{◌≡◌, ◌++◌, length, map, take, drop}
use Rattle.dml_types.specs.Step.{memory_after, records_of}
use Rattle.dml_desc.specs.Descriptor.{bytes_of_record, decoded}
use Rattle.dml_effect.specs.Pages.{IsWholePages, all_present}
use Rattle.dml_c.proofs.lending.submit_all.Given as goal

abbrev pub invariant-loop-i : goal.invariant-loop-i
invariant-loop-i l = record {
  pages : IsWholePages l.bytes;
  arena : l.arena ≡ l.initial.arena;
  as_many : length l.answers ≡ length l.descriptors;
  image :
      memory_after (all_present l.bytes) (map decoded (drop l.i l.descriptors)) l.staging
      ≡ memory_after (all_present l.initial.bytes) (map decoded l.descriptors) l.staging;
  records :
      take l.i l.answers ++ map bytes_of_record (records_of (all_present l.bytes) (map decoded (drop l.i l.descriptors)) l.staging)
      ≡ map bytes_of_record (records_of (all_present l.initial.bytes) (map decoded l.descriptors) l.staging);
}
