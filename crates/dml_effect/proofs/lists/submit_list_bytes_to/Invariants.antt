use Rattle.std.proofs.Common.{◌≡◌, ◌++◌, length, map, take, drop}
use Rattle.dml_types.specs.Step.{memory_after, records_of}
use Rattle.dml_desc.specs.Descriptor.{bytes_of_record, decoded}
use Rattle.dml_effect.proofs.lists.submit_list_bytes_to.Given as goal

abbrev pub invariant-loop-i : goal.invariant-loop-i
invariant-loop-i l = record {
  as_many : length l.answers ≡ length l.descriptors;
  image :
      memory_after l.image (map decoded (drop l.i l.descriptors)) l.staging
      ≡ memory_after l.initial.image (map decoded l.descriptors) l.staging;
  records :
      take l.i l.answers ++ map bytes_of_record (records_of l.image (map decoded (drop l.i l.descriptors)) l.staging)
      ≡ map bytes_of_record (records_of l.initial.image (map decoded l.descriptors) l.staging);
  arena : l.arena ≡ l.initial.arena;
}
