-- What crosses to C.
use Rattle.std.specs.Prelude.{ℕ, List, Option, None, Some, option_and_then, option_map}
use Rattle.dml_types.specs.declared.jobs.Job.{Job}
use Rattle.dml_types.specs.declared.records.Record.{Record}
use Rattle.dml_types.specs.declared.statuses.Status.{Status}
use Rattle.dml_types.specs.Effect.{code_of, status_with}
use Rattle.dml_types.specs.Step.{rest}
use Rattle.dml_desc.specs.Descriptor.{bytes_of_record, decoded}
use Rattle.dml_desc.specs.Encoding.{encoded, recorded}
use Rattle.dml_c.specs.declared.values.CJob.{CJob}
use Rattle.dml_c.specs.declared.values.CRecord.{CRecord}

-- a job in the layout of C
abbrev pub job_for_c : Job → CJob
job_for_c job =
    record {
      opcode = job.opcode;
      expected = job.expected;
      flags = job.flags;
      source = job.source;
      target = job.target;
      extra = job.extra;
      size = job.size;
      delta_size = job.delta_size;
    }

-- the code of a refusal, 0 where there is none
abbrev pub code_or_zero : Option Status → ℕ
code_or_zero (Some status) = code_of status
code_or_zero None = 0

abbrev pub job_from_c : CJob → Job
job_from_c job =
    record {
      opcode = job.opcode;
      expected = job.expected;
      flags = job.flags;
      source = job.source;
      target = job.target;
      extra = job.extra;
      size = job.size;
      delta_size = job.delta_size;
    }

-- a record in the layout of C, and back, where its status is one
abbrev pub record_for_c : Record → CRecord
record_for_c outcome =
    record {
      status = code_of outcome.status;
      result = outcome.result;
      completed = outcome.completed;
      fault = outcome.fault;
      delta_size = outcome.delta_size;
    }

abbrev pub record_from_c : CRecord → Option Record
record_from_c outcome =
    option_map
    (λ status. record {
      status = status;
      result = outcome.result;
      completed = outcome.completed;
      fault = outcome.fault;
      delta_size = outcome.delta_size;
    })
    (status_with outcome.status)

-- the bytes of a record in the layout of C, and a record's fields
abbrev pub bytes_from_c : CRecord → Option (List ℕ)
bytes_from_c outcome = option_map bytes_of_record (record_from_c outcome)

abbrev pub fields_of : List ℕ → Option CRecord
fields_of bytes = option_map record_for_c (recorded bytes)

-- the descriptor of what is left of a descriptor's job after a record
abbrev pub rest_of : List ℕ → List ℕ → Option (List ℕ)
rest_of descriptor bytes =
    option_and_then (λ outcome. option_and_then encoded (rest (decoded descriptor) outcome)) (recorded bytes)
