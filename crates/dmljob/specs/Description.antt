-- What is shown of a descriptor.
use Rattle.std.specs.Prelude.{ℕ, List, ◌++◌, Option, Some, None, codes}
use Rattle.std.specs.Fmt.{decimal}
use Rattle.dml_desc.specs.Descriptor.{decoded}
use Rattle.dml_types.specs.Refusal.{need, refusal}
use Rattle.dml_types.specs.Effect.{code_of}
use Rattle.dml_types.specs.declared.jobs.Job.{Job}
use Rattle.dml_types.specs.declared.statuses.Status.{Status}
use Rattle.dml_script.specs.Output.{byte_text, fields_of}

abbrev pub accepted_line : ℕ → List ℕ
accepted_line need = codes "check accepted need " ++ decimal need ++ codes "\n"

abbrev pub refused_line : Status → List ℕ
refused_line status = (codes "check refused " ++ byte_text (code_of status)) ++ codes "\n"

abbrev pub verdict_line : Job → Option Status → List ℕ
verdict_line job None = accepted_line (need job)
verdict_line job (Some status) = refused_line status

-- the fields of its job, and what the rules say of it at a staging of 1 MiB, a line each
abbrev pub description_of : List ℕ → List ℕ
description_of bytes =
    let job = decoded bytes in
    fields_of job ++ codes "\n" ++ verdict_line job (refusal job 1048576)
