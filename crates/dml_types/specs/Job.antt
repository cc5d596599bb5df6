-- A job: its operation, flags, constructors, and the ranges that it names. Addresses are whole numbers:
-- nothing wraps.
use Rattle.std.specs.Prelude.{option_map, ℕ, ◌+◌, ◌-◌, ◌^◌, max, min, Bool, List, [], ◌∷◌, Option, codes, nat_eq, nat_lt, bit_and, ◌==◌, find}
use Rattle.dml_types.specs.Types.{Job, Span, Op, NoOp, Move, Fill, Compare, ComparePattern, CreateDelta, ApplyDelta, Dualcast, list_any}

-- the operations by their opcodes; every other opcode is unsupported
abbrev pub operations : List (ℕ × Op)
operations =
    (0x00, NoOp) ∷ (0x03, Move) ∷ (0x04, Fill) ∷ (0x05, Compare) ∷ (0x06, ComparePattern)
    ∷ (0x07, CreateDelta) ∷ (0x08, ApplyDelta) ∷ (0x09, Dualcast) ∷ []

abbrev pub op_of : Job → Option Op
op_of job = option_map (λ row. row.1) (find (λ row. nat_eq job.opcode row.0) operations)

-- the known flags, by name and bit
abbrev pub flag_table : List (List ℕ × ℕ)
flag_table =
    (codes "FENCE", 0x01) ∷ (codes "BLOCK_ON_FAULT", 0x02) ∷ (codes "ADDRESS_VALID", 0x04)
    ∷ (codes "REQUEST_RECORD", 0x08) ∷ (codes "CHECK_RESULT", 0x80) ∷ (codes "CACHE_CONTROL", 0x100) ∷ []

-- those that a job may have: all but the fence
abbrev pub accepted_flags : ℕ
accepted_flags = 0x18E

-- whether a job has the fence, and the same job with the fence's bit cleared
abbrev pub is_fenced : Job → Bool
is_fenced job = bit_and job.flags 0x01 == 0x01

abbrev pub unfenced : Job → Job
unfenced job = record job { flags = job.flags - bit_and job.flags 0x01 }

-- the jobs that the constructors make: a field that is not named is 0
abbrev pub plain : ℕ → Job
plain opcode =
    record {
      opcode = opcode;
      flags = 0;
      source = 0;
      target = 0;
      size = 0;
      extra = 0;
      delta_size = 0;
      expected = 0;
    }

abbrev pub no_op_job : Job
no_op_job = plain 0x00

abbrev pub move_job : ℕ → ℕ → ℕ → Job
move_job source target size = record (plain 0x03) { source = source; target = target; size = size }

abbrev pub fill_job : ℕ → ℕ → ℕ → Job
fill_job pattern target size = record (plain 0x04) { source = pattern; target = target; size = size }

abbrev pub compare_job : ℕ → ℕ → ℕ → Job
compare_job source second size = record (plain 0x05) { source = source; target = second; size = size }

abbrev pub compare_pattern_job : ℕ → ℕ → ℕ → Job
compare_pattern_job source pattern size =
    record (plain 0x06) { source = source; target = pattern; size = size }

abbrev pub create_job : ℕ → ℕ → ℕ → ℕ → ℕ → Job
create_job source second size delta most =
    record (plain 0x07) { source = source; target = second; size = size; extra = delta; delta_size = most }

abbrev pub apply_job : ℕ → ℕ → ℕ → ℕ → Job
apply_job delta delta_size target size =
    record (plain 0x08) { source = delta; target = target; size = size; delta_size = delta_size }

abbrev pub dualcast_job : ℕ → ℕ → ℕ → ℕ → Job
dualcast_job source target second size =
    record (plain 0x09) { source = source; target = target; size = size; extra = second }

abbrev pub span : ℕ → ℕ → Span
span start len = record { start = start; len = len }

-- whether two ranges share a byte: the later start lies before the earlier end. An empty range shares none
abbrev pub shares : Span → Span → Bool
shares a b = nat_lt (max a.start b.start) (min (a.start + a.len) (b.start + b.len))

abbrev pub any_shares : List Span → List Span → Bool
any_shares these those = list_any (λ a. list_any (shares a) those) these

-- whether a range ends above 2^64
abbrev pub is_past : Span → Bool
is_past a = nat_lt (2 ^ 64) (a.start + a.len)

-- the ranges that a job reads, in the descriptor's order
abbrev pub reads : Op → Job → List Span
reads Move job = span job.source job.size ∷ []
reads Compare job = span job.source job.size ∷ span job.target job.size ∷ []
reads ComparePattern job = span job.source job.size ∷ []
reads CreateDelta job = span job.source job.size ∷ span job.target job.size ∷ []
reads ApplyDelta job = span job.source job.delta_size ∷ []
reads Dualcast job = span job.source job.size ∷ []
reads _ job = []

-- those that it writes; a create's record range has its maximum size
abbrev pub writes : Op → Job → List Span
writes Move job = span job.target job.size ∷ []
writes Fill job = span job.target job.size ∷ []
writes CreateDelta job = span job.extra job.delta_size ∷ []
writes ApplyDelta job = span job.target job.size ∷ []
writes Dualcast job = span job.target job.size ∷ span job.extra job.size ∷ []
writes _ job = []
