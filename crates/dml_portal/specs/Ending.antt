-- Seats that are looked at one by one.
use Rattle.std.specs.Prelude.{List, slice_index_or}
use Rattle.dml_portal.specs.Settled.{IsLeft}
use Rattle.dml_portal.specs.declared.lanes.Lane.{Lane}
use Rattle.dml_portal.specs.declared.seats.Done.{Done}

-- not all that the seat submitted was popped, and a job of it is known to wait
abbrev pub HasJobs : List Lane → Done → Type 0
HasJobs lanes done = (lane : Lane) → IsLeft (slice_index_or lanes done.seat.client lane) done.seat
