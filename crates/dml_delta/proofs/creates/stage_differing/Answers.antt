use Rattle.std.proofs.Common.{◌≡◌, ℕ, ◌++◌, List, [], ◌∙◌, ap, arith}
use Rattle.std.proofs.lemmas.List.{append-nil}
use Rattle.dml_types.specs.Delta.{differs, block_entry}
use Rattle.dml_delta.specs.Entries.{gathered}
use Rattle.dml_delta.proofs.EntryLemmas.{length_entries, so_far}
use Rattle.dml_delta.proofs.creates.stage_differing.Goals as goal

-- what is held and gathered, where nothing was gathered before
alone : (old entries here more gained : List ℕ) → entries ≡ [] → here ++ more ≡ (old ++ entries) ++ gained → here ++ more ≡ old ++ gained
alone old entries here more gained none is =
    is ∙ ap (λ (xs : List ℕ). xs ++ gained) (ap (λ (ys : List ℕ). old ++ ys) none ∙ append-nil old)

pub flush-requires : goal.flush-requires
flush-requires c =
    let memory = c.args.image.now in
    let job = c.args.job.now in
    let n = c.add_readable-readable.result in
    let old = c.args.room.now.bytes in
    let gained = gathered (block_entry memory job) (differs memory job) c.args.from n in
    let here = c.add_readable-readable.new.room.bytes in
    let more = c.add_readable-readable.new.entries in
    let long = so_far old gained here more (alone old c.new-entries.result here more gained c.new-entries.ensures c.add_readable-readable.ensures.bytes) in
    let short = length_entries memory job (differs memory job) c.args.from n in
    record { fits = omega (arith, long, short, c.requires.fits, c.add_readable-readable.ensures.within, c.add_readable-readable.ensures.place.room) }

pub returns-clause-bytes : goal.returns-clause-bytes
returns-clause-bytes c =
    let memory = c.args.image.now in
    let job = c.args.job.now in
    let gained = gathered (block_entry memory job) (differs memory job) c.args.from c.add_readable-readable.result in
    c.flush.ensures.bytes
    ∙ alone c.args.room.now.bytes c.new-entries.result c.add_readable-readable.new.room.bytes c.add_readable-readable.new.entries gained c.new-entries.ensures c.add_readable-readable.ensures.bytes
