-- Histories of an image.
use Rattle.std.proofs.Common.{◌≡◌, ℕ, List, [], ◌∷◌, ◌++◌, refl, sym, ◌∙◌, ap, subst}
use Rattle.std.proofs.lemmas.List.{append-nil, map-append}
use Rattle.std.proofs.lemmas.Grind.{flat_map-append}
use Rattle.std.specs.Prelude.{flat_map}
use Rattle.dml_types.specs.Memory.{Memory}
use Rattle.dml_types.specs.Step.{memory_after, records_of}
use Rattle.dml_portal.specs.Types.{LogEntry}
use Rattle.dml_portal.specs.Log.{answers_in, jobs_in}
use Rattle.dml_portal.specs.History.{AreAnsweredFrom, Begins, Event, GoesOn, IsAnsweredFrom, RoundsAreOneFold, Served, all_entries, entries_of, image_behind, image_through}
use Rattle.dml_portal.proofs.ServedLemmas.{ImageInParts, RecordsInParts}
use Rattle.dml_portal.proofs.LogLemmas.{jobs_append}

through_more : (staging : ℕ) (start : Memory) (events : List Event) (event : Event) → image_through staging start (events ++ event ∷ []) ≡ image_behind staging (image_through staging start events) event
through_more staging start [] event = refl
through_more staging start (first ∷ events) event = through_more staging (image_behind staging start first) events event

answered_more : (staging : ℕ) (start : Memory) (events : List Event) (event : Event) → AreAnsweredFrom staging start events → IsAnsweredFrom staging (image_through staging start events) event → AreAnsweredFrom staging start (events ++ event ∷ [])
answered_more staging start [] event before is = (is, tt)
answered_more staging start (first ∷ events) event before is =
    (before.0, answered_more staging (image_behind staging start first) events event before.1 is)

pub begins : Begins
begins staging start = record { image_is = refl; log_is = refl; answers = tt }

pub goes_on : GoesOn
goes_on staging start events event image now log later has is grown answered =
    record {
      image_is = is ∙ (ap (λ m. image_behind staging m event) has.image_is ∙ sym (through_more staging start events event));
      log_is =
          grown
          ∙ (ap (λ xs. xs ++ entries_of event) has.log_is
          ∙ (ap (λ xs. all_entries events ++ xs) (sym (append-nil (entries_of event)))
          ∙ sym (flat_map-append entries_of events (event ∷ []))));
      answers = answered_more staging start events event has.answers (subst (λ m. IsAnsweredFrom staging m event) has.image_is answered);
    }

abbrev rounds_of : List (List LogEntry) → List Event
rounds_of rounds = flat_map (λ entries. Served entries ∷ []) rounds

folded_image : ImageInParts → (staging : ℕ) (start : Memory) (rounds : List (List LogEntry)) → image_through staging start (rounds_of rounds) ≡ memory_after start (jobs_in (all_entries (rounds_of rounds))) staging
folded_image parts staging start [] = refl
folded_image parts staging start (entries ∷ rounds) =
    let rest : List LogEntry = all_entries (rounds_of rounds) in
    folded_image parts staging (memory_after start (jobs_in entries) staging) rounds
    ∙ (sym (parts start (jobs_in entries) (jobs_in rest) staging)
    ∙ ap (λ js. memory_after start js staging) (sym (jobs_append entries rest)))

folded_answers : RecordsInParts → (staging : ℕ) (start : Memory) (rounds : List (List LogEntry)) → AreAnsweredFrom staging start (rounds_of rounds) → answers_in (all_entries (rounds_of rounds)) ≡ records_of start (jobs_in (all_entries (rounds_of rounds))) staging
folded_answers parts staging start [] answered = refl
folded_answers parts staging start (entries ∷ rounds) answered =
    let rest : List LogEntry = all_entries (rounds_of rounds) in
    let image : Memory = memory_after start (jobs_in entries) staging in
    map-append (λ (e : LogEntry). e.answer) entries rest
    ∙ (ap (λ xs. xs ++ answers_in rest) answered.0
    ∙ (ap (λ xs. records_of start (jobs_in entries) staging ++ xs) (folded_answers parts staging image rounds answered.1)
    ∙ (sym (parts start (jobs_in entries) (jobs_in rest) staging)
    ∙ ap (λ js. records_of start js staging) (sym (jobs_append entries rest)))))

pub one_fold : ImageInParts → RecordsInParts → RoundsAreOneFold
one_fold image_parts record_parts staging start rounds image log has =
    let all : List LogEntry = all_entries (rounds_of rounds) in (
      has.image_is ∙ (folded_image image_parts staging start rounds ∙ ap (λ xs. memory_after start (jobs_in xs) staging) (sym has.log_is)),
      ap answers_in has.log_is ∙ (folded_answers record_parts staging start rounds has.answers ∙ ap (λ xs. records_of start (jobs_in xs) staging) (sym has.log_is)),
    )
