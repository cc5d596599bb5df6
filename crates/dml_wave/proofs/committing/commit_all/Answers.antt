use Rattle.std.proofs.Common.{◌≡◌, ◌<◌, List, ◌∷◌, IsTrue, length, fold, set, sym, ◌∙◌, ap, ap₂, subst}
use Rattle.std.specs.List.{All}
use Rattle.std.proofs.lemmas.List.{length-set}
use Rattle.std.proofs.lemmas.List.Elements.{All-tail}
use Rattle.dml_types.specs.Memory.{Memory, puts_made}
use Rattle.dml_effect.specs.Effects.{are_present}
use Rattle.dml_levels.specs.Laws.{Progress, begun}
use Rattle.dml_wave.specs.declared.effects.JobEffect.{JobEffect}
use Rattle.dml_wave.specs.Effects.{committed}
use Rattle.dml_wave.proofs.CommitLemmas.{all_present_after}
use Rattle.dml_wave.proofs.committing.commit_all.Goals as goal

pub loop-place-preserved : goal.loop-place-preserved
loop-place-preserved c =
    let image = c.loop-place.image in
    let records = c.loop-place.records in
    let done = c.in-Some.field-0 in
    let rest = c.next.new.self.rest.items in
    let now = begun image records in
    let split : c.loop-place.place-iterator.rest.items ≡ done ∷ rest = c.in-Some.ensures.steps.0 in
    let answer : c.commit.result ≡ done.effect.answer = cc in
    let put : c.commit.new.image ≡ puts_made image done.effect.puts = cc in
    let size = length-set records done.place c.commit.result in
    let each : All (λ d. IsTrue (are_present image d.effect.puts)) (done ∷ rest) =
    subst (λ (l : List JobEffect). All (λ d. IsTrue (are_present image d.effect.puts)) l) split c.loop-place.invariant.present in
    let inside : All (λ d. d.place < length records) (done ∷ rest) =
    subst (λ (l : List JobEffect). All (λ d. d.place < length records) l) split c.loop-place.invariant.places in
    let step : begun c.commit.new.image (set records done.place c.commit.result) ≡ committed now done =
    ap₂ begun put (ap (set records done.place) answer) in
    record {
      can = tt;
      ends = tt;
      places =
          subst (λ n. All (λ d. d.place < n) rest) (sym size) (All-tail (λ d. d.place < length records) done rest inside);
      present =
          subst (λ (m : Memory). All (λ d. IsTrue (are_present m d.effect.puts)) rest) (sym put)
          (all_present_after image done.effect.puts rest (All-tail (λ d. IsTrue (are_present image d.effect.puts)) done rest each));
      done =
          ap (λ (p : Progress). fold committed p rest) step
          ∙ (sym (ap (fold committed now) split) ∙ c.loop-place.invariant.done);
      count = size ∙ c.loop-place.invariant.count;
    }
