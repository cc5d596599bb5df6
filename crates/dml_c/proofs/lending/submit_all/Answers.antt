use Rattle.std.proofs.Common.{◌≡◌, ℕ, ◌+◌, ◌<◌, ◌++◌, [], ◌∷◌, List, length, map, take, drop, get_or, sym, ◌∙◌, ap, arith}
use Rattle.std.proofs.lemmas.List.{append_assoc, drop_more, take_more_set, length-set}
use Rattle.dml_types.specs.declared.jobs.Job.{Job}
use Rattle.dml_types.specs.Memory.{Memory}
use Rattle.dml_types.specs.Step.{memory_after, records_of, step}
use Rattle.dml_desc.specs.Descriptor.{bytes_of_record, decoded}
use Rattle.dml_effect.specs.Pages.{all_present}
use Rattle.dml_c.proofs.PageLemmas.{stepped}
use Rattle.dml_c.proofs.lending.submit_all.Goals as goal

pub loop-i-preserved : goal.loop-i-preserved
loop-i-preserved c =
    let ds = c.args.descriptors.now in
    let i = c.loop-i.i in
    let rest = map decoded (drop (i + 1) ds) in
    let before = all_present c.loop-i.bytes in
    let new = c.submit_one.new.bytes in
    let job = decoded (get_or ds i []) in
    let known = c.loop-i.invariant in
    let low : i < length ds = omega (arith, c.loop-i-test.true) in
    let same : length new ≡ length c.loop-i.bytes = cc in
    let bytes : new ≡ (step before job c.args.staging).0.bytes = c.submit_one.ensures.content ∙ ap (λ (j : Job). (step before j c.args.staging).0.bytes) c.decode-job.ensures in
    let lies = stepped c.loop-i.bytes new job c.args.staging bytes same in
    let next : map decoded (drop i ds) ≡ job ∷ rest = ap (map decoded) (drop_more ds i [] low) in
    let answer : c.record_bytes.result ≡ bytes_of_record (step before job c.args.staging).1 =
    c.record_bytes.ensures ∙ ap bytes_of_record (c.submit_one.ensures.answer ∙ ap (λ (j : Job). (step before j c.args.staging).1) c.decode-job.ensures) in
    let told : List ℕ → List (List ℕ) = λ bytes. map bytes_of_record (records_of (all_present bytes) rest c.args.staging) in
    record {
      pages = record { whole = omega (arith, same, known.pages.whole); least = omega (arith, same, known.pages.least); most = omega (arith, same, known.pages.most) };
      arena = c.submit_one.ensures.arena ∙ known.arena;
      as_many = length-set c.loop-i.answers i c.record_bytes.result ∙ known.as_many;
      image =
          ap (λ (m : Memory). memory_after m rest c.args.staging) lies
          ∙ (ap (λ (jobs : List Job). memory_after before jobs c.args.staging) (sym next) ∙ known.image);
      records =
          ap (λ (front : List (List ℕ)). front ++ told new) (take_more_set c.loop-i.answers i c.record_bytes.result (omega (arith, known.as_many, low)))
          ∙ (append_assoc (take i c.loop-i.answers) (c.record_bytes.result ∷ []) (told new)
          ∙ (ap (λ (x : List ℕ). take i c.loop-i.answers ++ x ∷ told new) answer
          ∙ (ap (λ (m : Memory). take i c.loop-i.answers ++ bytes_of_record (step before job c.args.staging).1 ∷ map bytes_of_record (records_of m rest c.args.staging)) lies
          ∙ (ap (λ (jobs : List Job). take i c.loop-i.answers ++ map bytes_of_record (records_of before jobs c.args.staging)) (sym next) ∙ known.records))));
    }
