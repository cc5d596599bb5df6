use Rattle.std.proofs.Common.{◌≡◌, refl, ◌∙◌, ap}
use Rattle.dml_types.specs.Memory.{overwrite}
use Rattle.dml_segments.proofs.SegmentLemmas.{other_part, own_part, part_copied, put_back_copied}
use Rattle.dml_segments.proofs.segments.copy_between.Goals.{else-source-target, then-source-target}
use Rattle.dml_segments.proofs.segments.copy_between.Goals as goal

pub returns : goal.returns
returns c =
    let list = c.args.list.now in
    let source = c.args.source in
    let target = c.args.target in
    let copied : c.if-source-target.bytes ≡ overwrite c.take-bytes.result.now c.args.to (part_copied list source target c.args.from c.args.len) =
    elim c.if-source-target.branch [
      | then-source-target w ↦
          w.bytes-is ∙ (w.copy_at.ensures ∙ ap (overwrite c.take-bytes.result.now c.args.to)
          (own_part list source target c.args.from c.args.len _ c.take-bytes.result.now w.if-source-target.true c.requires.target.0 c.take-bytes.ensures.bytes))
      | else-source-target w ↦
          w.bytes-is ∙ (w.write_at.ensures ∙ ap (overwrite c.take-bytes.result.now c.args.to)
          (other_part list source target c.args.from c.args.len _ _ w.bytes.result.now w.if-source-target.false c.requires.source.0 w.bytes.ensures))
    ] in
    put_back_copied list source target c.args.from c.args.len c.args.to c.take-bytes.new.self c.new.result _ _ c.requires.target.0 refl
    c.new.ensures.first (c.new.ensures.same_reference ∙ c.take-bytes.ensures.same_reference)
    (c.new.ensures.content ∙ (copied ∙ ap (λ bytes. overwrite bytes c.args.to (part_copied list source target c.args.from c.args.len)) c.take-bytes.ensures.bytes))
