use Rattle.std.proofs.Common.{◌≡◌, ◌∙◌, ap, inl, inr, refl, false}
use Rattle.dml_grammar.specs.Grammar.{line_of}
use Rattle.dml_grammar.specs.Reads.{values_seen}
use Rattle.dml_grammar.proofs.PageLemmas.{is_noted, noted_image, noted_page, noted_plain}
use Rattle.dml_grammar.proofs.progress.Progress.note.Goals as goal

pub returns-in_ok-self-inside-in-Image-clause-noted : goal.returns-in_ok-self-inside-in-Image-clause-noted
returns-in_ok-self-inside-in-Image-clause-noted c =
    let v = values_seen c.args.values.now in
    rw (c.in_ok-self-inside-in-Image.ensures.items_if_clones_equal (λ y h. h), ← c.self.view_is)
    (noted_image c.self.inside.present.items c.self.inside.jobs c.open_after-jobs.result (line_of c.args.word v) c.number_at.result
    (ap (λ w. line_of w v) c.in-Image.is ∙ rw c.number_at.ensures refl)
    (c.open_after-jobs.ensures v) (rw (← c.self.view_is) at c.requires))

pub returns-in-Page-clause-noted : goal.returns-in-Page-clause-noted
returns-in-Page-clause-noted c =
    let v = values_seen c.args.values.now in
    rw (← c.self.view_is)
    (noted_page c.self.inside.present.items c.self.inside.jobs c.open_after-jobs.result (line_of c.args.word v) c.number_at-in-Page.result v.bytes
    (ap (λ w. line_of w v) c.in-Page.is ∙ rw c.number_at-in-Page.ensures refl)
    (c.open_after-jobs.ensures v) (rw (← c.self.view_is) at c.requires))

pub returns-in-Poke-clause-noted : goal.returns-in-Poke-clause-noted
returns-in-Poke-clause-noted c =
    let v = values_seen c.args.values.now in
    let plain : is_noted c.args.word ≡ false = elim c.in-Poke.is [
      | inl poke ↦ ap is_noted poke
      | inr other ↦ elim other [
        | inl job ↦ ap is_noted job.1
        | inr other ↦ elim other [
          | inl raw ↦ ap is_noted raw
          | inr other ↦ elim other [
            | inl batch ↦ ap is_noted batch
            | inr other ↦ elim other [ inl closing ↦ ap is_noted closing | inr show ↦ ap is_noted show ]
          ]
        ]
      ]
    ] in
    rw (← c.self.view_is)
    (noted_plain c.self.inside.present.items c.self.inside.jobs c.open_after-jobs.result c.args.word v c.self.invariant.1
    (c.open_after-jobs.ensures v) (rw (← c.self.view_is) at c.requires) plain)
