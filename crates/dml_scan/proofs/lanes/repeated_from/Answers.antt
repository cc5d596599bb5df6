use Rattle.std.proofs.Common.{◌/◌, ◌%◌, ◌^◌, ℕ, ◌∙◌, ap}
use Rattle.dml_scan.proofs.TurnLemmas.{four_words, turned_byte}
use Rattle.dml_scan.proofs.lanes.repeated_from.Goals as goal

pub returns : goal.returns
returns c i below =
    four_words c.turned.result i c.turned.type_inv below
    ∙ (ap (λ (n : ℕ). n / 256 ^ (i % 8) % 256) c.turned.ensures ∙ turned_byte c.args.pattern c.args.from i c.ranges.pattern.fits)
