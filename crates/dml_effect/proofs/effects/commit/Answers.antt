use Rattle.std.proofs.Common.{◌≡◌, true, List, sym, ◌∙◌, ap, subst}
use Rattle.std.proofs.lemmas.Bool.{and_parts}
use Rattle.dml_types.specs.Memory.{Put, has_all}
use Rattle.dml_types.specs.Effect.{Effect}
use Rattle.dml_segments.proofs.PatternLemmas.{length_pattern_bytes}
use Rattle.dml_effect.specs.Effects.{are_present, puts_of}
use Rattle.dml_effect.proofs.effects.commit.Goals as goal

pub fill-requires : goal.fill-requires
fill-requires c =
    let memory = c.args.image.now in
    let puts = ap (λ (e : Effect). e.puts) (sym c.effect.view_is) ∙ ap puts_of c.in-Pattern.is in
    let all = subst (λ (ps : List Put). are_present memory ps ≡ true) puts c.requires.present in
    ap (has_all memory c.in-Pattern.addr) (sym (length_pattern_bytes c.in-Pattern.pattern c.in-Pattern.len)) ∙ (and_parts _ _ all).0
