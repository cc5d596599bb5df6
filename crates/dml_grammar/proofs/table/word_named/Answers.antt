use Rattle.std.proofs.Common.{ℕ, List, [], ◌∷◌, get_or, arith, refl, codes}
use Rattle.std.proofs.lemmas.Bool.{ne_eqb}
use Rattle.dml_types.specs.declared.operations.Op.TheVariants.{NoOp, Move, Fill, Compare, ComparePattern, CreateDelta, ApplyDelta, Dualcast}
use Rattle.dml_grammar.specs.declared.table.Word.TheVariants.{Batch, Image, Job, Page, Poke, Show}
use Rattle.dml_grammar.proofs.TableLemmas.{named_by_letters, unnamed_by_letters}
use Rattle.dml_grammar.proofs.table.word_named.Goals as goal

pub returns-in-move : goal.returns-in-move
returns-in-move c =
    named_by_letters c.args.text.now (codes "move") (Job Move) (omega arith) (omega arith, (omega arith, (omega arith, (omega arith, tt)))) refl

pub returns-in-fill : goal.returns-in-fill
returns-in-fill c =
    named_by_letters c.args.text.now (codes "fill") (Job Fill) (omega arith) (omega arith, (omega arith, (omega arith, (omega arith, tt)))) refl

pub returns-in-noop : goal.returns-in-noop
returns-in-noop c =
    named_by_letters c.args.text.now (codes "noop") (Job NoOp) (omega arith) (omega arith, (omega arith, (omega arith, (omega arith, tt)))) refl

pub returns-in-apply : goal.returns-in-apply
returns-in-apply c =
    named_by_letters c.args.text.now (codes "apply") (Job ApplyDelta) (omega arith) (omega arith, (omega arith, (omega arith, (omega arith, (omega arith, tt))))) refl

pub returns-in-create : goal.returns-in-create
returns-in-create c =
    named_by_letters c.args.text.now (codes "create") (Job CreateDelta) (omega arith) (omega arith, (omega arith, (omega arith, (omega arith, (omega arith, (omega arith, tt)))))) refl

pub returns-in-compare : goal.returns-in-compare
returns-in-compare c =
    named_by_letters c.args.text.now (codes "compare") (Job Compare) (omega arith) (omega arith, (omega arith, (omega arith, (omega arith, (omega arith, (omega arith, (omega arith, tt))))))) refl

pub returns-in-dualcast : goal.returns-in-dualcast
returns-in-dualcast c =
    named_by_letters c.args.text.now (codes "dualcast") (Job Dualcast) (omega arith) (omega arith, (omega arith, (omega arith, (omega arith, (omega arith, (omega arith, (omega arith, (omega arith, tt)))))))) refl

pub returns-in-99 : goal.returns-in-99
returns-in-99 c =
    named_by_letters c.args.text.now (codes "compare-pattern") (Job ComparePattern) (omega arith) (omega arith, (omega arith, (omega arith, (omega arith, (omega arith, (omega arith, (omega arith, (omega arith, (omega arith, (omega arith, (omega arith, (omega arith, (omega arith, (omega arith, (omega arith, tt))))))))))))))) refl

pub returns-in-page : goal.returns-in-page
returns-in-page c =
    named_by_letters c.args.text.now (codes "page") Page (omega arith) (omega arith, (omega arith, (omega arith, (omega arith, tt)))) refl

pub returns-in-poke : goal.returns-in-poke
returns-in-poke c =
    named_by_letters c.args.text.now (codes "poke") Poke (omega arith) (omega arith, (omega arith, (omega arith, (omega arith, tt)))) refl

pub returns-in-show : goal.returns-in-show
returns-in-show c =
    named_by_letters c.args.text.now (codes "show") Show (omega arith) (omega arith, (omega arith, (omega arith, (omega arith, tt)))) refl

pub returns-in-batch : goal.returns-in-batch
returns-in-batch c =
    named_by_letters c.args.text.now (codes "batch") Batch (omega arith) (omega arith, (omega arith, (omega arith, (omega arith, (omega arith, tt))))) refl

pub returns-in-image : goal.returns-in-image
returns-in-image c =
    named_by_letters c.args.text.now (codes "image") Image (omega arith) (omega arith, (omega arith, (omega arith, (omega arith, (omega arith, tt))))) refl

-- the letters of a name up to a place, and another letter there

pub returns-in_default-31 : goal.returns-in_default-31
returns-in_default-31 c =
    let t : List ℕ = c.args.text.now in
    unnamed_by_letters t (98 ∷ 97 ∷ get_or t 2 0 ∷ get_or t 3 0 ∷ get_or t 4 0 ∷ [])
    (omega arith) (omega arith, (omega arith, (refl, (refl, (refl, tt))))) (rw (ne_eqb (get_or t 2 0) 116 (λ e. omega arith)) refl)

pub returns-in_default-39 : goal.returns-in_default-39
returns-in_default-39 c =
    let t : List ℕ = c.args.text.now in
    unnamed_by_letters t (99 ∷ 114 ∷ 101 ∷ 97 ∷ get_or t 4 0 ∷ get_or t 5 0 ∷ [])
    (omega arith) (omega arith, (omega arith, (omega arith, (omega arith, (refl, (refl, tt)))))) (rw (ne_eqb (get_or t 4 0) 116 (λ e. omega arith)) refl)

pub returns-in_default-51 : goal.returns-in_default-51
returns-in_default-51 c =
    let t : List ℕ = c.args.text.now in
    unnamed_by_letters t (100 ∷ 117 ∷ 97 ∷ 108 ∷ 99 ∷ 97 ∷ 115 ∷ get_or t 7 0 ∷ [])
    (omega arith) (omega arith, (omega arith, (omega arith, (omega arith, (omega arith, (omega arith, (omega arith, (refl, tt)))))))) (rw (ne_eqb (get_or t 7 0) 116 (λ e. omega arith)) refl)

pub returns-in_default-64 : goal.returns-in_default-64
returns-in_default-64 c =
    let t : List ℕ = c.args.text.now in
    unnamed_by_letters t (99 ∷ 111 ∷ 109 ∷ 112 ∷ 97 ∷ 114 ∷ 101 ∷ 45 ∷ 112 ∷ 97 ∷ get_or t 10 0 ∷ get_or t 11 0 ∷ get_or t 12 0 ∷ get_or t 13 0 ∷ get_or t 14 0 ∷ [])
    (omega arith) (omega arith, (omega arith, (omega arith, (omega arith, (omega arith, (omega arith, (omega arith, (omega arith, (omega arith, (omega arith, (refl, (refl, (refl, (refl, (refl, tt))))))))))))))) (rw (ne_eqb (get_or t 10 0) 116 (λ e. omega arith)) refl)
