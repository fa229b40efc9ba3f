use Rattle.std.proofs.Common.{◌≡◌, ◌-◌, ◌/◌, List, [], ◌∷◌, ◌++◌, length, take, drop, IfOk, ap, ◌∙◌, subst}
use Rattle.prs_core.specs.declared.rule.Literal.{Literal}
use Rattle.cell_select.specs.Selections.{all_false}
use Rattle.cell_select.specs.PortNodes.{pairs_of}
use Rattle.cell_select.proofs.PairLists.{falses_all}
use Rattle.cell_select.proofs.guards.none_true.Goals as goal

pub returns : goal.returns
returns c =
    let made : c.deref.result.now ≡ all_false (pairs_of c.args.rails.now) =
    c.deref.ensures.value ∙ c.in_ok-want_false.ensures
    ∙ ap (λ (xs : List Literal). xs ++ all_false (take (length c.args.rails.now / 2 - 0) (drop 0 (pairs_of c.args.rails.now)))) c.new-literals.ensures.items
    ∙ falses_all c.args.rails.now c.requires.pairs.0 c.requires.pairs.1 in
    subst (λ (xs : List Literal). IfOk c.all_of.result (λ g. g ≡ xs ∷ [])) made c.all_of.ensures
