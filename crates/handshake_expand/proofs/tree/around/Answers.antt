use Rattle.std.proofs.Common.{[], ◌∷◌, ◌++◌, refl, ap, ◌∙◌, ◌+◌, arith}
use Rattle.handshake_expand.specs.PartTree.{each_tree}
use Rattle.handshake_expand.proofs.Taken.{known, passed_on}
use Rattle.handshake_expand.proofs.Trees.{made_part}
use Rattle.handshake_expand.proofs.tree.around.Goals as goal

pub overflow_add-result : goal.overflow_add-result
overflow_add-result c =
    let made = known c.args.inner _ _ c.requires c.in_ok-count.ensures in
    omega (arith, made.1, made.2.1)

pub returns : goal.returns
returns c = passed_on c.args.inner _ _
    (λ made h. made_part c.args.kind c.args.kind c.args.request c.args.answer c.args.answer c.args.from _ _ c.add_child.new.children _ refl refl
    (ap (λ n. 2 + n) h.1) (ap each_tree (h.0 ∙ ap (λ xs. xs ++ made ∷ []) c.new-children.ensures.items)))
    c.in_ok-count.ensures
