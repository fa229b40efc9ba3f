use Rattle.std.proofs.Common.{[], ◌∷◌, length, subst, sym}
use Rattle.prs_core.specs.Pairs.{Pair}
use Rattle.prs_core.specs.Nets.{IsBelow, is_high}
use Rattle.net_stream.proofs.guard.alike_text.Goals as goal

pub two_terms-requires-clause-within : goal.two_terms-requires-clause-within
two_terms-requires-clause-within c =
    subst (λ (q : Pair). IsBelow (length c.args.net.now.first) ((is_high c.left.inside.t ∷ is_high q.t ∷ []) ∷ (is_high c.left.inside.f ∷ is_high q.f ∷ [])
    ∷ [])) (sym c.right.view_is)
    (subst (λ (q : Pair). IsBelow (length c.args.net.now.first) ((is_high q.t ∷ is_high c.args.right.t ∷ [])
    ∷ (is_high q.f ∷ is_high c.args.right.f ∷ []) ∷ [])) (sym c.left.view_is) c.requires.within)
