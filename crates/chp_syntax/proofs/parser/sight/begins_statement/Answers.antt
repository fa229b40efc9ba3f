use Rattle.std.proofs.Common.{◌≡◌, ◌+◌, List, [], ◌∷◌, drop, refl, sym, ap, ◌∙◌, Option, None, Some}
use Rattle.std.proofs.lemmas.List.{drop-drop}
use Rattle.chp_syntax.specs.declared.token.Token.{Token}
use Rattle.chp_syntax.specs.declared.token.TokenKind.TheVariants.{Sign}
use Rattle.chp_syntax.specs.declared.token.Mark.TheVariants as mark
use Rattle.chp_syntax.specs.declared.parser.sight.AtomFront.{AtomFront}
use Rattle.chp_syntax.specs.declared.parser.sight.AtomFront.TheVariants as atom
use Rattle.chp_syntax.specs.Parts.{sees, IsKind, atom_kind, atom_front, begins_par, begins_par_with}
use Rattle.chp_syntax.proofs.Steps.{kind_within}
use Rattle.chp_syntax.proofs.parser.sight.begins_statement.Goals as goal

begins_at : (xs : List Token) → begins_par xs ≡ begins_par_with (atom_front (sees xs)) (begins_par (drop 1 xs)) (sees (drop 1 xs))
begins_at [] = refl
begins_at (t ∷ xs) = refl

at_front : (all : List Token) (at : _) (f : AtomFront) → f ≡ atom_front (sees (drop at all)) →
    begins_par (drop at all) ≡ begins_par_with f (begins_par (drop (at + 1) all)) (sees (drop (at + 1) all))
at_front all at f e =
    begins_at (drop at all) ∙ (ap (λ (g : AtomFront). begins_par_with g (begins_par (drop 1 (drop at all))) (sees (drop 1 (drop at all)))) (sym e)
    ∙ ap (λ (l : List Token). begins_par_with f (begins_par l) (sees l)) (drop-drop 1 at all))

round_front : (o : Option Token) → IsKind (Sign mark.OpenRound) o → atom.Round ≡ atom_front o
round_front None h = absurd h
round_front (Some t) h = sym (ap atom_kind h)

pub loop-at-preserved : goal.loop-at-preserved
loop-at-preserved c = record {
  within = kind_within (Sign mark.OpenRound) c.args.tokens.now c.loop-at.at (c.loop-at-test.ensures.0 refl);
  same = sym (at_front c.args.tokens.now c.loop-at.at atom.Round (round_front (sees (drop c.loop-at.at c.args.tokens.now)) (c.loop-at-test.ensures.0 refl)))
      ∙ c.loop-at.invariant.same;
}

pub returns-in-Name : goal.returns-in-Name
returns-in-Name c =
    c.acts.ensures ∙ (sym (at_front c.args.tokens.now c.loop-at.at atom.Name c.in-Name.ensures) ∙ c.loop-at.invariant.same)
