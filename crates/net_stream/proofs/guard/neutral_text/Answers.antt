use Rattle.std.proofs.Common.{◌≡◌, ◌∙◌, false, [], ◌∷◌, length, ap, subst, sym, vec_len}
use Rattle.std.specs.Prelude.{IfOk, Option}
use Rattle.prs_core.specs.Pairs.{Pair, rails_of}
use Rattle.prs_core.specs.Nets.{IsBelow}
use Rattle.prs_file.specs.declared.forms.Lead.TheVariants.{Rule}
use Rattle.function_blocks.specs.Functions.{carried_on}
use Rattle.net_compose.specs.Circuits.{with_ends}
use Rattle.net_stream.specs.Led.{IsPut}
use Rattle.net_compose.specs.Shapes.{all_wanted}
use Rattle.net_compose.proofs.ShapesDriven.{lows_below}
use Rattle.net_stream.proofs.guard.neutral_text.Goals as goal

three_rails : (l m n left right carried : Pair) (below : Option Pair) → l ≡ left → m ≡ right → n ≡ carried → carried_on below ≡ carried ∷ []
    → l.t ∷ l.f ∷ m.t ∷ m.f ∷ n.t ∷ n.f ∷ [] ≡ rails_of (left ∷ right ∷ carried_on below)
three_rails l m n left right carried below e f g is =
    ap (λ (q : Pair). q.t ∷ q.f ∷ m.t ∷ m.f ∷ n.t ∷ n.f ∷ []) e
    ∙ (ap (λ (q : Pair). left.t ∷ left.f ∷ q.t ∷ q.f ∷ n.t ∷ n.f ∷ []) f
    ∙ (ap (λ (q : Pair). left.t ∷ left.f ∷ right.t ∷ right.f ∷ q.t ∷ q.f ∷ []) g
    ∙ ap (λ ps. rails_of (left ∷ right ∷ ps)) (sym is)))

pub term_text-requires-clause-within : goal.term_text-requires-clause-within
term_text-requires-clause-within c =
    let rails = three_rails _ _ _ c.args.left c.args.right c.in-Some.carried c.args.below c.left.view_is c.right.view_is c.carried.view_is
    (ap carried_on c.in-Some.is) in
    subst (λ ns. IsBelow (length c.args.net.now.first) (all_wanted false ns ∷ [])) (sym rails)
    (lows_below (length c.args.net.now.first) (rails_of (c.args.left ∷ c.args.right ∷ carried_on c.args.below)) c.requires.within)

pub returns-in-Some-clause-put : goal.returns-in-Some-clause-put
returns-in-Some-clause-put c =
    let rails = three_rails _ _ _ c.args.left c.args.right c.in-Some.carried c.args.below c.left.view_is c.right.view_is c.carried.view_is
    (ap carried_on c.in-Some.is) in
    subst (λ ns. IfOk c.term_text.result (λ next. IsPut c.args.net.now Rule next (with_ends c.args.ending (all_wanted false ns ∷ [])) c.args.to.now.items
    c.term_text.new.to.items (vec_len c.args.to.now) (vec_len c.term_text.new.to))) rails c.term_text.ensures.put
