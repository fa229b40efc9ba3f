use Rattle.std.proofs.Common.{◌≡◌, List, [], ◌∷◌, length, map, refl, ap, ◌∙◌, arith, Option}
use Rattle.std.proofs.lemmas.List.{length-map}
use Rattle.chp_base.specs.declared.span.Span.{Span}
use Rattle.chp_syntax.specs.declared.tree.Op.{Op}
use Rattle.chp_syntax.specs.Trees.{Expression, chain, no_links}
use Rattle.chp_syntax.specs.Grammar.{Covered, Tail, cover, from_to, end_of, chain_of}
use Rattle.chp_syntax.specs.View.{covered_of, link_of, and_pair, onto, expression_of}
use Rattle.chp_syntax.proofs.Rows.{chain_tree}
use Rattle.chp_syntax.proofs.parser.expression.chain.Goals as goal

abbrev tail_with : List (Op × Expression) → Option Span → Tail
tail_with ls last = record { links = onto and_pair ls no_links; last = last }

-- a chain with at least one link
some_links : (c : Covered) (ls : List (Op × Expression)) (last : Option Span) → (length ls ≡ 0 → ⊥) →
    cover (chain c.expression (onto and_pair ls no_links) (from_to c.at (end_of c.at last))) (from_to c.at (end_of c.at last)) ≡ chain_of c (tail_with ls last)
some_links c [] last h = absurd (h refl)
some_links c (x ∷ ls) last h = refl

pub returns-clause-done : goal.returns-clause-done
returns-clause-done c =
    let at = c.up_to-at.result in
    let rest = c.in_ok-rest.rest in
    let vs = rest.links.items in
    rw c.in_ok-rest.was
    (ap (λ (e : Expression). cover e at) (chain_tree c.in_ok-first.first rest.links at)
    ∙ (ap (λ e. cover (chain (expression_of e) (onto and_pair (map link_of vs) no_links) at) at) c.in_ok-first.ensures.ok
    ∙ (ap (λ (s : Span). cover (chain (expression_of c.args.first.value) (onto and_pair (map link_of vs) no_links) s) s) c.up_to-at.ensures
    ∙ some_links (covered_of c.args.first) (map link_of vs) rest.last (λ h. omega (arith, h, c.len.ensures, c.if-len-eq0.false, length-map vs link_of)))))
