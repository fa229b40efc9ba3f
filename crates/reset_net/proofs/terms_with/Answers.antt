use Rattle.std.proofs.Common.{◌++◌, ◌∷◌, [], List, length, map, take, sym, ap, ◌∙◌, arith}
use Rattle.std.proofs.lemmas.List.{map-append, take_more, take_all}
use Rattle.prs_core.specs.declared.rule.Literal.{Literal}
use Rattle.reset_net.proofs.terms_with.Goals as goal

pub add_term-requires : goal.add_term-requires
add_term-requires c = omega (arith, c.literals.ensures.some, ap length c.literals.ensures.value)

pub loop-term-preserved : goal.loop-term-preserved
loop-term-preserved c =
    let xs = c.terms-term-items.result.now in
    let i = c.loop-term.term-index in
    let t = c.term-item.result in
    let more = c.args.more.now in
    let longer : List Literal → List Literal = λ u. u ++ more in
    c.in_ok-add_term.ensures ∙ ap (λ ts. ts ++ (c.literals.result.now ++ more) ∷ []) c.loop-term.invariant
    ∙ ap (λ u. map longer (take i xs) ++ (u ++ more) ∷ []) c.literals.ensures.value
    ∙ sym (ap (map longer) (take_more xs i t c.loop-term-test.true ∙ ap (λ x. take i xs ++ x ∷ []) (sym c.term-item.is))
    ∙ map-append longer (take i xs) (t ∷ []))

pub returns : goal.returns
returns c =
    let longer : List Literal → List Literal = λ u. u ++ c.args.more.now in
    c.loop-term.invariant ∙ ap (map longer) (take_all _ c.terms-term-items.result.now c.loop-term-test.false)
    ∙ ap (map longer) c.terms-term-items.ensures
