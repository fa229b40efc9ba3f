use Rattle.std.proofs.Common.{◌≡◌, ◌+◌, ◌-◌, ◌*◌, ◌/◌, List, [], ◌∷◌, ◌++◌, length, take, drop, slice_index_or, IfOk, arith, ap, ◌∙◌, subst}
use Rattle.std.proofs.lemmas.List.{append_assoc}
use Rattle.prs_core.specs.declared.rule.Literal.{Literal}
use Rattle.prs_core.specs.Nets.{is_high}
use Rattle.cell_select.specs.Selections.{all_false}
use Rattle.cell_select.specs.PortNodes.{pairs_of}
use Rattle.cell_select.proofs.PairLists.{falses_behind}
use Rattle.cell_select.proofs.guards.only_true.Goals as goal

pub returns : goal.returns
returns c =
    let hs = pairs_of c.args.rails.now in
    let i = c.args.guard in
    let first : c.want_false.new.literals.items ≡ all_false (take i hs) =
    c.in_ok-want_false.ensures ∙ ap (λ (xs : List Literal). xs ++ all_false (take (i - 0) (drop 0 hs))) c.new-literals.ensures.items
    ∙ ap (λ k. all_false (take k hs)) (omega arith) in
    let true_one : c.push.new.self.items ≡ all_false (take i hs) ++ is_high (slice_index_or c.args.rails.now (2 * i) 0) ∷ [] =
    c.in_ok-push.ensures.items ∙ ap (λ (xs : List Literal). xs ++ c.high.result ∷ []) first
    ∙ ap (λ (l : Literal). all_false (take i hs) ++ l ∷ []) c.high.ensures in
    let made : c.deref.result.now ≡ all_false (take i hs) ++ is_high (slice_index_or c.args.rails.now (2 * i) 0) ∷ all_false (drop (i + 1) hs) =
    c.deref.ensures.value ∙ c.in_ok-want_false-2.ensures
    ∙ ap (λ (xs : List Literal). xs ++ all_false (take (length c.args.rails.now / 2 - (i + 1)) (drop (i + 1) hs))) true_one
    ∙ append_assoc (all_false (take i hs)) (is_high (slice_index_or c.args.rails.now (2 * i) 0) ∷ [])
    (all_false (take (length c.args.rails.now / 2 - (i + 1)) (drop (i + 1) hs)))
    ∙ ap (λ (xs : List Literal). all_false (take i hs) ++ is_high (slice_index_or c.args.rails.now (2 * i) 0) ∷ xs)
    (falses_behind c.args.rails.now c.requires.pairs.0 (i + 1) c.requires.pairs.1) in
    subst (λ (xs : List Literal). IfOk c.all_of.result (λ g. g ≡ xs ∷ [])) made c.all_of.ensures
