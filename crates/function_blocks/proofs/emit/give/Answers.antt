use Rattle.std.proofs.Common.{◌≡◌, ◌∷◌, length, sym, ap, subst, ◌∙◌, length-set}
use Rattle.std.specs.Prelude.{slice_set}
use Rattle.std.specs.Vec.Iter.{into_iter_items}
use Rattle.prs_core.specs.Nets.{NodeRules, RulesValue, IsBelow, with_rules}
use Rattle.function_blocks.proofs.Giving.{Giving, give_begin, give_more, give_within}
use Rattle.function_blocks.proofs.emit.give.Goals as goal

pub loop-each-init : goal.loop-each-init
loop-each-init c =
    subst (λ l. Giving c.args.from c.args.guards.items c.args.rules.now c.args.from l c.args.rules.now)
    (sym c.into_iter-each-iterator.ensures.into_iter_gives.0)
    (give_begin c.args.from c.args.guards.items c.args.rules.now c.requires.within)

pub set_up-requires-clause-within : goal.set_up-requires-clause-within
set_up-requires-clause-within c =
    let steps : into_iter_items c.loop-each.each-iterator ≡ c.in-Some.each ∷ into_iter_items c.next.new.self = c.in-Some.ensures.steps.0 in
    let here = subst (λ l. Giving c.args.from c.args.guards.items c.args.rules.now c.loop-each.node l c.loop-each.rules) steps c.loop-each.invariant in
    subst (λ (n : NodeRules). IsBelow (length c.loop-each.rules.up) n.up) (sym c.each.view_is)
    (give_within c.args.from c.args.guards.items c.args.rules.now c.loop-each.node c.in-Some.each _ c.loop-each.rules here).0

pub set_down-requires-clause-within : goal.set_down-requires-clause-within
set_down-requires-clause-within c =
    let steps : into_iter_items c.loop-each.each-iterator ≡ c.in-Some.each ∷ into_iter_items c.next.new.self = c.in-Some.ensures.steps.0 in
    let here = subst (λ l. Giving c.args.from c.args.guards.items c.args.rules.now c.loop-each.node l c.loop-each.rules) steps c.loop-each.invariant in
    let count : length c.set_up.new.self.up ≡ length c.loop-each.rules.up =
    ap (λ (r : RulesValue). length r.up) c.set_up.ensures ∙ length-set c.loop-each.rules.up c.loop-each.node _ in
    subst (λ k. IsBelow k c.each.inside.down) (sym count)
    (subst (λ (n : NodeRules). IsBelow (length c.loop-each.rules.up) n.down) (sym c.each.view_is)
    (give_within c.args.from c.args.guards.items c.args.rules.now c.loop-each.node c.in-Some.each _ c.loop-each.rules here).1)

pub loop-each-preserved : goal.loop-each-preserved
loop-each-preserved c =
    let steps : into_iter_items c.loop-each.each-iterator ≡ c.in-Some.each ∷ into_iter_items c.next.new.self = c.in-Some.ensures.steps.0 in
    let here = subst (λ l. Giving c.args.from c.args.guards.items c.args.rules.now c.loop-each.node l c.loop-each.rules) steps c.loop-each.invariant in
    give_more c.args.from c.args.guards.items c.args.rules.now c.loop-each.node c.in-Some.each (into_iter_items c.next.new.self) c.loop-each.rules
    c.set_down.new.self here
    (c.set_down.ensures
    ∙ (ap (λ (r : RulesValue). record { up = r.up; down = slice_set r.down c.loop-each.node c.each.inside.down }) c.set_up.ensures
    ∙ ap (λ (n : NodeRules). with_rules c.loop-each.node n c.loop-each.rules) c.each.view_is))
