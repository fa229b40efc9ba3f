use Rattle.std.proofs.Common.{◌≡◌, true, ◌++◌, [], ◌∷◌, length, ap, sym, subst, ◌∙◌}
use Rattle.std.specs.Prelude.{codes}
use Rattle.prs_core.specs.Nets.{IsNet, RulesValue, net_rules}
use Rattle.reset_net.specs.Resets.{reset_of}
use Rattle.reset_net.proofs.Whole.{bare, reset_is_net, parts_are}
use Rattle.reset_net.proofs.with_reset.Goals as goal

pub add_reset-requires-clause-nodes : goal.add_reset-requires-clause-nodes
add_reset-requires-clause-nodes c =
    let parts = c.into_parts-names.ensures in
    ap (λ (r : RulesValue). length r.up) parts.rules ∙ c.first-kept.ensures.net.ups ∙ sym (ap length parts.first)

pub new_reset-requires : goal.new_reset-requires
new_reset-requires c =
    let net = c.args.net in
    let is : IsNet net = c.first-kept.ensures.net in
    let parts = c.into_parts-names.ensures in
    let added = c.in_ok-rules.ensures in
    let names : c.add_reset.new.names.items ≡ net.names ++ codes "reset" ∷ [] = added.names ∙ ap (λ xs. xs ++ codes "reset" ∷ []) parts.names in
    let rules : c.in_ok-rules.rules ≡ net_rules (reset_of net) =
    added.rules ∙ ap (λ first. net_rules (reset_of (bare first c.into_parts-names.result.2))) parts.first
    ∙ ap (λ (r : RulesValue). net_rules (reset_of (bare net.first r))) parts.rules in
    subst IsNet (sym (parts_are net c.add_reset.new.names.items c.add_reset.new.first.items c.in_ok-rules.rules c.into_parts-names.result.3.items names
    (added.first ∙ ap (λ xs. xs ++ true ∷ []) parts.first) rules parts.channels))
    (reset_is_net net is c.requires.plain c.requires.free)

pub returns : goal.returns
returns c =
    let net = c.args.net in
    let parts = c.into_parts-names.ensures in
    let added = c.in_ok-rules.ensures in
    let names : c.add_reset.new.names.items ≡ net.names ++ codes "reset" ∷ [] = added.names ∙ ap (λ xs. xs ++ codes "reset" ∷ []) parts.names in
    let rules : c.in_ok-rules.rules ≡ net_rules (reset_of net) =
    added.rules ∙ ap (λ first. net_rules (reset_of (bare first c.into_parts-names.result.2))) parts.first
    ∙ ap (λ (r : RulesValue). net_rules (reset_of (bare net.first r))) parts.rules in
    c.new_reset.ensures ∙ parts_are net c.add_reset.new.names.items c.add_reset.new.first.items c.in_ok-rules.rules c.into_parts-names.result.3.items names
    (added.first ∙ ap (λ xs. xs ++ true ∷ []) parts.first) rules parts.channels
