use Rattle.std.proofs.Common.{◌≡◌, ℕ, zero, suc, ◌<◌, ◌^◌, List, [], All, length, replicate, arith, ap, sym, ◌∙◌, subst}
use Rattle.std.proofs.lemmas.List.{length-replicate}
use Rattle.std.proofs.lemmas.List.Elements.{All-nil, All-cons}
use Rattle.prs_core.specs.declared.rule.Literal.{Literal}
use Rattle.prs_core.specs.Nets.{GuardValue, RulesValue, IsRules, IsBelow}
use Rattle.prs_core.proofs.rules.Rules.new.Goals as goal

empty_within : (count nodes : ℕ) → All (IsBelow count) (replicate nodes [])
empty_within count zero = All-nil (IsBelow count)
empty_within count (suc nodes) =
    All-cons (IsBelow count) [] (replicate nodes []) (All-nil (λ t. All (λ (l : Literal). l.node < count) t)) (empty_within count nodes)

are_rules : (nodes : ℕ) (up down : List GuardValue) → nodes < 2 ^ 32 → up ≡ replicate nodes [] → down ≡ replicate nodes [] →
    IsRules (record { up = up; down = down })
are_rules nodes up down few up_is down_is =
    let ups : length up ≡ nodes = ap (λ (gs : List GuardValue). length gs) up_is ∙ length-replicate nodes [] in
    let downs : length down ≡ nodes = ap (λ (gs : List GuardValue). length gs) down_is ∙ length-replicate nodes [] in
    record {
      few = subst (λ k. k < 2 ^ 32) (sym ups) few;
      downs = downs ∙ sym ups;
      up_within = subst (All (IsBelow (length up))) (sym up_is) (empty_within (length up) nodes);
      down_within = subst (All (IsBelow (length up))) (sym down_is) (empty_within (length up) nodes);
    }

pub invariant_of-result : goal.invariant_of-result
invariant_of-result c =
    are_rules c.args.nodes c.in_ok-up.up.items c.in_ok-down.down.items (omega (arith, c.ranges.nodes.fits)) c.in_ok-up.ensures c.in_ok-down.ensures

pub returns : goal.returns
returns c =
    ap (λ (up : List GuardValue). let r : RulesValue = record { up = up; down = c.in_ok-down.down.items } in r) c.in_ok-up.ensures
    ∙ ap (λ (down : List GuardValue). let r : RulesValue = record { up = replicate c.args.nodes []; down = down } in r) c.in_ok-down.ensures
