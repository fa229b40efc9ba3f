use Rattle.std.proofs.Common.{◌≡◌, ◌+◌, [], length, get_or, refl, ap, ◌∙◌, subst, arith}
use Rattle.std.proofs.lemmas.List.{length-set}
use Rattle.std.specs.Prelude.{All}
use Rattle.prs_core.specs.Nets.{RulesValue, IsBelow, IsRules}
use Rattle.reset_net.specs.Resets.{reset_up, reset_down}
use Rattle.reset_net.proofs.Laid.{laid_count, laid_step}
use Rattle.reset_net.proofs.Taken.{taken_one}
use Rattle.reset_net.proofs.Whole.{bare, up_below, down_below}
use Rattle.reset_net.proofs.rules_with_reset.Goals as goal

pub set_up-requires-clause-node : goal.set_up-requires-clause-node
set_up-requires-clause-node c =
    let n = bare c.args.first.now c.args.rules in
    let total : length c.loop-node.made.up ≡ length n.first + 1 =
    ap length c.loop-node.invariant.up ∙ laid_count (reset_up n) c.loop-node.node (length n.first + 1) (omega (arith, c.loop-node-test.true)) in
    omega (arith, c.loop-node-test.true)

pub set_up-requires-clause-within : goal.set_up-requires-clause-within
set_up-requires-clause-within c =
    let n = bare c.args.first.now c.args.rules in
    let is : IsRules c.args.rules = subst IsRules c.left.view_is c.left.invariant in
    let new : c.in_ok-up.up ≡ reset_up n c.loop-node.node =
    c.in_ok-up.ensures.up ∙ rw (c.loop-node.invariant.ups c.loop-node.node (omega arith), c.loop-node.invariant.downs c.loop-node.node (omega arith)) refl in
    let total : length c.loop-node.made.up ≡ length n.first + 1 =
    ap length c.loop-node.invariant.up ∙ laid_count (reset_up n) c.loop-node.node (length n.first + 1) (omega (arith, c.loop-node-test.true)) in
    rw (new, total) (up_below n (subst (λ k. All (IsBelow k) c.args.rules.up) c.requires.nodes is.up_within) c.loop-node.node)

pub set_down-requires-clause-node : goal.set_down-requires-clause-node
set_down-requires-clause-node c =
    let n = bare c.args.first.now c.args.rules in
    let set : length c.set_up.new.self.up ≡ length c.loop-node.made.up =
    ap (λ (r : RulesValue). length r.up) c.set_up.ensures ∙ length-set c.loop-node.made.up c.loop-node.node c.in_ok-up.up in
    let total : length c.loop-node.made.up ≡ length n.first + 1 =
    ap length c.loop-node.invariant.up ∙ laid_count (reset_up n) c.loop-node.node (length n.first + 1) (omega (arith, c.loop-node-test.true)) in
    omega (arith, c.loop-node-test.true)

pub set_down-requires-clause-within : goal.set_down-requires-clause-within
set_down-requires-clause-within c =
    let n = bare c.args.first.now c.args.rules in
    let is : IsRules c.args.rules = subst IsRules c.left.view_is c.left.invariant in
    let new : c.in_ok-up.down ≡ reset_down n c.loop-node.node =
    c.in_ok-up.ensures.down ∙ rw (c.loop-node.invariant.ups c.loop-node.node (omega arith), c.loop-node.invariant.downs c.loop-node.node (omega arith)) refl in
    let set : length c.set_up.new.self.up ≡ length c.loop-node.made.up =
    ap (λ (r : RulesValue). length r.up) c.set_up.ensures ∙ length-set c.loop-node.made.up c.loop-node.node c.in_ok-up.up in
    let total : length c.set_up.new.self.up ≡ length n.first + 1 = set
    ∙ ap length c.loop-node.invariant.up ∙ laid_count (reset_up n) c.loop-node.node (length n.first + 1) (omega (arith, c.loop-node-test.true)) in
    rw (new, total) (down_below n (subst (λ k. All (IsBelow k) c.args.rules.down) c.requires.nodes is.down_within) c.loop-node.node)

pub loop-node-preserved : goal.loop-node-preserved
loop-node-preserved c =
    let n = bare c.args.first.now c.args.rules in
    let v = c.loop-node.invariant in
    let up : c.in_ok-up.up ≡ reset_up n c.loop-node.node =
    c.in_ok-up.ensures.up ∙ rw (v.ups c.loop-node.node (omega arith), v.downs c.loop-node.node (omega arith)) refl in
    let down : c.in_ok-up.down ≡ reset_down n c.loop-node.node =
    c.in_ok-up.ensures.down ∙ rw (v.ups c.loop-node.node (omega arith), v.downs c.loop-node.node (omega arith)) refl in
    let ups = ap (λ (r : RulesValue). r.up) c.new_guards.ensures.left in
    let downs = ap (λ (r : RulesValue). r.down) c.new_guards.ensures.left in
    record {
      up = ap (λ (r : RulesValue). r.up) c.set_down.ensures ∙ laid_step (reset_up n) c.loop-node.node (length n.first + 1) c.loop-node.made.up _
          c.in_ok-up.up (omega (arith, c.loop-node-test.true)) v.up up (ap (λ (r : RulesValue). r.up) c.set_up.ensures);
      down = laid_step (reset_down n) c.loop-node.node (length n.first + 1) c.set_up.new.self.down _ c.in_ok-up.down (omega (arith, c.loop-node-test.true))
          (ap (λ (r : RulesValue). r.down) c.set_up.ensures ∙ v.down) down (ap (λ (r : RulesValue). r.down) c.set_down.ensures);
      count = ap length ups ∙ length-set c.loop-node.left.up c.loop-node.node [] ∙ v.count;
      ups = λ k past. ap (λ gs. get_or gs k []) ups ∙ taken_one c.loop-node.left.up c.args.rules.up c.loop-node.node v.ups k past;
      downs = λ k past. ap (λ gs. get_or gs k []) downs ∙ taken_one c.loop-node.left.down c.args.rules.down c.loop-node.node v.downs k past;
    }
