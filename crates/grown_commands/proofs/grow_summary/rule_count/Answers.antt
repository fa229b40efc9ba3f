use Rattle.std.proofs.Common.{◌≡◌, ◌∙◌, ℕ, ◌+◌, ◌<◌, ◌≤◌, List, [], length, get_or, take, sym, ap, ap₂, arith}
use Rattle.std.specs.Prelude.{sum_by}
use Rattle.std.proofs.lemmas.List.{take_all}
use Rattle.std.proofs.lemmas.List.Sums.{sum_by_more}
use Rattle.prs_core.specs.Nets.{GuardValue}
use Rattle.grown_commands.specs.Summing.{guard_rules}
use Rattle.grown_commands.proofs.grow_summary.rule_count.Goals as goal

-- one guard more
one_more : (gs : List GuardValue) (n a : ℕ) (g : GuardValue) → n < length gs → a ≡ guard_rules g → g ≡ get_or gs n [] →
    sum_by guard_rules (take n gs) + a ≡ sum_by guard_rules (take (n + 1) gs)
one_more gs n a g within is read =
    ap (λ (k : ℕ). sum_by guard_rules (take n gs) + k) (is ∙ ap guard_rules read) ∙ sym (sum_by_more guard_rules gs n [] within)

added : (count a b s t u v : ℕ) → count ≡ s + t → s + a ≡ u → t + b ≡ v → count + a + b ≡ u + v
added count a b s t u v p q r = omega (arith, p, q, r)

pub loop-node-preserved : goal.loop-node-preserved
loop-node-preserved c =
    let net = c.args.net.now in
    let n = c.loop-node.node in
    let is_net = c.first.ensures.net in
    let here : n < length net.first = omega (arith, ap length c.first.ensures.first) in
    let ups : n < length net.up = omega (arith, here, is_net.ups) in
    let downs : n < length net.down = omega (arith, here, is_net.downs) in
    record {
      count = added c.loop-node.count _ _ _ _ _ _ c.loop-node.invariant.count
          (one_more net.up n _ c.up.result.now ups c.guard_rules-count.ensures.value c.up.ensures)
          (one_more net.down n _ c.down.result.now downs c.guard_rules-count-in-loop-node.ensures.value c.down.ensures);
      few = omega (arith, c.loop-node.invariant.few, c.guard_rules-count.ensures.most, c.guard_rules-count-in-loop-node.ensures.most);
    }

pub returns : goal.returns
returns c =
    let net = c.args.net.now in
    let n = c.loop-node.node in
    let is_net = c.first.ensures.net in
    let end : length net.first ≤ n = omega (arith, ap length c.first.ensures.first) in
    let ups : length net.up ≤ n = omega (arith, end, is_net.ups) in
    let downs : length net.down ≤ n = omega (arith, end, is_net.downs) in
    c.loop-node.invariant.count
    ∙ ap₂ (λ (a b : ℕ). a + b) (ap (sum_by guard_rules) (take_all n net.up ups)) (ap (sum_by guard_rules) (take_all n net.down downs))
