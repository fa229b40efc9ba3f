use Rattle.std.proofs.Common.{◌≡◌, ◌∙◌, ◌+◌, ◌-◌, ◌<◌, ℕ, suc, [], ◌∷◌, ◌++◌, List, ap, arith}
use Rattle.prs_core.specs.Nets.{NodeRules}
use Rattle.prs_core.specs.Pairs.{Pair, merged_true, merged_false}
use Rattle.handshake_expand.proofs.Branches.{sites_more}
use Rattle.net_compose.specs.Translation.{rail_rules}
use Rattle.net_compose.proofs.block.rails.Goals as goal

rails_more : (sites : List (List Pair)) (now new whole : List NodeRules) (bit width : ℕ) → bit < width
    → new ≡ now ++ merged_true sites bit ∷ merged_false sites bit ∷ [] → now ++ rail_rules sites bit (width - bit) ≡ whole
    → new ++ rail_rules sites (bit + 1) (width - (bit + 1)) ≡ whole
rails_more sites now new whole bit width within made so_far =
    let e : width - bit ≡ suc (width - (bit + 1)) = omega arith in
    let one : suc bit ≡ bit + 1 = omega arith in
    let left = width - (bit + 1) in
    sites_more now new (merged_true sites bit ∷ merged_false sites bit ∷ []) (rail_rules sites (bit + 1) left) (rail_rules sites bit (width - bit)) whole made
    (ap (rail_rules sites bit) e ∙ ap (λ k. merged_true sites bit ∷ merged_false sites bit ∷ rail_rules sites k left) one) so_far

pub loop-bit-preserved : goal.loop-bit-preserved
loop-bit-preserved c =
    rails_more c.args.sites.now c.loop-bit.drivers.items c.merges.new.drivers.items _ c.loop-bit.bit c.args.width c.loop-bit-test.true
    c.in_ok-merges.ensures c.loop-bit.invariant
