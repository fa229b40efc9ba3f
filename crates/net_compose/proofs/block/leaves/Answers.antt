use Rattle.std.proofs.Common.{◌≡◌, ◌∙◌, ℕ, suc, ◌+◌, ◌-◌, ◌<◌, List, [], ◌∷◌, ◌++◌, ap, sym, append_assoc, arith}
use Rattle.cell_variable.specs.Variables.{written_leaves}
use Rattle.net_compose.proofs.block.leaves.Goals as goal

leaves_more : (now total : List ℕ) (width bit node : ℕ) → bit < width → now ++ written_leaves (width - bit) node ≡ total
    → (now ++ (node + 4) ∷ []) ++ written_leaves (width - (bit + 1)) (node + 5) ≡ total
leaves_more now total width bit node within so_far =
    let e : width - bit ≡ suc (width - (bit + 1)) = omega arith in
    append_assoc now ((node + 4) ∷ []) (written_leaves (width - (bit + 1)) (node + 5)) ∙ (ap (λ n. now ++ written_leaves n node) (sym e) ∙ so_far)

pub loop-bit-preserved : goal.loop-bit-preserved
loop-bit-preserved c = record {
  nodes = ap (λ l. l ++ written_leaves (c.args.width - (c.loop-bit._bit + 1)) (c.loop-bit.node + 5)) c.in_ok-push.ensures.items
      ∙ leaves_more c.loop-bit.nodes.items _ c.args.width c.loop-bit._bit c.loop-bit.node (omega arith) c.loop-bit.invariant.nodes;
  node = omega (arith, c.loop-bit.invariant.node);
}
