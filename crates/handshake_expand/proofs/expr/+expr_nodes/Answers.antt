use Rattle.std.proofs.Common.{◌≡◌, ap, subst, drop, arith}
use Rattle.width_check.specs.Processes.{Formula}
use Rattle.width_check.specs.Values.{IsWellFormed}
use Rattle.handshake_expand.specs.Layout.{formula_size, parts_size, operations_size}
use Rattle.handshake_expand.proofs.Rows.{join_is, chain_is, no_more_parts, no_more_links, parts_of, links_of}
use Rattle.handshake_expand.proofs.expr.+expr_nodes.Goals as goal

pub loop-part-init : goal.loop-part-init
loop-part-init t c =
    let is = join_is _ _ c.in-Join.is in
    let facts = subst (λ (f : Formula). IsWellFormed f) is c.requires in
    let size = ap formula_size is in
    rw c.deref-part-items.ensures.value (record {
      counted = omega (arith, size);
      formed = facts.2;
      most = omega arith;
    })

pub loop-link-init : goal.loop-link-init
loop-link-init t c =
    let is = chain_is _ _ _ c.in-Chain.is in
    let facts = subst (λ (f : Formula). IsWellFormed f) is c.requires in
    let size = ap formula_size is in
    rw (c.deref-link-items.ensures.value, c.width_of-width.ensures, c.expr_nodes-count.ensures, c.deref-in-Chain.ensures, c.deref-in-Chain-2.ensures) (record {
      counted = omega (arith, size);
      formed = facts.2;
      most = omega arith;
    })

pub returns-after-loop-part : goal.returns-after-loop-part
returns-after-loop-part t c =
    let none = no_more_parts c.deref-part-items.result.now c.loop-part.part-index c.loop-part-test.false in
    let left : parts_size (parts_of (drop c.loop-part.part-index c.deref-part-items.result.now)) ≡ 0 = ap parts_size none in
    omega (arith, c.loop-part.invariant.counted, c.loop-part.invariant.most, left)

pub returns-after-loop-link : goal.returns-after-loop-link
returns-after-loop-link t c =
    let none = no_more_links c.deref-link-items.result.now c.loop-link.link-index c.loop-link-test.false in
    let left : operations_size c.width_of-width.result (links_of (drop c.loop-link.link-index c.deref-link-items.result.now)) ≡ 0 =
    ap (operations_size c.width_of-width.result) none in
    omega (arith, c.loop-link.invariant.counted, c.loop-link.invariant.most, left)
