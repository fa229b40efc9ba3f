use Rattle.std.proofs.Common.{◌≡◌, ◌∙◌, ◌+◌, ◌-◌, ◌*◌, ◌<◌, ℕ, zero, suc, List, ◌++◌, length, refl, ap, arith}
use Rattle.prs_core.specs.Nets.{NodeRules}
use Rattle.prs_core.specs.Pairs.{Pair}
use Rattle.handshake_expand.proofs.Branches.{sites_more, sites_done}
use Rattle.cell_parallel.specs.Trees.{tree_rules}
use Rattle.cell_variable.specs.Variables.{bit_at, bits_from, bit_rules, bits_rules, written_leaves}
use Rattle.net_compose.proofs.BodyDriven.{two_on}
use Rattle.net_compose.proofs.block.block.Goals as goal

bits_more : (sites : List (List Pair)) (now new whole : List NodeRules) (place width node : ℕ) → place < width
    → new ≡ now ++ bit_rules sites place (bit_at node) → now ++ bits_rules sites place (bits_from (width - place) node) ≡ whole
    → new ++ bits_rules sites (place + 1) (bits_from (width - (place + 1)) (node + 5)) ≡ whole
bits_more sites now new whole place width node within made so_far =
    let e : width - place ≡ suc (width - (place + 1)) = omega arith in
    let one : suc place ≡ place + 1 = omega arith in
    let rest = bits_from (width - (place + 1)) (node + 5) in
    sites_more now new (bit_rules sites place (bit_at node)) (bits_rules sites (place + 1) rest) (bits_rules sites place (bits_from (width - place) node)) whole
    made (ap (λ n. bits_rules sites place (bits_from n node)) e ∙ ap (λ k. bit_rules sites place (bit_at node) ++ bits_rules sites k rest) one) so_far

leaves_count : (n from : ℕ) → length (written_leaves n from) ≡ n
leaves_count zero from = refl
leaves_count (suc n) from = ap suc (leaves_count n (from + 5))

pub loop-place-preserved : goal.loop-place-preserved
loop-place-preserved c = record {
  made = bits_more c.args.sites.now c.loop-place.drivers.items c.bit.new.drivers.items _ c.loop-place.place c.args.width c.loop-place.node
      c.loop-place-test.true c.in_ok-bit.ensures c.loop-place.invariant.made;
  node = omega (arith, c.loop-place.invariant.node);
}

pub tree-requires : goal.tree-requires
tree-requires c =
    let count = ap (λ (l : List ℕ). length l) (c.deref.ensures.value ∙ c.in_ok-written.ensures) in
    let leaves = leaves_count c.args.width c.args.from in
    omega (arith, count, leaves, c.loop-place.invariant.node, c.loop-place-test.false, c.requires)

pub returns : goal.returns
returns c =
    let old = c.args.drivers.now.items in
    let now = c.loop-place.drivers.items in
    let sites = c.args.sites.now in
    let width = c.args.width in
    let from = c.args.from in
    let all : width - c.loop-place.place ≡ 0 = omega (arith, c.loop-place-test.false) in
    let node : c.loop-place.node ≡ from + 5 * width = omega (arith, c.loop-place.invariant.node, c.loop-place-test.false) in
    let bits = sites_done now _ (old ++ bits_rules sites 0 (bits_from width from))
    (ap (λ n. bits_rules sites c.loop-place.place (bits_from n c.loop-place.node)) all) c.loop-place.invariant.made in
    two_on old now c.tree.new.drivers.items (bits_rules sites 0 (bits_from width from)) (tree_rules (written_leaves width from) (from + 5 * width)) bits
    (c.in_ok-tree.ensures ∙ (ap (λ l. now ++ tree_rules l c.loop-place.node) (c.deref.ensures.value ∙ c.in_ok-written.ensures)
    ∙ ap (λ n. now ++ tree_rules (written_leaves width from) n) node))
