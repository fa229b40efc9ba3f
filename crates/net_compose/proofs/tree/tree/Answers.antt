use Rattle.std.proofs.Common.{◌≡◌, ◌∙◌, ◌+◌, ◌/◌, ℕ, List, ◌++◌, length, sym, ap, arith}
use Rattle.handshake_expand.proofs.Branches.{sites_more}
use Rattle.cell_parallel.specs.Trees.{level_rules, next_level, tree_rules}
use Rattle.cell_parallel.specs.Sizes.{next_length}
use Rattle.cell_parallel.proofs.Grown.{tree_is}
use Rattle.net_compose.proofs.tree.tree.Goals as goal

pub loop-alloc-smaller : goal.loop-alloc-smaller
loop-alloc-smaller c =
    let ls = c.loop-alloc.level.items in
    let node = c.loop-alloc.node in
    let above = ap (λ (l : List ℕ). length l) (c.in_ok-level-2.ensures.above ∙ ap (λ l. next_level l node) c.deref.ensures.value) in
    let next = next_length ls node in
    omega (arith, above, next, c.loop-alloc-test.true, c.len.ensures, c.loop-alloc.level.ok)

pub loop-alloc-preserved : goal.loop-alloc-preserved
loop-alloc-preserved c =
    let ls = c.loop-alloc.level.items in
    let node = c.loop-alloc.node in
    let now = c.loop-alloc.drivers.items in
    let above = c.in_ok-level-2.ensures.above ∙ ap (λ l. next_level l node) c.deref.ensures.value in
    let count = ap (λ (l : List ℕ). length l) above in
    let next = next_length ls node in
    let joined : length ls ≡ c.len-joined.result = omega (arith, c.len-joined.ensures, c.loop-alloc.level.ok) in
    record {
      made = sites_more now c.join_level.new.drivers.items (level_rules ls)
          (tree_rules c.in_ok-level-2.level.items (node + c.len-joined.result / 2)) (tree_rules ls node) _
          (c.in_ok-level-2.ensures.made ∙ ap (λ l. now ++ level_rules l) c.deref.ensures.value)
          (tree_is ls node ∙ (ap (λ l. level_rules ls ++ tree_rules l (node + length ls / 2)) (sym above)
          ∙ ap (λ n. level_rules ls ++ tree_rules c.in_ok-level-2.level.items (node + n / 2)) joined))
          c.loop-alloc.invariant.made;
      room = omega (arith, count, next, joined, c.loop-alloc.invariant.room);
    }
