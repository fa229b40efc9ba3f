use Rattle.std.proofs.Common.{arith, sym, subst, ap, ◌≡◌, ◌+◌, ◌/◌, length, ◌<◌}
use Rattle.cell_parallel.specs.Sizes.{next_length}
use Rattle.cell_parallel.proofs.Grown.{Grown, grown_more, grown_alone, grown_partly}
use Rattle.cell_parallel.proofs.tree.emit_tree.Goals as goal

pub returns-in_err-level-2-clause-others : goal.returns-in_err-level-2-clause-others
returns-in_err-level-2-clause-others c =
    let here = subst (λ l. Grown c.args.leaves.now c.args.from c.args.rules.now l c.loop-alloc.node c.loop-alloc.rules) (sym c.deref.ensures.value)
    c.loop-alloc.invariant in
    grown_alone c.args.leaves.now c.args.from c.args.rules.now c.deref.result.now c.loop-alloc.node c.loop-alloc.rules c.join_level.new.rules here
    c.join_level.ensures.others

pub loop-alloc-smaller : goal.loop-alloc-smaller
loop-alloc-smaller c =
    let same = ap length c.deref.ensures.value in
    let above = ap length c.in_ok-level-2.ensures.above in
    let long : 1 < length c.loop-alloc.level.items = omega (arith, c.loop-alloc-test.true, c.len.ensures, c.loop-alloc.level.ok) in
    let less : length c.in_ok-level-2.level.items < length c.loop-alloc.level.items =
    omega (arith, same, above, long, next_length c.deref.result.now c.loop-alloc.node) in less

pub loop-alloc-preserved : goal.loop-alloc-preserved
loop-alloc-preserved c =
    let here = subst (λ l. Grown c.args.leaves.now c.args.from c.args.rules.now l c.loop-alloc.node c.loop-alloc.rules) (sym c.deref.ensures.value)
    c.loop-alloc.invariant in
    let same = ap length c.deref.ensures.value in
    let long : 1 < length c.deref.result.now = omega (arith, same, c.loop-alloc-test.true, c.len.ensures, c.loop-alloc.level.ok) in
    let next : c.loop-alloc.node + c.len-joined.result / 2 ≡ c.loop-alloc.node + length c.deref.result.now / 2 =
    omega (arith, same, c.len-joined.ensures, c.loop-alloc.level.ok) in
    grown_more c.args.leaves.now c.args.from c.args.rules.now c.deref.result.now c.loop-alloc.node c.loop-alloc.rules c.in_ok-level-2.level.items
    (c.loop-alloc.node + c.len-joined.result / 2) c.join_level.new.rules here c.requires.own long c.in_ok-level-2.ensures.above next
    c.in_ok-level-2.ensures.made c.join_level.ensures.nodes c.join_level.ensures.others c.join_level.ensures.partly

pub returns-in_err-level-2-clause-partly : goal.returns-in_err-level-2-clause-partly
returns-in_err-level-2-clause-partly c =
    let here = subst (λ l. Grown c.args.leaves.now c.args.from c.args.rules.now l c.loop-alloc.node c.loop-alloc.rules) (sym c.deref.ensures.value)
    c.loop-alloc.invariant in
    grown_partly c.args.leaves.now c.args.from c.args.rules.now c.deref.result.now c.loop-alloc.node c.loop-alloc.rules c.join_level.new.rules here
    c.join_level.ensures.partly
