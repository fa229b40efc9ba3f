use Rattle.std.proofs.Common.{◌≡◌, ap, drop, arith}
use Rattle.width_check.specs.View.{choices_in}
use Rattle.handshake_expand.specs.Layout.{guards_size}
use Rattle.handshake_expand.proofs.Rows.{no_more_arms}
use Rattle.handshake_expand.proofs.count.guard_nodes.Goals as goal

pub returns : goal.returns
returns c =
    let none = no_more_arms c.args.arms.now c.loop-arm.arm-index c.loop-arm-test.false in
    let left : guards_size (choices_in (drop c.loop-arm.arm-index c.args.arms.now)) ≡ 0 = ap guards_size none in
    omega (arith, c.loop-arm.invariant.counted, c.loop-arm.invariant.most, left)
