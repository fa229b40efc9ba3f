use Rattle.std.proofs.Common.{◌≡◌, ◌≤◌, ◌+◌, ◌-◌, ◌^◌, drop}
use Rattle.width_check.specs.View.{choices_in}
use Rattle.handshake_expand.specs.Layout.{guards_size, capped}
use Rattle.handshake_expand.specs.PartTree.{HasFormedGuards}
use Rattle.handshake_expand.proofs.count.guard_nodes.Given as goal

abbrev pub invariant-loop-arm : goal.invariant-loop-arm
invariant-loop-arm l = record {
  counted : capped (l.count + guards_size (choices_in (drop l.arm-index l.arms))) ≡ capped (guards_size (choices_in l.arms));
  formed : HasFormedGuards (choices_in (drop l.arm-index l.arms));
  most : l.count ≤ 2 ^ 64 - 1;
}
