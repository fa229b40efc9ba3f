use Rattle.std.proofs.Common.{◌≡◌, drop}
use Rattle.std.specs.Prelude.{max}
use Rattle.width_check.specs.View.{choices_in}
use Rattle.handshake_expand.specs.Layout.{capped}
use Rattle.handshake_expand.specs.PartTree.{HasFormedGuards}
use Rattle.round_time.specs.Longest.{guards_depth}
use Rattle.pace_bound.proofs.depth.guards_depth.Given as goal

abbrev pub invariant-loop-arm : goal.invariant-loop-arm
invariant-loop-arm l = record {
  deepest : max l.most (capped (guards_depth (choices_in (drop l.arm-index l.arms)))) ≡ capped (guards_depth (choices_in l.arms));
  formed : HasFormedGuards (choices_in (drop l.arm-index l.arms));
}
