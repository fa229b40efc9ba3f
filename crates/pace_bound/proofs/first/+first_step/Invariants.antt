use Rattle.std.proofs.Common.{◌≡◌, ◌<◌, ◌≤◌, ◌-◌, ◌^◌, false, drop}
use Rattle.std.specs.Prelude.{max}
use Rattle.width_check.specs.Typed.{program_of}
use Rattle.width_check.specs.Typing.{AreProcesses}
use Rattle.width_check.specs.View.{members_in}
use Rattle.handshake_expand.specs.Layout.{capped}
use Rattle.round_time.specs.Longest.{each_first}
use Rattle.round_time.specs.Ways.{each_first_step}
use Rattle.pace_bound.specs.Halving.{each_first_by}
use Rattle.pace_bound.proofs.Picking.{IsPicked}
use Rattle.pace_bound.proofs.first.+first_step.Given as goal

abbrev pub invariant-loop-place : goal.invariant-loop-place
invariant-loop-place l = record {
  latest : max l.last.moves (capped (each_first_by l.halved (program_of l.program) (members_in (drop l.place l.parts.items)))) ≡
      capped (each_first_by l.halved (program_of l.program) (members_in l.parts.items));
  picked : l.halved ≡ false → each_first (program_of l.program) (members_in l.parts.items) < 2 ^ 64 - 1 → IsPicked l.last
      (each_first_step (program_of l.program) (members_in (drop l.place l.parts.items))) (each_first_step (program_of l.program) (members_in l.parts.items));
  below : each_first (program_of l.program) (members_in (drop l.place l.parts.items)) ≤ each_first (program_of l.program) (members_in l.parts.items);
  formed : AreProcesses l.program.channels l.program.vars (members_in (drop l.place l.parts.items));
}
