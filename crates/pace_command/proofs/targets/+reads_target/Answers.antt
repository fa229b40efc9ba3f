use Rattle.std.proofs.Common.{ap}
use Rattle.handshake_expand.proofs.Rows.{select_is}
use Rattle.pace_command.specs.Targets.{reads_target}
use Rattle.pace_command.proofs.Members.{group_reads}
use Rattle.pace_command.proofs.targets.+reads_target.Goals as goal

pub loop-part-init : goal.loop-part-init
loop-part-init t c = rw c.deref-part-items.ensures.value (group_reads _ _ c.in-Then.is)

pub loop-arm-init : goal.loop-arm-init
loop-arm-init t c = rw c.deref-arm-items.ensures.value (ap reads_target (select_is _ _ _ c.in-Select.is))
