use Rattle.std.proofs.Common.{ap}
use Rattle.handshake_expand.proofs.Rows.{select_is}
use Rattle.pace_command.specs.FirstNames.{first_name_at}
use Rattle.pace_command.proofs.Members.{group_names}
use Rattle.pace_command.proofs.first_names.+first_name_at.Goals as goal

pub loop-part-init : goal.loop-part-init
loop-part-init t c = rw c.deref-part-items.ensures.value (group_names _ _ c.in-Then.is)

pub loop-arm-init : goal.loop-arm-init
loop-arm-init t c = rw c.deref-arm-items.ensures.value (ap first_name_at (select_is _ _ _ c.in-Select.is))
