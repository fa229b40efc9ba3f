use Rattle.sharing_check.proofs.LeastLemmas.{least_same}
use Rattle.sharing_check.proofs.TableLemmas.{meeting_sym}
use Rattle.sharing_check.proofs.table.first_meeting.Goals as goal

pub returns-else-len : goal.returns-else-len
returns-else-len c = least_same c.first_among-else-len.ensures (meeting_sym _ _) (meeting_sym _ _)
