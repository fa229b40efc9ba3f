use Rattle.delay_script.proofs.OneDelays.{one_table}
use Rattle.delay_script.proofs.laws.one_delay_table.Goals as goal

pub returns : goal.returns
returns c = one_table
