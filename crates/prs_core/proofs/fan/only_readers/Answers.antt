use Rattle.prs_core.proofs.FanLemmas.{same_enabled}
use Rattle.prs_core.proofs.fan.only_readers.Goals as goal

pub returns : goal.returns
returns c = same_enabled
