use Rattle.prs_file.proofs.ReadOnce.{only_one, no_other}
use Rattle.prs_file.proofs.read.read_net.Goals as goal

pub returns-clause-only : goal.returns-clause-only
returns-clause-only c = only_one c.args.text.now c.read_in_stages.result c.read_in_stages.ensures.net c.read_in_stages.ensures.text

pub returns-clause-never : goal.returns-clause-never
returns-clause-never c = no_other c.args.text.now c.read_in_stages.result c.read_in_stages.ensures.refused
