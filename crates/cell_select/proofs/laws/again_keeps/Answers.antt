use Rattle.cell_select.proofs.AgainOnce.{again_keeps}
use Rattle.cell_select.proofs.Written.{again_written}
use Rattle.cell_select.proofs.laws.again_keeps.Goals as goal

pub returns-clause-all : goal.returns-clause-all
returns-clause-all c = again_keeps

pub returns-clause-written : goal.returns-clause-written
returns-clause-written c = again_written
