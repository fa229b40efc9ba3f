use Rattle.cell_select.proofs.SelectOnce.{select_keeps}
use Rattle.cell_select.proofs.Written.{select_written}
use Rattle.cell_select.proofs.laws.select_keeps.Goals as goal

pub returns-clause-all : goal.returns-clause-all
returns-clause-all c = select_keeps

pub returns-clause-written : goal.returns-clause-written
returns-clause-written c = select_written
