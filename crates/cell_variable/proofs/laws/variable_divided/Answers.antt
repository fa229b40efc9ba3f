use Rattle.cell_variable.proofs.Divided.{variable_divided, variable_written}
use Rattle.cell_variable.proofs.laws.variable_divided.Goals as goal

pub returns-clause-nodes : goal.returns-clause-nodes
returns-clause-nodes c = variable_divided

pub returns-clause-written : goal.returns-clause-written
returns-clause-written c = variable_written
