use Rattle.cell_variable.proofs.VariableKeeps.{variable_keeps}
use Rattle.cell_variable.proofs.MergeKeeps.{merge_keeps}
use Rattle.cell_variable.proofs.laws.variable_keeps.Goals as goal

pub returns-clause-variable : goal.returns-clause-variable
returns-clause-variable c = variable_keeps c.tree_settles.ensures

pub returns-clause-merge : goal.returns-clause-merge
returns-clause-merge c = merge_keeps

pub returns-clause-write_site : goal.returns-clause-write_site
returns-clause-write_site c = c.site_keeps.ensures
