use Rattle.function_blocks.proofs.ExpressionKeeps.{value_of_rail, value_of_rails}
use Rattle.function_blocks.proofs.laws.value_of.Goals as goal

pub returns-clause-each : goal.returns-clause-each
returns-clause-each c = value_of_rail

pub returns-clause-whole : goal.returns-clause-whole
returns-clause-whole c = value_of_rails
