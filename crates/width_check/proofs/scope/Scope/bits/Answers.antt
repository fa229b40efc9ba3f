use Rattle.std.proofs.Common.{arith}
use Rattle.width_check.proofs.Leaves.{declared_most}
use Rattle.width_check.proofs.Numbering.{declared_some}
use Rattle.width_check.proofs.scope.Scope.bits.Goals as goal

pub overflow_cast-result : goal.overflow_cast-result
overflow_cast-result c = let most = declared_most _ c.requires.ranged c.args.name.now in omega (arith, c.width.ensures)

pub returns-clause-some : goal.returns-clause-some
returns-clause-some c = let some = declared_some _ c.args.name.now c.requires.ranged c.requires.declared in omega (arith, c.width.ensures)

pub returns-clause-most : goal.returns-clause-most
returns-clause-most c = let most = declared_most _ c.requires.ranged c.args.name.now in omega (arith, c.width.ensures)
