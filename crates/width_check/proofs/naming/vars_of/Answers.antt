use Rattle.std.proofs.Common.{arith}
use Rattle.width_check.proofs.Numbering.{width_fits}
use Rattle.width_check.proofs.naming.vars_of.Goals as goal

pub overflow_cast-decl : goal.overflow_cast-decl
overflow_cast-decl c = let most = width_fits _ c.loop-decl.decl-index _ c.requires c.loop-decl-test.true c.decl-item.is in omega arith
