use Rattle.std.proofs.Common.{◌≡◌, ◌++◌, drop}
use Rattle.width_check.specs.Form.{vars_of}
use Rattle.width_check.proofs.naming.vars_of.Given as goal

abbrev pub invariant-loop-decl : goal.invariant-loop-decl
invariant-loop-decl l = l.vars.items ++ vars_of (drop l.decl-index l.decls) ≡ vars_of l.decls
