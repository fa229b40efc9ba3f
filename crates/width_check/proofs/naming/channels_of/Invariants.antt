use Rattle.std.proofs.Common.{◌≡◌, ◌++◌, drop}
use Rattle.width_check.specs.Form.{channels_of}
use Rattle.width_check.proofs.naming.channels_of.Given as goal

abbrev pub invariant-loop-decl : goal.invariant-loop-decl
invariant-loop-decl l = l.channels.items ++ channels_of (drop l.decl-index l.decls) ≡ channels_of l.decls
