use Rattle.std.proofs.Common.{◌≡◌, take}
use Rattle.slack_buffer.proofs.copy.copied_decls.Given as goal

abbrev pub invariant-loop-decl : goal.invariant-loop-decl
invariant-loop-decl l = l.made.items ≡ take l.decl-index l.decls
