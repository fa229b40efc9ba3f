use Rattle.std.proofs.Common.{◌≡◌, take}
use Rattle.call_merge.proofs.copies.copied_decls.Given as goal

abbrev pub invariant-loop-decl : goal.invariant-loop-decl
invariant-loop-decl l = l.made.items ≡ take l.decl-index l.decls
