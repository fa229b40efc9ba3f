use Rattle.std.proofs.Common.{◌≡◌, ◌++◌, map, take}
use Rattle.chp_syntax.specs.declared.tree.Ident.{Ident}
use Rattle.call_merge.proofs.sites.note_names.Given as goal

abbrev pub invariant-loop-one : goal.invariant-loop-one
invariant-loop-one l = l.names.items ≡ l.initial.names.items ++ map (λ (i : Ident). i.name) (take l.one-index l.found)
