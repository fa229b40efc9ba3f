use Rattle.std.proofs.Common.{take}
use Rattle.std.specs.Prelude.{All}
use Rattle.std.specs.HashSet.{contains}
use Rattle.std.specs.Str.{bytes_eq}
use Rattle.chp_base.specs.Names.{IsName}
use Rattle.chp_syntax.specs.declared.tree.Decl.{Decl}
use Rattle.call_merge.proofs.OwnVars.{OwnVarsSoFar}
use Rattle.call_merge.proofs.own_vars.vars_for.Given as goal

abbrev pub invariant-loop-target : goal.invariant-loop-target
invariant-loop-target l = record {
  so_far : OwnVarsSoFar l.decls l.fn.names.items (take l.target-index l.targets) (λ n. contains bytes_eq l.taken n) l.from l.vars.items;
  named : All (λ (d : Decl). IsName d.name.name) l.vars.items;
}
