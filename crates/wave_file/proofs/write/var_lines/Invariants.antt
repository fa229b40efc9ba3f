use Rattle.std.proofs.Common.{◌≡◌, ◌++◌, drop, take}
use Rattle.std.specs.Prelude.{All}
use Rattle.chp_base.specs.Names.{IsNodeName}
use Rattle.wave_file.specs.Waves.{naming_lines}
use Rattle.wave_file.proofs.write.var_lines.Given as goal

abbrev pub invariant-loop-node : goal.invariant-loop-node
invariant-loop-node l = record {
  told : l.to.items ++ naming_lines l.node (drop l.node l.names) ≡ l.initial.to.items ++ naming_lines 0 l.names;
  named : All IsNodeName (take l.node l.names);
}
