use Rattle.std.proofs.Common.{◌≡◌, ◌+◌, ◌-◌, ◌*◌, ◌++◌}
use Rattle.cell_variable.specs.Variables.{bits_from, bits_rules}
use Rattle.net_compose.proofs.block.block.Given as goal

abbrev pub invariant-loop-place : goal.invariant-loop-place
invariant-loop-place l = record {
  made : l.drivers.items ++ bits_rules l.sites l.place (bits_from (l.width - l.place) l.node) ≡ l.fn.drivers.items ++ bits_rules l.sites 0
      (bits_from l.width l.from);
  node : l.node ≡ l.from + 5 * l.place;
}
