use Rattle.std.proofs.Common.{◌≡◌, ◌+◌, ◌-◌, ◌*◌, ◌++◌}
use Rattle.prs_core.specs.Pairs.{pairs_from}
use Rattle.cell_channel.specs.Ends.{port_rules}
use Rattle.net_compose.proofs.formula.port.Given as goal

abbrev pub invariant-loop-bit : goal.invariant-loop-bit
invariant-loop-bit l = record {
  made : l.drivers.items ++ port_rules l.request (pairs_from (l.width - l._bit) l.rail) ≡ l.fn.drivers.items ++ port_rules l.request
      (pairs_from l.width l.first);
  rail : l.rail ≡ l.first + 2 * l._bit;
}
