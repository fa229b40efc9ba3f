use Rattle.prs_core.specs.Nets.{rail_names}
use Rattle.prs_file.specs.WiresFound.{AreFound}
use Rattle.prs_file.proofs.lookup.find_rails.Given as goal

abbrev pub invariant-loop-bit : goal.invariant-loop-bit
invariant-loop-bit l = AreFound l.index (rail_names l.channel l.bit) l.rails.items
