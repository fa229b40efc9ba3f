use Rattle.std.proofs.Common.{◌≡◌, ◌++◌, drop}
use Rattle.prs_core.specs.Pairs.{rails_of}
use Rattle.function_blocks.proofs.node.rails_of.Given as goal

abbrev pub invariant-loop-bit : goal.invariant-loop-bit
invariant-loop-bit l = l.rails.items ++ rails_of (drop l.bit-index l.bits) ≡ rails_of l.bits
