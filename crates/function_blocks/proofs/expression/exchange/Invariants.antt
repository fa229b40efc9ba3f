use Rattle.std.proofs.Common.{◌≡◌, ◌++◌, map, take, drop}
use Rattle.prs_core.specs.Pairs.{exchanged}
use Rattle.function_blocks.proofs.expression.exchange.Given as goal

abbrev pub invariant-loop-place : goal.invariant-loop-place
invariant-loop-place l = take l.place l.bits ++ map exchanged (drop l.place l.bits) ≡ map exchanged l.fn.bits
