use Rattle.std.proofs.Common.{◌-◌, ◌≤◌, length, drop}
use Rattle.chp_syntax.specs.View.{declared_of}
use Rattle.chp_syntax.proofs.Programs.{Declaring}
use Rattle.chp_syntax.proofs.parser.program.declarations.Given as goal

abbrev pub invariant-loop-alloc : goal.invariant-loop-alloc
invariant-loop-alloc l = record {
  within : l.at ≤ length l.tokens;
  read : Declaring (drop l.fn.at l.tokens) (drop l.at l.tokens) (declared_of l.declared);
}

abbrev pub decreases-loop-alloc : goal.decreases-loop-alloc
decreases-loop-alloc l = length l.tokens - l.at
