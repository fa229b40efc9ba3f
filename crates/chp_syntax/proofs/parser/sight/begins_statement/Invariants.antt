use Rattle.std.proofs.Common.{◌≡◌, ◌-◌, ◌≤◌, length, drop}
use Rattle.chp_syntax.specs.Parts.{begins_par}
use Rattle.chp_syntax.proofs.parser.sight.begins_statement.Given as goal

abbrev pub invariant-loop-at : goal.invariant-loop-at
invariant-loop-at l = record {
  within : l.at ≤ length l.tokens;
  same : begins_par (drop l.at l.tokens) ≡ begins_par (drop l.fn.at l.tokens);
}

abbrev pub decreases-loop-at : goal.decreases-loop-at
decreases-loop-at l = length l.tokens - l.at
