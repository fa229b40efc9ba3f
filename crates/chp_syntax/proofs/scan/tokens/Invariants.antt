use Rattle.std.proofs.Common.{◌≤◌, ◌-◌, length, drop}
use Rattle.chp_syntax.specs.Tokens.{Cuts}
use Rattle.chp_syntax.proofs.scan.tokens.Given as goal

abbrev pub invariant-loop-at : goal.invariant-loop-at
invariant-loop-at l = (l.at ≤ length l.text) × Cuts 0 l.tokens.items l.text l.at (drop l.at l.text)

abbrev pub decreases-loop-at : goal.decreases-loop-at
decreases-loop-at l = length l.text - l.at
