use Rattle.std.proofs.Common.{◌≡◌, take}
use Rattle.chp_syntax.specs.Reading.{depth_of, IsShallow}
use Rattle.chp_syntax.proofs.limits.too_deep.Given as goal

abbrev pub invariant-loop-token : goal.invariant-loop-token
invariant-loop-token l = (l.depth ≡ depth_of 0 (take l.token-index l.tokens)) × IsShallow (take l.token-index l.tokens)
