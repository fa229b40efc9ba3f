use Rattle.std.proofs.Common.{◌≡◌, false, take}
use Rattle.chp_syntax.specs.Limits.{has_kind, is_probe}
use Rattle.chp_syntax.proofs.limits.probe.Given as goal

abbrev pub invariant-loop-token : goal.invariant-loop-token
invariant-loop-token l = has_kind is_probe (take l.token-index l.tokens) ≡ false
