use Rattle.std.proofs.Common.{◌≡◌, take}
use Rattle.net_compose.specs.Wanted.{all_unwanted}
use Rattle.net_compose.proofs.choice.all_unwanted.Given as goal

abbrev pub invariant-loop-guard : goal.invariant-loop-guard
invariant-loop-guard l = l.rails.items ≡ all_unwanted (take l.guard-index l.guards)
