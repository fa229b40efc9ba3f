use Rattle.std.proofs.Common.{◌≡◌, ◌+◌, drop}
use Rattle.chp_meaning.specs.AtOnce.{held_values}
use Rattle.chp_meaning.specs.Standing.{items_of}
use Rattle.chp_meaning.proofs.run.held.Given as goal

abbrev pub invariant-loop-history : goal.invariant-loop-history
invariant-loop-history l = l.count + held_values (items_of (drop l.history-index l.histories)) ≡ held_values (items_of l.histories)
