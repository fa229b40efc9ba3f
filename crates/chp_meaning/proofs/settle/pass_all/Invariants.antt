use Rattle.std.proofs.Common.{◌≡◌, take, fold}
use Rattle.chp_meaning.specs.AtOnce.{passed}
use Rattle.chp_meaning.specs.Standing.{items_of}
use Rattle.chp_meaning.proofs.settle.pass_all.Given as goal

abbrev pub invariant-loop-done : goal.invariant-loop-done
invariant-loop-done l = items_of l.histories ≡ fold passed (items_of l.fn.histories) (take l.done l.moves)
