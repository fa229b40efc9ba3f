use Rattle.std.proofs.Common.{◌≡◌, take, fold, List, ℕ}
use Rattle.chp_meaning.specs.AtOnce.{passed}
use Rattle.chp_meaning.specs.Standing.{items_of}
use Rattle.chp_meaning.proofs.settle.withdraw_all.Given as goal

abbrev pub invariant-loop-number : goal.invariant-loop-number
invariant-loop-number l = (before : List (List ℕ)) → items_of l.fn.histories ≡ fold passed before l.moves →
    items_of l.histories ≡ fold passed before (take l.number l.moves)
