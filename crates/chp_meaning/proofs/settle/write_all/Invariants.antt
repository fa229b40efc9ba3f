use Rattle.std.proofs.Common.{◌≡◌, length, take, fold}
use Rattle.chp_meaning.specs.AtOnce.{written}
use Rattle.chp_meaning.proofs.settle.write_all.Given as goal

abbrev pub invariant-loop-step : goal.invariant-loop-step
invariant-loop-step l = record {
  so_far : l.store ≡ fold written l.fn.store (take l.step-index l.moves);
  same : length l.store ≡ length l.fn.store;
}
