use Rattle.std.proofs.Common.{◌≡◌, length, take, fold, map}
use Rattle.chp_meaning.specs.AtOnce.{used}
use Rattle.chp_meaning.specs.Standing.{offer_of_rest}
use Rattle.chp_meaning.proofs.settle.use_all.Given as goal

abbrev pub invariant-loop-step : goal.invariant-loop-step
invariant-loop-step l = record {
  so_far : map offer_of_rest l.rests ≡ fold used (map offer_of_rest l.fn.rests) (take l.step-index l.moves);
  same : length l.rests ≡ length l.fn.rests;
}
