use Rattle.std.proofs.Common.{◌≡◌, drop}
use Rattle.width_check.specs.View.{choices_in}
use Rattle.chp_meaning.specs.Remaining.{GuardsHaveValues}
use Rattle.chp_meaning.specs.AtOnce.{true_guards}
use Rattle.chp_meaning.proofs.Guards.{after_found}
use Rattle.chp_meaning.proofs.effect.chosen.Given as goal

abbrev pub invariant-loop-index : goal.invariant-loop-index
invariant-loop-index l = record {
  so_far : after_found l.found (true_guards l.store l.index (choices_in (drop l.index l.arms))) ≡ true_guards l.store 0 (choices_in l.arms);
  formed : GuardsHaveValues (choices_in (drop l.index l.arms));
}
