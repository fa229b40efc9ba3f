use Rattle.std.proofs.Common.{refl, arith}
use Rattle.delay_script.specs.DelaySteps.{of_no_node, of_marked, of_slow}
use Rattle.delay_script.proofs.SaidWords.{never_true}
use Rattle.delay_script.proofs.step.step_for.Goals as goal

pub returns-in_default : goal.returns-in_default
returns-in_default c = λ words says. of_no_node c.args.line.now says c.in_default.ensures.none

pub bounds-marks-node : goal.bounds-marks-node
bounds-marks-node c = omega (arith, c.in-Some.ensures.some.within, c.requires)

pub returns-then-marks-node : goal.returns-then-marks-node
returns-then-marks-node c = λ words says. of_marked c.args.line.now c.in-Some.node says c.in-Some.ensures.some c.if-marks-node.true

pub returns-then-not-is_quick : goal.returns-then-not-is_quick
returns-then-not-is_quick c = λ words says. of_slow c.args.line.now c.in-Some.node says c.in-Some.ensures.some c.if-marks-node.false
    (λ quick. never_true (c.if-not-is_quick.ensures.1 quick))

pub returns : goal.returns
returns c = λ words says. record {
  line = c.args.line.now;
  says = says;
  place = c.in-Some.ensures.some;
  fresh = c.if-marks-node.false;
  quick = c.if-not-is_quick.ensures.0 refl;
  rise = refl;
  fall = refl;
}
