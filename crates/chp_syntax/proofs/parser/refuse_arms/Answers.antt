use Rattle.chp_syntax.specs.Refusals.{too_many_arms}
use Rattle.chp_syntax.proofs.parser.refuse_arms.Goals as goal

pub returns-in-Some-clause-place : goal.returns-in-Some-clause-place
returns-in-Some-clause-place c = rw c.refusal.ensures (λ p end spoken shallow derives. too_many_arms p spoken shallow derives
    (rw c.in-Some.is at c.in_ok-seventeenth_arm.ensures.some))
