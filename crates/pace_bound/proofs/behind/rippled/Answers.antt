use Rattle.std.proofs.Common.{sym, ◌∙◌, arith}
use Rattle.pace_bound.proofs.Reaching.{sum_alike, sum_sides, joint_sides}
use Rattle.pace_bound.proofs.behind.rippled.Goals as goal

pub returns-in-Alike : goal.returns-in-Alike
returns-in-Alike c us vs h k =
    sum_alike c.args.behind c.more.result us vs c.in-Alike.is (omega arith) (k ∙ sym h) c.more.ensures.order c.more.ensures.gates

pub returns-then-width-gt1 : goal.returns-then-width-gt1
returns-then-width-gt1 c us vs h k =
    joint_sides c.args.behind c.more-then-width-gt1.result us vs c.in-Joined.is (omega arith) (k ∙ sym h) c.more-then-width-gt1.ensures.order
    c.more-then-width-gt1.ensures.gates

pub returns-else-width-gt1 : goal.returns-else-width-gt1
returns-else-width-gt1 c us vs h k =
    sum_sides c.args.behind c.more-else-width-gt1.result us vs (λ _. omega arith) (omega arith) (k ∙ sym h) c.more-else-width-gt1.ensures.order
    c.more-else-width-gt1.ensures.gates
