use Rattle.std.proofs.Common.{sym, ◌∙◌, arith}
use Rattle.pace_bound.proofs.Reaching.{bitwise_sides, equal_sides, less_sides}
use Rattle.pace_bound.proofs.behind.operands.Goals as goal

pub returns-in-And : goal.returns-in-And
returns-in-And c us vs h k =
    bitwise_sides c.args.behind c.more.result c.args.op us vs c.in-And.is (k ∙ sym h) c.more.ensures.order c.more.ensures.gates

pub returns-in-Eq : goal.returns-in-Eq
returns-in-Eq c us vs h k =
    equal_sides c.args.behind c.more-in-Eq.result c.args.op us vs c.in-Eq.is (omega arith) (k ∙ sym h) c.more-in-Eq.ensures.order
    c.more-in-Eq.ensures.gates

pub returns-in-Lt : goal.returns-in-Lt
returns-in-Lt c us vs h k =
    less_sides c.args.behind c.more-in-Lt.result c.args.op us vs c.in-Lt.is (omega arith) (k ∙ sym h) c.more-in-Lt.ensures.order
    c.more-in-Lt.ensures.gates
