use Rattle.std.proofs.Common.{sym, ◌∙◌}
use Rattle.pace_bound.proofs.Reaching.{split_alike, split_carried, split_joined}
use Rattle.pace_bound.proofs.behind.divided.Goals as goal

pub returns-in-Alike : goal.returns-in-Alike
returns-in-Alike c us vs some long = split_alike c.args.behind c.args.behind c.args.behind us vs c.in-Alike.is

pub returns-in-Carried : goal.returns-in-Carried
returns-in-Carried c us vs some long =
    split_carried c.args.behind c.more.result c.from-above.result us vs c.in-Carried.is (long ∙ sym c.from-above.ensures) c.more.ensures.order
    c.more.ensures.gates

pub returns-in-Joined : goal.returns-in-Joined
returns-in-Joined c us vs some long =
    split_joined c.args.behind c.more-in-Joined.result c.more-in-Joined-2.result c.from-above.result us vs c.in-Joined.is some
    (long ∙ sym c.from-above.ensures) c.more-in-Joined.ensures.order c.more-in-Joined.ensures.gates c.more-in-Joined-2.ensures.order
    c.more-in-Joined-2.ensures.gates
