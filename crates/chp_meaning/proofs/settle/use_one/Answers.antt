use Rattle.std.proofs.Common.{ap, sym, ◌∙◌, arith}
use Rattle.chp_meaning.specs.AtOnce.{less}
use Rattle.chp_meaning.specs.Standing.{offer_of_rest}
use Rattle.chp_meaning.proofs.Settling.{less_given}
use Rattle.chp_meaning.proofs.settle.use_one.Goals as goal

pub returns-then-sent-len : goal.returns-then-sent-len
returns-then-sent-len c = less_given c.in-Gives.values.items c.in-Gives.sent (omega (arith, c.if-sent-len.true, c.len.ensures, c.in-Gives.values.ok.0))
    ∙ ap (λ r. less (offer_of_rest r)) (sym c.in-Gives.is)
