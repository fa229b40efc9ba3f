use Rattle.std.proofs.Common.{get_or}
use Rattle.chp_meaning.proofs.Settling.{popped, in_range}
use Rattle.chp_meaning.proofs.settle.withdraw.Goals as goal

pub returns-in-Some : goal.returns-in-Some
returns-in-Some c = popped c.args.histories.now c.in-Some.chan c.index-histories-chan.result _ c.in-Some.field-0-1 _ c.args.step.now.pass
    (in_range _ _ c.in-Some.chan c.in-Some.field-0-1 c.in-Some.is c.requires) c.in-Some.is
    (get_or c.args.histories.now c.in-Some.chan c.index-histories-chan.result).ok.0 c.pop.ensures.rest
