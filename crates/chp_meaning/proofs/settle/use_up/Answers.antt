use Rattle.chp_meaning.proofs.Settling.{used_one, number_in_range}
use Rattle.chp_meaning.proofs.settle.use_up.Goals as goal

pub returns-in-Some : goal.returns-in-Some
returns-in-Some c = used_one c.args.rests.now c.in-Some.chan _ _ c.args.step.now (number_in_range _ _ c.in-Some.chan c.in-Some.is c.requires) c.in-Some.is
    c.use_one.ensures
