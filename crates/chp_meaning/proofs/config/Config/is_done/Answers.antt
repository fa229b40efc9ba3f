use Rattle.std.proofs.Common.{◌∙◌, sym}
use Rattle.width_check.specs.View.{process_of}
use Rattle.chp_meaning.specs.Remaining.{remains_of}
use Rattle.chp_meaning.proofs.Remainders.{finished_is}
use Rattle.chp_meaning.proofs.config.Config.is_done.Goals as goal

pub returns : goal.returns
returns c = λ program is. c.is_done.ensures ∙ sym (finished_is (process_of program.body) (remains_of c.args.self.now.left) is.standing.remains)
