use Rattle.width_check.specs.View.{choices_in}
use Rattle.pace_bound.proofs.Members.{formed_guards}
use Rattle.pace_bound.proofs.phase.selection_moves.Goals as goal

pub latch_moves-requires : goal.latch_moves-requires
latch_moves-requires c = formed_guards c.args.program.now.channels c.args.program.now.vars (choices_in c.args.arms.now) c.requires.arms
