use Rattle.std.proofs.Common.{◌∙◌}
use Rattle.program_maker.proofs.Words.{first_drawn}
use Rattle.program_maker.proofs.drawn.words_of.Goals as goal

pub returns : goal.returns
returns c = c.new.ensures ∙ first_drawn c.args.seed
