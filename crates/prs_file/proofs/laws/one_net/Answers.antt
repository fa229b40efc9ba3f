use Rattle.std.proofs.Common.{◌∙◌, sym}
use Rattle.prs_file.proofs.NetsApart.{one_spelled}
use Rattle.prs_file.proofs.laws.one_net.Goals as goal

pub returns : goal.returns
returns c = λ text a b one two first second. one_spelled a b one two (sym first ∙ second)
