use Rattle.std.proofs.Common.{◌==◌, sym, ◌∙◌}
use Rattle.prs_file.proofs.Against.{line_ends, no_line_ends}
use Rattle.prs_file.proofs.spelled.line_len.Goals as goal

pub returns-in-None-clause-length : goal.returns-in-None-clause-length
returns-in-None-clause-length c = no_line_ends (λ b. b == 10) c.args.text.now (sym c.line_end.ensures ∙ c.in-None.is)

pub returns-in-Some-clause-length : goal.returns-in-Some-clause-length
returns-in-Some-clause-length c = line_ends (λ b. b == 10) c.args.text.now c.in-Some.at (sym c.line_end.ensures ∙ c.in-Some.is)
