use Rattle.pace_command.proofs.report.pace_report.Goals as goal

pub returns : goal.returns
returns c = c.in_ok-text.ensures
