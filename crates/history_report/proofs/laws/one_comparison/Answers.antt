use Rattle.history_report.proofs.Once.{compared_once}
use Rattle.history_report.proofs.laws.one_comparison.Goals as goal

pub returns : goal.returns
returns c = compared_once
