use Rattle.std.proofs.Common.{◌∙◌, ap}
use Rattle.run_reports.specs.RunReporting.{ending_for}
use Rattle.run_reports.proofs.ReportsMade.{reported_alone}
use Rattle.run_reports.proofs.reports.uncompared.Goals as goal

pub returns : goal.returns
returns c = λ script. reported_alone script _ _ _ _ (c.ending_for.ensures ∙ ap ending_for c.end.ensures.end) c.in_ok-text.ensures
