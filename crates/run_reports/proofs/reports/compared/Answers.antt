use Rattle.std.proofs.Common.{◌∙◌, ap, sym}
use Rattle.width_check.specs.Typed.{program_of as typed_of}
use Rattle.run_reports.specs.RunReporting.{ending_for}
use Rattle.run_reports.proofs.ReportsMade.{reported_against, reported_hazard}
use Rattle.run_reports.proofs.reports.compared.Goals as goal

pub returns-then-is_hazard : goal.returns-then-is_hazard
returns-then-is_hazard c =
    reported_hazard _ _ _ _ _ (ap ending_for (sym c.end.ensures.end) ∙ c.is_hazard.ensures.hazard c.if-is_hazard.true) c.in_ok-text.ensures

pub returns : goal.returns
returns c =
    reported_against _ _ _ (typed_of c.args.program.now) c.in_ok-against.against _ _ _ _
    (ap ending_for (sym c.end.ensures.end) ∙ c.is_hazard.ensures.calm c.if-is_hazard.false)
    (rw c.typed.ensures.program at c.in_ok-against.ensures.against) c.ending_against.ensures c.in_ok-extend_from_slice.ensures.items c.in_ok-text.ensures
    (c.deref.ensures.value ∙ c.in_ok-line.ensures)
