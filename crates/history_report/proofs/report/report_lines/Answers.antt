use Rattle.std.proofs.Common.{sym, subst}
use Rattle.prs_core.specs.Nets.{NetValue}
use Rattle.event_sim.specs.declared.ran.End.{End}
use Rattle.event_sim.specs.Simulating.{IsEndIn}
use Rattle.history_report.proofs.report.report_lines.Goals as goal

pub ending_line-requires : goal.ending_line-requires
ending_line-requires c =
    subst (λ (n : NetValue). IsEndIn n c.end.result) (sym c.net.ensures.net)
    (subst (λ (e : End). IsEndIn c.args.ran.now.net e) (sym c.end.ensures.end) c.end.ensures.ran.end)
