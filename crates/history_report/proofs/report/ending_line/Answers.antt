use Rattle.std.proofs.Common.{◌≡◌, ◌++◌, ◌∙◌, ℕ, List, ap, sym, subst}
use Rattle.std.specs.Prelude.{OnOk, codes}
use Rattle.history_report.specs.Reports.{hazard_line, ending_line}
use Rattle.history_report.proofs.report.ending_line.Goals as goal

pub returns-in-Unstable : goal.returns-in-Unstable
returns-in-Unstable c =
    subst (λ (t : List ℕ). OnOk c.hazard_line.result (c.hazard_line.new.to.items ≡ c.args.to.now.items ++ t))
    (ap (λ (n : List ℕ). hazard_line (codes "end unstable ") n c.args.moves) c.node_name.ensures
    ∙ ap (ending_line c.args.net.now c.args.moves) (sym c.in-Unstable.is)) c.hazard_line.ensures
