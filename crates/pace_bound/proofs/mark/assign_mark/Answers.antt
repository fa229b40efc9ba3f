use Rattle.std.proofs.Common.{◌+◌, ap, arith}
use Rattle.width_check.specs.Processes.{assigning}
use Rattle.width_check.specs.Typed.{program_of}
use Rattle.width_check.specs.View.{formula_of}
use Rattle.round_time.specs.Longest.{depth, var_height}
use Rattle.round_time.specs.Phases.{written}
use Rattle.pace_bound.specs.Noting.{of_step, noted_count}
use Rattle.pace_bound.proofs.Marking.{marked}
use Rattle.pace_bound.proofs.mark.assign_mark.Goals as goal

pub returns-in-Puts : goal.returns-in-Puts
returns-in-Puts c = λ s.
    let P = program_of c.args.program.now in
    let e = formula_of c.args.value.now in
    let rows = ap (noted_count P) c.in-Puts.is in
    let clears = c.var_clears-clears.ensures (written P) (rw c.in-Puts.is at c.requires.given) in
    marked _ c.args.var _ (1 + (c.args.at.held + (depth e + (2 + var_height P c.args.var + written P c.args.var)))) _ (omega (arith, c.requires.there, rows))
    (omega (arith, clears, c.expr_depth.ensures, c.saturating_add-gates.ensures, c.saturating_add-in-Puts.ensures))
    (λ k. ap (λ n. of_step P n k c.args.at.held c.args.at.down (assigning c.args.var s e)) c.in-Puts.is)
