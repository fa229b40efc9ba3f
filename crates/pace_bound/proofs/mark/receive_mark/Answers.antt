use Rattle.std.proofs.Common.{◌+◌, ap, arith}
use Rattle.width_check.specs.Processes.{receiving}
use Rattle.width_check.specs.Typed.{program_of}
use Rattle.round_time.specs.Longest.{writes_fall, var_height}
use Rattle.round_time.specs.Phases.{written}
use Rattle.pace_bound.specs.Noting.{of_step, noted_count}
use Rattle.pace_bound.proofs.Marking.{marked}
use Rattle.pace_bound.proofs.mark.receive_mark.Goals as goal

pub returns-in-Receives : goal.returns-in-Receives
returns-in-Receives c = λ s t.
    let P = program_of c.args.program.now in
    let rows = ap (noted_count P) c.in-Receives.is in
    marked _ c.args.chan _ (writes_fall P c.args.var + 4 + var_height P c.args.var) _ (omega (arith, c.requires.channel, rows))
    (c.var_clears.ensures (writes_fall P) (rw c.in-Receives.is at c.requires.given))
    (λ k. ap (λ n. of_step P n k c.args.at.held c.args.at.down (receiving c.args.chan s c.args.var t)) c.in-Receives.is)

pub returns-in-Takes : goal.returns-in-Takes
returns-in-Takes c = λ s t.
    let P = program_of c.args.program.now in
    let rows = ap (noted_count P) c.in-Takes.is in
    let clears = c.var_clears-in-Takes.ensures (written P) (rw c.in-Takes.is at c.requires.given) in
    marked _ c.args.chan _ (3 + var_height P c.args.var + written P c.args.var) _ (omega (arith, c.requires.channel, rows)) (omega (arith, clears))
    (λ k. ap (λ n. of_step P n k c.args.at.held c.args.at.down (receiving c.args.chan s c.args.var t)) c.in-Takes.is)

pub returns-in-Passes : goal.returns-in-Passes
returns-in-Passes c = λ s t.
    let P = program_of c.args.program.now in
    let rows = ap (noted_count P) c.in-Passes.is in
    let lines = rw c.in-Passes.is at c.requires.given in
    let clears = c.var_clears-in-Passes.ensures (written P) (rw c.deref.ensures.value lines.of_stores) in
    marked _ c.args.chan _ (1 + (c.args.at.held + (3 + var_height P c.args.var + written P c.args.var))) _ (omega (arith, c.requires.channel, rows))
    (omega (arith, clears, c.saturating_add-in-Passes.ensures))
    (λ k. ap (λ n. of_step P n k c.args.at.held c.args.at.down (receiving c.args.chan s c.args.var t)) c.in-Passes.is)
