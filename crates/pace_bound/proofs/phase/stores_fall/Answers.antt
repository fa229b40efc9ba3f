use Rattle.std.proofs.Common.{arith}
use Rattle.width_check.specs.Typed.{program_of}
use Rattle.round_time.specs.Phases.{written}
use Rattle.pace_bound.proofs.Ending.{table_more}
use Rattle.pace_bound.proofs.phase.stores_fall.Goals as goal

pub loop-place-preserved : goal.loop-place-preserved
loop-place-preserved c =
    let clears = c.var_clears.ensures (written (program_of c.args.program.now)) c.requires in
    table_more c.loop-place.place c.var_clears.result _ _ _ c.loop-place.invariant c.in_ok-push.ensures.items (omega (arith, clears))
