use Rattle.std.proofs.Common.{arith}
use Rattle.function_blocks.specs.Waves.{rows_of}
use Rattle.function_blocks.specs.Functions.{truth}
use Rattle.function_blocks.proofs.Emitted.{row_at, rows_step}
use Rattle.function_blocks.proofs.gate.rows_with.Goals as goal

pub loop-number-preserved : goal.loop-number-preserved
loop-number-preserved c =
    rows_step c.args.inputs.now (rows_of c.args.value (truth c.args.function)) c.loop-number.number _ _ _ _
    (row_at _ c.loop-number.number c.requires.some c.requires.most (omega (arith, c.loop-number-test.true, c.row_count-number-end.ensures)))
    c.loop-number.invariant c.in_ok-add_row.ensures
