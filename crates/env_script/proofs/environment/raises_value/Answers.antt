use Rattle.std.proofs.Common.{◌∙◌, sym, arith}
use Rattle.prs_core.specs.Moves.{high}
use Rattle.env_script.proofs.Loops.{raises_found, raises_more}
use Rattle.env_script.proofs.environment.raises_value.Goals as goal

pub loop-bit-preserved : goal.loop-bit-preserved
loop-bit-preserved c =
    raises_more (high c.args.state.now) c.loop-bit.rest c.loop-bit.bit c.args.node c.args.rails.now (omega arith) (sym c.raises_bit.ensures
    ∙ c.if-raises_bit.false) ∙ c.loop-bit.invariant

pub returns-then-raises_bit : goal.returns-then-raises_bit
returns-then-raises_bit c =
    sym (sym c.loop-bit.invariant ∙ raises_found (high c.args.state.now) c.loop-bit.rest c.loop-bit.bit c.args.node c.args.rails.now (omega arith)
    (sym c.raises_bit.ensures ∙ c.if-raises_bit.true))
