use Rattle.std.proofs.Common.{◌∙◌, sym, arith}
use Rattle.prs_core.specs.Moves.{high}
use Rattle.env_script.proofs.Loops.{keeps_not, keeps_more}
use Rattle.env_script.proofs.phases.rails_keep.Goals as goal

pub loop-bit-preserved : goal.loop-bit-preserved
loop-bit-preserved c =
    keeps_more (high c.args.state.now) c.args.ack c.loop-bit.bit c.args.node c.args.rails.now (omega arith) (sym c.pair_keeps.ensures
    ∙ c.if-not-pair_keeps.false) ∙ c.loop-bit.invariant

pub returns-then-not-pair_keeps : goal.returns-then-not-pair_keeps
returns-then-not-pair_keeps c =
    sym (sym c.loop-bit.invariant ∙ keeps_not (high c.args.state.now) c.args.ack c.loop-bit.bit c.args.node c.args.rails.now (omega arith)
    (sym c.pair_keeps.ensures ∙ c.if-not-pair_keeps.true))
