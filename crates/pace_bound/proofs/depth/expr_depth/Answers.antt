use Rattle.std.proofs.Common.{ap, sym, ◌∙◌}
use Rattle.width_check.specs.View.{formula_of}
use Rattle.handshake_expand.specs.Layout.{capped}
use Rattle.pace_bound.specs.Bits.{bits}
use Rattle.pace_bound.proofs.Through.{alike_zero}
use Rattle.pace_bound.proofs.BitsTold.{depth_is}
use Rattle.pace_bound.proofs.depth.expr_depth.Goals as goal

pub returns : goal.returns
returns c =
    let e = formula_of c.args.e.now in
    c.gates_through.ensures ∙ ap capped (alike_zero (bits e) ∙ sym (depth_is e c.requires))
