use Rattle.std.proofs.Common.{◌∙◌}
use Rattle.std.specs.Prelude.{codes}
use Rattle.program_maker.specs.Generated.{byte_line}
use Rattle.program_maker.proofs.Counted.{lines_more}
use Rattle.program_maker.proofs.generated.variable_lines.Goals as goal

pub loop-number-preserved : goal.loop-number-preserved
loop-number-preserved c =
    c.in_ok-byte_line.ensures
    ∙ lines_more (byte_line (codes "var v")) 1 c.loop-number.number c.args.to.now.items c.loop-number.to.items c.loop-number.auto.number c.loop-number.invariant
