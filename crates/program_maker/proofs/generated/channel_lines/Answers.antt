use Rattle.std.proofs.Common.{◌∙◌}
use Rattle.std.specs.Prelude.{codes}
use Rattle.program_maker.specs.Generated.{byte_line}
use Rattle.program_maker.proofs.Counted.{lines_more}
use Rattle.program_maker.proofs.generated.channel_lines.Goals as goal

pub loop-number-preserved : goal.loop-number-preserved
loop-number-preserved c =
    c.in_ok-byte_line-2.ensures
    ∙ lines_more (byte_line (codes "chan c")) 1 c.loop-number.number c.byte_line.new.to.items c.loop-number.to.items
    c.loop-number.auto.number c.loop-number.invariant
