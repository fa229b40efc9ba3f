use Rattle.width_check.specs.Typed.{program_of as typed_of}
use Rattle.program_commands.proofs.Promised.{copied_over, plain_text, reset_text}
use Rattle.program_commands.proofs.compile.copied_streamer.Goals as goal

pub returns-then-reset-clause-made : goal.returns-then-reset-clause-made
returns-then-reset-clause-made c =
    rw c.if-reset.true (reset_text c.runs_end.ensures.every c.runs_end.ensures.plain (typed_of c.args.program.now) c.runs_end_reset.ensures c.new_reset.result
    c.new_reset.ensures.fits c.new_reset.ensures.text c.new_reset.ensures.net c.new_reset.ensures.carries c.new_reset.ensures.translated)

pub returns-then-reset-clause-too_many : goal.returns-then-reset-clause-too_many
returns-then-reset-clause-too_many c = copied_over (typed_of c.args.program.now) c.new_reset.result c.new_reset.ensures.count c.new_reset.ensures.too_many

pub returns-else-reset-clause-made : goal.returns-else-reset-clause-made
returns-else-reset-clause-made c =
    rw c.if-reset.false (plain_text c.runs_end.ensures.every c.runs_end.ensures.plain (typed_of c.args.program.now) c.new.result c.new.ensures.fits
    c.new.ensures.text c.new.ensures.net c.new.ensures.carries c.new.ensures.translated)

pub returns-else-reset-clause-too_many : goal.returns-else-reset-clause-too_many
returns-else-reset-clause-too_many c = copied_over (typed_of c.args.program.now) c.new.result c.new.ensures.count c.new.ensures.too_many
