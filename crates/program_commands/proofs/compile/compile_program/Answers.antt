use Rattle.chp_syntax.specs.View.{program_tree}
use Rattle.width_check.specs.Typed.{program_of as typed_of}
use Rattle.command_words.specs.CompileWords.{compilation_asked}
use Rattle.command_steps.proofs.Stopping.{halts_in, passed_on}
use Rattle.command_words.proofs.Results.{ok_in}
use Rattle.program_commands.specs.Compiling.{CompilesProgram, IsFaithfulTo}
use Rattle.program_commands.proofs.Compiled.{checks_stop, copied_answers, copied_faithful, copied_over, over_in, reply_stops, reply_text, reply_told}
use Rattle.program_commands.proofs.compile.compile_program.Goals as goal

pub returns-in_err-made-clause-stopped : goal.returns-in_err-made-clause-stopped
returns-in_err-made-clause-stopped c =
    let asked = compilation_asked c.args.asked.now in
    let tree = program_tree c.args.program.now in
    passed_on c.from_residual.result _ _ c.from_residual.ensures.1
    (halts_in _ (CompilesProgram asked tree) (checks_stop asked tree) c.in_err-made.field-0.0 c.in_err-made.ensures.stopped)

pub returns-clause-answered : goal.returns-clause-answered
returns-clause-answered c =
    let asked = compilation_asked c.args.asked.now in
    let tree = program_tree c.args.program.now in
    let is = c.shares_bodies.ensures.copies c.if-shares_bodies.false in
    reply_told (CompilesProgram asked tree) c.copied_streamer.result c.reply_of.result c.reply_of.ensures.made c.reply_of.ensures.written
    (ok_in c.copied_streamer.result _ _ (copied_answers asked tree (typed_of c.in_ok-made.made) c.in_ok-made.ensures.made is) c.copied_streamer.ensures.made)

pub returns-clause-faithful : goal.returns-clause-faithful
returns-clause-faithful c =
    let asked = compilation_asked c.args.asked.now in
    let tree = program_tree c.args.program.now in
    let is = c.shares_bodies.ensures.copies c.if-shares_bodies.false in
    reply_text (IsFaithfulTo asked tree) c.copied_streamer.result c.reply_of.result c.reply_of.ensures.made c.reply_of.ensures.written
    (ok_in c.copied_streamer.result _ _ (copied_faithful asked tree (typed_of c.in_ok-made.made) c.in_ok-made.ensures.made is) c.copied_streamer.ensures.made)

pub returns-clause-stopped : goal.returns-clause-stopped
returns-clause-stopped c =
    let asked = compilation_asked c.args.asked.now in
    let tree = program_tree c.args.program.now in
    let is = c.shares_bodies.ensures.copies c.if-shares_bodies.false in
    reply_stops (CompilesProgram asked tree) c.copied_streamer.result c.reply_of.result c.reply_of.ensures.stopped
    (over_in _ _ (copied_over asked tree (typed_of c.in_ok-made.made) c.in_ok-made.ensures.made is) c.copied_streamer.result c.copied_streamer.ensures.too_many)
