use Rattle.std.proofs.Common.{arith}
use Rattle.chp_syntax.specs.View.{program_tree}
use Rattle.width_check.specs.Typed.{program_of as typed_of}
use Rattle.command_words.specs.CompileWords.{compilation_asked}
use Rattle.command_steps.specs.Steps.{FromChecks, Never}
use Rattle.command_steps.proofs.Stopping.{checks_go, halts_in, passed_on}
use Rattle.command_words.proofs.Results.{ok_in}
use Rattle.program_commands.specs.Compiling.{CompilesProgram, IsFaithfulTo}
use Rattle.program_commands.proofs.Compiled.{has_calls, over_in, reply_stops, reply_text, reply_told, shared_answers, shared_faithful, shared_over, unbuffered}
use Rattle.program_commands.proofs.Counted.{are_inlined}
use Rattle.program_commands.proofs.compile.compile_shared.Goals as goal

pub returns-in_err-checked-clause-stopped : goal.returns-in_err-checked-clause-stopped
returns-in_err-checked-clause-stopped c =
    let asked = compilation_asked c.args.asked.now in
    let tree = program_tree c.args.program.now in
    passed_on c.from_residual.result _ _ c.from_residual.ensures.1
    (halts_in (FromChecks tree Never) (CompilesProgram asked tree) (λ answer is. checks_go is) c.in_err-checked.field-0.0 c.in_err-checked.ensures.stopped)

pub shared_streamer-requires-clause-few : goal.shared_streamer-requires-clause-few
shared_streamer-requires-clause-few c = omega (arith, c.requires.few)

pub shared_streamer-requires-clause-inlined : goal.shared_streamer-requires-clause-inlined
shared_streamer-requires-clause-inlined c =
    are_inlined (has_calls (program_tree c.args.program.now) (compilation_asked c.args.asked.now).buffer c.requires.shares) c.in_ok-checked.ensures.shaped
    c.in_ok-checked.ensures.checked

pub returns-clause-answered : goal.returns-clause-answered
returns-clause-answered c =
    let asked = compilation_asked c.args.asked.now in
    let tree = program_tree c.args.program.now in
    let p = typed_of c.in_ok-checked.checked in
    let from = unbuffered tree asked.buffer c.requires.shares p c.in_ok-checked.ensures.checked c.in_ok-checked.ensures.shaped in
    reply_told (CompilesProgram asked tree) c.shared_streamer.result c.reply_of.result c.reply_of.ensures.made c.reply_of.ensures.written
    (ok_in c.shared_streamer.result _ _ (shared_answers asked tree p from c.requires.shares) c.shared_streamer.ensures.made)

pub returns-clause-faithful : goal.returns-clause-faithful
returns-clause-faithful c =
    let asked = compilation_asked c.args.asked.now in
    let tree = program_tree c.args.program.now in
    let p = typed_of c.in_ok-checked.checked in
    let from = unbuffered tree asked.buffer c.requires.shares p c.in_ok-checked.ensures.checked c.in_ok-checked.ensures.shaped in
    reply_text (IsFaithfulTo asked tree) c.shared_streamer.result c.reply_of.result c.reply_of.ensures.made c.reply_of.ensures.written
    (ok_in c.shared_streamer.result _ _ (shared_faithful asked tree p from c.requires.shares) c.shared_streamer.ensures.made)

pub returns-clause-stopped : goal.returns-clause-stopped
returns-clause-stopped c =
    let asked = compilation_asked c.args.asked.now in
    let tree = program_tree c.args.program.now in
    let p = typed_of c.in_ok-checked.checked in
    let from = unbuffered tree asked.buffer c.requires.shares p c.in_ok-checked.ensures.checked c.in_ok-checked.ensures.shaped in
    reply_stops (CompilesProgram asked tree) c.shared_streamer.result c.reply_of.result c.reply_of.ensures.stopped
    (over_in _ _ (shared_over asked tree p from c.requires.shares) c.shared_streamer.result c.shared_streamer.ensures.too_many)
