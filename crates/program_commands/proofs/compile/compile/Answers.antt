use Rattle.std.proofs.Common.{◌∷◌, []}
use Rattle.chp_syntax.specs.View.{program_tree}
use Rattle.command_answers.specs.Answers.{given_by}
use Rattle.command_words.specs.CompileWords.{compilation_asked}
use Rattle.command_steps.specs.Steps.{FromProgram, Never, a_file, a_program, most_of_text}
use Rattle.command_steps.proofs.Stopping.{err_in, file_passed, passed_on, program_goes, stops_where}
use Rattle.command_words.proofs.Results.{ok_in}
use Rattle.program_commands.specs.Compiling.{Compiles, CompilesProgram}
use Rattle.program_commands.proofs.Compiled.{faithful_file}
use Rattle.program_commands.proofs.compile.compile.Goals as goal

pub returns-clause-answered : goal.returns-clause-answered
returns-clause-answered g c =
    ok_in c.compile_program.result _ _
    (λ reply is. a_file c.in_ok-text.ensures.read c.in_ok-text.ensures.short (a_program (rw c.deref.ensures.value at c.in_ok-program.ensures.read) is))
    c.compile_program.ensures.answered

pub returns-clause-carried : goal.returns-clause-carried
returns-clause-carried g c =
    let S = g.S.Shelf in
    let given = given_by (S.tells c.args.shelf.now) (S.holds c.args.shelf.now) in
    ok_in c.compile_program.result _ _
    (λ reply is. faithful_file (compilation_asked c.args.asked.now) given c.in_ok-text.text.items (program_tree c.in_ok-program.program)
    c.in_ok-text.ensures.read c.in_ok-text.ensures.short (rw c.deref.ensures.value at c.in_ok-program.ensures.read) _ is)
    c.compile_program.ensures.faithful

pub returns-clause-stopped : goal.returns-clause-stopped
returns-clause-stopped g c =
    let S = g.S.Shelf in
    let given = given_by (S.tells c.args.shelf.now) (S.holds c.args.shelf.now) in
    let asked = compilation_asked c.args.asked.now in
    err_in c.compile_program.result _ _
    (λ stop halts. stops_where (CompilesProgram asked (program_tree c.in_ok-program.program)) (Compiles asked given)
    (λ answer is. a_file c.in_ok-text.ensures.read c.in_ok-text.ensures.short (a_program (rw c.deref.ensures.value at c.in_ok-program.ensures.read) is))
    (asked.file ∷ []) given _ _ stop halts)
    c.compile_program.ensures.stopped

pub returns-in_err-text-clause-stopped : goal.returns-in_err-text-clause-stopped
returns-in_err-text-clause-stopped g c =
    let S = g.S.Shelf in
    let given = given_by (S.tells c.args.shelf.now) (S.holds c.args.shelf.now) in
    let asked = compilation_asked c.args.asked.now in
    file_passed given asked.file most_of_text (λ text. FromProgram text (CompilesProgram asked)) (S.faults c.args.shelf.now) (S.faults c.text_of_file.new.shelf)
    c.from_residual.result c.in_err-text.field-0.0 c.from_residual.ensures.1 c.in_err-text.ensures.stopped

pub returns-in_err-program-clause-stopped : goal.returns-in_err-program-clause-stopped
returns-in_err-program-clause-stopped g c =
    let S = g.S.Shelf in
    let given = given_by (S.tells c.args.shelf.now) (S.holds c.args.shelf.now) in
    let asked = compilation_asked c.args.asked.now in
    passed_on c.from_residual-in_err-program.result _ _ c.from_residual-in_err-program.ensures.1
    (stops_where (FromProgram c.in_ok-text.text.items Never) (Compiles asked given)
    (λ answer is. a_file c.in_ok-text.ensures.read c.in_ok-text.ensures.short (program_goes is)) (asked.file ∷ []) given _ _
    c.in_err-program.field-0.0 (rw c.deref.ensures.value at c.in_err-program.ensures.stopped))
