use Rattle.std.proofs.Common.{drop, sym}
use Rattle.chp_syntax.proofs.Programs.{declaration_bad}
use Rattle.chp_syntax.proofs.parser.program.declaration.Goals as goal

pub returns-in-Other-clause-bad : goal.returns-in-Other-clause-bad
returns-in-Other-clause-bad c = declaration_bad (drop c.args.at.now c.args.tokens.now) (sym c.in-Other.ensures)
