-- What `expand` answers.
use Rattle.std.specs.Prelude.{◌≡◌, ℕ, List}
use Rattle.chp_syntax.specs.Trees.{ProgramTree}
use Rattle.handshake_expand.specs.Expansions.{expansion}
use Rattle.handshake_expand.specs.PartText.{parts_text}
use Rattle.width_check.specs.Form.{typed_form}
use Rattle.width_check.specs.Processes.{TypedProgram}
use Rattle.command_answers.specs.declared.answer.Ending.TheVariants.{Done}
use Rattle.command_answers.specs.Answers.{Given, Answer, writes}
use Rattle.command_steps.specs.Steps.{FromFile, FromProgram, FromChecks, FromNodes, most_of_text}

-- the text of the blocks of its channels and variables, and of the tree of its parts
abbrev pub tree_text : TypedProgram → List ℕ
tree_text p = parts_text p (expansion p)

abbrev pub TreeReport : TypedProgram → Answer → Type 0
TreeReport p answer = answer ≡ writes Done (tree_text p)

-- the parts are those of the program that this one means
abbrev pub ExpandsProgram : ProgramTree → Answer → Type 0
ExpandsProgram program = FromChecks program (λ plain. FromNodes (typed_form plain) TreeReport)

abbrev pub Expands : Given → (file : List ℕ) → Answer → Type 0
Expands given file = FromFile given file most_of_text (λ text. FromProgram text ExpandsProgram)
