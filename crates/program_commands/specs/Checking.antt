-- What `check` answers.
use Rattle.std.specs.Prelude.{◌≡◌, ℕ, List, [], ◌∷◌, codes, decimal}
use Rattle.std.specs.List.{concat}
use Rattle.chp_syntax.specs.Trees.{ProgramTree}
use Rattle.handshake_expand.specs.Layout.{capped, node_count}
use Rattle.width_check.specs.Calls.{IsCallFree}
use Rattle.width_check.specs.Form.{typed_form}
use Rattle.call_map.specs.CallNet.{call_count}
use Rattle.call_merge.specs.Inlining.{IsInlined}
use Rattle.call_compose.specs.CalledForm.{call_program}
use Rattle.command_answers.specs.declared.answer.Ending.TheVariants.{Done}
use Rattle.command_answers.specs.Answers.{Given, Answer, writes}
use Rattle.command_steps.specs.Steps.{FromFile, FromProgram, FromChecks, most_of_text}

-- the report on an accepted program whose circuit has so many nodes
abbrev pub accepted_text : ℕ → List ℕ
accepted_text nodes = concat (codes "accepted\nnodes " ∷ decimal nodes ∷ codes "\n" ∷ [])

-- how many nodes are told: of a program with procedures or calls those of the net in which one body serves all calls of
-- a procedure
pub data IsNodeCount (program plain : ProgramTree) : ℕ → Type 0 where
  as_it_is : IsCallFree program → IsNodeCount program plain (node_count (typed_form plain))
  shared : ¬ IsCallFree program → (h : IsInlined program plain) →
      IsNodeCount program plain (capped (call_count (call_program program h.vars)))

-- the report on the program that is meant
pub record AcceptedReport (program plain : ProgramTree) (answer : Answer) : Type 0 where
  pub nodes : ℕ
  pub counted : IsNodeCount program plain nodes
  pub told : answer ≡ writes Done (accepted_text nodes)

abbrev pub ChecksProgram : ProgramTree → Answer → Type 0
ChecksProgram program = FromChecks program (AcceptedReport program)

abbrev pub Checks : Given → (file : List ℕ) → Answer → Type 0
Checks given file = FromFile given file most_of_text (λ text. FromProgram text ChecksProgram)
