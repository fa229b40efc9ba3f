-- Steps of which commands are made: each either ends the command with an answer or continues. So the order of the
-- steps is the order of the tests.
use Rattle.std.specs.Prelude.{◌≡◌, ℕ, ◌<◌, ◌≤◌, true, List, length, Some}
use Rattle.chp_base.specs.declared.fault.Fault.{Fault}
use Rattle.chp_base.specs.declared.fault.FaultCode.{FaultCode}
use Rattle.chp_base.specs.declared.span.Span.{Span}
use Rattle.chp_syntax.specs.Trees.{ProgramTree}
use Rattle.chp_syntax.specs.Reading.{Reads}
use Rattle.chp_syntax.specs.Refusals.{RefusedText as IsRefusedText}
use Rattle.prs_core.specs.Nets.{NetValue, IsNet}
use Rattle.prs_file.specs.declared.fault.NetFault.{NetFault}
use Rattle.prs_file.specs.Reading.{IsRefused}
use Rattle.prs_file.specs.Spelling.{NetText}
use Rattle.handshake_expand.specs.Layout.{node_count}
use Rattle.width_check.specs.Accepted.{IsAccepted}
use Rattle.width_check.specs.Calls.{IsCallFree}
use Rattle.width_check.specs.Faults.{naming_faults, HasNone, IsFirstFault}
use Rattle.width_check.specs.Form.{typed_form}
use Rattle.width_check.specs.Processes.{TypedProgram}
use Rattle.width_check.specs.Sharing.{sharing_faults, IsFirstSharedFault}
use Rattle.call_merge.specs.CallFaults.{call_faults, IsFirstCallFault, MeetsCalling}
use Rattle.call_merge.specs.Inlining.{HasTooManyForms}
use Rattle.command_answers.specs.declared.status.Status.TheVariants.{RefusedText, TooLarge, BadFile}
use Rattle.command_answers.specs.Answers.{Given, Gives, Lacks, Answer, refuses, misses}
use Rattle.command_answers.specs.Lines.{too_long_line, refused_line, bad_net_line, forms_line, nodes_line}
use Rattle.command_steps.specs.Inlined.{Means}

-- a command that never answers: what a step by itself continues with
abbrev pub Never : {X : Type 0} → X → Answer → Type 0
Never x answer = ⊥

-- ---- from a file to its text

-- the most bytes of a program text
abbrev pub most_of_text : ℕ
most_of_text = 262144

-- the most declarations and procedures of such a text
abbrev pub most_declared : ℕ
most_declared = 52428

-- the most bytes of a rule file
abbrev pub most_of_net : ℕ
most_of_net = 268435456

-- the file has more bytes than that, where the shelf's bytes are observable
abbrev pub IsOverlong : Given → (name : List ℕ) → (most : ℕ) → Type 0
IsOverlong given name most = given.tells ≡ true → (text : List ℕ) × (given.files name ≡ Some text)
    × (most < length text)

-- it reads the file of this name, which has at most so many bytes
pub data FromFile (given : Given) (name : List ℕ) (most : ℕ) (Next : List ℕ → Answer → Type 0) : Answer → Type 0 where
  no_file : Lacks given name → FromFile given name most Next (misses name)
  long_file : IsOverlong given name most → FromFile given name most Next (refuses TooLarge (too_long_line name most))
  a_file : {text : List ℕ} {answer : Answer} → Gives given name text → length text ≤ most → Next text answer →
      FromFile given name most Next answer

-- ---- from a text to a program

-- the text reads as this program, and as no other one
pub record IsTextOf (text : List ℕ) (program : ProgramTree) : Type 0 where
  pub reads : Reads text program
  pub only : (other : ProgramTree) → Reads text other → other ≡ program

-- the text reads as no program, for this cause, and for no other
pub record IsNoProgram (text : List ℕ) (fault : Fault) : Type 0 where
  pub never : (program : ProgramTree) → ¬ Reads text program
  pub cause : IsRefusedText text fault.code fault.at
  pub other : fault.other ≡ fault.at
  pub only : (code : FaultCode) (at : Span) → IsRefusedText text code at → (code ≡ fault.code) × (at ≡ fault.at)

-- it reads the text as a program
pub data FromProgram (text : List ℕ) (Next : ProgramTree → Answer → Type 0) : Answer → Type 0 where
  no_program : {fault : Fault} → IsNoProgram text fault →
      FromProgram text Next (refuses RefusedText (refused_line fault))
  a_program : {program : ProgramTree} {answer : Answer} → IsTextOf text program → Next program answer →
      FromProgram text Next answer

-- ---- from a program to an accepted one

-- the program without calls is refused for this fault: the first one of names, kinds and widths, or else of sharing
pub data IsFaulty (program : ProgramTree) : Fault → Type 0 where
  of_names : {c : FaultCode} {at : Span} → IsFirstFault program naming_faults c at →
      IsFaulty program (record { code = c; at = at; other = at })
  of_sharing : {c : FaultCode} {at other : Span} → HasNone program naming_faults →
      IsFirstSharedFault (typed_form program).body sharing_faults c at other
      → IsFaulty program (record { code = c; at = at; other = other })

-- the program is refused for this fault: the first one of procedures and calls
abbrev pub HasCallFault : ProgramTree → Fault → Type 0
HasCallFault program fault = IsFirstCallFault program call_faults fault.code fault.at fault.other

-- it checks the procedures and calls of a program, if there are any, and how large the program is that it means; then
-- it checks that program, and continues with it
pub data FromChecks (program : ProgramTree) (Next : ProgramTree → Answer → Type 0) : Answer → Type 0 where
  bad_calls : {fault : Fault} → ¬ IsCallFree program → HasCallFault program fault →
      FromChecks program Next (refuses RefusedText (refused_line fault))
  too_many_forms : {count : ℕ} → ¬ IsCallFree program → MeetsCalling program → HasTooManyForms program count →
      FromChecks program Next (refuses TooLarge (forms_line count))
  faulty : {plain : ProgramTree} {fault : Fault} → Means program plain → IsFaulty plain fault →
      FromChecks program Next (refuses RefusedText (refused_line fault))
  accepted : {plain : ProgramTree} {answer : Answer} → Means program plain → IsAccepted plain → Next plain answer →
      FromChecks program Next answer

-- ---- from a program to one whose circuit isn't too large

-- the most nodes of a circuit
abbrev pub most_of_nodes : ℕ
most_of_nodes = 65536

-- it counts the nodes of the program's circuit
pub data FromNodes (program : TypedProgram) (Next : TypedProgram → Answer → Type 0) : Answer → Type 0 where
  too_many : most_of_nodes < node_count program →
      FromNodes program Next (refuses TooLarge (nodes_line (node_count program)))
  few_enough : {answer : Answer} → node_count program ≤ most_of_nodes → Next program answer →
      FromNodes program Next answer

-- ---- from a text to a net

-- the text is the rule file of this net, and of no other one
pub record IsFileOf (text : List ℕ) (net : NetValue) : Type 0 where
  pub kept : IsNet net
  pub spelled : NetText text net
  pub only : (other : NetValue) → IsNet other → NetText text other → other ≡ net

-- the text is no rule file, for this cause at this line, and for no other
pub record IsNoNet (text : List ℕ) (fault : NetFault) (line : ℕ) : Type 0 where
  pub never : (net : NetValue) → IsNet net → ¬ NetText text net
  pub cause : IsRefused text fault line
  pub only : (other : NetFault) (at : ℕ) → IsRefused text other at → (other ≡ fault) × (at ≡ line)

-- it reads the text as a rule file
pub data FromNet (text : List ℕ) (Next : NetValue → Answer → Type 0) : Answer → Type 0 where
  no_net : {fault : NetFault} {line : ℕ} → IsNoNet text fault line →
      FromNet text Next (refuses BadFile (bad_net_line fault line))
  a_net : {net : NetValue} {answer : Answer} → IsFileOf text net → Next net answer → FromNet text Next answer
