-- What checks say of a program without its procedures, and what follows for the net with shared bodies.
use Rattle.std.specs.Prelude.{ℕ, ◌≤◌, Bool, List}
use Rattle.chp_syntax.specs.Shape.{IsShaped}
use Rattle.chp_syntax.specs.Trees.{ProgramTree}
use Rattle.width_check.specs.Accepted.{IsAccepted}
use Rattle.width_check.specs.Form.{typed_form}
use Rattle.prs_core.specs.Nets.{IsNet}
use Rattle.reset_net.specs.Resets.{reset_of}
use Rattle.env_script.specs.Runs.{IsPowered}
use Rattle.net_compose.specs.Carries.{Carries, CarriesReset}
use Rattle.net_compose.specs.Progress.{ProgressesFrom}
use Rattle.call_map.specs.CallNet.{IsCallProgram, call_net, call_count, call_names}
use Rattle.call_map.specs.CallPace.{IsMost, call_most_moves}
use Rattle.call_merge.specs.CallFaults.{MeetsCalling}
use Rattle.call_merge.specs.Inlining.{IsInlined}
use Rattle.call_compose.specs.CalledForm.{call_program}

-- Where nothing of procedures and calls is refused, and the program without procedures is accepted, the typed form is
-- as the laws of shared bodies ask.
abbrev pub CallsAsked : Type 0
CallsAsked = (p r : ProgramTree) (h : IsInlined p r) → MeetsCalling p → IsShaped r → IsAccepted r
    → IsCallProgram (call_program p h.vars)

-- So the net in which all calls of a procedure share one body carries that program.
abbrev pub CallsCarried : Type 0
CallsCarried = (p r : ProgramTree) (h : IsInlined p r) → MeetsCalling p → IsShaped r → IsAccepted r
    → (names : List (List ℕ)) → Carries (call_net (call_program p h.vars) names) (typed_form r)

-- A net of at most 65,536 nodes is a net that a rule file can hold, and carries the program with a reset node too.
abbrev pub CallsHold : Type 0
CallsHold = (p r : ProgramTree) (h : IsInlined p r) → MeetsCalling p → IsShaped r → IsAccepted r
    → call_count (call_program p h.vars) ≤ 65536
    → IsNet (call_net (call_program p h.vars) (call_names (call_program p h.vars)))

abbrev pub CallsCarriedReset : Type 0
CallsCarriedReset = (p r : ProgramTree) (h : IsInlined p r) → MeetsCalling p → IsShaped r → IsAccepted r
    → call_count (call_program p h.vars) ≤ 65536
    → CarriesReset (reset_of (call_net (call_program p h.vars) (call_names (call_program p h.vars)))) (typed_form r)

-- It keeps pace with that program, and so it does with a reset node.
abbrev pub CallsProgress : Type 0
CallsProgress = (p r : ProgramTree) (h : IsInlined p r) → MeetsCalling p → IsShaped r → IsAccepted r
    → (most : ℕ → ℕ) → IsMost (typed_form r) most → (names : List (List ℕ))
    → ProgressesFrom (call_net (call_program p h.vars) names) (typed_form r) (call_most_moves most)
    (call_net (call_program p h.vars) names).first

abbrev pub CallsProgressReset : Type 0
CallsProgressReset = (p r : ProgramTree) (h : IsInlined p r) → MeetsCalling p → IsShaped r → IsAccepted r
    → (most : ℕ → ℕ) → IsMost (typed_form r) most → call_count (call_program p h.vars) ≤ 65536
    → (values : List Bool)
    → IsPowered (reset_of (call_net (call_program p h.vars) (call_names (call_program p h.vars)))) values
    → ProgressesFrom (reset_of (call_net (call_program p h.vars) (call_names (call_program p h.vars)))) (typed_form r)
    (call_most_moves most) values
