-- What holds of each state that a program's circuit reaches.
use Rattle.std.specs.Prelude.{◌≡◌, ◌≢◌, ◌≤◌, ◌*◌, ℕ, suc, Bool, true, false, not, List, is_some}
use Rattle.env_script.specs.Scripts.{OfferValue, IsScript}
use Rattle.width_check.specs.Processes.{TypedProgram}
use Rattle.width_check.specs.Typing.{channel_width}
use Rattle.chp_meaning.specs.Halves.{IsPlain}
use Rattle.chp_meaning.specs.Terms.{Place, finished}
use Rattle.chp_meaning.specs.Steps.{Configuration, Step, Leads, start_of}
use Rattle.circuit_places.specs.Lines.{of_channel}
use Rattle.circuit_places.specs.Circuit.{is_apart}
use Rattle.circuit_places.specs.Bounds.{circuit_most}
use Rattle.circuit_places.specs.Whole.{Whole, Node, rail_node, ack_node, is_node, rule_in, enabled, cells_moved, value_on, neutral_on, Reaches}

-- no move disables another that is enabled, no node has interference (both guards holding), and each channel keeps its
-- phases
pub record IsSafe (P : TypedProgram) (script : List OfferValue) (x : Whole P.body) : Type 0 where
  pub stable : (n m : Node P.body) → n ≢ m → enabled P script x n ≡ true → enabled P script x m ≡ true
      → enabled P script (cells_moved P x m) n ≡ true
  pub apart : (n : Node P.body) → is_apart (rule_in P x n) ≡ true
  pub rail_up : (k i : ℕ) (one : Bool) → x.wires.rail (of_channel k) i one ≡ false
      → enabled P script x (rail_node (of_channel k) i one) ≡ true
      → (x.wires.ack k ≡ false) × (x.wires.rail (of_channel k) i (not one) ≡ false)
  pub rail_down : (k i : ℕ) (one : Bool) → x.wires.rail (of_channel k) i one ≡ true
      → enabled P script x (rail_node (of_channel k) i one) ≡ true → x.wires.ack k ≡ true
  pub ack_up : (k : ℕ) → x.wires.ack k ≡ false → enabled P script x (ack_node k) ≡ true
      → is_some (value_on (channel_width P.channels k) (x.wires.rail (of_channel k))) ≡ true
  pub ack_down : (k : ℕ) → x.wires.ack k ≡ true → enabled P script x (ack_node k) ≡ true
      → neutral_on (channel_width P.channels k) (x.wires.rail (of_channel k)) ≡ true

-- no node's move is enabled
abbrev pub CellsRest : (P : TypedProgram) → List OfferValue → Whole P.body → Type 0
CellsRest P script x = (n : Node P.body) → is_node P n ≡ true → enabled P script x n ≡ false

-- the program goes no further, and done is high exactly where it has ended
pub record CellsSettled (P : TypedProgram) (x : Whole P.body) (c : Configuration) : Type 0 where
  pub still : (at : Place) (d : Configuration) → ¬ Step c at d
  pub ended : x.root.next ≡ true → c.term ≡ finished
  pub going : x.root.next ≡ false → c.term ≢ finished

-- after so many moves: as many steps of the program at most have passed the same values, and for each step and one more
-- there are at most twice as many moves as nodes
pub record IsCarried (P : TypedProgram) (script : List OfferValue) (moves : ℕ) (x : Whole P.body) : Type 0 where
  pub safe : IsSafe P script x
  pub to : Configuration
  pub steps : ℕ
  pub within : steps ≤ moves
  pub paid : moves ≤ circuit_most P * suc steps
  pub leads : Leads (start_of P script) steps to
  pub passed : to.histories ≡ x.histories
  pub rest : CellsRest P script x → CellsSettled P x to

abbrev pub CellsCarry : TypedProgram → Type 0
CellsCarry P = (script : List OfferValue) → IsScript P.channels script → (moves : ℕ) (x : Whole P.body)
    → Reaches P script moves x → IsCarried P script moves x

-- the circuit of each program carries it that is typed, meets the sharing rule and has no assignment which reads its
-- own target
abbrev pub CircuitsCarry : Type 0
CircuitsCarry = (P : TypedProgram) → IsPlain P → CellsCarry P
