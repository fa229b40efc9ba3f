-- The circuits of small selections and guarded repetitions, run to their ends by computing.
use Rattle.std.proofs.Common.{◌≡◌, ℕ, Bool, true, false, List, [], ◌∷◌, refl}
use Rattle.std.specs.Prelude.{Some}
use Rattle.std.specs.List.{list_any}
use Rattle.chp_base.specs.declared.channel.Kind.TheVariants.{Out}
use Rattle.env_script.specs.declared.script.Count.TheVariants.{All, Times}
use Rattle.env_script.specs.Scripts.{takes}
use Rattle.width_check.specs.Processes.{constant, reading, skipping, assigning, sending, in_turn, choosing, no_members, and_member, Choices, no_choices, and_choice, TypedProgram}
use Rattle.circuit_places.specs.Lines.{of_channel, of_var}
use Rattle.circuit_places.specs.Heads.{top, under}
use Rattle.circuit_places.specs.Cores.{of_joined, of_ask, of_any, of_latch, of_start, of_answer, of_turn, of_leave}
use Rattle.circuit_places.specs.Circuit.{Spot, child, latch, next, inner, of_skip, done, gate, of_assign, of_send, in_members, in_member, in_later, in_last, of_core, of_guard, of_choice, of_round, this_gate, other_gate, this_choice, other_choice}
use Rattle.circuit_places.specs.Whole.{Whole, Node, go_node, own_node, rail_node, ack_node, bit_node, wrote_node, value_on, enabled, first_cells}
use Rattle.circuit_places.proofs.Examples.{at, driven}

abbrev arms : Choices
arms = and_choice (reading 0 0 0 at) (sending 0 at (constant 1 1)) (and_choice (reading 1 0 0 at) skipping no_choices)

-- out X : 1; var x : 1 = v; var y : 1 = w; begin [x -> X!1 [] y -> skip] end, and the repetition of the same
abbrev chosen : (again : Bool) (v w : ℕ) → TypedProgram
chosen again v w = record {
  channels = record { name = []; kind = Out; width = 1 } ∷ [];
  vars = record { name = []; width = 1; first = v } ∷ record { name = []; width = 1; first = w } ∷ [];
  body = choosing again arms;
}

abbrev core_spots : (again : Bool) → List (Spot (choosing again arms))
core_spots again =
    of_core of_joined ∷ of_core of_ask ∷ of_core of_any ∷ of_core (of_latch top) ∷ of_core (of_latch (under top)) ∷ of_core (of_start top)
    ∷ of_core (of_start (under top)) ∷ of_guard (this_gate 0 true) ∷ of_guard (this_gate 0 false) ∷ of_guard (other_gate (this_gate 0 true))
    ∷ of_guard (other_gate (this_gate 0 false)) ∷ of_choice (this_choice (of_send done)) ∷ of_choice (this_choice (of_send (gate 0 true)))
    ∷ of_choice (this_choice (of_send (gate 0 false))) ∷ of_choice (other_choice (this_choice of_skip)) ∷ []

abbrev nodes_at : (again : Bool) → List (Spot (choosing again arms)) → List (Node (choosing again arms))
nodes_at again [] =
    go_node ∷ own_node child ∷ own_node latch ∷ own_node next ∷ rail_node (of_channel 0) 0 true ∷ rail_node (of_channel 0) 0 false ∷ ack_node 0 ∷ []
nodes_at again (s ∷ ss) = own_node (inner s) ∷ nodes_at again ss

abbrev select_nodes : List (Node (choosing false arms))
select_nodes = nodes_at false (core_spots false)

abbrev again_nodes : List (Node (choosing true arms))
again_nodes = nodes_at true (of_round of_answer ∷ of_round of_turn ∷ of_round of_leave ∷ core_spots true)

abbrev selected : (v w : ℕ) → Whole (choosing false arms)
selected v w = driven (chosen false v w) (takes All ∷ []) select_nodes 48 (first_cells (chosen false v w))

abbrev moves_on : (v w : ℕ) → Bool
moves_on v w = list_any (enabled (chosen false v w) (takes All ∷ []) (selected v w)) select_nodes

-- the branch whose guard alone is true is run, and the selection is done
first_sends : (selected 1 0).histories ≡ (1 ∷ []) ∷ []
first_sends = refl

first_done : (selected 1 0).root.next ≡ true
first_done = refl

first_rests : moves_on 1 0 ≡ false
first_rests = refl

second_skips : (selected 0 1).histories ≡ [] ∷ []
second_skips = refl

second_done : (selected 0 1).root.next ≡ true
second_done = refl

-- where none is true, or both are, it waits for ever
none_waits : (selected 0 0).root.next ≡ false
none_waits = refl

none_rests : moves_on 0 0 ≡ false
none_rests = refl

both_wait : (selected 1 1).root.next ≡ false
both_wait = refl

both_send_nothing : (selected 1 1).histories ≡ [] ∷ []
both_send_nothing = refl

both_rest : moves_on 1 1 ≡ false
both_rest = refl

abbrev repeated : (count : ℕ) (v w : ℕ) → Whole (choosing true arms)
repeated count v w = driven (chosen true v w) (takes (Times count) ∷ []) again_nodes 120 (first_cells (chosen true v w))

abbrev goes_on : (count : ℕ) (v w : ℕ) → Bool
goes_on count v w = list_any (enabled (chosen true v w) (takes (Times count) ∷ []) (repeated count v w)) again_nodes

-- a repetition goes round as often as the number is taken, ends where no guard is true, and waits where both are
two_pass : (repeated 2 1 0).histories ≡ (1 ∷ 1 ∷ []) ∷ []
two_pass = refl

two_rest : goes_on 2 1 0 ≡ false
two_rest = refl

two_not_done : (repeated 2 1 0).root.next ≡ false
two_not_done = refl

none_ends : (repeated 2 0 0).root.next ≡ true
none_ends = refl

ended_rests : goes_on 2 0 0 ≡ false
ended_rests = refl

both_block : (repeated 2 1 1).root.next ≡ false
both_block = refl

blocked_rests : goes_on 2 1 1 ≡ false
blocked_rests = refl

-- out X : 1; var x : 1 = v; begin *[x -> X!1; x := 0] end
abbrev once : (v : ℕ) → TypedProgram
once v = record {
  channels = record { name = []; kind = Out; width = 1 } ∷ [];
  vars = record { name = []; width = 1; first = v } ∷ [];
  body = choosing true (and_choice (reading 0 0 0 at)
      (in_turn (and_member (sending 0 at (constant 1 1)) (and_member (assigning 0 at (constant 1 0)) no_members))) no_choices);
}

abbrev of_once : Spot (once 0).body → Node (once 0).body
of_once s = own_node (inner s)

abbrev once_nodes : List (Node (once 0).body)
once_nodes =
    go_node ∷ own_node child ∷ own_node latch ∷ own_node next
    ∷ of_once (of_round of_answer) ∷ of_once (of_round of_turn) ∷ of_once (of_round of_leave)
    ∷ of_once (of_core of_joined) ∷ of_once (of_core of_ask) ∷ of_once (of_core of_any) ∷ of_once (of_core (of_latch top)) ∷ of_once (of_core (of_start top))
    ∷ of_once (of_guard (this_gate 0 true)) ∷ of_once (of_guard (this_gate 0 false))
    ∷ of_once (of_choice (this_choice (in_members (in_member child)))) ∷ of_once (of_choice (this_choice (in_members (in_member latch))))
    ∷ of_once (of_choice (this_choice (in_members (in_member next))))
    ∷ of_once (of_choice (this_choice (in_members (in_member (inner (of_send done))))))
    ∷ of_once (of_choice (this_choice (in_members (in_member (inner (of_send (gate 0 true)))))))
    ∷ of_once (of_choice (this_choice (in_members (in_later (in_last (of_assign done))))))
    ∷ of_once (of_choice (this_choice (in_members (in_later (in_last (of_assign (gate 0 false)))))))
    ∷ rail_node (of_channel 0) 0 true ∷ rail_node (of_channel 0) 0 false ∷ ack_node 0
    ∷ rail_node (of_var 0) 0 true ∷ rail_node (of_var 0) 0 false ∷ bit_node 0 0 true ∷ bit_node 0 0 false ∷ wrote_node 0 0 ∷ []

abbrev once_at_last : (v : ℕ) → Whole (once 0).body
once_at_last v = driven (once v) (takes All ∷ []) once_nodes 120 (first_cells (once v))

-- the guard is evaluated anew, over what its branch has written
one_passes : (once_at_last 1).histories ≡ (1 ∷ []) ∷ []
one_passes = refl

one_is_over : value_on 1 ((once_at_last 1).wires.bit 0) ≡ Some 0
one_is_over = refl

one_ends : (once_at_last 1).root.next ≡ true
one_ends = refl

one_rests : list_any (enabled (once 1) (takes All ∷ []) (once_at_last 1)) once_nodes ≡ false
one_rests = refl

none_passes : (once_at_last 0).histories ≡ [] ∷ []
none_passes = refl

at_once_over : (once_at_last 0).root.next ≡ true
at_once_over = refl
