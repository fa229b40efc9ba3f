-- The circuits of programs with internal channels, run to their ends by computing; and that such programs are covered.
use Rattle.std.proofs.Common.{◌≡◌, ℕ, zero, suc, Bool, true, false, List, [], ◌∷◌, refl}
use Rattle.std.specs.Prelude.{Some, map, ◌++◌, length}
use Rattle.std.specs.List.{list_any, range_with_len}
use Rattle.chp_base.specs.declared.span.Span.{Span}
use Rattle.chp_base.specs.declared.channel.Channel.{Channel}
use Rattle.chp_base.specs.declared.channel.Kind.TheVariants.{In, Out, Chan}
use Rattle.env_script.specs.declared.script.Count.TheVariants.{All}
use Rattle.env_script.specs.Scripts.{OfferValue, gives, takes, nothing}
use Rattle.width_check.specs.Processes.{Formula, constant, reading, Process, skipping, assigning, sending, receiving, in_turn, side_by_side, repeating, Processes, no_members, and_member, member_count, TypedProgram}
use Rattle.width_check.specs.Typing.{channel_width, var_width}
use Rattle.circuit_places.specs.Lines.{of_channel, of_var}
use Rattle.circuit_places.specs.Circuit.{gate_count, joint_count, SiteSpot, done, gate, PortSpot, heard, stored, taking, GuardedSpot, child, latch, next, inner, Spot, of_skip, of_assign, of_send, of_receive, in_members, of_branch, joint, ask, in_body, BranchSpot, in_this, in_others, TurnSpot, in_last, in_member, in_later}
use Rattle.circuit_places.specs.Whole.{Whole, Node, go_node, own_node, rail_node, ack_node, bit_node, wrote_node, joint_node, value_on, enabled, first_cells}
use Rattle.circuit_places.proofs.Examples.{driven}

-- all nodes of a circuit
abbrev both_below : {A : Type 0} → (ℕ → Bool → A) → ℕ → List A → List A
both_below f zero more = more
both_below f (suc n) more = both_below f n (f n true ∷ f n false ∷ more)

abbrev below : {A : Type 0} → (ℕ → A) → ℕ → List A
below f n = map f (range_with_len 0 n)

abbrev site_spots : (e : Formula) → List (SiteSpot e)
site_spots e = done ∷ both_below (λ k one. gate k one) (gate_count e) []

abbrev port_spots : ℕ → List PortSpot
port_spots width = heard ∷ stored ∷ both_below (λ i one. taking i one) width []

abbrev guarded : {p : Process} → List (Spot p) → List (GuardedSpot p)
guarded xs = child ∷ latch ∷ next ∷ map (λ s. inner s) xs

abbrev mutual
  spots : List Channel → (p : Process) → List (Spot p)
  spots cs skipping = of_skip ∷ []
  spots cs (assigning x at e) = map (λ s. of_assign s) (site_spots e)
  spots cs (sending c at e) = map (λ s. of_send s) (site_spots e)
  spots cs (receiving c at x to) = map (λ s. of_receive s) (port_spots (channel_width cs c))
  spots cs (in_turn members) = map (λ s. in_members s) (turn_spots cs members)
  spots cs (side_by_side members) = map (λ s. of_branch s) (branch_spots cs members) ++ below (λ k. joint k) (joint_count (member_count members))
  spots cs (repeating p) = ask ∷ map (λ s. in_body s) (spots cs p)
  spots cs _ = []

  branch_spots : List Channel → (members : Processes) → List (BranchSpot members)
  branch_spots cs no_members = []
  branch_spots cs (and_member p more) = map (λ s. in_this s) (guarded (spots cs p)) ++ map (λ s. in_others s) (branch_spots cs more)

  turn_spots : List Channel → (members : Processes) → List (TurnSpot members)
  turn_spots cs no_members = []
  turn_spots cs (and_member p no_members) = map (λ s. in_last s) (spots cs p)
  turn_spots cs (and_member p (and_member q more)) =
      map (λ s. in_member s) (guarded (spots cs p)) ++ map (λ s. in_later s) (turn_spots cs (and_member q more))

abbrev channel_nodes : (P : TypedProgram) → ℕ → List (Node P.body) → List (Node P.body)
channel_nodes P zero more = more
channel_nodes P (suc c) more = channel_nodes P c (ack_node c ∷ both_below (rail_node (of_channel c)) (channel_width P.channels c) more)

abbrev var_nodes : (P : TypedProgram) → ℕ → List (Node P.body) → List (Node P.body)
var_nodes P zero more = more
var_nodes P (suc x) more =
    let n = var_width P.vars x in
    var_nodes P x (both_below (rail_node (of_var x)) n (both_below (bit_node x) n (below (wrote_node x) n ++ (below (joint_node x) (joint_count n) ++ more))))

abbrev all_nodes : (P : TypedProgram) → List (Node P.body)
all_nodes P = go_node ∷ channel_nodes P (length P.channels) (var_nodes P (length P.vars) (map (λ s. own_node s) (guarded (spots P.channels P.body))))

abbrev at : Span
at = record { from = 0; to = 1 }

-- chan X : 1; var x : 1; begin par X!1; X?x rap end
abbrev meets : TypedProgram
meets = record {
  channels = record { name = []; kind = Chan; width = 1 } ∷ [];
  vars = record { name = []; width = 1; first = 0 } ∷ [];
  body = side_by_side (and_member (sending 0 at (constant 1 1)) (and_member (receiving 0 at 0 at) no_members));
}

abbrev met : Whole meets.body
met = driven meets (nothing ∷ []) (all_nodes meets) 39 (first_cells meets)

-- the value passes once, it is stored, done rises, and nothing is left to move
it_passes : met.histories ≡ (1 ∷ []) ∷ []
it_passes = refl

it_is_stored : value_on 1 (met.wires.bit 0) ≡ Some 1
it_is_stored = refl

both_end : met.root.next ≡ true
both_end = refl

nothing_moves : list_any (enabled meets (nothing ∷ []) met) (all_nodes meets) ≡ false
nothing_moves = refl

-- A channel that is sent on at two places, in sequence, and received from at two, one of them in a branch of its own:
-- chan X : 1; out R : 1; var x : 1; var y : 1; begin par [X!1; X!0]; [par X?x; skip rap; X?y; R!x] rap end
abbrev merges : TypedProgram
merges = record {
  channels = record { name = []; kind = Chan; width = 1 } ∷ record { name = []; kind = Out; width = 1 } ∷ [];
  vars = record { name = []; width = 1; first = 0 } ∷ record { name = []; width = 1; first = 1 } ∷ [];
  body = side_by_side
      (and_member (in_turn (and_member (sending 0 at (constant 1 1)) (and_member (sending 0 at (constant 1 0)) no_members)))
      (and_member (in_turn (and_member (side_by_side (and_member (receiving 0 at 0 at) (and_member skipping no_members)))
      (and_member (receiving 0 at 1 at) (and_member (sending 1 at (reading 0 0 0 at)) no_members)))) no_members));
}

abbrev merged_at_last : Whole merges.body
merged_at_last = driven merges (nothing ∷ takes All ∷ []) (all_nodes merges) 108 (first_cells merges)

both_pass : merged_at_last.histories ≡ (1 ∷ 0 ∷ []) ∷ (1 ∷ []) ∷ []
both_pass = refl

merges_done : merged_at_last.root.next ≡ true
merges_done = refl

merges_rest : list_any (enabled merges (nothing ∷ takes All ∷ []) merged_at_last) (all_nodes merges) ≡ false
merges_rest = refl

-- Two processes that never end: in L : 1; chan M : 1; out R : 1; var x : 1; var y : 1;
-- begin par *[L?x; M!x]; *[M?y; R!y] rap end
abbrev relays : TypedProgram
relays = record {
  channels = record { name = []; kind = In; width = 1 } ∷ record { name = []; kind = Chan; width = 1 } ∷ record { name = []; kind = Out; width = 1 } ∷ [];
  vars = record { name = []; width = 1; first = 0 } ∷ record { name = []; width = 1; first = 0 } ∷ [];
  body = side_by_side
      (and_member (repeating (in_turn (and_member (receiving 0 at 0 at) (and_member (sending 1 at (reading 0 0 0 at)) no_members))))
      (and_member (repeating (in_turn (and_member (receiving 1 at 1 at) (and_member (sending 2 at (reading 1 0 0 at)) no_members)))) no_members));
}

abbrev relay_script : List OfferValue
relay_script = gives (1 ∷ 0 ∷ []) ∷ nothing ∷ takes All ∷ []

abbrev relayed : Whole relays.body
relayed = driven relays relay_script (all_nodes relays) 128 (first_cells relays)

all_relayed : relayed.histories ≡ (1 ∷ 0 ∷ []) ∷ (1 ∷ 0 ∷ []) ∷ (1 ∷ 0 ∷ []) ∷ []
all_relayed = refl

relays_wait : relayed.root.next ≡ false
relays_wait = refl

relays_rest : list_any (enabled relays relay_script relayed) (all_nodes relays) ≡ false
relays_rest = refl

-- one end alone, over a channel whose other end nobody has: chan X : 1; begin X!1 end
abbrev alone : TypedProgram
alone = record { channels = record { name = []; kind = Chan; width = 1 } ∷ []; vars = []; body = sending 0 at (constant 1 1) }

abbrev stuck : Whole alone.body
stuck = driven alone (nothing ∷ []) (all_nodes alone) 4 (first_cells alone)

none_passes : stuck.histories ≡ [] ∷ []
none_passes = refl

it_waits : stuck.root.next ≡ false
it_waits = refl

it_rests : list_any (enabled alone (nothing ∷ []) stuck) (all_nodes alone) ≡ false
it_rests = refl
