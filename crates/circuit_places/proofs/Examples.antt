-- The circuits of small programs, run to their ends by computing.
use Rattle.std.proofs.Common.{◌≡◌, ℕ, zero, suc, Bool, true, false, List, [], ◌∷◌, refl}
use Rattle.std.specs.Prelude.{if◌then◌else◌, Some}
use Rattle.std.specs.List.{list_any}
use Rattle.chp_base.specs.declared.span.Span.{Span}
use Rattle.chp_base.specs.declared.channel.Kind.TheVariants.{In, Out}
use Rattle.env_script.specs.declared.script.Count.TheVariants.{All, Times}
use Rattle.env_script.specs.Scripts.{OfferValue, gives, takes}
use Rattle.width_check.specs.Processes.{constant, reading, skipping, assigning, sending, receiving, in_turn, side_by_side, no_members, and_member, TypedProgram}
use Rattle.circuit_places.specs.Lines.{of_channel, of_var}
use Rattle.circuit_places.specs.Circuit.{Spot, child, latch, next, inner, of_skip, done, gate, heard, stored, taking, of_assign, of_send, of_receive, in_members, of_branch, joint, in_this, in_others, in_last, in_member, in_later}
use Rattle.circuit_places.specs.Whole.{Whole, Node, go_node, own_node, rail_node, ack_node, bit_node, wrote_node, joint_node, value_on, enabled, cells_moved, first_cells}

abbrev pub at : Span
at = record { from = 0; to = 1 }

-- out X : 2; begin X!2; X!1 end
abbrev twice : TypedProgram
twice = record {
  channels = record { name = []; kind = Out; width = 2 } ∷ [];
  vars = [];
  body = in_turn
      (and_member (sending 0 at (constant 2 2)) (and_member (sending 0 at (constant 2 1)) no_members));
}

-- the first of the nodes that may move does, so many times
abbrev pub first_moved : (P : TypedProgram) → List OfferValue → Whole P.body → List (Node P.body) → Whole P.body
first_moved P script x [] = x
first_moved P script x (n ∷ ns) = if enabled P script x n then cells_moved P x n else first_moved P script x ns

abbrev pub driven : (P : TypedProgram) → List OfferValue → List (Node P.body) → ℕ → Whole P.body → Whole P.body
driven P script nodes zero x = x
driven P script nodes (suc n) x = driven P script nodes n (first_moved P script x nodes)

abbrev send_spots : {v : ℕ} → List (Spot (sending 0 at (constant 2 v)))
send_spots = of_send done ∷ of_send (gate 0 true) ∷ of_send (gate 0 false) ∷ of_send (gate 1 true) ∷ of_send (gate 1 false) ∷ []

abbrev in_first : Spot (sending 0 at (constant 2 2)) → Node twice.body
in_first s = own_node (inner (in_members (in_member (inner s))))

abbrev in_second : Spot (sending 0 at (constant 2 1)) → Node twice.body
in_second s = own_node (inner (in_members (in_later (in_last s))))

abbrev then_nodes : {X Y : Type 0} → (X → Y) → List X → List Y → List Y
then_nodes f [] ys = ys
then_nodes f (x ∷ xs) ys = f x ∷ then_nodes f xs ys

abbrev nodes : List (Node twice.body)
nodes =
    go_node ∷ own_node child ∷ own_node latch ∷ own_node next
    ∷ own_node (inner (in_members (in_member child))) ∷ own_node (inner (in_members (in_member latch))) ∷ own_node (inner (in_members (in_member next)))
    ∷ rail_node (of_channel 0) 0 true ∷ rail_node (of_channel 0) 0 false ∷ rail_node (of_channel 0) 1 true ∷ rail_node (of_channel 0) 1 false ∷ ack_node 0
    ∷ then_nodes in_first send_spots (then_nodes in_second send_spots [])

abbrev at_last : Whole twice.body
at_last = driven twice (takes All ∷ []) nodes 48 (first_cells twice)

-- both numbers pass, in order, done rises, and nothing is left to move
both_pass : at_last.histories ≡ (2 ∷ 1 ∷ []) ∷ []
both_pass = refl

done_rises : at_last.root.next ≡ true
done_rises = refl

all_rest : list_any (enabled twice (takes All ∷ []) at_last) nodes ≡ false
all_rest = refl

-- where the environment takes one alone, done stays low
abbrev held_up : Whole twice.body
held_up = driven twice (takes (Times 1) ∷ []) nodes 48 (first_cells twice)

one_passes : held_up.histories ≡ (2 ∷ []) ∷ []
one_passes = refl

done_stays : held_up.root.next ≡ false
done_stays = refl

-- out X : 1; out Y : 1; begin par X!1; Y!0; skip rap end
abbrev three : TypedProgram
three = record {
  channels = record { name = []; kind = Out; width = 1 } ∷ record { name = []; kind = Out; width = 1 } ∷ [];
  vars = [];
  body = side_by_side (and_member (sending 0 at (constant 1 1)) (and_member (sending 1 at (constant 1 0)) (and_member skipping no_members)));
}

abbrev of_body : Spot three.body → Node three.body
of_body s = own_node (inner s)

abbrev three_nodes : List (Node three.body)
three_nodes =
    go_node ∷ own_node child ∷ own_node latch ∷ own_node next
    ∷ of_body (of_branch (in_this child)) ∷ of_body (of_branch (in_this latch)) ∷ of_body (of_branch (in_this next))
    ∷ of_body (of_branch (in_this (inner (of_send done)))) ∷ of_body (of_branch (in_this (inner (of_send (gate 0 true))))) ∷ of_body
    (of_branch (in_this (inner (of_send (gate 0 false)))))
    ∷ of_body (of_branch (in_others (in_this child))) ∷ of_body (of_branch (in_others (in_this latch))) ∷ of_body (of_branch (in_others (in_this next)))
    ∷ of_body (of_branch (in_others (in_this (inner (of_send done))))) ∷ of_body (of_branch (in_others (in_this (inner (of_send (gate 0 true)))))) ∷ of_body
    (of_branch (in_others (in_this (inner (of_send (gate 0 false))))))
    ∷ of_body (of_branch (in_others (in_others (in_this child)))) ∷ of_body (of_branch (in_others (in_others (in_this latch)))) ∷ of_body
    (of_branch (in_others (in_others (in_this next))))
    ∷ of_body (of_branch (in_others (in_others (in_this (inner of_skip)))))
    ∷ of_body (joint 0) ∷ of_body (joint 1)
    ∷ rail_node (of_channel 0) 0 true ∷ rail_node (of_channel 0) 0 false ∷ ack_node 0 ∷ rail_node (of_channel 1) 0 true ∷ rail_node
    (of_channel 1) 0 false ∷ ack_node 1 ∷ []

abbrev beside_at_last : Whole three.body
beside_at_last = driven three (takes All ∷ takes All ∷ []) three_nodes 64 (first_cells three)

both_branches_pass : beside_at_last.histories ≡ (1 ∷ []) ∷ (0 ∷ []) ∷ []
both_branches_pass = refl

beside_done : beside_at_last.root.next ≡ true
beside_done = refl

beside_rests : list_any (enabled three (takes All ∷ takes All ∷ []) beside_at_last) three_nodes ≡ false
beside_rests = refl

-- where one branch isn't taken, the others end, and done stays low
abbrev beside_held : Whole three.body
beside_held = driven three (takes All ∷ takes (Times 0) ∷ []) three_nodes 64 (first_cells three)

first_passes : beside_held.histories ≡ (1 ∷ []) ∷ [] ∷ []
first_passes = refl

not_done : beside_held.root.next ≡ false
not_done = refl

-- out X : 1; var x : 2 = 3; begin x := 2; X!1; x := 1 end
abbrev writes : TypedProgram
writes = record {
  channels = record { name = []; kind = Out; width = 1 } ∷ [];
  vars = record { name = []; width = 2; first = 3 } ∷ [];
  body = in_turn (and_member (assigning 0 at (constant 2 2)) (and_member (sending 0 at (constant 1 1))
      (and_member (assigning 0 at (constant 2 1)) no_members)));
}

abbrev of_writes : Spot writes.body → Node writes.body
of_writes s = own_node (inner s)

abbrev writes_nodes : List (Node writes.body)
writes_nodes =
    go_node ∷ own_node child ∷ own_node latch ∷ own_node next
    ∷ of_writes (in_members (in_member child)) ∷ of_writes (in_members (in_member latch)) ∷ of_writes (in_members (in_member next))
    ∷ of_writes (in_members (in_member (inner (of_assign done)))) ∷ of_writes (in_members (in_member (inner (of_assign (gate 0 false))))) ∷ of_writes
    (in_members (in_member (inner (of_assign (gate 1 true)))))
    ∷ of_writes (in_members (in_later (in_member child))) ∷ of_writes (in_members (in_later (in_member latch))) ∷ of_writes
    (in_members (in_later (in_member next)))
    ∷ of_writes (in_members (in_later (in_member (inner (of_send done))))) ∷ of_writes (in_members (in_later (in_member (inner (of_send (gate 0 true))))))
    ∷ of_writes (in_members (in_later (in_later (in_last (of_assign done))))) ∷ of_writes
    (in_members (in_later (in_later (in_last (of_assign (gate 0 true)))))) ∷ of_writes
    (in_members (in_later (in_later (in_last (of_assign (gate 1 false))))))
    ∷ rail_node (of_channel 0) 0 true ∷ rail_node (of_channel 0) 0 false ∷ ack_node 0
    ∷ rail_node (of_var 0) 0 true ∷ rail_node (of_var 0) 0 false ∷ rail_node (of_var 0) 1 true ∷ rail_node (of_var 0) 1 false
    ∷ bit_node 0 0 true ∷ bit_node 0 0 false ∷ bit_node 0 1 true ∷ bit_node 0 1 false ∷ wrote_node 0 0 ∷ wrote_node 0 1 ∷ joint_node 0 0 ∷ []

abbrev written_at_last : Whole writes.body
written_at_last = driven writes (takes All ∷ []) writes_nodes 96 (first_cells writes)

starts_so : value_on 2 ((first_cells writes).wires.bit 0) ≡ Some 3
starts_so = refl

stores_last : value_on 2 (written_at_last.wires.bit 0) ≡ Some 1
stores_last = refl

sends_between : written_at_last.histories ≡ (1 ∷ []) ∷ []
sends_between = refl

writes_done : written_at_last.root.next ≡ true
writes_done = refl

writes_rest : list_any (enabled writes (takes All ∷ []) written_at_last) writes_nodes ≡ false
writes_rest = refl

-- where the send isn't taken the first value written stays
abbrev written_held : Whole writes.body
written_held = driven writes (takes (Times 0) ∷ []) writes_nodes 96 (first_cells writes)

stores_first : value_on 2 (written_held.wires.bit 0) ≡ Some 2
stores_first = refl

-- in L : 2; out R : 2; var x : 2; begin L?x; R!x end
abbrev relay : TypedProgram
relay = record {
  channels = record { name = []; kind = In; width = 2 } ∷ record { name = []; kind = Out; width = 2 } ∷ [];
  vars = record { name = []; width = 2; first = 0 } ∷ [];
  body = in_turn (and_member (receiving 0 at 0 at) (and_member (sending 1 at (reading 0 1 0 at)) no_members));
}

abbrev both_rails : List (Node relay.body) → (ℕ → Bool → Node relay.body) → List (Node relay.body)
both_rails more f = f 0 true ∷ f 0 false ∷ f 1 true ∷ f 1 false ∷ more

abbrev relay_nodes : List (Node relay.body)
relay_nodes =
    both_rails (both_rails (both_rails (both_rails (both_rails (both_rails (
    go_node ∷ own_node child ∷ own_node latch ∷ own_node next
    ∷ own_node (inner (in_members (in_member child))) ∷ own_node (inner (in_members (in_member latch))) ∷ own_node (inner (in_members (in_member next)))
    ∷ own_node (inner (in_members (in_member (inner (of_receive heard))))) ∷ own_node (inner (in_members (in_member (inner (of_receive stored)))))
    ∷ own_node (inner (in_members (in_later (in_last (of_send done)))))
    ∷ ack_node 0 ∷ ack_node 1 ∷ wrote_node 0 0 ∷ wrote_node 0 1 ∷ joint_node 0 0 ∷ [])
    (rail_node (of_channel 0))) (rail_node (of_channel 1))) (rail_node (of_var 0))) (bit_node 0))
    (λ i one. own_node (inner (in_members (in_member (inner (of_receive (taking i one))))))))
    (λ i one. own_node (inner (in_members (in_later (in_last (of_send (gate i one)))))))

abbrev relayed : Whole relay.body
relayed = driven relay (gives (2 ∷ []) ∷ takes All ∷ []) relay_nodes 90 (first_cells relay)

-- the number passes on both channels, done rises, and nothing is left to move
it_passes_on : relayed.histories ≡ (2 ∷ []) ∷ (2 ∷ []) ∷ []
it_passes_on = refl

it_is_done : relayed.root.next ≡ true
it_is_done = refl

relay_rests : list_any (enabled relay (gives (2 ∷ []) ∷ takes All ∷ []) relayed) relay_nodes ≡ false
relay_rests = refl

-- where no number comes, nothing passes, and done stays low
abbrev waiting : Whole relay.body
waiting = driven relay (gives [] ∷ takes All ∷ []) relay_nodes 90 (first_cells relay)

none_passes : waiting.histories ≡ [] ∷ [] ∷ []
none_passes = refl

it_waits : waiting.root.next ≡ false
it_waits = refl
