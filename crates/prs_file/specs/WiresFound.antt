-- The nodes of a channel's wires, found by their names.
use Rattle.std.specs.Prelude.{◌≡◌, ℕ, Bool, false, ◌&&◌, List, [], ◌∷◌, ◌++◌, map, All, Option, Some, None, is_none, bytes_eq, slice_index_or, if◌then◌else◌}
use Rattle.std.specs.List.{list_any}
use Rattle.chp_base.specs.declared.channel.Channel.{Channel}
use Rattle.prs_core.specs.declared.wires.Wires.{Wires}
use Rattle.prs_file.specs.declared.fault.NetFault.{NetFault}
use Rattle.prs_file.specs.declared.fault.NetFault.TheVariants.{UnknownNode, BadFirst}
use Rattle.prs_file.specs.Indexes.{place_in}
use Rattle.prs_file.specs.NodesTold.{node_forms}
use Rattle.prs_file.specs.Reading.{told_nodes, wires_of}

-- each of these names is that of the node with the number at its place
abbrev pub AreFound : List (List ℕ) → List (List ℕ) → List ℕ → Type 0
AreFound names wires numbers = map (place_in names) wires ≡ map (λ n. Some n) numbers

abbrev pub some_unknown : List (List ℕ) → List (List ℕ) → Bool
some_unknown names wires = list_any (λ w. is_none (place_in names w)) wires

-- by its name, a node that is high at first
abbrev pub is_high_named : List (List ℕ) → List Bool → List ℕ → Bool
is_high_named names first name =
    list_any (λ (n : List ℕ × Bool). bytes_eq n.0 name && n.1) (told_nodes (node_forms names first))

-- why a channel has no wires: one of them is no node, or high at first
abbrev pub wires_fault_of : List (List ℕ) → List Bool → Channel → Option NetFault
wires_fault_of names first c =
    if some_unknown names (wires_of c) then Some UnknownNode else
    (if list_any (is_high_named names first) (wires_of c) then Some BadFirst else None)

abbrev pub wire_numbers : Wires → List ℕ
wire_numbers w = w.rails ++ w.ack ∷ []

pub record IsWiredAmong (names : List (List ℕ)) (first : List Bool) (w : Wires) : Type 0 where
  pub found : AreFound names (wires_of w.channel) (wire_numbers w)
  pub low : All (λ n. slice_index_or first n false ≡ false) (wire_numbers w)
  pub sound : wires_fault_of names first w.channel ≡ None
