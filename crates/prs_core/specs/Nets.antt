-- What a net of production rules is.
use Rattle.std.specs.Prelude.{◌≡◌, ◌≢◌, ℕ, ◌+◌, ◌*◌, ◌^◌, ◌<◌, ◌≤◌, Bool, true, false, List, [], ◌∷◌, ◌++◌, length, map, All, AllPairs, sum_by, slice_index_or, slice_set, Option, Some, None, codes, decimal}
use Rattle.std.specs.List.{flat_map, range_with_len}
use Rattle.chp_base.specs.Names.{IsName, IsNodeName}
use Rattle.chp_base.specs.declared.channel.Kind.{Kind}
use Rattle.chp_base.specs.declared.channel.Kind.TheVariants.{In, Out, Chan}
use Rattle.prs_core.specs.declared.rule.Literal.{Literal}
use Rattle.prs_core.specs.declared.wires.Wires.{Wires}

-- a guard as the literals of each of its terms
abbrev pub GuardValue : Type 0
GuardValue = List (List Literal)

-- the two guards of each node
pub record RulesValue : Type 0 where
  pub up : List GuardValue
  pub down : List GuardValue

-- for each node a name, a first value and two guards; the channels; the reset node where there is one
pub record NetValue : Type 0 where
  pub names : List (List ℕ)
  pub first : List Bool
  pub up : List GuardValue
  pub down : List GuardValue
  pub channels : List Wires
  pub reset : Option ℕ

abbrev pub net_of : List (List ℕ) → List Bool → RulesValue → List Wires → Option ℕ → NetValue
net_of names first rules channels reset =
    record { names = names; first = first; up = rules.up; down = rules.down; channels = channels; reset = reset }

abbrev pub net_rules : NetValue → RulesValue
net_rules n = record { up = n.up; down = n.down }

abbrev pub name_at : NetValue → ℕ → List ℕ
name_at n node = slice_index_or n.names node []

abbrev pub first_at : NetValue → ℕ → Bool
first_at n node = slice_index_or n.first node false

abbrev pub up_of : NetValue → ℕ → GuardValue
up_of n node = slice_index_or n.up node []

abbrev pub down_of : NetValue → ℕ → GuardValue
down_of n node = slice_index_or n.down node []

-- each literal's node is below the number
abbrev pub IsBelow : ℕ → GuardValue → Type 0
IsBelow count g = All (λ t. All (λ (l : Literal). l.node < count) t) g

-- no term is empty
abbrev pub IsFilled : GuardValue → Type 0
IsFilled g = All (λ (t : List Literal). 0 < length t) g

-- two guards for each node, over these nodes alone, each of which has a number of 32 bits
pub record IsRules (r : RulesValue) : Type 0 where
  pub few : length r.up < 2 ^ 32
  pub downs : length r.down ≡ length r.up
  pub up_within : All (IsBelow (length r.up)) r.up
  pub down_within : All (IsBelow (length r.up)) r.down

-- no rule turns the node over
pub record IsUndriven (n : NetValue) (node : ℕ) : Type 0 where
  pub up : up_of n node ≡ []
  pub down : down_of n node ≡ []

-- the wires of the channel X: for each bit i the rails X.i.t and X.i.f, and the acknowledge X.a
abbrev pub true_rail : List ℕ → ℕ → List ℕ
true_rail channel bit = channel ++ codes "." ++ decimal bit ++ codes ".t"

abbrev pub false_rail : List ℕ → ℕ → List ℕ
false_rail channel bit = channel ++ codes "." ++ decimal bit ++ codes ".f"

abbrev pub rail_names : List ℕ → ℕ → List (List ℕ)
rail_names channel width =
    flat_map (λ bit. true_rail channel bit ∷ false_rail channel bit ∷ []) (range_with_len 0 width)

abbrev pub ack_name : List ℕ → List ℕ
ack_name channel = channel ++ codes ".a"

-- the wires that the environment moves
abbrev pub wires_from_outside : Kind → List ℕ → ℕ → List ℕ
wires_from_outside In rails ack = rails
wires_from_outside Out rails ack = ack ∷ []
wires_from_outside Chan rails ack = []

-- a channel of the net: its wires are nodes of its name, low at first, and those of the environment have no rules
pub record IsChannel (n : NetValue) (w : Wires) : Type 0 where
  pub name : IsName w.channel.name
  pub some : 1 ≤ w.channel.width
  pub most : w.channel.width ≤ 64
  pub count : length w.rails ≡ 2 * w.channel.width
  pub rails : map (name_at n) w.rails ≡ rail_names w.channel.name w.channel.width
  pub rails_within : All (λ rail. rail < length n.first) w.rails
  pub rails_low : All (λ rail. first_at n rail ≡ false) w.rails
  pub ack : name_at n w.ack ≡ ack_name w.channel.name
  pub ack_within : w.ack < length n.first
  pub ack_low : first_at n w.ack ≡ false
  pub outside : All (IsUndriven n) (wires_from_outside w.channel.kind w.rails w.ack)

-- the last node, named reset, high at first, with no rules
pub record IsResetNode (n : NetValue) (node : ℕ) : Type 0 where
  pub last : node + 1 ≡ length n.first
  pub name : name_at n node ≡ codes "reset"
  pub high : first_at n node ≡ true
  pub undriven : IsUndriven n node

abbrev pub IsReset : NetValue → Option ℕ → Type 0
IsReset n None = Unit {0}
IsReset n (Some node) = IsResetNode n node

-- a net with a reset node may be larger, so that each net without one has one with it
abbrev pub most_nodes : Option ℕ → ℕ
most_nodes None = 65536
most_nodes (Some node) = 65537

abbrev pub most_literals : Option ℕ → ℕ
most_literals None = 4194304
most_literals (Some node) = 8454144

abbrev pub guard_literals : GuardValue → ℕ
guard_literals g = sum_by (λ (t : List Literal). length t) g

abbrev pub literals_of : NetValue → ℕ
literals_of n = sum_by guard_literals n.up + sum_by guard_literals n.down

-- a net that a rule file can hold
pub record IsNet (n : NetValue) : Type 0 where
  pub named : length n.names ≡ length n.first
  pub ups : length n.up ≡ length n.first
  pub downs : length n.down ≡ length n.first
  pub some : 2 ≤ length n.first
  pub most : length n.first ≤ most_nodes n.reset
  pub names : All IsNodeName n.names
  pub distinct : AllPairs (λ (a b : List ℕ). a ≢ b) n.names
  pub go : name_at n 0 ≡ codes "go"
  pub go_low : first_at n 0 ≡ false
  pub go_undriven : IsUndriven n 0
  pub done : name_at n 1 ≡ codes "done"
  pub done_low : first_at n 1 ≡ false
  pub up_within : All (IsBelow (length n.first)) n.up
  pub down_within : All (IsBelow (length n.first)) n.down
  pub up_filled : All IsFilled n.up
  pub down_filled : All IsFilled n.down
  pub literals : literals_of n ≤ most_literals n.reset
  pub channels : All (IsChannel n) n.channels
  pub channels_distinct : AllPairs (λ (a b : Wires). a.channel.name ≢ b.channel.name) n.channels
  pub reset : IsReset n n.reset

-- the two guards of one node
pub record NodeRules : Type 0 where
  pub up : GuardValue
  pub down : GuardValue

-- the rules with this node's guards in place of those it had
abbrev pub with_rules : ℕ → NodeRules → RulesValue → RulesValue
with_rules node n r = record { up = slice_set r.up node n.up; down = slice_set r.down node n.down }

-- the node's guards are as they were
pub record IsAlone (old new : RulesValue) (node : ℕ) : Type 0 where
  pub up : slice_index_or new.up node [] ≡ slice_index_or old.up node []
  pub down : slice_index_or new.down node [] ≡ slice_index_or old.down node []

abbrev pub is_high : ℕ → Literal
is_high node = record { node = node; high = true }

abbrev pub is_low : ℕ → Literal
is_low node = record { node = node; high = false }

-- a rule with one term
abbrev pub one_term : List Literal → GuardValue
one_term t = t ∷ []
