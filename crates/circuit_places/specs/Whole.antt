-- The whole circuit of a program: go, the root, the body, the channels' wires and the variables; its moves, and which
-- states they reach.
use Rattle.std.specs.Prelude.{◌≡◌, ℕ, zero, suc, ◌/◌, ◌==◌, Bool, true, false, not, nat_lt, ◌&&◌, ◌||◌, if◌then◌else◌, List, [], ◌∷◌, ◌++◌, length, replicate, slice_get, slice_set, Option, Some, None, is_some}
use Rattle.std.specs.List.{list_any, list_all}
use Rattle.chp_base.specs.declared.channel.Channel.{Channel}
use Rattle.chp_base.specs.declared.channel.Kind.{Kind}
use Rattle.chp_base.specs.declared.channel.Kind.TheVariants.{In, Out}
use Rattle.width_check.specs.declared.typed.Var.{Var}
use Rattle.env_script.specs.Environment.{is_odd}
use Rattle.prs_core.specs.Parts.{turned}
use Rattle.env_script.specs.Scripts.{OfferValue, gives, takes, offer_at, is_over}
use Rattle.env_script.specs.Runs.{history_at, completed}
use Rattle.width_check.specs.Processes.{Process, TypedProgram}
use Rattle.width_check.specs.Typing.{kind_at, channel_width, var_width}
pub use Rattle.function_blocks.specs.Rails.{value_on, neutral_on}
use Rattle.circuit_places.specs.Lines.{Line, of_channel, of_var, same_line, line_width, Rails, Seen}
use Rattle.circuit_places.specs.Circuit.{QElementCells, Cells, low_guarded, low, joint_count, tree_answer, tree_rule, GuardedSpot, guarded_stands, Rule, rule_of, no_rule, one_rule_fires, same_bit, guarded_rule, rails_turned, turned_guarded, site_rails, takers}

-- What lies outside the statements: each channel's acknowledge, the rails of each line, and of each variable the
-- rails of its bits, the nodes that say that a bit is written, and the tree over these.
pub record Wires : Type 0 where
  pub ack : (chan : ℕ) → Bool
  pub rail : Line → Rails
  pub bit : (var : ℕ) → Rails
  pub wrote : (var bit : ℕ) → Bool
  pub joint : (var k : ℕ) → Bool

-- a variable's acknowledge is the top of its tree
abbrev pub line_ack : TypedProgram → Wires → Line → Bool
line_ack P w (of_channel c) = w.ack c
line_ack P w (of_var x) = tree_answer (var_width P.vars x) (w.wrote x) (w.joint x)

-- what statements see of it
abbrev pub wires_seen : TypedProgram → Wires → Seen
wires_seen P w = record { width = line_width P; ack = line_ack P w; rail = w.rail; bit = w.bit }

-- the nodes' values, and for each channel the values that have passed, the first one first; the root is a Q-element
-- between go and done, its next request, round the body
pub record Whole (p : Process) : Type 0 where
  pub go : Bool
  pub root : QElementCells (Cells p)
  pub wires : Wires
  pub histories : List (List ℕ)

pub data Node : Process → Type 0 where
  go_node : {p : Process} → Node p
  own_node : {p : Process} → GuardedSpot p → Node p
  rail_node : {p : Process} (line : Line) (bit : ℕ) (one : Bool) → Node p
  ack_node : {p : Process} (chan : ℕ) → Node p
  bit_node : {p : Process} (var bit : ℕ) (one : Bool) → Node p
  wrote_node : {p : Process} (var bit : ℕ) → Node p
  joint_node : {p : Process} (var k : ℕ) → Node p

-- the circuit has the node
abbrev pub is_node : (P : TypedProgram) → Node P.body → Bool
is_node P go_node = true
is_node P (own_node s) = guarded_stands P.channels s
is_node P (rail_node k i one) = nat_lt i (line_width P k)
is_node P (ack_node k) = nat_lt k (length P.channels)
is_node P (bit_node x i one) = nat_lt i (var_width P.vars x)
is_node P (wrote_node x i) = nat_lt i (var_width P.vars x)
is_node P (joint_node x k) = nat_lt k (joint_count (var_width P.vars x))

-- whether the program sends on the channel, if any does; an `out` channel is acknowledged by the environment
abbrev pub is_sent : Kind → Bool
is_sent In = false
is_sent _ = true

-- whether the program receives on it, if any does
abbrev pub is_heard : Kind → Bool
is_heard Out = false
is_heard _ = true

abbrev pub is_merged : TypedProgram → Line → Bool
is_merged P (of_channel c) = is_sent (kind_at P.channels c)
is_merged P (of_var x) = true

-- A rail of a line is the OR of that of the line's sites: it rises where one of them is high, and falls where all
-- are low. Without sites it has no rules.
abbrev pub lows_only : List Bool → Bool
lows_only [] = false
lows_only (b ∷ bs) = not b && list_all not bs

abbrev pub merged : Bool → List Bool → Rule
merged now sites = rule_of now (list_any (λ b. b) sites) (lows_only sites)

-- The rules of a variable:
--   rail of its value     w.t & ~x.f -> x.t+    w.f -> x.t-     and the same exchanged
--   bit written           w.t & x.t | w.f & x.f -> wa+          ~w.t & ~w.f -> wa-
--   its tree over these
abbrev pub bit_rule : (w x : Rails) → (bit : ℕ) → Bool → Rule
bit_rule w x i one = rule_of (x i one) (w i one && not (x i (not one))) (w i (not one))

abbrev pub wrote_rule : (w x : Rails) → (wrote : ℕ → Bool) → (bit : ℕ) → Rule
wrote_rule w x wrote i =
    rule_of (wrote i) ((w i true && x i true) || (w i false && x i false)) (not (w i true) && not (w i false))

-- The environment moves the acknowledge of an `out` channel and the rails of an `in` channel. Any other acknowledge is
-- the OR of the nodes that say that a receive on the channel has stored.
abbrev pub rule_in : (P : TypedProgram) → Whole P.body → Node P.body → Rule
rule_in P x go_node = no_rule x.go
rule_in P x (own_node s) = guarded_rule P.body (wires_seen P x.wires) x.go x.root s
rule_in P x (rail_node k i one) =
    if is_merged P k then merged (x.wires.rail k i one) (site_rails P.body x.root.inner k i one)
    else no_rule (x.wires.rail k i one)
rule_in P x (ack_node k) =
    if is_heard (kind_at P.channels k) then merged (x.wires.ack k) (takers P.body x.root.inner k)
    else no_rule (x.wires.ack k)
rule_in P x (bit_node v i one) = bit_rule (x.wires.rail (of_var v)) (x.wires.bit v) i one
rule_in P x (wrote_node v i) = wrote_rule (x.wires.rail (of_var v)) (x.wires.bit v) (x.wires.wrote v) i
rule_in P x (joint_node v k) = tree_rule (var_width P.vars v) (x.wires.wrote v) (x.wires.joint v) k

-- The environment receives on `out` channels: the acknowledge rises where each bit has exactly one rail high and
-- acceptances are left, and falls where all rails are low.
abbrev pub receives : (width : ℕ) → Wires → (chan : ℕ) → Bool → Bool
receives width w k more =
    if w.ack k then neutral_on width (w.rail (of_channel k))
    else is_some (value_on width (w.rail (of_channel k))) && more

abbrev pub answers : (width : ℕ) → Wires → (chan : ℕ) → ℕ → OfferValue → Bool
answers width w k done (takes count) = receives width w k (is_over count done)
answers width w k done _ = false

-- the rails that encode a number, lowest bit first
abbrev pub number_rail : (width v : ℕ) → Rails
number_rail zero v i one = false
number_rail (suc n) v zero one = same_bit (is_odd v) one
number_rail (suc n) v (suc i) one = number_rail n (v / 2) i one

-- It sends on `in` channels: a rail rises that brings the next value, where the acknowledge and the bit's other rail
-- are low, and falls where the acknowledge is high.
abbrev pub brings : (width : ℕ) → Option ℕ → Rails
brings width None i one = false
brings width (Some v) i one = number_rail width v i one

abbrev pub drives : (width : ℕ) → Wires → (chan : ℕ) → Option ℕ → (bit : ℕ) → Bool → Bool
drives width w k next i one =
    if w.ack k then w.rail (of_channel k) i one
    else brings width next i one && (not (w.rail (of_channel k) i true) && not (w.rail (of_channel k) i false))

abbrev pub offers : (width : ℕ) → Wires → (chan : ℕ) → ℕ → OfferValue → (bit : ℕ) → Bool → Bool
offers width w k done (gives values) i one = drives width w k (slice_get values done) i one
offers width w k done _ i one = false

-- and it raises go, once
abbrev pub env_moves : (P : TypedProgram) → List OfferValue → Whole P.body → Node P.body → Bool
env_moves P script x go_node = not x.go
env_moves P script x (ack_node k) =
    answers (channel_width P.channels k) x.wires k (completed x.histories k) (offer_at script k)
env_moves P script x (rail_node (of_channel k) i one) =
    offers (channel_width P.channels k) x.wires k (completed x.histories k) (offer_at script k) i one
env_moves P script x _ = false

-- a move of the node is enabled, by a rule or by the environment
abbrev pub enabled : (P : TypedProgram) → List OfferValue → Whole P.body → Node P.body → Bool
enabled P script x n = one_rule_fires (rule_in P x n) || env_moves P script x n

abbrev pub ack_turned : Wires → ℕ → Wires
ack_turned w k = record w { ack = λ c. if c == k then not (w.ack k) else w.ack c }

abbrev pub rail_turned : Wires → Line → ℕ → Bool → Wires
rail_turned w k i one = record w { rail = λ c. if same_line c k then rails_turned (w.rail k) i one else w.rail c }

abbrev pub bit_turned : Wires → ℕ → ℕ → Bool → Wires
bit_turned w x i one = record w { bit = λ y. if y == x then rails_turned (w.bit x) i one else w.bit y }

abbrev pub wrote_turned : Wires → ℕ → ℕ → Wires
wrote_turned w x i = record w { wrote = λ y. if y == x then turned (w.wrote x) i else w.wrote y }

abbrev pub joint_turned : Wires → ℕ → ℕ → Wires
joint_turned w x k = record w { joint = λ y. if y == x then turned (w.joint x) k else w.joint y }

-- the value on the rails passes where the acknowledge rises
abbrev pub cells_passed : List (List ℕ) → ℕ → Option ℕ → List (List ℕ)
cells_passed histories k None = histories
cells_passed histories k (Some v) = slice_set histories k (history_at histories k ++ v ∷ [])

abbrev pub passed_after : {p : Process} → List Channel → Wires → List (List ℕ) → Node p → List (List ℕ)
passed_after channels w histories (ack_node k) =
    if w.ack k then histories
    else cells_passed histories k (value_on (channel_width channels k) (w.rail (of_channel k)))
passed_after channels w histories _ = histories

abbrev pub wires_after : {p : Process} → Wires → Node p → Wires
wires_after w (rail_node k i one) = rail_turned w k i one
wires_after w (ack_node k) = ack_turned w k
wires_after w (bit_node x i one) = bit_turned w x i one
wires_after w (wrote_node x i) = wrote_turned w x i
wires_after w (joint_node x k) = joint_turned w x k
wires_after w _ = w

abbrev pub go_after : {p : Process} → Bool → Node p → Bool
go_after go go_node = not go
go_after go _ = go

abbrev pub root_after : (p : Process) → QElementCells (Cells p) → Node p → QElementCells (Cells p)
root_after p x (own_node s) = turned_guarded p x s
root_after p x _ = x

-- the state after the node's move
abbrev pub cells_moved : (P : TypedProgram) → Whole P.body → Node P.body → Whole P.body
cells_moved P x n = record {
  go = go_after x.go n;
  root = root_after P.body x.root n;
  wires = wires_after x.wires n;
  histories = passed_after P.channels x.wires x.histories n;
}

-- the first values of variables
abbrev pub first_bits : List Var → ℕ → Rails
first_bits [] x = λ i one. false
first_bits (v ∷ vs) zero = number_rail v.width v.first
first_bits (v ∷ vs) (suc x) = first_bits vs x

-- all nodes are low except for the variables' first values, and nothing has passed
abbrev pub first_cells : (P : TypedProgram) → Whole P.body
first_cells P = record {
  go = false;
  root = low_guarded (low P.body);
  wires = record {
    ack = λ k. false;
    rail = λ k i one. false;
    bit = first_bits P.vars;
    wrote = λ x i. false;
    joint = λ x k. false;
  };
  histories = replicate (length P.channels) [];
}

-- a state that so many moves lead to, in any order
pub data Reaches (P : TypedProgram) (script : List OfferValue) : ℕ → Whole P.body → Type 0 where
  at_first : Reaches P script zero (first_cells P)
  by_move : {k : ℕ} {x : Whole P.body} (n : Node P.body) → Reaches P script k x → enabled P script x n ≡ true
      → Reaches P script (suc k) (cells_moved P x n)
