-- What is said of an own move of a statement: it lets no other begin but of a shorter trail; where it raises the statement's answer, so many
-- moves follow it as there are to come until the answer is low, and where it lowers it, so many as follow that. And what it is said under:
-- that the numbers of what follows the falls of lines are great enough.
--
-- P: the program; K: how many moves follow the falls of lines; p, q, more: statements; env: what the statement sees; a, g, t: where a
-- statement, a guarded member and a sequence are; s, q: spots.
use Rattle.std.proofs.Common.{◌≡◌, ◌≢◌, ℕ, suc, ◌+◌, ◌-◌, ◌<◌, ◌≤◌, Bool, true, false}
use Rattle.std.specs.Prelude.{◌⊎◌}
use Rattle.width_check.specs.Processes.{Process, skipping, assigning, sending, receiving, in_turn, side_by_side, choosing, repeating, Processes, no_members, and_member, member_count, Choices, no_choices, and_choice, TypedProgram}
use Rattle.function_blocks.specs.Rails.{one_rule_fires}
use Rattle.circuit_places.specs.Lines.{Seen}
use Rattle.circuit_places.specs.Circuit.{GuardedSpot, Spot, TurnSpot, answer, last_answer, guarded_rule, rule, turn_rule, turned_guarded, flipped, turned_turn}
use Rattle.circuit_places.proofs.Places.{Mode, asks, acks, GuardedAt, At, TurnAt, guarded_cells, cells, turn_cells, guarded_moves, moves, turn_moves}
use Rattle.circuit_places.proofs.StillSteps.{guarded_rises, guarded_value, turn_rises, turn_value}
use Rattle.round_time.specs.Longest.{guards_depth, tree_height, var_height, turn_first}
use Rattle.circuit_time.proofs.Trails.{Clearing, back, turn_back, guarded_trail, trail, turn_trail}
use Rattle.circuit_time.proofs.Depths.{Ordered}
use Rattle.circuit_time.proofs.Requests.{Plain}

-- The numbers are great enough for the sites of a statement; and gates stand behind their inputs.
abbrev pub GuardsOrdered : Choices → Type 0
GuardsOrdered no_choices = Unit {0}
GuardsOrdered (and_choice g p more) = Ordered g × GuardsOrdered more

abbrev mutual
  pub Covers : TypedProgram → Clearing → (held down : ℕ) → Process → Type 0
  Covers P K held down skipping = Unit {0}
  Covers P K held down (assigning x at e) = Ordered e × (suc down ≤ K.written x)
  Covers P K held down (sending c at e) = Ordered e × (suc down ≤ K.acked c)
  Covers P K held down (receiving c at x to) =
      (suc down ≤ K.acked c) × (2 + K.acked c ≤ K.written x) × (3 + var_height P x + K.written x ≤ K.taken c)
  Covers P K held down (in_turn members) = TurnCovers P K held down members
  Covers P K held down (side_by_side members) =
      EachCovers P K (suc (tree_height (member_count members) + (held + (2 + tree_height (member_count members) + down)))) members
  Covers P K held down (repeating p) = Covers P K 1 0 p
  Covers P K held down (choosing false choices) = GuardsOrdered choices × ChoiceCovers P K (held + 3) (1 + down) choices
  Covers P K held down (choosing true choices) = GuardsOrdered choices × ChoiceCovers P K 4 (3 + guards_depth choices) choices

  pub TurnCovers : TypedProgram → Clearing → (held down : ℕ) → Processes → Type 0
  TurnCovers P K held down no_members = Unit {0}
  TurnCovers P K held down (and_member p no_members) = Covers P K held down p
  TurnCovers P K held down (and_member p (and_member q more)) =
      Covers P K 2 (suc (turn_first P (and_member q more) - 1)) p × TurnCovers P K (held + 2) down (and_member q more)

  pub EachCovers : TypedProgram → Clearing → (down : ℕ) → Processes → Type 0
  EachCovers P K down no_members = Unit {0}
  EachCovers P K down (and_member p more) = Covers P K 2 down p × EachCovers P K down more

  pub ChoiceCovers : TypedProgram → Clearing → (held down : ℕ) → Choices → Type 0
  ChoiceCovers P K held down no_choices = Unit {0}
  ChoiceCovers P K held down (and_choice g p more) = Covers P K held down p × ChoiceCovers P K held down more

-- a move of one spot, and then what another may do: it has a shorter trail, or it could do so before, and no longer one than then
abbrev pub Shorter : {S : Type 0} → (s q : S) → (could : Bool) → (now before of_s : ℕ) → Type 0
Shorter s q could now before of_s = (now < of_s) ⊎ ((s ≢ q) × (could ≡ true) × (now ≤ before))

-- what is said of a move of a statement
pub record Led (P : TypedProgram) (K : Clearing) (held down : ℕ) (p : Process) (m : Mode) (env : Seen) (a : At p m) (s : Spot p) : Type 0 where
  pub each : (q : Spot p) → one_rule_fires (rule p env (asks m) (flipped p (cells a) s) q) ≡ true → Plain p (flipped p (cells a) s) q
      → Shorter s q (moves env a q) (trail P K held down p (flipped p (cells a) s) q) (trail P K held down p (cells a) q) (trail P K held down p (cells a) s)
  pub up : acks m ≡ false → answer p (flipped p (cells a) s) ≡ true → (held + back P K down p (flipped p (cells a) s) ≤ trail P K held down p (cells a) s)
      × (suc down ≤ back P K down p (flipped p (cells a) s))
  pub falls : acks m ≡ true → answer p (flipped p (cells a) s) ≡ false → down ≤ trail P K held down p (cells a) s
  pub less : back P K down p (flipped p (cells a) s) ≤ back P K down p (cells a)

pub record TurnLed (P : TypedProgram) (K : Clearing) (held down : ℕ) (ms : Processes) (m : Mode) (env : Seen) (t : TurnAt ms m) (s : TurnSpot ms) : Type 0 where
  pub each : (q : TurnSpot ms) → one_rule_fires (turn_rule ms env (asks m) (turned_turn ms (turn_cells t) s) q) ≡ true
      → (turn_rises q ≡ true → turn_value ms (turned_turn ms (turn_cells t) s) q ≡ true)
      → Shorter s q (turn_moves env t q) (turn_trail P K held down ms (turned_turn ms (turn_cells t) s) q) (turn_trail P K held down ms (turn_cells t) q)
      (turn_trail P K held down ms (turn_cells t) s)
  pub up : acks m ≡ false → last_answer ms (turned_turn ms (turn_cells t) s) ≡ true
      → (held + turn_back P K down ms (turned_turn ms (turn_cells t) s) ≤ turn_trail P K held down ms (turn_cells t) s)
      × (suc down ≤ turn_back P K down ms (turned_turn ms (turn_cells t) s))
  pub falls : acks m ≡ true → last_answer ms (turned_turn ms (turn_cells t) s) ≡ false → down ≤ turn_trail P K held down ms (turn_cells t) s
  pub less : turn_back P K down ms (turned_turn ms (turn_cells t) s) ≤ turn_back P K down ms (turn_cells t)

-- and of a move of a statement in its Q-element
pub record GuardedLed (P : TypedProgram) (K : Clearing) (plus minus : ℕ) (p : Process) (m : Mode) (env : Seen) (g : GuardedAt p m)
    (s : GuardedSpot p) : Type 0 where
  pub each : (q : GuardedSpot p) → one_rule_fires (guarded_rule p env (asks m) (turned_guarded p (guarded_cells g) s) q) ≡ true
      → (guarded_rises q ≡ true → guarded_value p (turned_guarded p (guarded_cells g) s) q ≡ true)
      → Shorter s q (guarded_moves env g q) (guarded_trail P K plus minus p (turned_guarded p (guarded_cells g) s) q)
      (guarded_trail P K plus minus p (guarded_cells g) q) (guarded_trail P K plus minus p (guarded_cells g) s)
  pub up : acks m ≡ false → (turned_guarded p (guarded_cells g) s).next ≡ true → plus ≤ guarded_trail P K plus minus p (guarded_cells g) s
  pub falls : acks m ≡ true → (turned_guarded p (guarded_cells g) s).next ≡ false → minus ≤ guarded_trail P K plus minus p (guarded_cells g) s
