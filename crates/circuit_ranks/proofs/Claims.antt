-- What is said of two moves, of which the second is silent behind the first: that has a rank below a number, as below that of the first where this is
-- silent too; or it was silent before, and has no higher rank than then.
--
-- P: the program; r: how the state x is reached; n, m: nodes; s, q: spots.
use Rattle.std.proofs.Common.{◌≡◌, ◌≢◌, ℕ, ◌<◌, ◌≤◌, Bool, true, false, List, ap, inl, inr}
use Rattle.std.specs.Prelude.{◌⊎◌}
use Rattle.env_script.specs.Scripts.{OfferValue}
use Rattle.width_check.specs.Processes.{Process, TypedProgram}
use Rattle.chp_meaning.specs.Steps.{Configuration}
use Rattle.circuit_places.specs.Circuit.{GuardedSpot}
use Rattle.circuit_places.specs.Whole.{Whole, Node, own_node, enabled, cells_moved}
use Rattle.circuit_places.proofs.Stepping.{guarded_steps}
use Rattle.circuit_places.proofs.System.{Fitted}
use Rattle.circuit_places.proofs.Carry.{Reached, next_reached}
use Rattle.circuit_time.proofs.Levels.{Silent}
use Rattle.circuit_ranks.proofs.Ranks.{rank}

abbrev pub is_far : {p : _} → Node p → Bool
is_far (own_node s) = false
is_far _ = true

-- the spot of an own node, or this one
abbrev spot_in : {p : Process} → GuardedSpot p → Node p → GuardedSpot p
spot_in s (own_node q) = q
spot_in s n = s

module _ (P : TypedProgram) (script : List OfferValue) (fitted : Fitted P script) where
  -- behind n, m has a rank below R, or was silent before and has no higher rank than then
  abbrev pub LowerThan : {from : Configuration} {moves : ℕ} {x : Whole P.body} → Reached P script from moves x → (R : ℕ) (n m : Node P.body) → Type 0
  LowerThan {x = x} r R n m = (rank P (cells_moved P x n) m < R)
      ⊎ ((n ≢ m) × Silent P script fitted (rank P) r m × (rank P (cells_moved P x n) m ≤ rank P x m))

  abbrev pub Lowered : {from : Configuration} {moves : ℕ} {x : Whole P.body} → Reached P script from moves x → (n m : Node P.body) → Type 0
  Lowered {x = x} r n m = (s : Silent P script fitted (rank P) r n) → Silent P script fitted (rank P) (next_reached P script fitted r n s.on) m
      → LowerThan r (rank P x n) n m

  -- of two own nodes, from what is said of their spots
  pub of_spots : {from : Configuration} {moves : ℕ} {x : Whole P.body} (r : Reached P script from moves x) {R : ℕ} (s q : GuardedSpot P.body)
      → (rank P (cells_moved P x (own_node s)) (own_node q) < R)
      ⊎ ((s ≢ q) × (enabled P script x (own_node q) ≡ true) × (guarded_steps r.place q ≡ false)
      × (rank P (cells_moved P x (own_node s)) (own_node q) ≤ rank P x (own_node q)))
      → LowerThan r R (own_node s) (own_node q)
  of_spots r s q (inl less) = inl less
  of_spots r s q (inr (ne, on, still, upto)) = inr ((λ e. ne (ap (spot_in s) e)), record { on = on; still = still }, upto)
