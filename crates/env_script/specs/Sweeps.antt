-- How far a run has come at least, whatever the scheduler: sweeps, in each of which every node moves that was enabled
-- when it began, and layers, which make no move that wasn't.
use Rattle.std.specs.Prelude.{◌≡◌, ℕ, zero, suc, true, List, [], ◌∷◌, ◌++◌, Contains}
use Rattle.prs_core.specs.Nets.{NetValue}
use Rattle.env_script.specs.Scripts.{OfferValue}
use Rattle.env_script.specs.Runs.{RunState, move_enabled, IsRun, after}
use Rattle.env_script.specs.OneLength.{times_moved}

-- each node whose move is enabled in the state moves in the sweep, the environment's too
abbrev pub IsSweep : NetValue → List OfferValue → RunState → List ℕ → Type 0
IsSweep net script st ns = (n : ℕ) → move_enabled net script st n ≡ true → Contains ns n

-- the moves begin with so many sweeps, one after the other
abbrev pub Sweeps : NetValue → List OfferValue → RunState → (count : ℕ) → List ℕ → Type 0
Sweeps net script st zero ns = Unit {0}
Sweeps net script st (suc k) ns = (sweep : List ℕ) × (later : List ℕ) × (ns ≡ sweep ++ later)
    × IsSweep net script st sweep × Sweeps net script (after net st sweep) k later

-- each move of the layer is enabled in the state, and no node moves twice in it
abbrev pub IsLayer : NetValue → List OfferValue → RunState → List ℕ → Type 0
IsLayer net script st [] = Unit {0}
IsLayer net script st (n ∷ ns) = (move_enabled net script st n ≡ true) × (¬ Contains ns n) × IsLayer net script st ns

-- the moves are so many layers, one after the other
abbrev pub Layers : NetValue → List OfferValue → RunState → (count : ℕ) → List ℕ → Type 0
Layers net script st zero ns = ns ≡ []
Layers net script st (suc k) ns = (layer : List ℕ) × (later : List ℕ) × (ns ≡ layer ++ later)
    × IsLayer net script st layer × Layers net script (after net st layer) k later

-- the run ns comes to the state that making ms and then some others comes to, and moves each node as often
pub record Overtakes (net : NetValue) (script : List OfferValue) (st : RunState) (ms ns : List ℕ) : Type 0 where
  pub rest : List ℕ
  pub run : IsRun net script st (ms ++ rest)
  pub state : after net st (ms ++ rest) ≡ after net st ns
  pub each : (node : ℕ) → times_moved node (ms ++ rest) ≡ times_moved node ns
