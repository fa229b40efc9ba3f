-- Since which move of a run a node's move is enabled.
use Rattle.std.specs.Prelude.{◌≡◌, ◌≢◌, ◌⊎◌, ℕ, ◌+◌, ◌<◌, ◌≤◌, Bool, true, false, List, length, take, slice_index}
use Rattle.prs_core.specs.Nets.{NetValue}
use Rattle.env_script.specs.Scripts.{OfferValue}
use Rattle.env_script.specs.Runs.{RunState, move_enabled, after}

-- the node's move is enabled after the first so many moves of the run
abbrev pub enabled_behind : NetValue → List OfferValue → RunState → List ℕ → ℕ → ℕ → Bool
enabled_behind net script st ns count n = move_enabled net script (after net st (take count ns)) n

-- After the run the node's move is enabled since the move of this number, counted from 1, or since the start where it
-- is 0: it is enabled after this move and after each later one, no later move is its own, and this move is its own or
-- was made while it was not enabled.
pub record IsEnabledSince (net : NetValue) (script : List OfferValue) (st : RunState) (ns : List ℕ)
    (n number : ℕ) : Type 0
  where
    pub within : number ≤ length ns
    pub stays : (k : ℕ) → number ≤ k → k ≤ length ns → enabled_behind net script st ns k n ≡ true
    pub others : (k : ℕ) → number ≤ k → k < length ns → slice_index ns k ≢ n
    pub begins : (k : ℕ) → k + 1 ≡ number → (slice_index ns k ≡ n) ⊎ (enabled_behind net script st ns k n ≡ false)
