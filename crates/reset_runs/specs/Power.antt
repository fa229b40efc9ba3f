-- What the runs of a net with a reset node are, from power-up on.
use Rattle.std.specs.Prelude.{◌≡◌, ◌⊎◌, ℕ, Bool, false, List, [], ◌∷◌, ◌++◌, length, replicate}
use Rattle.prs_core.specs.Nets.{NetValue}
use Rattle.reset_net.specs.Resets.{reset_of}
use Rattle.env_script.specs.Scripts.{OfferValue}
use Rattle.env_script.specs.Runs.{RunState, IsRun, IsSafeRun, IsAtRest, IsPowered, IsOnceEach, after, begin_at, run_start, until_reset, moves_since_reset}

-- a state of the net without its reset node, as one of the net with it: reset has fallen
abbrev pub with_low : RunState → RunState
with_low st = record { values = st.values ++ false ∷ []; histories = st.histories }

-- A run in which reset hasn't fallen: it is safe, nothing has passed, no move counts, and something may still move.
pub record IsBefore (net : NetValue) (script : List OfferValue) (st : RunState) (moves : List ℕ) : Type 0 where
  pub whole : until_reset (reset_of net).reset moves ≡ moves
  pub safe : IsSafeRun (reset_of net) script st moves
  pub nothing : (after (reset_of net) st moves).histories ≡ replicate (length net.channels) []
  pub counted : moves_since_reset (reset_of net).reset moves ≡ 0
  pub goes : ¬ IsAtRest (reset_of net) script (after (reset_of net) st moves)

-- A run in which it has: it fell when all nodes had their first values, and the moves since then are a run of the net
-- without it, with the same values and histories; where that one is safe, this one is.
pub record AfterReset (net : NetValue) (script : List OfferValue) (st : RunState) (moves : List ℕ) : Type 0 where
  pub since : List ℕ
  pub whole : moves ≡ until_reset (reset_of net).reset moves ++ length net.first ∷ since
  pub at_first : after (reset_of net) st (until_reset (reset_of net).reset moves) ≡ run_start (reset_of net)
  pub run : IsRun net script (run_start net) since
  pub counted : moves_since_reset (reset_of net).reset moves ≡ length since
  pub ends : after (reset_of net) st moves ≡ with_low (after net (run_start net) since)
  pub safe : IsSafeRun net script (run_start net) since → IsSafeRun (reset_of net) script st moves
  pub rests : IsAtRest (reset_of net) script (after (reset_of net) st moves) →
      IsAtRest net script (after net (run_start net) since)

-- and before reset falls no node moves twice
pub record IsResetRun (net : NetValue) (script : List OfferValue) (st : RunState) (moves : List ℕ) : Type 0 where
  pub once : IsOnceEach (until_reset (reset_of net).reset moves)
  pub course : IsBefore net script st moves ⊎ AfterReset net script st moves

-- each run of the net with a reset node, from every power-up state and under every script
abbrev pub EachFromPower : NetValue → Type 0
EachFromPower net =
    (script : List OfferValue) (values : List Bool)
    → IsPowered (reset_of net) values
    → (moves : List ℕ)
    → IsRun (reset_of net) script (begin_at (reset_of net) values) moves
    → IsResetRun net script (begin_at (reset_of net) values) moves
