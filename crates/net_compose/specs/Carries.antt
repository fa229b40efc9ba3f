-- What it means for a net to carry a program: whatever the environment offers and in whatever order the gates switch.
-- How the net was made plays no part in it.
use Rattle.std.specs.Prelude.{◌≡◌, ◌↔◌, ◌≤◌, ℕ, Bool, true, List, map, length, All, ◌≢◌, codes, Some, None}
use Rattle.prs_core.specs.declared.wires.Wires.{Wires}
use Rattle.prs_core.specs.Nets.{NetValue, IsNet}
use Rattle.prs_core.specs.Moves.{high}
use Rattle.reset_net.specs.Resets.{reset_of}
use Rattle.env_script.specs.Scripts.{OfferValue, IsScript}
use Rattle.env_script.specs.Runs.{RunState, history_at, begin_at, after, IsRun, IsSafeRun, IsAtRest, IsPowered, until_reset, moves_since_reset, IsOnceEach}
use Rattle.width_check.specs.Processes.{TypedProgram}
use Rattle.handshake_expand.specs.Layout.{done_node}
use Rattle.chp_meaning.specs.Terms.{Place, finished}
use Rattle.chp_meaning.specs.Steps.{Configuration, Step}
use Rattle.chp_meaning.specs.Rounds.{rounds}
use Rattle.chp_meaning.specs.Prefixes.{IsPrefixOf}

-- on each channel the circuit's history is a prefix of the program's
abbrev pub IsFollowing : RunState → Configuration → Type 0
IsFollowing st c = (k : ℕ) → IsPrefixOf (history_at st.histories k) (history_at c.histories k)

-- the circuit has passed all that the program has, which goes no further, and the answer is high exactly where it ended
pub record IsSettled (st : RunState) (c : Configuration) : Type 0 where
  pub whole : (k : ℕ) → history_at st.histories k ≡ history_at c.histories k
  pub still : (at : Place) (d : Configuration) → ¬ Step c at d
  pub answer : (high st.values done_node ≡ true) ↔ (c.term ≡ finished)

-- One run, from these first values: it is safe, its histories are prefixes of those after as many rounds of the program
-- as moves count, and it is settled with these rounds once it is at rest.
pub record IsCarrying (net : NetValue) (p : TypedProgram) (script : List OfferValue) (values : List Bool) (counted : ℕ)
    (moves : List ℕ) : Type 0 where
  pub safe : IsSafeRun net script (begin_at net values) moves
  pub prefix : IsFollowing (after net (begin_at net values) moves) (rounds p script counted)
  pub rest : IsAtRest net script (after net (begin_at net values) moves) →
      IsSettled (after net (begin_at net values) moves) (rounds p script counted)

-- the net's channels are the program's, in order
abbrev pub HasChannels : NetValue → TypedProgram → Type 0
HasChannels net p = map (λ (w : Wires). w.channel) net.channels ≡ p.channels

-- every run from the net's first values carries the program, under every script
pub record Carries (net : NetValue) (p : TypedProgram) : Type 0 where
  pub channels : HasChannels net p
  pub runs : (script : List OfferValue) → IsScript p.channels script
      → (moves : List ℕ) → IsRun net script (begin_at net net.first) moves
      → IsCarrying net p script net.first (length moves) moves

-- So does every run from power-up of a net with a reset node, where only moves count that come after reset has fallen;
-- and before that no node moves twice.
pub record CarriesReset (net : NetValue) (p : TypedProgram) : Type 0 where
  pub channels : HasChannels net p
  pub reset : (node : ℕ) × (net.reset ≡ Some node)
  pub runs : (script : List OfferValue) → IsScript p.channels script
      → (values : List Bool) → IsPowered net values
      → (moves : List ℕ) → IsRun net script (begin_at net values) moves
      → IsCarrying net p script values (moves_since_reset net.reset moves) moves
      × IsOnceEach (until_reset net.reset moves)

-- what reset is for: a net that carries a program still does so with a reset node, from every power-up state
abbrev pub ResetCarries : NetValue → TypedProgram → Type 0
ResetCarries net p = Carries net p → IsNet net → net.reset ≡ None → length net.first ≤ 65536 →
    All (λ (name : List ℕ). name ≢ codes "reset") net.names → CarriesReset (reset_of net) p
