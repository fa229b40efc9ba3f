-- How soon a net passes what its program passes, counted in sweeps. No times occur in it: what follows for timed runs,
-- in which each node's rise and its fall have a fixed delay, is said by `TimedPace` of `net_pace`.
use Rattle.std.specs.Prelude.{◌≡◌, ◌*◌, ℕ, suc, List, ◌++◌}
use Rattle.prs_core.specs.Nets.{NetValue}
use Rattle.env_script.specs.Scripts.{OfferValue, IsScript}
use Rattle.env_script.specs.Runs.{RunState, history_at, begin_at, after, IsRun}
use Rattle.env_script.specs.Sweeps.{Sweeps, Layers}
use Rattle.width_check.specs.Processes.{TypedProgram}
use Rattle.handshake_expand.specs.Layout.{nodes_of}
use Rattle.chp_meaning.specs.Steps.{Configuration}
use Rattle.chp_meaning.specs.Rounds.{rounds}

-- on each channel the circuit has passed all that the program has, and maybe more
abbrev pub HasPassed : RunState → Configuration → Type 0
HasPassed st c = (k : ℕ) → (rest : List ℕ) × (history_at st.histories k ≡ history_at c.histories k ++ rest)

-- Each run from the net's first values, under every script and in every order, whose moves begin with so many sweeps
-- for each of n rounds of the program, has passed what these pass.
abbrev pub KeepsTime : NetValue → TypedProgram → (sweeps : ℕ) → Type 0
KeepsTime net p sweeps =
    (script : List OfferValue) → IsScript p.channels script
    → (moves : List ℕ) → IsRun net script (begin_at net net.first) moves
    → (n : ℕ) → Sweeps net script (begin_at net net.first) (n * sweeps) moves
    → HasPassed (after net (begin_at net net.first) moves) (rounds p script n)

-- Each run from the net's first values, in every order, whose moves begin with so many sweeps, has passed what n rounds
-- of the program pass under the script.
abbrev pub PassesInSweeps : NetValue → TypedProgram → List OfferValue → (n sweeps : ℕ) → Type 0
PassesInSweeps net p script n sweeps =
    (moves : List ℕ) → IsRun net script (begin_at net net.first) moves
    → Sweeps net script (begin_at net net.first) sweeps moves
    → HasPassed (after net (begin_at net net.first) moves) (rounds p script n)

-- One run of so many layers has passed what n rounds of the program pass under the script.
abbrev pub PassesInLayers : NetValue → TypedProgram → List OfferValue → (n layers : ℕ) → Type 0
PassesInLayers net p script n layers =
    (moves : List ℕ) × Layers net script (begin_at net net.first) layers moves
    × HasPassed (after net (begin_at net net.first) moves) (rounds p script n)

-- So it is for each number of rounds in as many layers for each.
abbrev pub HasLayers : NetValue → TypedProgram → (layers : ℕ) → Type 0
HasLayers net p layers =
    (script : List OfferValue) → IsScript p.channels script → (n : ℕ) → PassesInLayers net p script n (n * layers)

-- two sweeps for each node and one more, for each round
abbrev pub sweeps_for_round : TypedProgram → ℕ
sweeps_for_round p = suc (2 * nodes_of p)
