-- A net keeps pace with its program; so where that comes to rest, each run of the net comes to rest settled with it.
use Rattle.std.specs.Prelude.{◌≡◌, ◌≢◌, ◌↔◌, ℕ, suc, ◌*◌, ◌≤◌, Bool, true, List, ◌++◌, length, All, Option, Some, None, codes}
use Rattle.prs_core.specs.Nets.{NetValue, IsNet}
use Rattle.prs_core.specs.Moves.{high}
use Rattle.reset_net.specs.Resets.{reset_of}
use Rattle.env_script.specs.Scripts.{OfferValue, IsScript}
use Rattle.env_script.specs.Runs.{RunState, history_at, begin_at, after, IsRun, IsAtRest, IsPowered, moves_since_reset}
use Rattle.width_check.specs.Processes.{TypedProgram}
use Rattle.handshake_expand.specs.Layout.{done_node, nodes_of}
use Rattle.chp_meaning.specs.Terms.{Place, finished}
use Rattle.chp_meaning.specs.Steps.{Configuration, Step, Leads, start_of}
use Rattle.chp_meaning.specs.Halves.{ReadsNoTarget}
use Rattle.net_compose.specs.Points.{IsTranslated}
use Rattle.net_compose.specs.Translation.{translation}

-- under the script the program goes no further after m steps, in this configuration
pub record RestsAfter (p : TypedProgram) (script : List OfferValue) (m : ℕ) (c : Configuration) : Type 0 where
  pub leads : Leads (start_of p script) m c
  pub still : (at : Place) (d : Configuration) → ¬ Step c at d

-- the circuit has passed all that the program has, and the answer is high exactly where that has ended
pub record IsLevel (st : RunState) (c : Configuration) : Type 0 where
  pub whole : (k : ℕ) → history_at st.histories k ≡ history_at c.histories k
  pub answer : (high st.values done_node ≡ true) ↔ (c.term ≡ finished)

-- how many moves of a run are counted: all, or of a net with a reset node those after its fall
abbrev pub counted_moves : (reset : Option ℕ) → List ℕ → ℕ
counted_moves None moves = length moves
counted_moves (Some node) moves = moves_since_reset (Some node) moves

-- Each run from these values has passed what some run of the program has, of m steps, and no more of its moves are
-- counted than the most for m steps.
abbrev pub KeepsPace : NetValue → TypedProgram → (most : ℕ → ℕ) → (values : List Bool) → Type 0
KeepsPace net p most values =
    (script : List OfferValue) → IsScript p.channels script
    → (moves : List ℕ) → IsRun net script (begin_at net values) moves
    → (m : ℕ) × (c : Configuration) × Leads (start_of p script) m c
    × ((k : ℕ) → history_at (after net (begin_at net values) moves).histories k ≡ history_at c.histories k)
    × (counted_moves net.reset moves ≤ most m)

-- it holds of each run from these values, where the program goes no further after m steps under the run's script
abbrev pub WhereItRests : NetValue → TypedProgram → (values : List Bool)
    → (ℕ → Configuration → List OfferValue → List ℕ → Type 0) → Type 0
WhereItRests net p values holds =
    (script : List OfferValue) → IsScript p.channels script
    → (m : ℕ) (c : Configuration) → RestsAfter p script m c
    → (moves : List ℕ) → IsRun net script (begin_at net values) moves
    → holds m c script moves

-- From these values the net keeps pace with the program. Where that comes to rest, so many moves of a run count at
-- most, each run goes on to one at rest, and that is level with the program.
pub record ProgressesFrom (net : NetValue) (p : TypedProgram) (most : ℕ → ℕ) (values : List Bool) : Type 0 where
  pub pace : KeepsPace net p most values
  pub bounded : WhereItRests net p values (λ m c script moves. counted_moves net.reset moves ≤ most m)
  pub rests : WhereItRests net p values (λ m c script moves. (more : List ℕ)
      × IsRun net script (begin_at net values) (moves ++ more)
      × IsAtRest net script (after net (begin_at net values) (moves ++ more)))
  pub level : WhereItRests net p values (λ m c script moves.
      IsAtRest net script (after net (begin_at net values) moves) → IsLevel (after net (begin_at net values) moves) c)

-- two moves of each node before the first step, between any two, and after the last
abbrev pub plain_most_moves : TypedProgram → (m : ℕ) → ℕ
plain_most_moves p m = 2 * nodes_of p * suc m

-- where an assignment that reads its own target is two steps, and every other step is counted twice too
abbrev pub most_moves : TypedProgram → (m : ℕ) → ℕ
most_moves p m = 2 * nodes_of p * suc (2 * m)

-- every run from the net's first values makes progress with the program
abbrev pub Progresses : NetValue → TypedProgram → Type 0
Progresses net p = ProgressesFrom net p (most_moves p) net.first

-- and every run from power-up of a net with a reset node, where only moves count that come after reset has fallen
abbrev pub ProgressesReset : NetValue → TypedProgram → Type 0
ProgressesReset net p = (values : List Bool) → IsPowered net values → ProgressesFrom net p (most_moves p) values

-- what holds of the runs of a net holds of those that it has with a reset node
abbrev pub ResetProgresses : NetValue → TypedProgram → (most : ℕ → ℕ) → Type 0
ResetProgresses net p most = ProgressesFrom net p most net.first → IsNet net → net.reset ≡ None →
    All (λ (name : List ℕ). name ≢ codes "reset") net.names →
    (values : List Bool) → IsPowered (reset_of net) values → ProgressesFrom (reset_of net) p most values

-- the net of each typed program that meets the sharing rule
abbrev pub TranslationProgresses : Type 0
TranslationProgresses = (p : TypedProgram) → IsTranslated p → Progresses (translation p) p

abbrev pub PlainTranslationProgresses : Type 0
PlainTranslationProgresses = (p : TypedProgram) → IsTranslated p → ReadsNoTarget p.body →
    ProgressesFrom (translation p) p (plain_most_moves p) (translation p).first
