-- Runs that were made, by an order, by delays or on a bench, and what is said of one.
use Rattle.std.specs.Prelude.{◌≡◌, ℕ, ◌≤◌, List, length, Option}
use Rattle.chp_meaning.specs.Rounds.{rounds}
use Rattle.delay_script.specs.DelayTables.{DelayTable}
use Rattle.env_script.specs.OneLength.{EndsAll}
use Rattle.env_script.specs.Runs.{RunState, after}
use Rattle.env_script.specs.Scripts.{OfferValue}
use Rattle.event_sim.specs.declared.ran.End.{End}
use Rattle.event_sim.specs.declared.ran.End.TheVariants.{AtRest}
use Rattle.net_compose.specs.Carries.{IsFollowing, IsSettled}
use Rattle.prs_core.specs.Nets.{NetValue}
use Rattle.width_check.specs.Processes.{TypedProgram}

-- the delays by which a run was made, and when its last move came
pub record RunTiming : Type 0 where
  pub delays : DelayTable
  pub time : ℕ

-- The moves that were made in a net under a script from a state, how many were allowed, and how the run ended; and its
-- timing, where it was made by delays.
pub record MadeRun : Type 0 where
  pub net : NetValue
  pub script : List OfferValue
  pub start : RunState
  pub moves : List ℕ
  pub steps : ℕ
  pub end : End
  pub timing : Option RunTiming

abbrev pub made_run : NetValue → List OfferValue → (start : RunState) → (moves : List ℕ) → (steps : ℕ) → End →
    Option RunTiming → MadeRun
made_run net script start moves steps end timing = record {
  net = net;
  script = script;
  start = start;
  moves = moves;
  steps = steps;
  end = end;
  timing = timing;
}

abbrev pub last_state : MadeRun → RunState
last_state run = after run.net run.start run.moves

-- where it ended at rest, no run from that state under that script has more moves, and each one that rests has as many,
-- of each node as many
abbrev pub EndsAllAtRest : MadeRun → Type 0
EndsAllAtRest run = run.end ≡ AtRest → EndsAll run.net run.script run.start run.moves

-- It has passed on each channel a prefix of what as many rounds of the program as it has moves pass under the script;
-- and at rest all that the program passes, which goes no further after some round.
pub record FollowsRounds (p : TypedProgram) (run : MadeRun) : Type 0 where
  pub prefix : IsFollowing (last_state run) (rounds p run.script (length run.moves))
  pub rest : run.end ≡ AtRest → (n : ℕ) × (n ≤ length run.moves)
      × IsSettled (last_state run) (rounds p run.script n)
