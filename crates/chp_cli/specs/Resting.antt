-- A run of a net that `compile` writes comes to rest where its program does, and a timed one keeps up with its rounds.
use Rattle.std.specs.Prelude.{◌≡◌, ◌⊎◌, ℕ, suc, ◌+◌, ◌*◌, ◌<◌, ◌≤◌, Bool, true, false, IfSome}
use Rattle.delay_script.specs.DelayTables.{TakesAtMost}
use Rattle.event_sim.specs.declared.ran.End.TheVariants.{AtRest}
use Rattle.chp_meaning.specs.Rounds.{rounds}
use Rattle.chp_meaning.specs.Steps.{Configuration}
use Rattle.net_compose.specs.Progress.{RestsAfter, IsLevel}
use Rattle.net_compose.specs.Time.{HasPassed}
use Rattle.width_check.specs.Processes.{TypedProgram}
use Rattle.call_map.specs.CallPace.{IsMost}
use Rattle.net_pace.specs.Pace.{IsRoundTime}
use Rattle.program_commands.specs.Bodies.{Bodies, copied, shared, most_with, nodes_with}
use Rattle.chp_cli.specs.MadeRuns.{MadeRun, RunTiming, last_state}

-- the most moves of a run of the net that is written for a program, where that makes m steps and those of the net with
-- copies are given: with a reset node each node moves once at most before reset has fallen
abbrev pub most_in_run : (reset : Bool) → {p : TypedProgram} → Bodies p → (most : ℕ → ℕ) → (m : ℕ) → ℕ
most_in_run false bodies most m = most_with bodies most m
most_in_run true bodies most m = suc (nodes_with bodies) + most_with bodies most m

-- Where the program goes no further after m steps under the script, and more moves are allowed than its net can make
-- till then, by any of its bounds, the run ends at rest: it has passed what the program has, and `done` is high exactly
-- where that has ended.
abbrev pub RestsInTime : (reset : Bool) → {p : TypedProgram} → Bodies p → MadeRun → Type 0
RestsInTime reset {p} bodies run =
    (most : ℕ → ℕ) (m : ℕ) (c : Configuration) → IsMost p most → RestsAfter p run.script m c →
    most_in_run reset bodies most m < run.steps → (run.end ≡ AtRest) × IsLevel (last_state run) c

-- of the net with these bodies, where so many sweeps of the net with copies are enough for a round
abbrev pub sweeps_with : {p : TypedProgram} → Bodies p → (sweeps : ℕ) → ℕ
sweeps_with copied sweeps = sweeps
sweeps_with (shared h) sweeps = 2 * sweeps

-- how many delays are then enough for what n rounds of the program pass: with a reset node two at the beginning besides
abbrev pub delays_for : (reset : Bool) → {p : TypedProgram} → Bodies p → (sweeps n : ℕ) → ℕ
delays_for false bodies sweeps n = n * sweeps_with bodies sweeps
delays_for true bodies sweeps n = suc (suc (n * sweeps_with bodies sweeps))

-- where the program comes to rest and no move takes longer than some time, the last one comes by that time multiplied
-- by the most moves
abbrev pub LastsAtMost : (reset : Bool) → {p : TypedProgram} → Bodies p → MadeRun → RunTiming → Type 0
LastsAtMost reset {p} bodies run timing =
    (slowest : ℕ) (most : ℕ → ℕ) (m : ℕ) (c : Configuration) → TakesAtMost slowest timing.delays →
    IsMost p most → RestsAfter p run.script m c → timing.time ≤ slowest * most_in_run reset bodies most m

-- Where no move takes longer than some time, a timed run whose last move comes later than so many of these times, by
-- either bound for a round, or that comes to rest, has passed all that n rounds of the program pass.
abbrev pub KeepsUp : (reset : Bool) → {p : TypedProgram} → Bodies p → MadeRun → RunTiming → Type 0
KeepsUp reset {p} bodies run timing =
    (slowest sweeps n : ℕ) → TakesAtMost slowest timing.delays → IsRoundTime p sweeps →
    (delays_for reset bodies sweeps n * slowest < timing.time) ⊎ (run.end ≡ AtRest)
    → HasPassed (last_state run) (rounds p run.script n)

-- how soon the moves of a timed run come
pub record IsInTime (reset : Bool) {p : TypedProgram} (bodies : Bodies p) (run : MadeRun) (timing : RunTiming) : Type 0
  where
    pub lasts : LastsAtMost reset bodies run timing
    pub keeps_up : KeepsUp reset bodies run timing

-- It comes to rest where the program does, if its limit is high enough; and a timed one does it in time, and keeps up
-- with the rounds of the program.
pub record KeepsPaceWith (reset : Bool) {p : TypedProgram} (bodies : Bodies p) (run : MadeRun) : Type 0 where
  pub rests : RestsInTime reset bodies run
  pub timed : IfSome run.timing (IsInTime reset bodies run)
