-- What a run of rounds takes.
use Rattle.std.specs.Prelude.{◌≡◌, ◌⊎◌, ◌≤◌, ◌<◌, ℕ, suc}
use Rattle.width_check.specs.Processes.{TypedProgram}
use Rattle.handshake_expand.specs.Layout.{capped}
use Rattle.chp_meaning.specs.Steps.{Configuration}
use Rattle.chp_meaning.specs.Rounds.{rounds_from}
use Rattle.chp_meaning.specs.Ends.{CanStep}
use Rattle.round_time.specs.Longest.{first}
use Rattle.round_time.specs.Sums.{sum_from}
use Rattle.pace_bound.specs.declared.rounds.RunSum.{RunSum}

-- From this configuration on, the program's first one, so many rounds were made, each with a step, and so many at most
-- were to be made; and they take so many moves at most.
pub record IsRunSum (P : TypedProgram) (c : Configuration) (most : ℕ) (run : RunSum) : Type 0 where
  pub sum : run.sum ≡ capped (sum_from P (suc (first P P.body)) c run.rounds)
  pub few : run.rounds ≤ most
  pub ends : (run.rounds ≡ most) ⊎ (¬ CanStep (rounds_from c run.rounds))
  pub goes_on : (k : ℕ) → k < run.rounds → CanStep (rounds_from c k)
