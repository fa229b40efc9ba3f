-- How the histories of a run compare with those of a program's rounds.
use Rattle.std.specs.Prelude.{◌≡◌, ◌≢◌, ℕ, ◌<◌, List, [], ◌∷◌, ◌++◌, length, take, slice_get, codes, decimal}
use Rattle.std.specs.List.{concat}
use Rattle.prs_core.specs.Nets.{NetValue}
use Rattle.env_script.specs.Environment.{net_channels}
use Rattle.env_script.specs.Runs.{history_at}
use Rattle.env_script.specs.Scripts.{OfferValue}
use Rattle.event_sim.specs.Passing.{values_through}
use Rattle.event_sim.specs.Simulating.{RanValue}
use Rattle.width_check.specs.Processes.{TypedProgram}
use Rattle.chp_meaning.specs.Prefixes.{IsPrefixOf}
use Rattle.chp_meaning.specs.Rounds.{rounds}
use Rattle.history_report.specs.declared.comparison.Against.{Against}
use Rattle.history_report.specs.declared.comparison.Against.TheVariants.{Agrees, Channels, Differs}
use Rattle.history_report.specs.Reports.{channel_name}

-- The first index at which the first list differs from the second: before it they are alike, and there the first has a
-- number that the second doesn't have there.
pub record IsFirstDifference (xs ys : List ℕ) (place : ℕ) : Type 0 where
  pub alike : take place xs ≡ take place ys
  pub within : place < length xs
  pub differs : slice_get xs place ≢ slice_get ys place

-- what has passed on the channel of this number in the run
abbrev pub run_history : RanValue → (chan : ℕ) → List ℕ
run_history r chan = values_through chan r.passed

-- and in as many rounds of the program as the run has moves
abbrev pub rounds_history : RanValue → TypedProgram → List OfferValue → (chan : ℕ) → List ℕ
rounds_history r p script chan = history_at (rounds p script r.moves).histories chan

abbrev pub IsBehindRounds : RanValue → TypedProgram → List OfferValue → (chan : ℕ) → Type 0
IsBehindRounds r p script chan = IsPrefixOf (run_history r chan) (rounds_history r p script chan)

-- The run's net has other channels than the program. Or it has the same, and on the first channel on which the run's
-- history is no prefix of that of the rounds this is the first index that differs. Or it is a prefix on each.
abbrev pub IsAgainst : RanValue → TypedProgram → List OfferValue → Against → Type 0
IsAgainst r p script Channels = net_channels r.net ≢ p.channels
IsAgainst r p script (Differs chan place) = (net_channels r.net ≡ p.channels) × (chan < length p.channels)
    × ((earlier : ℕ) → earlier < chan → IsBehindRounds r p script earlier)
    × IsFirstDifference (run_history r chan) (rounds_history r p script chan) place
IsAgainst r p script Agrees = (net_channels r.net ≡ p.channels)
    × ((chan : ℕ) → chan < length p.channels → IsBehindRounds r p script chan)

-- the channel is one of the net's
abbrev pub IsAgainstIn : NetValue → Against → Type 0
IsAgainstIn net (Differs chan place) = chan < length net.channels
IsAgainstIn net _ = Unit {0}

-- the line of a report that states it
abbrev pub against_line : NetValue → Against → List ℕ
against_line net Agrees = codes "against agrees\n"
against_line net Channels = codes "against channels\n"
against_line net (Differs chan place) =
    concat (codes "against differs " ∷ channel_name net chan ∷ codes " at " ∷ decimal place ∷ codes "\n" ∷ [])
