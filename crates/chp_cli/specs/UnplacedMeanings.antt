-- Programs that mean the same.
use Rattle.std.specs.Prelude.{◌≡◌, ℕ, List}
use Rattle.env_script.specs.Scripts.{OfferValue}
use Rattle.width_check.specs.Processes.{TypedProgram}
use Rattle.chp_meaning.specs.Terms.{is_finished}
use Rattle.chp_meaning.specs.Rounds.{rounds}

-- under each script and after each number of rounds both have passed the same values on each channel, their variables
-- have the same values, and both have ended or neither has
pub record MeanTheSame (p q : TypedProgram) : Type 0 where
  pub passed : (script : List OfferValue) (n : ℕ) → (rounds p script n).histories ≡ (rounds q script n).histories
  pub stored : (script : List OfferValue) (n : ℕ) → (rounds p script n).store ≡ (rounds q script n).store
  pub ended : (script : List OfferValue) (n : ℕ) →
      is_finished (rounds p script n).term ≡ is_finished (rounds q script n).term
