-- The three points of carrying a program, each by itself, and what holds of the nets of programs.
use Rattle.std.specs.Prelude.{ℕ, List, length}
use Rattle.prs_core.specs.Nets.{NetValue}
use Rattle.env_script.specs.Scripts.{OfferValue, IsScript}
use Rattle.env_script.specs.Runs.{begin_at, after, IsRun, IsSafeRun, IsAtRest}
use Rattle.width_check.specs.Processes.{TypedProgram}
use Rattle.width_check.specs.Sharing.{MeetsSharing}
use Rattle.width_check.specs.Typing.{IsTyped}
use Rattle.chp_meaning.specs.Rounds.{rounds}
use Rattle.net_compose.specs.Carries.{IsFollowing, IsSettled, HasChannels, Carries}
use Rattle.net_compose.specs.Translation.{translation}

-- it holds of each run from the net's first values, under each script of the program's channels
abbrev pub OfEachRun : NetValue → TypedProgram → (List OfferValue → List ℕ → Type 0) → Type 0
OfEachRun net p holds =
    (script : List OfferValue) → IsScript p.channels script
    → (moves : List ℕ) → IsRun net script (begin_at net net.first) moves
    → holds script moves

-- no enabled move is disabled, no node has interference (both guards holding), and no channel leaves its phases
abbrev pub CarriesSafe : NetValue → TypedProgram → Type 0
CarriesSafe net p = OfEachRun net p (λ script moves. IsSafeRun net script (begin_at net net.first) moves)

-- after k moves each channel's history is a prefix of what it is after k rounds
abbrev pub CarriesPrefix : NetValue → TypedProgram → Type 0
CarriesPrefix net p = OfEachRun net p (λ script moves.
    IsFollowing (after net (begin_at net net.first) moves) (rounds p script (length moves)))

-- at rest it has passed all of it, and the program goes no further
abbrev pub CarriesRest : NetValue → TypedProgram → Type 0
CarriesRest net p =
    OfEachRun net p (λ script moves. IsAtRest net script (after net (begin_at net net.first) moves) →
    IsSettled (after net (begin_at net net.first) moves) (rounds p script (length moves)))

pub record HasPoints (net : NetValue) (p : TypedProgram) : Type 0 where
  pub channels : HasChannels net p
  pub safe : CarriesSafe net p
  pub prefix : CarriesPrefix net p
  pub rest : CarriesRest net p

-- the programs whose nets carry them: typed, and within the sharing rule
pub record IsTranslated (p : TypedProgram) : Type 0 where
  pub typed : IsTyped p.channels p.vars p.body
  pub sharing : MeetsSharing p.body

-- the net of each of them carries it
abbrev pub TranslationCarries : Type 0
TranslationCarries = (p : TypedProgram) → IsTranslated p → Carries (translation p) p
