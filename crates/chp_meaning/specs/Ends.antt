-- The results of rounds.
use Rattle.std.specs.Prelude.{◌≡◌, ℕ, suc, ◌+◌, ◌<◌, ◌≤◌, nat_lt, ◌==◌, if◌then◌else◌, Bool, true, false, List, [], ◌∷◌, length, count_by, Option, None, Some, is_some}
use Rattle.env_script.specs.Scripts.{OfferValue, IsScript}
use Rattle.width_check.specs.Typed.{TypedValue, program_of}
use Rattle.width_check.specs.Processes.{Process}
use Rattle.width_check.specs.View.{process_of}
use Rattle.chp_meaning.specs.declared.config.Config.{Config}
use Rattle.chp_meaning.specs.Remaining.{Remains}
use Rattle.chp_meaning.specs.declared.effect.Move.{Move}
use Rattle.chp_meaning.specs.declared.run.RunEnd.{RunEnd}
use Rattle.chp_meaning.specs.declared.run.RunEnd.TheVariants.{Rest, Spent, TooMany}
use Rattle.chp_meaning.specs.Terms.{Place}
use Rattle.chp_meaning.specs.Steps.{Configuration, Step, Leads, start_of}
use Rattle.chp_meaning.specs.Rounds.{rounds_from}
use Rattle.chp_meaning.specs.AtOnce.{held_values}
use Rattle.chp_meaning.specs.Standing.{IsStanding, IsPlan, HaveMoved, IsUnchanged, configuration_of, histories_of}

-- the state of a program
abbrev pub seen : TypedValue → Config → Configuration
seen program c = configuration_of (process_of program.body) c

-- the program's steps under some script of its channels lead there
abbrev pub IsReached : TypedValue → Configuration → Type 0
IsReached program c = (script : List OfferValue) × (n : ℕ) × IsScript program.channels script
    × Leads (start_of (program_of program) script) n c

-- the configuration is one of the program
pub record IsOf (program : TypedValue) (c : Config) : Type 0 where
  pub standing : IsStanding (process_of program.body) c
  pub reached : IsReached program (seen program c)
  pub channels : length (seen program c).histories ≡ length program.channels

abbrev pub CanStep : Configuration → Type 0
CanStep c = (at : Place) × (d : Configuration) × Step c at d

-- how many values have passed, on all channels together
abbrev pub held_in : Configuration → ℕ
held_in c = held_values c.histories

-- From the first configuration n rounds are wanted, and the histories may hold so many values. They would hold more,
-- and this is the last configuration in which they don't; or they hold no more, and no step is left, or one is.
abbrev pub IsEnd : (n most : ℕ) → Configuration → Configuration → RunEnd → Type 0
IsEnd n most old new TooMany = (most < held_in (rounds_from old n))
    × ((k : ℕ) × (k < n) × (new ≡ rounds_from old k) × (held_in new ≤ most)
    × (most < held_in (rounds_from old (suc k))))
IsEnd n most old new Rest = (held_in (rounds_from old n) ≤ most) × (new ≡ rounds_from old n) × ¬ CanStep new
IsEnd n most old new Spent = (held_in (rounds_from old n) ≤ most) × (new ≡ rounds_from old n) × CanStep new

-- this is the configuration after some number of rounds, at most n
abbrev pub IsWithin : (n : ℕ) → Configuration → Configuration → Type 0
IsWithin n old new = (k : ℕ) × (k ≤ n) × (new ≡ rounds_from old k)

-- the moves of some steps
abbrev pub is_some_step : {X : Type 0} → List X → Bool
is_some_step [] = false
is_some_step (x ∷ xs) = true

-- after rounds that could be followed by these moves
abbrev pub end_by : {X : Type 0} → List X → RunEnd
end_by [] = Rest
end_by (x ∷ xs) = Spent

-- before a round of these moves, where so many values have passed, and no more than most may
abbrev pub end_before : List Move → ℕ → ℕ → Option RunEnd
end_before moves count most =
    if length moves == 0 then Some Rest else (
    if nat_lt most (count + count_by (λ (step : Move). is_some step.pass) moves) then Some TooMany else None)

-- The next round of a program that does this was made, by these moves; or the run ends before it, and nothing is
-- changed.
abbrev pub IsNext : Process → (most : ℕ) → Config → Config → Option RunEnd → Type 0
IsNext body most old new None = (left : Remains) × (moves : List Move) × IsPlan body old left moves
    × HaveMoved old new left moves
    × (held_values (histories_of old) + count_by (λ (step : Move). is_some step.pass) moves ≤ most)
IsNext body most old new (Some end) = (left : Remains) × (moves : List Move) × IsPlan body old left moves
    × IsUnchanged old new × (end_before moves (held_values (histories_of old)) most ≡ Some end)

-- after the last round of a program that does this
abbrev pub IsEndBy : Process → Config → RunEnd → Type 0
IsEndBy body c end = (left : Remains) × (moves : List Move) × IsPlan body c left moves × (end ≡ end_by moves)
