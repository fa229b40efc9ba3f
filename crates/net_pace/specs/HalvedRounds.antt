-- How soon a program in halves has passed what the program passes.
use Rattle.std.specs.Prelude.{◌*◌, ℕ, List}
use Rattle.env_script.specs.Scripts.{OfferValue, IsScript}
use Rattle.width_check.specs.Processes.{TypedProgram}
use Rattle.width_check.specs.Typing.{IsTyped}
use Rattle.width_check.specs.Sharing.{MeetsSharing}
use Rattle.chp_meaning.specs.Rounds.{rounds}
use Rattle.chp_meaning.specs.Laws.{IsBehind}
use Rattle.chp_meaning.specs.Halves.{halved_program}

-- two rounds of a program in halves have passed what a round of the program has, and maybe more
abbrev pub TwoRoundsForOne : Type 0
TwoRoundsForOne =
    (p : TypedProgram) (script : List OfferValue) → IsTyped p.channels p.vars p.body → MeetsSharing p.body
    → IsScript p.channels script
    → (n : ℕ) → IsBehind (rounds p script n) (rounds (halved_program p) script (n * 2))
