-- What adversarial devices offer and take, by how many notes they have.
use Rattle.std.specs.Prelude.{ℕ, ◌-◌, ◌%◌, ◌^◌, ◌==◌, if◌then◌else◌, Bool, true, false, List, Option, Some, None, codes}
use Rattle.chp_rows.specs.declared.peers.Mood.{Mood}
use Rattle.chp_rows.specs.declared.peers.Mood.TheVariants.{Mute, Deaf, Greedy, Fickle}

abbrev pub mood_name : Mood → List ℕ
mood_name Mute = codes "mute"
mood_name Deaf = codes "deaf"
mood_name Greedy = codes "greedy"
mood_name Fickle = codes "fickle"

abbrev pub mood_due : Mood → (notes width : ℕ) → Option ℕ
mood_due Mute notes width = None
mood_due Deaf notes width = Some (notes % 2 ^ width)
mood_due Greedy notes width = Some (2 ^ width - 1)
mood_due Fickle notes width = if notes % 3 == 0 then None else Some (notes % 2 ^ width)

abbrev pub mood_willing : Mood → (notes : ℕ) → Bool
mood_willing Mute notes = true
mood_willing Deaf notes = false
mood_willing Greedy notes = true
mood_willing Fickle notes = notes % 2 == 0
