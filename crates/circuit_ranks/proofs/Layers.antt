-- From its first state the circuit of each covered program whose assignments don't read their own target makes n rounds in n times `longest` layers of
-- moves, where silent moves lower ranks.
--
-- P: the program; s: its script; n: how many rounds.
use Rattle.std.proofs.Common.{◌≡◌, ℕ, ◌*◌, List, ◌++◌, length}
use Rattle.env_script.specs.Scripts.{OfferValue, IsScript}
use Rattle.env_script.specs.Runs.{history_at}
use Rattle.width_check.specs.Processes.{TypedProgram}
use Rattle.chp_meaning.specs.Halves.{IsPlain}
use Rattle.chp_meaning.specs.Rounds.{rounds}
use Rattle.chp_meaning.proofs.Fitting.{opened_fits, meeting_sound}
use Rattle.circuit_places.specs.Whole.{Node, first_cells, at_first}
use Rattle.circuit_places.proofs.Trees.{TreesSettle}
use Rattle.circuit_places.proofs.Meets.{ExpressionsHold}
use Rattle.circuit_places.proofs.System.{Fitted}
use Rattle.circuit_places.proofs.Carry.{fits, reached}
use Rattle.round_time.specs.Longest.{longest}
use Rattle.circuit_time.proofs.Levels.{AreSpread, spread_behind, LowersRanks}
use Rattle.circuit_ranks.proofs.Ranks.{rank}
use Rattle.circuit_ranks.proofs.AllBelow.{rounds_in_layers}

-- for each number of rounds so many layers of moves have passed what they pass
abbrev pub RoundsInLayers : Type 0
RoundsInLayers = (P : TypedProgram) → IsPlain P → (script : List OfferValue) → IsScript P.channels script → (n : ℕ)
    → (layers : List (List (Node P.body))) × (length layers ≡ n * longest P) × AreSpread P script (first_cells P) layers
    × ((k : ℕ) → (rest : List ℕ) × (history_at (spread_behind P (first_cells P) layers).histories k ≡ history_at (rounds P script n).histories k ++ rest))

-- silent moves lower ranks in all of these programs
abbrev pub AllLower : Type 0
AllLower = (P : TypedProgram) → IsPlain P → (script : List OfferValue) (fitted : Fitted P script) → LowersRanks P script fitted (rank P)

pub cells_in_layers : TreesSettle → ExpressionsHold → AllLower → RoundsInLayers
cells_in_layers law hold lower P is script s n =
    rounds_in_layers P script (fits P script is.sized s) is.sized.body_is (lower P is script (fits P script is.sized s))
    (reached law hold P is script s 0 (first_cells P) at_first) (opened_fits P.body (meeting_sound P.body is.unshared)) n
