-- Runs under a script that grows: the moves to which picks lead, and how such a run ends.
use Rattle.std.specs.Prelude.{◌≡◌, ℕ, suc, ◌<◌, ◌==◌, List, [], ◌∷◌, length, take, Option, Some, None}
use Rattle.prs_core.specs.Nets.{NetValue}
use Rattle.env_script.specs.declared.hazard.Hazard.{Hazard}
use Rattle.env_script.specs.Scripts.{OfferValue}
use Rattle.env_script.specs.Runs.{RunState, moved, after}
use Rattle.env_script.specs.Hazards.{first_hazard, hazard_of}
use Rattle.event_sim.specs.declared.ran.End.{End}
use Rattle.event_sim.specs.Following.{enabled_moves, move_at}
use Rattle.event_sim.specs.Ends.{end_with}

-- the scripts after no move, after one, and so on
abbrev pub Scripts : Type 0
Scripts = ℕ → List OfferValue

-- the same, counted from one move later on
abbrev pub later : Scripts → Scripts
later scripts = λ moves. scripts (suc moves)

-- the moves whose indexes in the lists of enabled moves are these, each list under the script of its moment
abbrev pub follow_under : NetValue → Scripts → RunState → List ℕ → List ℕ
follow_under net scripts st [] = []
follow_under net scripts st (p ∷ picks) =
    move_at net (scripts 0) st p ∷ follow_under net (later scripts) (moved net st (move_at net (scripts 0) st p)) picks

-- each of these is an index of the list that it picks from
abbrev pub ArePicksUnder : NetValue → Scripts → RunState → List ℕ → Type 0
ArePicksUnder net scripts st [] = Unit {0}
ArePicksUnder net scripts st (p ∷ picks) = (p < length (enabled_moves net (scripts 0) st))
    × ArePicksUnder net (later scripts) (moved net st (move_at net (scripts 0) st p)) picks

-- the hazard of the last move; in the first state only interference (both guards of a node hold)
abbrev pub hazard_under : NetValue → Scripts → RunState → List ℕ → Option Hazard
hazard_under net scripts st [] = first_hazard net st
hazard_under net scripts st (n ∷ []) = hazard_of net (scripts 0) st n
hazard_under net scripts st (n ∷ m ∷ ns) = hazard_under net (later scripts) (moved net st n) (m ∷ ns)

-- how the run of these moves has ended, if it has, under a limit of moves
abbrev pub end_under : NetValue → Scripts → ℕ → RunState → List ℕ → Option End
end_under net scripts steps st ns = end_with (hazard_under net scripts st ns)
    (enabled_moves net (scripts (length ns)) (after net st ns)) (length ns == steps)

-- it has ended so, and no shorter part of it has ended
pub record EndsUnder (net : NetValue) (scripts : Scripts) (steps : ℕ) (st : RunState) (ns : List ℕ) (end : End) :
    Type 0 where
  pub ended : end_under net scripts steps st ns ≡ Some end
  pub not_before : (k : ℕ) → k < length ns → end_under net scripts steps st (take k ns) ≡ None
