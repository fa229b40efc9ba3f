-- Which hazard a move brings, if it isn't safe.
use Rattle.std.specs.Prelude.{ℕ, zero, suc, Bool, not, ◌&&◌, ◌==◌, if◌then◌else◌, List, length, Option, Some, None, option_map}
use Rattle.prs_core.specs.Nets.{NetValue}
use Rattle.prs_core.specs.Moves.{high, both_ways}
use Rattle.env_script.specs.declared.hazard.Hazard.{Hazard}
use Rattle.env_script.specs.declared.hazard.Hazard.TheVariants.{BothWays, Unstable, Protocol}
use Rattle.env_script.specs.Scripts.{OfferValue}
use Rattle.env_script.specs.Phases.{phase_fault}
use Rattle.env_script.specs.Runs.{RunState, move_enabled, moved}

abbrev pub or_else : {A : Type 0} → Option A → Option A → Option A
or_else None b = b
or_else (Some x) b = Some x

-- the least number below the count that passes
abbrev pub least_below : ℕ → (ℕ → Bool) → Option ℕ
least_below zero p = None
least_below (suc n) p = or_else (least_below n p) (if p n then Some n else None)

-- the move of the node n disables that of the node m
abbrev pub takes_away : NetValue → List OfferValue → RunState → ℕ → ℕ → Bool
takes_away net script st n m = not (m == n)
    && (move_enabled net script st m && not (move_enabled net script (moved net st n) m))

-- in a state: the least node with interference (both guards hold)
abbrev pub first_hazard : NetValue → RunState → Option Hazard
first_hazard net st = option_map BothWays (least_below (length net.first) (both_ways net (high st.values)))

-- after the move of the node n: interference comes first, then disabled moves, then phases
abbrev pub hazard_of : NetValue → List OfferValue → RunState → ℕ → Option Hazard
hazard_of net script st n =
    or_else (first_hazard net (moved net st n))
    (or_else (option_map Unstable (least_below (length net.first) (takes_away net script st n)))
    (option_map Protocol (phase_fault net (high st.values) n)))
