-- How a run under a limit of moves ends.
use Rattle.std.specs.Prelude.{◌≡◌, ℕ, ◌<◌, Bool, ◌==◌, if◌then◌else◌, List, [], ◌∷◌, length, take, Option, Some, None}
use Rattle.prs_core.specs.Nets.{NetValue}
use Rattle.env_script.specs.declared.hazard.Hazard.{Hazard}
use Rattle.env_script.specs.Scripts.{OfferValue}
use Rattle.env_script.specs.Runs.{RunState, moved, after}
use Rattle.env_script.specs.Hazards.{first_hazard, hazard_of}
use Rattle.event_sim.specs.declared.ran.End.{End}
use Rattle.event_sim.specs.declared.ran.End.TheVariants.{AtRest, Spent, Unstable, BothWays, Protocol}
use Rattle.event_sim.specs.Following.{enabled_moves}

-- the hazard of the last move: a node with interference, else a disabled move, else broken phases; in
-- the first state only a node with interference
abbrev pub last_hazard : NetValue → List OfferValue → RunState → List ℕ → Option Hazard
last_hazard net script st [] = first_hazard net st
last_hazard net script st (n ∷ []) = hazard_of net script st n
last_hazard net script st (n ∷ m ∷ ns) = last_hazard net script (moved net st n) (m ∷ ns)

abbrev pub end_from : Hazard → End
end_from (Hazard.BothWays n) = BothWays n
end_from (Hazard.Unstable n) = Unstable n
end_from (Hazard.Protocol c) = Protocol c

-- with these moves enabled, where the limit is reached or isn't
abbrev pub calm_end : List ℕ → Bool → Option End
calm_end [] spent = Some AtRest
calm_end (n ∷ ns) spent = if spent then Some Spent else None

-- a hazard, else rest, else the limit
abbrev pub end_with : Option Hazard → List ℕ → Bool → Option End
end_with (Some hazard) enabled spent = Some (end_from hazard)
end_with None enabled spent = calm_end enabled spent

-- how the run of these moves has ended, if it has
abbrev pub end_after : NetValue → List OfferValue → ℕ → RunState → List ℕ → Option End
end_after net script steps st ns =
    end_with (last_hazard net script st ns) (enabled_moves net script (after net st ns)) (length ns == steps)

-- it has ended so, and no shorter part of it has ended
pub record EndsSo (net : NetValue) (script : List OfferValue) (steps : ℕ) (st : RunState) (ns : List ℕ)
    (end : End) : Type 0 where
  pub ended : end_after net script steps st ns ≡ Some end
  pub not_before : (k : ℕ) → k < length ns → end_after net script steps st (take k ns) ≡ None
