-- Which moves are enabled, where a run begins, and the run that picks from the lists of enabled moves lead to.
use Rattle.std.specs.Prelude.{ℕ, ◌<◌, Bool, if◌then◌else◌, List, [], ◌∷◌, length, map, filter, slice_index, is_some}
use Rattle.std.specs.List.{range_with_len}
use Rattle.prs_core.specs.Nets.{NetValue, first_at, up_of, down_of}
use Rattle.reset_net.specs.Resets.{has_rules}
use Rattle.env_script.specs.Scripts.{OfferValue}
use Rattle.env_script.specs.Runs.{RunState, move_enabled, moved}

-- the nodes that have an enabled move, in ascending order
abbrev pub enabled_moves : NetValue → List OfferValue → RunState → List ℕ
enabled_moves net script st = filter (move_enabled net script st) (range_with_len 0 (length net.first))

-- at power-up of a net with a reset node each node that has rules has the one value, every other its first value
abbrev pub power_value : NetValue → Bool → ℕ → Bool
power_value net high node = if has_rules (up_of net node) (down_of net node) then high else first_at net node

-- a net without a reset node begins with its first values
abbrev pub power_of : NetValue → Bool → List Bool
power_of net high = if is_some net.reset then map (power_value net high) (range_with_len 0 (length net.first)) else
    net.first

-- the move at an index of the list of enabled moves
abbrev pub move_at : NetValue → List OfferValue → RunState → ℕ → ℕ
move_at net script st place = slice_index (enabled_moves net script st) place

-- the moves whose indexes in the lists of enabled moves are these, one after the other
abbrev pub follow : NetValue → List OfferValue → RunState → List ℕ → List ℕ
follow net script st [] = []
follow net script st (p ∷ picks) =
    move_at net script st p ∷ follow net script (moved net st (move_at net script st p)) picks

-- each of these is an index of the list that it picks from
abbrev pub ArePicks : NetValue → List OfferValue → RunState → List ℕ → Type 0
ArePicks net script st [] = Unit {0}
ArePicks net script st (p ∷ picks) =
    (p < length (enabled_moves net script st)) × ArePicks net script (moved net st (move_at net script st p)) picks
