-- The net of a circuit that is given by the drivers of its nodes, with a reset node or without one.
use Rattle.std.specs.Prelude.{ℕ, ◌<◌, Bool, true, false, not, List, [], ◌∷◌, ◌++◌, map, Option, Some, None, if◌then◌else◌}
use Rattle.prs_core.specs.declared.rule.Literal.{Literal}
use Rattle.prs_core.specs.declared.wires.Wires.{Wires}
use Rattle.prs_core.specs.Nets.{GuardValue, NodeRules, NetValue, net_of, is_high, is_low}
use Rattle.prs_core.specs.Pairs.{no_rules}
use Rattle.reset_net.specs.Resets.{has_rules, reset_guard}
use Rattle.net_compose.specs.declared.ending.Ending.{Ending}
use Rattle.net_compose.specs.declared.ending.Ending.TheVariants.{Plain, Held, Forced}

-- a node's rules where the net has a reset node, and the node this first value
abbrev pub reset_rules : (reset : ℕ) → Bool → NodeRules → NodeRules
reset_rules reset high r =
    if has_rules r.up r.down then
    record { up = reset_guard reset high r.up; down = reset_guard reset (not high) r.down }
    else no_rules

-- the rules of each node, in order, where the net has a reset node
abbrev pub each_reset : (reset : ℕ) → List Bool → List NodeRules → List NodeRules
each_reset reset (high ∷ first) (r ∷ rs) = reset_rules reset high r ∷ each_reset reset first rs
each_reset reset first rs = []

-- the rules of all nodes, with a reset node or without one
abbrev pub circuit_rules : Option ℕ → List Bool → List NodeRules → List NodeRules
circuit_rules None first rs = rs
circuit_rules (Some reset) first rs = each_reset reset first rs

-- one of the two guards
abbrev pub side : (up : Bool) → NodeRules → GuardValue
side up r = if up then r.up else r.down

-- the net with these names, first values, rules and channels, with a reset node or without one
abbrev pub circuit_net : List (List ℕ) → List Bool → List NodeRules → List Wires → Option ℕ → NetValue
circuit_net names first rs channels reset =
    let rules = circuit_rules reset first rs in
    net_of names first (record { up = map (side true) rules; down = map (side false) rules }) channels reset

-- what the reset puts at the end of each term
abbrev pub term_end : Ending → List Literal
term_end Plain = []
term_end (Held reset) = is_low reset ∷ []
term_end (Forced reset) = []

-- what it appends after the last term
abbrev pub guard_end : Ending → GuardValue
guard_end Plain = []
guard_end (Held reset) = []
guard_end (Forced reset) = (is_high reset ∷ []) ∷ []

-- the guard with this at the end of each term
abbrev pub with_ends : Ending → GuardValue → GuardValue
with_ends ending g = map (λ t. t ++ term_end ending) g

-- the whole guard with what the reset adds
abbrev pub with_ending : Ending → GuardValue → GuardValue
with_ending ending g = with_ends ending g ++ guard_end ending

-- a reset's node is one of so many
abbrev pub IsEnding : ℕ → Ending → Type 0
IsEnding count Plain = Unit {0}
IsEnding count (Held reset) = reset < count
IsEnding count (Forced reset) = reset < count

-- what the reset adds to a node's rule
abbrev pub ending_of : Option ℕ → (has back : Bool) → Ending
ending_of None has back = Plain
ending_of (Some reset) false back = Plain
ending_of (Some reset) true true = Forced reset
ending_of (Some reset) true false = Held reset
