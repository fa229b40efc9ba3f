-- What drives a node, given by the nodes that it reads: the two guards of each kind of driver.
use Rattle.std.specs.Prelude.{ℕ, List, [], ◌∷◌, map}
use Rattle.prs_core.specs.Nets.{NodeRules, is_high, is_low, one_term}
use Rattle.prs_core.specs.Pairs.{lows, or_of}
use Rattle.prs_core.specs.Sites.{site_answer}
use Rattle.cell_sequence.specs.Sequence.{q_child, q_latch, q_next}
use Rattle.cell_parallel.specs.Trees.{c_element}
use Rattle.cell_variable.specs.Variables.{kept_rail, bit_written}
use Rattle.cell_select.specs.Selections.{joined_answer, turn_request}
use Rattle.function_blocks.specs.Drivers.{rail_driven}
use Rattle.net_compose.specs.declared.driver.Pattern.{Pattern}
use Rattle.net_compose.specs.declared.driver.Pattern.TheVariants.{Rail, Until, Latch, Behind, Site, Both, Kept, Written, Any, Joined, Wanted, Started, Turn}

-- a latch that rises where all of these are high, and falls with the request
abbrev pub wanted_latch : (request : ℕ) → List ℕ → NodeRules
wanted_latch request wanted = record { up = one_term (map is_high wanted); down = one_term (is_low request ∷ []) }

-- a node that rises after a latch once all of these are low, and falls once another one is low
abbrev pub let_go : (latch until : ℕ) → List ℕ → NodeRules
let_go latch until rails = record { up = one_term (is_high latch ∷ lows rails); down = one_term (is_low until ∷ []) }

-- the two rules of the node that is driven so
abbrev pub driven : Pattern → NodeRules
driven (Rail rail) = rail_driven rail
driven (Until request over) = q_child request over
driven (Latch set held) = q_latch held set
driven (Behind latch answer) = q_next latch answer
driven (Site request ack) = site_answer request ack
driven (Both left right) = c_element left right
driven (Kept set other reset) = kept_rail set other reset
driven (Written x w) = bit_written (record { x = x; w = w; written = 0 })
driven (Any inputs) = or_of inputs.items
driven (Joined any answers) = joined_answer any answers.items
driven (Wanted request wanted) = wanted_latch request wanted.items
driven (Started latch until rails) = let_go latch until rails.items
driven (Turn request joined) = turn_request request joined
