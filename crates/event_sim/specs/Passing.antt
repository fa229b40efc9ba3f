-- What passes in a run on all channels together, in the order of completion.
use Rattle.std.specs.Prelude.{ℕ, Bool, ◌==◌, if◌then◌else◌, List, [], ◌∷◌, ◌++◌, map, filter, slice_get, position, Option, None, option_map, option_to_list, option_and_then}
use Rattle.std.specs.List.{range_with_len}
use Rattle.prs_core.specs.declared.wires.Wires.{Wires}
use Rattle.prs_core.specs.Nets.{NetValue}
use Rattle.prs_core.specs.Moves.{high}
use Rattle.env_script.specs.Environment.{in_reset}
use Rattle.env_script.specs.Runs.{RunState, completes, moved}

-- the channel whose acknowledge the node is
abbrev pub channel_acknowledged : List Wires → ℕ → Option ℕ
channel_acknowledged ws n = position (λ (w : Wires). n == w.ack) ws

-- the value that the move of the node completes on the channel of this number
abbrev pub completed_on : (ℕ → Bool) → List Wires → ℕ → ℕ → Option ℕ
completed_on v ws n c = option_and_then (λ (w : Wires). completes v w n) (slice_get ws c)

-- the channel and the value that the move of the node completes
abbrev pub completion : NetValue → (ℕ → Bool) → ℕ → Option (ℕ × ℕ)
completion net v n =
    if in_reset net.reset v then None else option_and_then
    (λ c. option_map (λ value. (c, value)) (completed_on v net.channels n c)) (channel_acknowledged net.channels n)

-- the values that pass in a run, each with its channel, the first one first
abbrev pub passed_in : NetValue → RunState → List ℕ → List (ℕ × ℕ)
passed_in net st [] = []
passed_in net st (n ∷ ns) = option_to_list (completion net (high st.values) n) ++ passed_in net (moved net st n) ns

-- those that pass on one channel
abbrev pub values_through : ℕ → List (ℕ × ℕ) → List ℕ
values_through c passed = map (λ (p : ℕ × ℕ). p.1) (filter (λ (p : ℕ × ℕ). p.0 == c) passed)

-- and those of each of so many channels
abbrev pub channel_histories : ℕ → List (ℕ × ℕ) → List (List ℕ)
channel_histories channels passed = map (λ c. values_through c passed) (range_with_len 0 channels)
