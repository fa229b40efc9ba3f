-- The report of a run.
use Rattle.std.specs.Prelude.{ℕ, ◌+◌, Bool, true, false, List, [], ◌∷◌, ◌++◌, slice_get, Option, Some, None, codes, decimal}
use Rattle.std.specs.Option.{option_map_or}
use Rattle.std.specs.List.{concat, flat_map}
use Rattle.prs_core.specs.declared.wires.Wires.{Wires}
use Rattle.prs_core.specs.Nets.{NetValue, name_at}
use Rattle.event_sim.specs.declared.ran.End.{End}
use Rattle.event_sim.specs.declared.ran.End.TheVariants.{AtRest, Spent, Unstable, BothWays, Protocol}
use Rattle.event_sim.specs.Passing.{values_through}
use Rattle.event_sim.specs.Simulating.{RanValue}

abbrev pub channel_name : NetValue → ℕ → List ℕ
channel_name net c = option_map_or (λ (w : Wires). w.channel.name) (slice_get net.channels c) []

-- a hazard at a node or a channel, after so many moves
abbrev pub hazard_line : (words name : List ℕ) → (moves : ℕ) → List ℕ
hazard_line words name moves = concat (words ∷ name ∷ codes " at " ∷ decimal moves ∷ codes "\n" ∷ [])

-- how the run ended
abbrev pub ending_line : NetValue → (moves : ℕ) → End → List ℕ
ending_line net moves AtRest = codes "end rest\n"
ending_line net moves Spent = codes "end spent\n"
ending_line net moves (Unstable node) = hazard_line (codes "end unstable ") (name_at net node) moves
ending_line net moves (BothWays node) = hazard_line (codes "end both ") (name_at net node) moves
ending_line net moves (Protocol chan) = hazard_line (codes "end protocol ") (channel_name net chan) moves

abbrev pub moves_line : ℕ → List ℕ
moves_line moves = concat (codes "moves " ∷ decimal moves ∷ codes "\n" ∷ [])

-- of a timed run alone
abbrev pub time_line : Option ℕ → List ℕ
time_line None = []
time_line (Some time) = concat (codes "time " ∷ decimal time ∷ codes "\n" ∷ [])

abbrev pub done_line : Bool → List ℕ
done_line true = codes "done 1\n"
done_line false = codes "done 0\n"

-- each after a blank
abbrev pub value_words : List ℕ → List ℕ
value_words values = flat_map (λ value. codes " " ++ decimal value) values

-- the name of a channel and the values that passed on it
abbrev pub channel_line : List ℕ → List ℕ → List ℕ
channel_line name values = concat (name ∷ codes ":" ∷ value_words values ∷ codes "\n" ∷ [])

-- a line for each channel, which are numbered from c on
abbrev pub history_lines : List (ℕ × ℕ) → ℕ → List Wires → List ℕ
history_lines passed c [] = []
history_lines passed c (w ∷ ws) = channel_line w.channel.name (values_through c passed)
    ++ history_lines passed (c + 1) ws

abbrev pub report_of : RanValue → Option ℕ → List ℕ
report_of r time =
    concat (ending_line r.net r.moves r.end ∷ moves_line r.moves ∷ time_line time ∷ done_line r.done_high
    ∷ history_lines r.passed 0 r.net.channels ∷ [])
