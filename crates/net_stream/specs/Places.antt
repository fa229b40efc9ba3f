-- The text of a rule file from one of its lines on.
use Rattle.std.specs.Prelude.{◌≡◌, ℕ, ◌+◌, ◌-◌, ◌*◌, ◌<◌, ◌≤◌, false, List, ◌++◌, length, drop}
use Rattle.std.specs.List.{flat_map, range_with_len}
use Rattle.prs_core.specs.declared.wires.Wires.{Wires}
use Rattle.prs_core.specs.Nets.{NetValue, name_at, first_at, down_of}
use Rattle.prs_file.specs.Spelling.{node_spelling, channel_spelling, rule_spelling, rules_spelling, spelling}
use Rattle.net_stream.specs.declared.place.Place.{Place}
use Rattle.net_stream.specs.declared.place.Place.TheVariants.{Head, Node, Channel, Up, Down}

-- the lines of the nodes, of the channels and of the rules, from a number on
abbrev pub node_lines_from : NetValue → ℕ → List ℕ
node_lines_from n node =
    flat_map (λ k. node_spelling (name_at n k) (first_at n k)) (range_with_len node (length n.first - node))

abbrev pub channel_lines_from : NetValue → ℕ → List ℕ
channel_lines_from n chan = flat_map (λ (w : Wires). channel_spelling w.channel) (drop chan n.channels)

abbrev pub rule_lines_from : NetValue → ℕ → List ℕ
rule_lines_from n node = flat_map (rules_spelling n) (range_with_len node (length n.first - node))

-- the text that begins with the line at a position
abbrev pub text_from : NetValue → Place → List ℕ
text_from n Head = spelling n
text_from n (Node node) = node_lines_from n node ++ (channel_lines_from n 0 ++ rule_lines_from n 0)
text_from n (Channel chan) = channel_lines_from n chan ++ rule_lines_from n 0
text_from n (Up node) = rule_lines_from n node
text_from n (Down node) = rule_spelling n (down_of n node) node false ++ rule_lines_from n (node + 1)

-- how many positions are left, including the one after each kind of lines
abbrev pub places_left : NetValue → Place → ℕ
places_left n Head = 3 * length n.first + length n.channels + 3
places_left n (Node node) = (length n.first - node) + length n.channels + 2 * length n.first + 2
places_left n (Channel chan) = (length n.channels - chan) + 2 * length n.first + 1
places_left n (Up node) = 2 * (length n.first - node)
places_left n (Down node) = 2 * (length n.first - node) - 1

-- a position in the net's file
abbrev pub IsPlaceOf : NetValue → Place → Type 0
IsPlaceOf n Head = Unit {0}
IsPlaceOf n (Node node) = node ≤ length n.first
IsPlaceOf n (Channel chan) = chan ≤ length n.channels
IsPlaceOf n (Up node) = node ≤ length n.first
IsPlaceOf n (Down node) = node < length n.first

-- From one position to the next a line is written, or none where the position has none.
pub record IsMadeAt (n : NetValue) (place next : Place) (before now : List ℕ) : Type 0 where
  pub text : now ++ text_from n next ≡ before ++ text_from n place
  pub within : IsPlaceOf n next
  pub fewer : places_left n next < places_left n place
