-- Which nodes a move may concern, and the index that is kept with a net to find them.
use Rattle.std.specs.Prelude.{◌≡◌, ℕ, ◌+◌, ◌<◌, ◌≤◌, nat_lt, ◌⊎◌, Bool, true, false, not, ◌&&◌, ◌||◌, ◌==◌, if◌then◌else◌, List, length, drop, filter, slice_index, slice_index_or, slice_set, Option, Some, None, IfSome, Result, MatchResult}
use Rattle.std.specs.List.{list_any, range_with_len}
use Rattle.prs_core.specs.declared.wires.Wires.{Wires}
use Rattle.prs_core.specs.Nets.{NetValue, IsNet}
use Rattle.prs_core.specs.Moves.{high, fired, rule_enabled}
use Rattle.prs_core.specs.Fans.{is_reader}
use Rattle.env_script.specs.Scripts.{OfferValue, gives, takes, nothing, offer_at, IsScript}
use Rattle.env_script.specs.Environment.{net_channels, in_reset, raises_go, channels_move, env_enabled}
use Rattle.env_script.specs.Hazards.{least_below}

abbrev pub is_wire : Wires → ℕ → Bool
is_wire w n = (n == w.ack) || list_any (λ rail. n == rail) w.rails

-- both nodes are wires of one channel
abbrev pub share_channel : NetValue → ℕ → ℕ → Bool
share_channel net n m = list_any (λ (w : Wires). is_wire w n && is_wire w m) net.channels

-- the channel that the node is a wire of, where there is one
pub record IsHome (net : NetValue) (n : ℕ) (home : Option ℕ) : Type 0 where
  pub within : IfSome home (λ c. c < length net.channels)
  pub only : (c : ℕ) (d : Wires) → c < length net.channels →
      is_wire (slice_index_or net.channels c d) n ≡ true → home ≡ Some c

pub record IsHomes (net : NetValue) (homes : List (Option ℕ)) : Type 0 where
  pub count : length homes ≡ length net.first
  pub each : (n : ℕ) → n < length net.first → IsHome net n (slice_index_or homes n None)

abbrev pub has_no_part : OfferValue → Bool
has_no_part (gives values) = false
has_no_part (takes count) = false
has_no_part nothing = true

-- the same, but for channels in which the environment has no part
pub record IsShared (net : NetValue) (script : List OfferValue) (n : ℕ) (shared : Option ℕ) : Type 0 where
  pub within : IfSome shared (λ c. c < length net.channels)
  pub only : (c : ℕ) (d : Wires) → c < length net.channels →
      is_wire (slice_index_or net.channels c d) n ≡ true → (offer_at script c ≡ nothing) ⊎ (shared ≡ Some c)

-- a net under a script
pub record IndexedValue : Type 0 where
  pub net : NetValue
  pub script : List OfferValue

-- its index: for each node its channel
pub record IsNetIndex (x : IndexedValue) (homes : List (Option ℕ)) : Type 0 where
  pub net : IsNet x.net
  pub script : IsScript (net_channels x.net) x.script
  pub homes_are : IsHomes x.net homes

-- the environment may move the node while no reset is on, where so many values are completed on each channel
abbrev pub is_asked : IndexedValue → List ℕ → List Bool → ℕ → Bool
is_asked x done values n = not (in_reset x.net.reset (high values)) && (raises_go (high values) n
    || channels_move (high values) (offer_at x.script) (slice_index done) 0 x.net.channels n)

-- a rule of the node is enabled, or the environment may move it
abbrev pub is_ready : IndexedValue → List ℕ → List Bool → ℕ → Bool
is_ready x done values n = rule_enabled x.net (high values) n || is_asked x done values n

-- a rule of the node is enabled, or the environment may move it
abbrev pub has_move : NetValue → List OfferValue → List ℕ → List Bool → ℕ → Bool
has_move net script done values n =
    rule_enabled net (high values) n || env_enabled net script (slice_index done) (high values) n

-- Sets of nodes, as a mark for each.

abbrev pub is_member : List Bool → ℕ → Bool
is_member marks n = slice_index_or marks n false

-- in ascending order
abbrev pub members : List Bool → List ℕ
members marks = filter (is_member marks) (range_with_len 0 (length marks))

-- the node is at this index of the list, or would be inserted there
abbrev pub IsListPlace : List ℕ → ℕ → Result ℕ ℕ → Type 0
IsListPlace list n r = MatchResult r
    (λ i. (i < length list) × (slice_index_or list i 0 ≡ n))
    (λ i. (i ≤ length list) × ((k : ℕ) → k < i → slice_index_or list k 0 < n)
    × ((k : ℕ) → i ≤ k → k < length list → n < slice_index_or list k 0))

-- the list fills the slots from this one on, and there is one slot more than nodes
pub record IsNodeSet (marks : List Bool) (slots : List ℕ) (from : ℕ) : Type 0 where
  pub list_is : drop from slots ≡ members marks
  pub from_in : from ≤ length slots
  pub slots_are : length slots ≡ length marks + 1

abbrev pub is_among : List ℕ → ℕ → Bool
is_among nodes n = list_any (λ m. m == n) nodes

-- exactly the nodes that pass, of so many
pub record IsPassing (count : ℕ) (passes : ℕ → Bool) (marks : List Bool) : Type 0 where
  pub count_is : length marks ≡ count
  pub each : (n : ℕ) → n < count → is_member marks n ≡ passes n

-- These nodes were tested again. If the least lost node before was the least one for which f holds, it is now the least
-- for which f holds or which is one of these, was in the set and does not pass any more.
pub record IsRetested (passes : ℕ → Bool) (nodes : List ℕ) (old new : List Bool) (before now : Option ℕ) : Type 0 where
  pub count_is : length new ≡ length old
  pub each : (n : ℕ) → n < length old →
      is_member new n ≡ (if is_among nodes n then passes n else is_member old n)
  pub least : (f : ℕ → Bool) → before ≡ least_below (length old) f → now ≡ least_below (length old)
      (λ n. f n || (is_among nodes n && (is_member old n && not (passes n))))

-- the set without a node that is to leave it, where there is one
abbrev pub once_left : List Bool → Option ℕ → List Bool
once_left marks None = marks
once_left marks (Some n) = slice_set marks n false

-- a node that is to leave the set is in it
abbrev pub IsLeaving : List Bool → Option ℕ → Type 0
IsLeaving marks leaving = IfSome leaving (λ n. is_member marks n ≡ true)

-- the lesser of two nodes, of which the first may be none
abbrev pub lesser : Option ℕ → ℕ → Option ℕ
lesser None n = Some n
lesser (Some k) n = if nat_lt k n then Some k else Some n

-- the nodes that a move of the node may concern besides itself: its readers, and those that share a channel with it in
-- which the environment has a part
pub record IsNear (x : IndexedValue) (n : ℕ) (nodes : List ℕ) : Type 0 where
  pub readers : (m : ℕ) → m < length x.net.first → is_among nodes m ≡ false → is_reader x.net n m ≡ false
  pub wires : (m c : ℕ) (d : Wires) → is_among nodes m ≡ false → c < length x.net.channels →
      is_wire (slice_index_or x.net.channels c d) n ≡ true →
      (offer_at x.script c ≡ nothing) ⊎ (is_wire (slice_index_or x.net.channels c d) m ≡ false)

-- the node and all that its move may concern were tested again
pub record IsRetestedNear (x : IndexedValue) (done : List ℕ) (values : List Bool) (n : ℕ) (old new : List Bool)
    (lost : Option ℕ) : Type 0 where
  pub nodes : List ℕ
  pub near : IsNear x n nodes
  pub retested : IsRetested (is_ready x done values) nodes (slice_set old n (is_ready x done values n)) new None lost

-- a move of the node from values, counts and a set of moves to values and counts
pub record IsCountedMove (x : IndexedValue) (n : ℕ) (was done : List ℕ) (before values old : List Bool) : Type 0 where
  pub set_is : IsPassing (length x.net.first) (has_move x.net x.script was before) old
  pub enabled : has_move x.net x.script was before n ≡ true
  pub count_is : length before ≡ length x.net.first
  pub values_are : values ≡ fired before n
  pub counts_are : (c : ℕ) (d : Wires) → c < length x.net.channels →
      (n == (slice_index_or x.net.channels c d).ack) ≡ false → slice_index done c ≡ slice_index was c

-- the least node whose move it disabled
abbrev pub lost_by : IndexedValue → ℕ → (was done : List ℕ) → (before values : List Bool) → Option ℕ
lost_by x n was done before values = least_below (length x.net.first) (λ m. not (m == n)
    && (has_move x.net x.script was before m && not (has_move x.net x.script done values m)))

-- the set after it, except for the move of a reset node, and that least node
pub record IsListedBehind (x : IndexedValue) (n : ℕ) (was done : List ℕ) (before values new : List Bool)
    (lost : Option ℕ) : Type 0 where
  pub set_is : IsPassing (length x.net.first) (is_ready x done values) new
  pub lost_is : lost ≡ lost_by x n was done before values

-- the set after it, and that least node
pub record IsRelisted (x : IndexedValue) (n : ℕ) (was done : List ℕ) (before values new : List Bool)
    (lost : Option ℕ) : Type 0 where
  pub set_is : IsPassing (length x.net.first) (has_move x.net x.script done values) new
  pub lost_is : lost ≡ lost_by x n was done before values
