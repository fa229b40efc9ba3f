-- The channels of a file while it is read.
use Rattle.std.specs.Prelude.{◌≡◌, ◌≢◌, ℕ, Bool, true, false, List, ◌++◌, map, All, AllPairs, Option, Some, None, is_some, if◌then◌else◌}
use Rattle.chp_base.specs.declared.channel.Channel.{Channel}
use Rattle.prs_core.specs.declared.wires.Wires.{Wires}
use Rattle.prs_file.specs.declared.fault.NetFault.{NetFault}
use Rattle.prs_file.specs.declared.fault.NetFault.TheVariants.{DoubleName}
use Rattle.prs_file.specs.Indexes.{place_in}
use Rattle.prs_file.specs.Lines.{first_line}
use Rattle.prs_file.specs.NodesTold.{nodes_told}
use Rattle.prs_file.specs.Reading.{Form, Says, IsChannelForm, IsTaken, last_of, last_place, may_stand, may_end}
use Rattle.prs_file.specs.Reading.Form.{head, node, channel, rule}
use Rattle.prs_file.specs.WiresFound.{IsWiredAmong, wires_fault_of}

abbrev pub channel_names : List Wires → List (List ℕ)
channel_names ws = map (λ (w : Wires). w.channel.name) ws

-- the lines up to the last channel
abbrev pub channels_told : ℕ → List (List ℕ) → List Bool → List Wires → List Form
channels_told version names first ws = nodes_told version names first ++ map (λ (w : Wires). channel w.channel) ws

abbrev pub channel_fault_of : List (List ℕ) → List Bool → List Wires → Channel → Option NetFault
channel_fault_of names first ws c =
    if is_some (place_in (channel_names ws) c.name) then Some DoubleName else wires_fault_of names first c

-- a form that may come after the nodes
abbrev pub stands_late : Form → Bool
stands_late (head v) = false
stands_late (node name first) = false
stands_late (channel c) = true
stands_late (rule g name up) = true

-- the channels of a text up to what is left of it
pub record IsChannelsRead (version : ℕ) (names : List (List ℕ)) (first : List Bool) (ws : List Wires)
    (text rest : List ℕ) : Type 0 where
  pub taken : IsTaken text (channels_told version names first ws) rest
  pub wired : All (IsWiredAmong names first) ws
  pub forms : All (λ (w : Wires). IsChannelForm w.channel) ws
  pub distinct : AllPairs (λ (a b : List ℕ). a ≢ b) (channel_names ws)
  pub early : (f : Form) → Says (first_line rest) f → stands_late f ≡ false →
      may_stand (channels_told version names first ws) f ≡ false
  pub late : (f : Form) → stands_late f ≡ true → may_stand (channels_told version names first ws) f ≡ true
  pub ends : may_end (channels_told version names first ws) ≡ true
  pub last : last_place (channels_told version names first ws) (last_of (channels_told version names first ws)) ≡ None
