-- Why a rule is refused, by what the lines before it say.
use Rattle.std.specs.Prelude.{◌≡◌, ℕ, ◌<◌, ◌==◌, true, false, ◌+◌, ◌*◌, Bool, ◌&&◌, ◌||◌, nat_lt, List, Option, Some, None, unwrap_or, sum_by, length, codes, bytes_eq, if◌then◌else◌}
use Rattle.std.specs.List.{list_any}
use Rattle.chp_base.specs.declared.channel.Channel.{Channel}
use Rattle.prs_file.specs.declared.fault.NetFault.{NetFault}
use Rattle.prs_file.specs.declared.fault.NetFault.TheVariants.{UnknownNode, DoubleRule, DrivenWire, TooMany, OutOfOrder}
use Rattle.prs_file.specs.Indexes.{place_in}
use Rattle.prs_file.specs.Reading.{Form, Says, Signed, IsTaken, told_nodes, told_channels, has_reset, last_of, last_place, literals_in, may_stand, may_end, outside_of, same_place, stands_above}
use Rattle.prs_file.specs.Reading.Form.{head, node, channel, rule}
use Rattle.prs_file.specs.Lines.{first_line}
use Rattle.prs_file.specs.NodesTold.{node_forms}
use Rattle.prs_file.specs.Terms.{rule_unknown}

-- a node that the environment moves
abbrev pub is_driven : Bool → List Channel → List ℕ → Bool
is_driven reset channels name =
    bytes_eq name (codes "go") || ((reset && bytes_eq name (codes "reset"))
    || list_any (λ (c : Channel). list_any (bytes_eq name) (outside_of c)) channels)

abbrev pub rule_place : List (List ℕ) → List ℕ → Bool → ℕ
rule_place names name up = 2 * unwrap_or (place_in names name) 0 + (if up then 0 else 1)

abbrev pub literals_allowed : Bool → ℕ
literals_allowed reset = if reset then 8454144 else 4194304

-- after a rule at the last position, and so many literals
abbrev pub rule_fault_of : List (List ℕ) → List Channel → Bool → Option ℕ → ℕ → List (List Signed) → List ℕ → Bool →
    Option NetFault
rule_fault_of names channels reset last count g name up =
    if rule_unknown names g name then Some UnknownNode else
    (if is_driven reset channels name then Some DrivenWire else
    (if same_place last (rule_place names name up) then Some DoubleRule else
    (if stands_above last (rule_place names name up) then Some OutOfOrder else
    (if nat_lt (literals_allowed reset) (count + sum_by (λ (t : List Signed). length t) g) then Some TooMany else
    None))))

abbrev pub order_fault_of : Option ℕ → ℕ → Option NetFault
order_fault_of last place =
    if same_place last place then Some DoubleRule else (if stands_above last place then Some OutOfOrder else None)

abbrev pub is_rule : Form → Bool
is_rule (head v) = false
is_rule (node name first) = false
is_rule (channel c) = false
is_rule (rule g name up) = true

-- the rules of a text up to what is left of it: what these lines say, and what may follow them
pub record IsRulesRead (before : List Form) (version : ℕ) (names : List (List ℕ)) (first : List Bool)
    (channels : List Channel) (place : Option ℕ) (count : ℕ) (text rest : List ℕ) : Type 0 where
  pub taken : IsTaken text before rest
  pub long : 2 < length before
  pub nodes : told_nodes before ≡ told_nodes (node_forms names first)
  pub channels_told : told_channels before ≡ channels
  pub reset : has_reset before ≡ (version == 2)
  pub last : last_place before (last_of before) ≡ place
  pub literals : sum_by literals_in before ≡ count
  pub early : (f : Form) → Says (first_line rest) f → is_rule f ≡ false → may_stand before f ≡ false
  pub late : (g : List (List Signed)) (name : List ℕ) (up : Bool) → may_stand before (rule g name up) ≡ true
  pub ends : may_end before ≡ true
