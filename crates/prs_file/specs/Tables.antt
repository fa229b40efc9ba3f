-- The guards of a net while its rules are read, and the lines that they are read of.
use Rattle.std.specs.Prelude.{◌≡◌, ℕ, ◌+◌, ◌-◌, ◌*◌, ◌<◌, ◌≤◌, nat_lt, Bool, true, false, List, [], ◌∷◌, ◌++◌, length, All, sum_by, slice_index_or, slice_set, Option, Some, None, if◌then◌else◌}
use Rattle.std.specs.List.{flat_map, range_with_len}
use Rattle.chp_base.specs.declared.channel.Channel.{Channel}
use Rattle.prs_core.specs.declared.wires.Wires.{Wires}
use Rattle.prs_core.specs.Nets.{GuardValue, RulesValue, IsBelow, IsFilled, guard_literals}
use Rattle.prs_file.specs.declared.fault.NetFault.{NetFault}
use Rattle.prs_file.specs.declared.fault.NetFault.TheVariants.{DoubleRule, DrivenWire, TooMany, OutOfOrder}
use Rattle.prs_file.specs.ChannelsTold.{channels_told}
use Rattle.prs_file.specs.Named.{guard_named}
use Rattle.prs_file.specs.Reading.{Form, same_place, stands_above}
use Rattle.prs_file.specs.Reading.Form.{rule}
use Rattle.prs_file.specs.RulesTold.{is_driven, literals_allowed}

-- a guard without terms has no line
abbrev pub guard_forms : List (List ℕ) → GuardValue → ℕ → Bool → List Form
guard_forms names [] node up = []
guard_forms names (t ∷ ts) node up = rule (guard_named names (t ∷ ts)) (slice_index_or names node []) up ∷ []

abbrev pub node_rules : List (List ℕ) → RulesValue → ℕ → List Form
node_rules names r node =
    guard_forms names (slice_index_or r.up node []) node true
    ++ guard_forms names (slice_index_or r.down node []) node false

-- the lines of rules, in order of their nodes, up before down
abbrev pub rule_forms : List (List ℕ) → RulesValue → List Form
rule_forms names r = flat_map (node_rules names r) (range_with_len 0 (length names))

-- all lines of a file
abbrev pub net_forms : ℕ → List (List ℕ) → List Bool → List Wires → RulesValue → List Form
net_forms version names first ws r = channels_told version names first ws ++ rule_forms names r

abbrev pub place_at : ℕ → Bool → ℕ
place_at node up = 2 * node + (if up then 0 else 1)

abbrev pub with_guard : ℕ → Bool → GuardValue → RulesValue → RulesValue
with_guard node up g r = if up then record r { up = slice_set r.up node g } else record r {
  down =
      slice_set r.down node g;
}

-- a position after the last one
abbrev pub IsBeyond : Option ℕ → ℕ → Type 0
IsBeyond None place = Unit {0}
IsBeyond (Some last) place = last < place

-- why a rule over known nodes is refused
abbrev pub known_fault_of : Bool → Bool → Option ℕ → ℕ → ℕ → ℕ → Option NetFault
known_fault_of reset driven last count place literals =
    if driven then Some DrivenWire else
    (if same_place last place then Some DoubleRule else
    (if stands_above last place then Some OutOfOrder else
    (if nat_lt (literals_allowed reset) (count + literals) then Some TooMany else None)))

-- the guards up to a position, with so many literals
pub record IsTable (reset : Bool) (channels : List Channel) (names : List (List ℕ)) (last : Option ℕ) (count : ℕ)
    (r : RulesValue) : Type 0 where
  pub ups : length r.up ≡ length names
  pub downs : length r.down ≡ length names
  pub up_within : All (IsBelow (length names)) r.up
  pub down_within : All (IsBelow (length names)) r.down
  pub up_filled : All IsFilled r.up
  pub down_filled : All IsFilled r.down
  pub up_undriven : (n : ℕ) → n < length names → is_driven reset channels (slice_index_or names n []) ≡ true →
      slice_index_or r.up n [] ≡ []
  pub down_undriven : (n : ℕ) → n < length names → is_driven reset channels (slice_index_or names n []) ≡ true →
      slice_index_or r.down n [] ≡ []
  pub literals : sum_by guard_literals r.up + sum_by guard_literals r.down ≡ count
  pub few : count ≤ literals_allowed reset
  pub up_free : (n : ℕ) → IsBeyond last (2 * n) → slice_index_or r.up n [] ≡ []
  pub down_free : (n : ℕ) → IsBeyond last (2 * n + 1) → slice_index_or r.down n [] ≡ []

pub record IsWholeTable (reset : Bool) (channels : List Channel) (names : List (List ℕ)) (r : RulesValue) : Type 0 where
  pub last : Option ℕ
  pub count : ℕ
  pub table : IsTable reset channels names last count r

-- in version 2 the last node is the reset node
abbrev pub reset_by : Bool → List Bool → Option ℕ
reset_by b first = if b then Some (length first - 1) else None
