-- What the lines of a rule file say, and at which line and for which cause a file is refused.
use Rattle.std.specs.Prelude.{◌≡◌, ◌≢◌, ◌⊎◌, ℕ, ◌+◌, ◌*◌, ◌<◌, ◌≤◌, Bool, true, false, not, ◌&&◌, ◌||◌, ◌==◌, nat_lt, List, [], ◌∷◌, ◌++◌, length, All, sum_by, position, Option, Some, None, is_none, unwrap_or, codes, bytes_eq, if◌then◌else◌}
use Rattle.std.specs.List.{concat, flat_map, filter_map, join_by, list_any}
use Rattle.std.specs.Str.Parse.{digits_value}
use Rattle.chp_base.specs.Names.{IsName, IsNodeName, digit}
use Rattle.chp_base.specs.declared.channel.Channel.{Channel}
use Rattle.chp_base.specs.declared.channel.Kind.{Kind}
use Rattle.chp_base.specs.declared.channel.Kind.TheVariants.{In, Out, Chan}
use Rattle.prs_core.specs.Nets.{rail_names, ack_name}
use Rattle.prs_file.specs.declared.fault.NetFault.{NetFault}
use Rattle.prs_file.specs.declared.fault.NetFault.TheVariants.{BadLine, UnknownNode, DoubleRule, DrivenWire, TooMany, BadVersion, OutOfOrder, DoubleName, BadFirst}
use Rattle.prs_file.specs.Lines.{first_line}
use Rattle.prs_file.specs.Spelling.{head_spelling, node_spelling, channel_spelling, sign_spelling, end_spelling}

-- a literal by the name of its node
pub record Signed : Type 0 where
  pub high : Bool
  pub name : List ℕ

-- what a line says
pub data Form : Type 0 where
  head : ℕ → Form
  node : List ℕ → Bool → Form
  channel : Channel → Form
  rule : List (List Signed) → List ℕ → Bool → Form

abbrev pub signed_spelling : Signed → List ℕ
signed_spelling s = sign_spelling s.high ++ s.name

abbrev pub form_spelling : Form → List ℕ
form_spelling (head version) = head_spelling version
form_spelling (node name first) = node_spelling name first
form_spelling (channel c) = channel_spelling c
form_spelling (rule g name up) =
    concat (codes "rule " ∷ join_by (join_by signed_spelling (codes " & ")) (codes " | ") g ∷ end_spelling name up ∷ [])

-- a term, and a guard, in a line
pub record IsTermForm (t : List Signed) : Type 0 where
  pub some : 0 < length t
  pub names : All (λ (s : Signed). IsNodeName s.name) t

pub record IsChannelForm (c : Channel) : Type 0 where
  pub name : IsName c.name
  pub some : 1 ≤ c.width
  pub most : c.width ≤ 64

abbrev pub IsForm : Form → Type 0
IsForm (head version) = (1 ≤ version) × (version ≤ 2)
IsForm (node name first) = IsNodeName name
IsForm (channel c) = IsChannelForm c
IsForm (rule g name up) = (0 < length g) × All IsTermForm g × IsNodeName name

pub record Says (line : List ℕ) (f : Form) : Type 0 where
  pub form : IsForm f
  pub spelled : line ≡ form_spelling f

-- what the lines so far say

abbrev pub version_in : Form → Option ℕ
version_in (head version) = Some version
version_in _ = None

abbrev pub node_in : Form → Option (List ℕ × Bool)
node_in (node name first) = Some (name, first)
node_in _ = None

abbrev pub channel_in : Form → Option Channel
channel_in (channel c) = Some c
channel_in _ = None

abbrev pub told_nodes : List Form → List (List ℕ × Bool)
told_nodes before = filter_map node_in before

abbrev pub told_channels : List Form → List Channel
told_channels before = filter_map channel_in before

abbrev pub literals_in : Form → ℕ
literals_in (rule g name up) = sum_by (λ (t : List Signed). length t) g
literals_in _ = 0

abbrev pub has_reset : List Form → Bool
has_reset (head version ∷ rest) = version == 2
has_reset _ = false

-- the number of the node of this name
abbrev pub number_of_node : List Form → List ℕ → Option ℕ
number_of_node before name = position (λ (n : List ℕ × Bool). bytes_eq n.0 name) (told_nodes before)

abbrev pub is_unknown : List Form → List ℕ → Bool
is_unknown before name = is_none (number_of_node before name)

abbrev pub is_high_first : List Form → List ℕ → Bool
is_high_first before name = list_any (λ (n : List ℕ × Bool). bytes_eq n.0 name && n.1) (told_nodes before)

-- where a line is allowed

abbrev pub last_of : List Form → Option Form
last_of [] = None
last_of (f ∷ []) = Some f
last_of (f ∷ g ∷ rest) = last_of (g ∷ rest)

-- the node lines may end here: in version 2 the reset node is the last one
abbrev pub ends_nodes : Bool → Option Form → Bool
ends_nodes reset (Some (node name first)) = not reset || (bytes_eq name (codes "reset") && first)
ends_nodes reset _ = false

abbrev pub stands_behind : Bool → Option Form → Form → Bool
stands_behind reset None (head version) = true
stands_behind reset (Some (head version)) (node name first) = bytes_eq name (codes "go") && not first
stands_behind reset (Some (node n v)) (node name first) = true
stands_behind reset (Some (node n v)) (channel c) = ends_nodes reset (Some (node n v))
stands_behind reset (Some (node n v)) (rule g name up) = ends_nodes reset (Some (node n v))
stands_behind reset (Some (channel d)) (channel c) = true
stands_behind reset (Some (channel d)) (rule g name up) = true
stands_behind reset (Some (rule h n v)) (rule g name up) = true
stands_behind reset last f = false

-- the third line is that of the node done, and no channel or rule comes before it
abbrev pub is_done_line : Form → Bool
is_done_line (node name first) = bytes_eq name (codes "done") && not first
is_done_line _ = false

abbrev pub may_stand : List Form → Form → Bool
may_stand before f = stands_behind (has_reset before) (last_of before) f && (not (length before == 2) || is_done_line f)

-- the file may end here
abbrev pub ends_behind : Bool → Option Form → Bool
ends_behind reset None = false
ends_behind reset (Some (head version)) = false
ends_behind reset (Some (node name first)) = ends_nodes reset (Some (node name first))
ends_behind reset (Some (channel c)) = true
ends_behind reset (Some (rule g name up)) = true

abbrev pub may_end : List Form → Bool
may_end before = nat_lt 2 (length before) && ends_behind (has_reset before) (last_of before)

-- the causes, one by one

abbrev pub double_name : List Form → Form → Bool
double_name before (node name first) = not (is_unknown before name)
double_name before (channel c) = list_any (λ (d : Channel). bytes_eq d.name c.name) (told_channels before)
double_name before _ = false

abbrev pub wires_of : Channel → List (List ℕ)
wires_of c = rail_names c.name c.width ++ ack_name c.name ∷ []

abbrev pub unknown_node : List Form → Form → Bool
unknown_node before (channel c) = list_any (is_unknown before) (wires_of c)
unknown_node before (rule g name up) =
    is_unknown before name || list_any (list_any (λ (s : Signed). is_unknown before s.name)) g
unknown_node before _ = false

abbrev pub bad_first : List Form → Form → Bool
bad_first before (channel c) = list_any (is_high_first before) (wires_of c)
bad_first before _ = false

-- the wires of a channel that the environment moves
abbrev pub outside_of : Channel → List (List ℕ)
outside_of c = wires_from_outside' c.kind c
  where
    wires_from_outside' : Kind → Channel → List (List ℕ)
    wires_from_outside' In c = rail_names c.name c.width
    wires_from_outside' Out c = ack_name c.name ∷ []
    wires_from_outside' Chan c = []

abbrev pub driven_wire : List Form → Form → Bool
driven_wire before (rule g name up) =
    bytes_eq name (codes "go") || ((has_reset before && bytes_eq name (codes "reset"))
    || list_any (λ (c : Channel). list_any (bytes_eq name) (outside_of c)) (told_channels before))
driven_wire before _ = false

-- the position of a rule in the order of rules: by its node, up before down
abbrev pub place_of : List Form → List ℕ → Bool → ℕ
place_of before name up = 2 * unwrap_or (number_of_node before name) 0 + (if up then 0 else 1)

abbrev pub last_place : List Form → Option Form → Option ℕ
last_place before (Some (rule g name up)) = Some (place_of before name up)
last_place before _ = None

abbrev pub same_place : Option ℕ → ℕ → Bool
same_place None place = false
same_place (Some last) place = last == place

abbrev pub stands_above : Option ℕ → ℕ → Bool
stands_above None place = false
stands_above (Some last) place = nat_lt place last

abbrev pub double_rule : List Form → Form → Bool
double_rule before (rule g name up) = same_place (last_place before (last_of before)) (place_of before name up)
double_rule before _ = false

abbrev pub out_of_order : List Form → Form → Bool
out_of_order before (rule g name up) = stands_above (last_place before (last_of before)) (place_of before name up)
out_of_order before _ = false

abbrev pub node_limit : List Form → ℕ
node_limit before = if has_reset before then 65537 else 65536

abbrev pub literal_limit : List Form → ℕ
literal_limit before = if has_reset before then 8454144 else 4194304

abbrev pub too_many : List Form → Form → Bool
too_many before (node name first) = nat_lt (node_limit before) (length (told_nodes before) + 1)
too_many before (rule g name up) =
    nat_lt (literal_limit before) (sum_by literals_in before + literals_in (rule g name up))
too_many before _ = false

-- of a line that has a form and is allowed at its position: the first cause that holds
abbrev pub form_fault : List Form → Form → Option NetFault
form_fault before f =
    if double_name before f then Some DoubleName else (
    if unknown_node before f then Some UnknownNode else (
    if bad_first before f then Some BadFirst else (
    if driven_wire before f then Some DrivenWire else (
    if double_rule before f then Some DoubleRule else (
    if out_of_order before f then Some OutOfOrder else (
    if too_many before f then Some TooMany else None))))))

-- the first line is the word prs and a number that is no known version, ended or not
pub record IsBadVersion (line : List ℕ) (digits : List ℕ) : Type 0 where
  pub spelled : (line ≡ codes "prs " ++ digits) ⊎ (line ≡ codes "prs " ++ digits ++ codes "\n")
  pub numeral : All (λ b. digit b ≡ true) digits
  pub some : 1 ≤ length digits
  pub most : length digits ≤ 9
  pub not_one : digits_value 10 digits ≢ 1
  pub not_two : digits_value 10 digits ≢ 2

abbrev pub BadVersionAt : List Form → List ℕ → Type 0
BadVersionAt before line = (before ≡ []) × (digits : List ℕ) × IsBadVersion line digits

-- why a line is refused after lines that are not
pub data LineFault (before : List Form) (line : List ℕ) : NetFault → Type 0 where
  bad_version : BadVersionAt before line → LineFault before line BadVersion
  bad_line : ¬ BadVersionAt before line → ((f : Form) → Says line f → may_stand before f ≡ false) →
      LineFault before line BadLine
  of_form : (f : Form) {fault : NetFault} → Says line f → may_stand before f ≡ true → form_fault before f ≡ Some fault →
      LineFault before line fault

-- each line is allowed after those before it, and has no fault
abbrev pub AllStand : List Form → List Form → Type 0
AllStand before [] = Unit {0}
AllStand before (f ∷ rest) =
    IsForm f × (may_stand before f ≡ true) × (form_fault before f ≡ None) × AllStand (before ++ f ∷ []) rest

-- the text begins with these lines, none of them refused
pub record IsTaken (text : List ℕ) (before : List Form) (rest : List ℕ) : Type 0 where
  pub told : text ≡ flat_map form_spelling before ++ rest
  pub stand : AllStand [] before

-- after these lines the text is refused for this cause: at the next line, or at its end if it may not end there
pub data RefusedBehind (before : List Form) (rest : List ℕ) : NetFault → Type 0 where
  at_line : {fault : NetFault} → 0 < length rest → LineFault before (first_line rest) fault →
      RefusedBehind before rest fault
  at_end : rest ≡ [] → may_end before ≡ false → RefusedBehind before rest BadLine

pub record IsRefused (text : List ℕ) (fault : NetFault) (line : ℕ) : Type 0 where
  pub before : List Form
  pub rest : List ℕ
  pub taken : IsTaken text before rest
  pub here : RefusedBehind before rest fault
  pub number : line ≡ length before + 1
