-- Behind the last channel, where the rules begin.
use Rattle.std.proofs.Common.{◌≡◌, ℕ, Bool, false, None, List, [], ◌∷◌, ◌++◌, map, refl, arith}
use Rattle.std.specs.Prelude.{sum_by}
use Rattle.std.proofs.lemmas.List.Sums.{sum_by-cons, sum_by-append}
use Rattle.prs_core.specs.declared.wires.Wires.{Wires}
use Rattle.prs_file.specs.ChannelsTold.{channels_told, IsChannelsRead}
use Rattle.prs_file.specs.Lines.{first_line}
use Rattle.prs_file.specs.NodesTold.{node_forms, IsNodes}
use Rattle.prs_file.specs.Reading.{Form, Says, IsChannelForm, literals_in, may_stand}
use Rattle.prs_file.specs.Reading.Form.{head, node, channel, rule}
use Rattle.prs_file.specs.RulesTold.{is_rule, IsRulesRead}
use Rattle.prs_file.specs.Spelling.{channel_spelling}
use Rattle.prs_file.proofs.ChannelsRead.{nodes_are, channels_are, count_told}

none_in_nodes : (names : List (List ℕ)) (first : List Bool) → sum_by literals_in (node_forms names first) ≡ 0
none_in_nodes [] first = refl
none_in_nodes (n ∷ names) [] = refl
none_in_nodes (n ∷ names) (v ∷ first) = omega (arith, sum_by-cons literals_in (node n v) (node_forms names first), none_in_nodes names first)

none_in_channels : (ws : List Wires) → sum_by literals_in (map (λ (w : Wires). channel w.channel) ws) ≡ 0
none_in_channels [] = refl
none_in_channels (w ∷ ws) =
    omega (arith, sum_by-cons literals_in (channel w.channel) (map (λ (w : Wires). channel w.channel) ws), none_in_channels ws)

none_told : (version : ℕ) (names : List (List ℕ)) (first : List Bool) (ws : List Wires) → sum_by literals_in (channels_told version names first ws) ≡ 0
none_told version names first ws =
    omega (
      arith,
      sum_by-cons literals_in (head version) (node_forms names first ++ map (λ (w : Wires). channel w.channel) ws),
      sum_by-append literals_in (node_forms names first) (map (λ (w : Wires). channel w.channel) ws),
      none_in_nodes names first,
      none_in_channels ws,
    )

pub rules_begin : (version : ℕ) (names : List (List ℕ)) (first : List Bool) (ws : List Wires) (text rest : List ℕ) → IsNodes version names first →
    IsChannelsRead version names first ws text rest → ((c : _) → IsChannelForm c → first_line rest ≡ channel_spelling c → ⊥) →
    IsRulesRead (channels_told version names first ws) version names first (map (λ (w : Wires). w.channel) ws) None 0 text rest
rules_begin version names first ws text rest nodes read over = record {
  taken = read.taken;
  long = omega (arith, count_told version names first ws nodes, nodes.some);
  nodes = nodes_are names first ws;
  channels_told = channels_are names first ws;
  reset = refl;
  last = read.last;
  literals = none_told version names first ws;
  early = early;
  late = λ g name up. read.late (rule g name up) refl;
  ends = read.ends;
}
  where
    early : (f : Form) → Says (first_line rest) f → is_rule f ≡ false → may_stand (channels_told version names first ws) f ≡ false
    early (head v) says is = read.early (head v) says refl
    early (node name value) says is = read.early (node name value) says refl
    early (channel c) says is = absurd (over c says.form says.spelled)
    early (rule g name up) says is = absurd (cc is)
