-- The lines of channels one after another.
use Rattle.std.proofs.Common.{◌≡◌, ◌≢◌, ℕ, suc, ◌+◌, ◌<◌, Bool, true, false, cond, Option, None, Some, List, [], ◌∷◌, ◌++◌, length, map, refl, ap, sym, ◌∙◌, subst, arith, length-append}
use Rattle.std.specs.Prelude.{◌||◌, ◌&&◌, ◌==◌, bytes_eq, is_none, is_some, option_map, position, if◌then◌else◌}
use Rattle.std.specs.List.{list_any, filter_map}
use Rattle.std.proofs.lemmas.Bool.{lt-ltb, ne_eqb, and_from}
use Rattle.std.proofs.lemmas.List.{append_assoc, append-nil, map_push, length-map}
use Rattle.std.proofs.lemmas.List.Elements.{All-push, All-nil, filter_map-append}
use Rattle.std.proofs.lemmas.List.Quantifiers.{all_pairs_push}
use Rattle.chp_base.specs.Names.{IsNodeName}
use Rattle.chp_base.specs.declared.channel.Channel.{Channel}
use Rattle.prs_core.specs.declared.wires.Wires.{Wires}
use Rattle.prs_file.specs.declared.fault.NetFault.{NetFault}
use Rattle.prs_file.specs.declared.fault.NetFault.TheVariants.{DoubleName, UnknownNode, BadFirst}
use Rattle.prs_file.specs.Indexes.{place_in}
use Rattle.prs_file.specs.Lines.{first_line}
use Rattle.prs_file.specs.Spelling.{node_spelling, channel_spelling}
use Rattle.prs_file.specs.NodesTold.{node_forms, nodes_told, IsNodes, IsNodesRead}
use Rattle.prs_file.specs.WiresFound.{IsWiredAmong, some_unknown, wires_fault_of}
use Rattle.prs_file.specs.ChannelsTold.{channel_names, channels_told, channel_fault_of, stands_late, IsChannelsRead}
use Rattle.prs_file.specs.Reading.{Form, Says, IsChannelForm, last_of, last_place, ends_nodes, may_stand, may_end, form_fault, told_nodes, node_in, channel_in, wires_of, IsTaken, IsRefused}
use Rattle.prs_file.specs.Reading.Form.{head, node, channel, rule}
use Rattle.prs_file.proofs.Taking.{taken_more, refused_here, fault_here}
use Rattle.prs_file.proofs.NodesRead.{number_is, last_push, told_length, fresh_apart, past_third}

abbrev channel_forms : List Wires → List Form
channel_forms ws = map (λ (w : Wires). channel w.channel) ws

no_nodes : (ws : List Wires) → filter_map node_in (channel_forms ws) ≡ []
no_nodes [] = refl
no_nodes (w ∷ ws) = no_nodes ws

all_channels : (ws : List Wires) → filter_map channel_in (channel_forms ws) ≡ map (λ (w : Wires). w.channel) ws
all_channels [] = refl
all_channels (w ∷ ws) = ap (λ cs. w.channel ∷ cs) (all_channels ws)

no_channels : (names : List (List ℕ)) (first : List Bool) → filter_map channel_in (node_forms names first) ≡ []
no_channels [] first = refl
no_channels (n ∷ names) [] = refl
no_channels (n ∷ names) (v ∷ first) = no_channels names first

pub nodes_are : (names : List (List ℕ)) (first : List Bool) (ws : List Wires) →
    filter_map node_in (node_forms names first ++ channel_forms ws) ≡ told_nodes (node_forms names first)
nodes_are names first ws = filter_map-append node_in (node_forms names first) (channel_forms ws)
    ∙ ap (λ xs. told_nodes (node_forms names first) ++ xs) (no_nodes ws) ∙ append-nil (told_nodes (node_forms names first))

pub channels_are : (names : List (List ℕ)) (first : List Bool) (ws : List Wires) →
    filter_map channel_in (node_forms names first ++ channel_forms ws) ≡ map (λ (w : Wires). w.channel) ws
channels_are names first ws = filter_map-append channel_in (node_forms names first) (channel_forms ws)
    ∙ ap (λ xs. xs ++ filter_map channel_in (channel_forms ws)) (no_channels names first) ∙ all_channels ws

named_so : (ws : List Wires) (name : List ℕ) → list_any (λ (d : Channel). bytes_eq d.name name) (map (λ (w : Wires). w.channel) ws) ≡
    is_some (place_in (channel_names ws) name)
named_so [] name = refl
named_so (w ∷ ws) name = ap (λ b. bytes_eq w.channel.name name || b) (named_so ws name)
    ∙ by_first (bytes_eq w.channel.name name) (place_in (channel_names ws) name)
  where
    by_first : (b : Bool) (o : Option ℕ) → (b || is_some o) ≡ is_some (cond b (Some 0) (option_map (λ k. suc k) o))
    by_first true o = refl
    by_first false None = refl
    by_first false (Some k) = refl

unknown_so : (names : List (List ℕ)) (first : List Bool) (wires : List (List ℕ)) → length first ≡ length names →
    list_any (λ w. is_none (position (λ (n : List ℕ × Bool). bytes_eq n.0 w) (told_nodes (node_forms names first)))) wires ≡ some_unknown names wires
unknown_so names first [] count = refl
unknown_so names first (w ∷ wires) count = rw (number_is names first w count, unknown_so names first wires count) refl

-- the fault of a channel's line, by the nodes and the channels so far
abbrev by_parts : List (List ℕ × Bool) → List Channel → Channel → Option NetFault
by_parts nodes cs c =
    if list_any (λ (d : Channel). bytes_eq d.name c.name) cs then Some DoubleName else
    (if list_any (λ w. is_none (position (λ (n : List ℕ × Bool). bytes_eq n.0 w) nodes)) (wires_of c) then Some UnknownNode else
    (if list_any (λ w. list_any (λ (n : List ℕ × Bool). bytes_eq n.0 w && n.1) nodes) (wires_of c) then Some BadFirst else None))

pub channel_fault_is : (version : ℕ) (names : List (List ℕ)) (first : List Bool) (ws : List Wires) (c : Channel) → length first ≡ length names →
    form_fault (channels_told version names first ws) (channel c) ≡ channel_fault_of names first ws c
channel_fault_is version names first ws c count =
    let nodes = told_nodes (node_forms names first) in
    let one : by_parts (filter_map node_in (node_forms names first ++ channel_forms ws)) (filter_map channel_in (node_forms names first ++ channel_forms ws)) c
    ≡ by_parts nodes (filter_map channel_in (node_forms names first ++ channel_forms ws)) c =
    ap (λ ns. by_parts ns (filter_map channel_in (node_forms names first ++ channel_forms ws)) c) (nodes_are names first ws) in
    let two : by_parts nodes (filter_map channel_in (node_forms names first ++ channel_forms ws)) c ≡ by_parts nodes (map (λ (w : Wires). w.channel) ws) c =
    ap (λ cs. by_parts nodes cs c) (channels_are names first ws) in
    one ∙ two ∙ rw (named_so ws c.name, unknown_so names first (wires_of c) count) refl

told_push : (version : ℕ) (names : List (List ℕ)) (first : List Bool) (ws : List Wires) (w : Wires) →
    channels_told version names first (ws ++ w ∷ []) ≡ channels_told version names first ws ++ channel w.channel ∷ []
told_push version names first ws w =
    ap (λ fs. nodes_told version names first ++ fs) (map_push (λ (w : Wires). channel w.channel) ws w)
    ∙ sym (append_assoc (nodes_told version names first) (channel_forms ws) (channel w.channel ∷ []))

pub count_told : (version : ℕ) (names : List (List ℕ)) (first : List Bool) (ws : List Wires) → IsNodes version names first →
    length (channels_told version names first ws) ≡ length names + length ws + 1
count_told version names first ws nodes =
    omega (
      arith,
      length-append (nodes_told version names first) (channel_forms ws),
      length-map ws (λ (w : Wires). channel w.channel),
      told_length version names first nodes,
    )

pub channel_refused : (version : ℕ) (names : List (List ℕ)) (first : List Bool) (ws : List Wires) (text rest : List ℕ) (c : Channel) (fault : NetFault)
    (line : ℕ) → IsNodes version names first → IsChannelsRead version names first ws text rest → 0 < length rest → first_line rest ≡ channel_spelling c →
    IsChannelForm c → channel_fault_of names first ws c ≡ Some fault → line ≡ length names + length ws + 2 → IsRefused text fault line
channel_refused version names first ws text rest c fault line nodes read some says form bad number =
    refused_here text (channels_told version names first ws) rest fault line read.taken
    (fault_here (channels_told version names first ws) (channel c) rest fault some says form (read.late (channel c) refl)
    (channel_fault_is version names first ws c nodes.count ∙ bad)) (omega (arith, count_told version names first ws nodes))

-- what may stand behind a channel
behind_channel : (before : List Form) (c : Channel) → 2 < length before → ((f : Form) → stands_late f ≡ false → may_stand (before ++ channel c ∷ []) f ≡ false)
    × ((f : Form) → stands_late f ≡ true → may_stand (before ++ channel c ∷ []) f ≡ true) × (may_end (before ++ channel c ∷ []) ≡ true)
    × (last_place (before ++ channel c ∷ []) (last_of (before ++ channel c ∷ [])) ≡ None)
behind_channel before c long = (early, late, ends, rw (last_push before (channel c)) refl)
  where
    past : (length (before ++ channel c ∷ []) == 2) ≡ false
    past = ne_eqb _ 2 (λ e. absurd (omega (arith, length-append before (channel c ∷ []))))

    early : (f : Form) → stands_late f ≡ false → may_stand (before ++ channel c ∷ []) f ≡ false
    early (head v) is = rw (last_push before (channel c)) refl
    early (node name first) is = rw (last_push before (channel c)) refl
    early (channel d) is = absurd (cc is)
    early (rule g name up) is = absurd (cc is)

    late : (f : Form) → stands_late f ≡ true → may_stand (before ++ channel c ∷ []) f ≡ true
    late (head v) is = absurd (cc is)
    late (node name first) is = absurd (cc is)
    late (channel d) is = rw (last_push before (channel c), past) refl
    late (rule g name up) is = rw (last_push before (channel c), past) refl

    ends : may_end (before ++ channel c ∷ []) ≡ true
    ends = rw (last_push before (channel c), lt-ltb 2 (length (before ++ channel c ∷ [])) (omega (arith, length-append before (channel c ∷ [])))) refl

pub channels_more : (version : ℕ) (names : List (List ℕ)) (first : List Bool) (ws : List Wires) (w : Wires) (text rest behind : List ℕ) →
    IsNodes version names first → IsChannelsRead version names first ws text rest → first_line rest ≡ channel_spelling w.channel →
    rest ≡ first_line rest ++ behind → IsChannelForm w.channel → IsWiredAmong names first w → place_in (channel_names ws) w.channel.name ≡ None →
    IsChannelsRead version names first (ws ++ w ∷ []) text behind
channels_more version names first ws w text rest behind nodes read says whole form wired fresh =
    let before = channels_told version names first ws in
    let good : form_fault before (channel w.channel) ≡ None = channel_fault_is version names first ws w.channel nodes.count
    ∙ ap (λ o. cond (is_some o) (Some DoubleName) (wires_fault_of names first w.channel)) fresh ∙ wired.sound in
    let now = behind_channel before w.channel (omega (arith, count_told version names first ws nodes, nodes.some)) in
    let e = told_push version names first ws w in
    record {
      taken = subst (λ b. IsTaken text b behind) (sym e) (taken_more text before (channel w.channel) rest (first_line rest) behind read.taken whole says form
          (read.late (channel w.channel) refl) good);
      wired = All-push (IsWiredAmong names first) ws w read.wired wired;
      forms = All-push (λ (w : Wires). IsChannelForm w.channel) ws w read.forms form;
      distinct = rw (map_push (λ (w : Wires). w.channel.name) ws w) (all_pairs_push (λ (a b : List ℕ). a ≢ b) (channel_names ws) w.channel.name read.distinct
          (fresh_apart (channel_names ws) w.channel.name fresh));
      early = λ f says early. ap (λ b. may_stand b f) e ∙ now.0 f early;
      late = λ f late. ap (λ b. may_stand b f) e ∙ now.1 f late;
      ends = ap may_end e ∙ now.2;
      last = ap (λ b. last_place b (last_of b)) e ∙ now.3;
    }

-- behind the last node
pub channels_begin : (version : ℕ) (names : List (List ℕ)) (first : List Bool) (ws : List Wires) (text rest : List ℕ) → ws ≡ [] →
    IsNodesRead version names first true text rest → ((name : List ℕ) (value : Bool) → IsNodeName name → first_line rest ≡ node_spelling name value → ⊥) →
    IsChannelsRead version names first ws text rest
channels_begin version names first ws text rest none read over = subst (λ ws. IsChannelsRead version names first ws text rest) (sym none) (record {
  taken = subst (λ b. IsTaken text b rest) (sym e) read.taken;
  wired = All-nil (IsWiredAmong names first);
  forms = All-nil (λ (w : Wires). IsChannelForm w.channel);
  distinct = λ i j d below within. absurd (omega arith);
  early = λ f says is. ap (λ b. may_stand b f) e ∙ early f says is;
  late = λ f is. ap (λ b. may_stand b f) e ∙ late f is;
  ends = ap may_end e ∙ rw (
    read.last.2,
    lt-ltb 2 (length (nodes_told version names first)) (omega (
      arith,
      told_length version names first read.nodes,
      read.nodes.some,
    )),
  ) shut;
  last = ap (λ b. last_place b (last_of b)) e ∙ rw read.last.2 refl;
})
  where
    e : channels_told version names first [] ≡ nodes_told version names first
    e = append-nil (nodes_told version names first)

    shut : ends_nodes (version == 2) (Some (node read.last.0 read.last.1)) ≡ true
    shut = sym (ap (ends_nodes (version == 2)) read.last.2) ∙ read.ends

    early : (f : Form) → Says (first_line rest) f → stands_late f ≡ false → may_stand (nodes_told version names first) f ≡ false
    early (head v) says is = rw read.last.2 refl
    early (node name value) says is = absurd (over name value says.form says.spelled)
    early (channel c) says is = absurd (cc is)
    early (rule g name up) says is = absurd (cc is)

    late : (f : Form) → stands_late f ≡ true → may_stand (nodes_told version names first) f ≡ true
    late (head v) is = absurd (cc is)
    late (node name value) is = absurd (cc is)
    late (channel c) is = rw (read.last.2, past_third version names first read.nodes) (and_from _ true shut refl)
    late (rule g name up) is = rw (read.last.2, past_third version names first read.nodes) (and_from _ true shut refl)

pub none_is : (o : Option ℕ) → is_some o ≡ false → o ≡ None
none_is None is = refl
none_is (Some k) is = absurd (cc is)
