-- The lines of a net stand, none of them with a fault.
use Rattle.std.proofs.Common.{◌≡◌, ◌≢◌, ℕ, zero, suc, ◌+◌, ◌-◌, ◌<◌, ◌≤◌, Bool, true, false, Option, None, Some, List, [], ◌∷◌, ◌++◌, length, map, get_or, refl, ap, sym, ◌∙◌, subst, arith, length-append}
use Rattle.std.specs.Prelude.{Contains, ◌==◌, ◌&&◌, nat_lt, All, AllPairs, bytes_eq, codes}
use Rattle.std.specs.List.{flat_map}
use Rattle.std.specs.Cmp.Lexicographic.{bytes_decides}
use Rattle.std.proofs.lemmas.Bool.{le-ltb, false_from_ne_true}
use Rattle.std.proofs.lemmas.List.{append_assoc, append-nil, length-map, map-append, get_or_append_left, get_or-map}
use Rattle.std.proofs.lemmas.List.Concat.{flat_map-append}
use Rattle.std.proofs.lemmas.List.Folds.{list_any_none}
use Rattle.std.proofs.lemmas.List.Elements.{All-nil, All-cons, All-head, All-tail, All-append, All-push, Contains-get_or}
use Rattle.chp_base.specs.Names.{IsNodeName}
use Rattle.chp_base.specs.declared.channel.Channel.{Channel}
use Rattle.prs_core.specs.declared.wires.Wires.{Wires}
use Rattle.prs_core.specs.Nets.{GuardValue, RulesValue, NetValue, rail_names, ack_name, IsChannel, IsReset, IsNet, most_nodes}
use Rattle.prs_file.specs.ChannelsTold.{channel_names, IsChannelsRead}
use Rattle.prs_file.specs.Indexes.{place_in}
use Rattle.prs_file.specs.Lines.{first_line}
use Rattle.prs_file.specs.NodesTold.{node_forms, nodes_told, node_most, IsNodes, IsNodesRead, node_fault_of}
use Rattle.prs_file.specs.Openings.{opening, text_behind}
use Rattle.prs_file.specs.Reading.{Form, IsForm, AllStand, IsChannelForm, Signed, form_spelling, ends_nodes}
use Rattle.prs_file.specs.Reading.Form.{head, node, channel, rule}
use Rattle.prs_file.specs.Spelling.{version_of}
use Rattle.prs_file.specs.Named.{guard_named}
use Rattle.prs_file.specs.Tables.{guard_forms, node_rules}
use Rattle.prs_file.specs.WiresFound.{AreFound, IsWiredAmong, wire_numbers}
use Rattle.prs_file.proofs.FormLines.{cut_at, line_of_form}
use Rattle.prs_file.proofs.ChannelsRead.{channels_more}
use Rattle.prs_file.proofs.FormsApart.{same_form, some_line}
use Rattle.prs_file.proofs.Lookups.{found_more}
use Rattle.prs_file.proofs.NetMade.{last_form}
use Rattle.prs_file.proofs.NodesRead.{nodes_begin, nodes_more}
use Rattle.prs_file.proofs.Openings.{go_name, done_name}
use Rattle.prs_file.proofs.Wirings.{fault_none}

abbrev pub Distinct : List (List ℕ) → Type 0
Distinct names = AllPairs (λ (a b : List ℕ). a ≢ b) names

-- the opening of each version

opening_stands : (o : Option ℕ) → AllStand [] (opening (version_of o))
opening_stands None = ((omega arith, omega arith), refl, refl, (go_name, refl, refl, (done_name, refl, refl, tt)))
opening_stands (Some k) = ((omega arith, omega arith), refl, refl, (go_name, refl, refl, (done_name, refl, refl, tt)))

-- a name at its place

not_before : (names : List (List ℕ)) (name : List ℕ) → ((k : ℕ) → k < length names → get_or names k [] ≢ name) → place_in names name ≡ None
not_before [] name apart = refl
not_before (m ∷ names) name apart =
    let other : bytes_eq m name ≡ false = false_from_ne_true (bytes_eq m name) (λ e. apart 0 (omega arith) ((bytes_decides m name).0 e)) in
    rw (other, not_before names name (λ k below. apart (suc k) (omega arith))) refl

pub place_at_name : (names : List (List ℕ)) (k : ℕ) → Distinct names → k < length names → place_in names (get_or names k []) ≡ Some k
place_at_name [] k all within = absurd (omega arith)
place_at_name (m ∷ names) zero all within = rw ((bytes_decides m m).1 refl) refl
place_at_name (m ∷ names) (suc k) all within =
    let other : bytes_eq m (get_or names k []) ≡ false =
    false_from_ne_true (bytes_eq m (get_or names k [])) (λ e. all 0 (suc k) [] (omega arith) (omega arith) ((bytes_decides m (get_or names k [])).0 e)) in
    rw (other, place_at_name names k (λ i j d below within. all (suc i) (suc j) d (omega arith) (omega arith)) (omega arith)) refl

-- the names before one among distinct ones
fresh_name : (pre : List (List ℕ)) (n : List ℕ) (suf : List (List ℕ)) → Distinct (pre ++ n ∷ suf) → place_in pre n ≡ None
fresh_name pre n suf all = not_before pre n (λ k below e.
    all k (length pre) [] (omega arith) (omega (arith, length-append pre (n ∷ suf))) (get_or_append_left pre (n ∷ suf) [] k below ∙ e
    ∙ sym (get_or_here pre n suf)))
  where
    get_or_here : (pre : List (List ℕ)) (n : List ℕ) (suf : List (List ℕ)) → get_or (pre ++ n ∷ suf) (length pre) [] ≡ n
    get_or_here [] n suf = refl
    get_or_here (p ∷ pre) n suf = get_or_here pre n suf

pub front_line : (f : Form) (rest : List ℕ) → IsForm f → (first_line (form_spelling f ++ rest) ≡ form_spelling f)
    × (form_spelling f ++ rest ≡ first_line (form_spelling f ++ rest) ++ rest)
front_line f rest form =
    let cut = cut_at (form_spelling f) rest (line_of_form f form) in
    (cut.0, ap (λ t. t ++ rest) (sym cut.0))

-- one node after another
record Walked (version : ℕ) (names : List (List ℕ)) (first : List Bool) (text rest : List ℕ) : Type 0 where
  ends : Bool
  read : IsNodesRead version names first ends text rest

nodes_walk : (version : ℕ) (pre : List (List ℕ)) (pf : List Bool) (suf : List (List ℕ)) (sf : List Bool) (ends : Bool) (text rest : List ℕ) →
    IsNodesRead version pre pf ends text (flat_map form_spelling (node_forms suf sf) ++ rest) → length sf ≡ length suf → All IsNodeName suf →
    Distinct (pre ++ suf) → length (pre ++ suf) ≤ node_most version → Walked version (pre ++ suf) (pf ++ sf) text rest
nodes_walk version pre pf [] [] ends text rest read same named all most =
    record {
      ends = ends;
      read = subst (λ ns. IsNodesRead version ns (pf ++ []) ends text rest) (sym (append-nil pre))
          (subst (λ fs. IsNodesRead version pre fs ends text rest) (sym (append-nil pf)) read);
    }
nodes_walk version pre pf [] (v ∷ sf) ends text rest read same named all most = absurd (omega arith)
nodes_walk version pre pf (n ∷ suf) [] ends text rest read same named all most = absurd (omega arith)
nodes_walk version pre pf (n ∷ suf) (v ∷ sf) ends text rest read same named all most =
    let behind = flat_map form_spelling (node_forms suf sf) ++ rest in
    let is = All-head IsNodeName n suf named in
    let line = front_line (node n v) behind is in
    let read' = subst (λ t. IsNodesRead version pre pf ends text t) (append_assoc (form_spelling (node n v)) (flat_map form_spelling (node_forms suf sf)) rest)
    read in
    let fresh = fresh_name pre n suf all in
    let few : nat_lt (node_most version) (length pre + 1) ≡ false = le-ltb _ _ (omega (arith, most, length-append pre (n ∷ suf))) in
    let good : node_fault_of version pre n ≡ None = rw (fresh, few) refl in
    let more = nodes_more version pre pf ends (ends_nodes (version == 2) (Some (node n v))) text (form_spelling (node n v) ++ behind) n behind v read' line.0
    line.1 is good refl in
    let e : (pre ++ n ∷ []) ++ suf ≡ pre ++ (n ∷ suf) = append_assoc pre (n ∷ []) suf in
    let f : (pf ++ v ∷ []) ++ sf ≡ pf ++ (v ∷ sf) = append_assoc pf (v ∷ []) sf in
    let walked = nodes_walk version (pre ++ n ∷ []) (pf ++ v ∷ []) suf sf (ends_nodes (version == 2) (Some (node n v))) text rest more (omega arith)
    (All-tail IsNodeName n suf named) (subst Distinct (sym e) all) (omega (arith, most, ap length e)) in
    record {
      ends = walked.ends;
      read = subst (λ ns. IsNodesRead version ns (pf ++ (v ∷ sf)) walked.ends text rest) e
          (subst (λ fs. IsNodesRead version ((pre ++ n ∷ []) ++ suf) fs walked.ends text rest) f walked.read);
    }

split_names : (names : List (List ℕ)) → 2 ≤ length names → get_or names 0 [] ≡ codes "go" → get_or names 1 [] ≡ codes "done" →
    (ns : List (List ℕ)) × (names ≡ codes "go" ∷ codes "done" ∷ ns)
split_names [] some go done = absurd (omega arith)
split_names (a ∷ []) some go done = absurd (omega arith)
split_names (a ∷ b ∷ ns) some go done = (ns, ap (λ x. x ∷ b ∷ ns) go ∙ ap (λ x. codes "go" ∷ x ∷ ns) done)

split_first : (first : List Bool) → 2 ≤ length first → get_or first 0 false ≡ false → get_or first 1 false ≡ false →
    (fs : List Bool) × (first ≡ false ∷ false ∷ fs)
split_first [] some go done = absurd (omega arith)
split_first (a ∷ []) some go done = absurd (omega arith)
split_first (a ∷ b ∷ fs) some go done = (fs, ap (λ x. x ∷ b ∷ fs) go ∙ ap (λ x. false ∷ x ∷ fs) done)

two_more : (o : Option ℕ) (ns : List (List ℕ)) (fs : List Bool) (rest : List ℕ) → length fs ≡ length ns → All IsNodeName ns →
    Distinct (codes "go" ∷ codes "done" ∷ ns) → length ns + 2 ≤ node_most (version_of o) →
    Walked (version_of o) (codes "go" ∷ codes "done" ∷ ns) (false ∷ false ∷ fs)
    (flat_map form_spelling (nodes_told (version_of o) (codes "go" ∷ codes "done" ∷ ns) (false ∷ false ∷ fs)) ++ rest) rest
two_more o ns fs rest same named all most =
    let version = version_of o in
    let names : List (List ℕ) = codes "go" ∷ codes "done" ∷ [] in
    let first : List Bool = false ∷ false ∷ [] in
    let ends = ends_nodes (version == 2) (Some (node (codes "done") false)) in
    let behind = flat_map form_spelling (node_forms ns fs) ++ rest in
    let begin = nodes_begin version names first ends behind refl refl refl (opening_stands o) in
    let walked = nodes_walk version names first ns fs ends (text_behind (opening version) behind) rest begin same named all (omega arith) in
    let e : text_behind (opening version) behind ≡ flat_map form_spelling (nodes_told version (codes "go" ∷ codes "done" ∷ ns) (false ∷ false ∷ fs)) ++ rest =
    sym (append_assoc (flat_map form_spelling (opening version)) (flat_map form_spelling (node_forms ns fs)) rest)
    ∙ ap (λ t. t ++ rest) (sym (flat_map-append form_spelling (opening version) (node_forms ns fs))) in
    record {
      ends = walked.ends;
      read = subst (λ t. IsNodesRead version (codes "go" ∷ codes "done" ∷ ns) (false ∷ false ∷ fs) walked.ends t rest) e
          walked.read;
    }

most_is : (o : Option ℕ) → most_nodes o ≡ node_most (version_of o)
most_is None = refl
most_is (Some k) = refl

all_walked : (o : Option ℕ) (names : List (List ℕ)) (first : List Bool) (rest : List ℕ) → length first ≡ length names → 2 ≤ length names →
    length names ≤ node_most (version_of o) → All IsNodeName names → Distinct names → get_or names 0 [] ≡ codes "go" → get_or names 1 [] ≡ codes "done" →
    get_or first 0 false ≡ false → get_or first 1 false ≡ false →
    Walked (version_of o) names first (flat_map form_spelling (nodes_told (version_of o) names first) ++ rest) rest
all_walked o names first rest same some most named all go done go_low done_low =
    let ns = split_names names some go done in
    let fs = split_first first (omega arith) go_low done_low in
    let named' = subst (All IsNodeName) ns.1 named in
    let tail = All-tail IsNodeName (codes "done") ns.0 (All-tail IsNodeName (codes "go") (codes "done" ∷ ns.0) named') in
    let walked = two_more o ns.0 fs.0 rest (omega (arith, same, ap length ns.1, ap length fs.1)) tail (subst Distinct ns.1 all)
    (omega (arith, most, ap length ns.1)) in
    subst (λ xs. Walked (version_of o) xs first (flat_map form_spelling (nodes_told (version_of o) xs first) ++ rest) rest) (sym ns.1)
    (subst (λ ys. Walked (version_of o) (codes "go" ∷ codes "done" ∷ ns.0) ys
    (flat_map form_spelling (nodes_told (version_of o) (codes "go" ∷ codes "done" ∷ ns.0) ys) ++ rest) rest) (sym fs.1) walked)

-- in version 2 the last node is the reset node
reset_ends : (n : NetValue) (o : Option ℕ) → IsReset n o → length n.names ≡ length n.first → 0 < length n.names →
    ends_nodes (version_of o == 2) (Some (node (get_or n.names (length n.names - 1) []) (get_or n.first (length n.names - 1) false))) ≡ true
reset_ends n None is same some = refl
reset_ends n (Some k) is same some =
    let at : k ≡ length n.names - 1 = omega (arith, is.last, same) in
    let named : bytes_eq (get_or n.names (length n.names - 1) []) (codes "reset") ≡ true =
    (bytes_decides (get_or n.names (length n.names - 1) []) (codes "reset")).1 (ap (λ j. get_or n.names j []) (sym at) ∙ is.name) in
    ap (λ b. b && get_or n.first (length n.names - 1) false) named ∙ ap (λ j. get_or n.first j false) (sym at) ∙ is.high

pub net_nodes : (n : NetValue) (rest : List ℕ) → IsNet n →
    IsNodesRead (version_of n.reset) n.names n.first true (flat_map form_spelling (nodes_told (version_of n.reset) n.names n.first) ++ rest) rest
net_nodes n rest is =
    let version = version_of n.reset in
    let walked = all_walked n.reset n.names n.first rest (sym is.named) (omega (arith, is.some, is.named)) (omega (arith, is.most, is.named, most_is n.reset))
    is.names is.distinct is.go is.done is.go_low is.done_low in
    let last = last_form (head version) n.names n.first (sym is.named) (omega (arith, is.some, is.named)) in
    let ends : walked.ends ≡ true = sym walked.read.ends ∙ ap (ends_nodes (version == 2)) last
    ∙ reset_ends n n.reset is.reset is.named (omega (arith, is.some, is.named)) in
    subst (λ b. IsNodesRead version n.names n.first b (flat_map form_spelling (nodes_told version n.names n.first) ++ rest) rest) ends walked.read

-- the channels

found_map : (names : List (List ℕ)) (numbers : List ℕ) → Distinct names → All (λ k. k < length names) numbers →
    AreFound names (map (λ k. get_or names k []) numbers) numbers
found_map names [] all within = refl
found_map names (k ∷ numbers) all within =
    ap (λ o. o ∷ map (place_in names) (map (λ k. get_or names k []) numbers)) (place_at_name names k all (All-head (λ k. k < length names) k numbers within))
    ∙ ap (λ os. Some k ∷ os) (found_map names numbers all (All-tail (λ k. k < length names) k numbers within))

pub wired_in : (n : NetValue) (w : Wires) → IsNet n → IsChannel n w → IsWiredAmong n.names n.first w
wired_in n w net is =
    let c = w.channel in
    let within = subst (λ count. All (λ k. k < count) w.rails) (sym net.named) is.rails_within in
    let rails : AreFound n.names (rail_names c.name c.width) w.rails =
    subst (λ xs. AreFound n.names xs w.rails) is.rails (found_map n.names w.rails net.distinct within) in
    let ack : place_in n.names (ack_name c.name) ≡ Some w.ack =
    ap (place_in n.names) (sym is.ack) ∙ place_at_name n.names w.ack net.distinct (omega (arith, is.ack_within, net.named)) in
    let found = found_more n.names (rail_names c.name c.width) w.rails (ack_name c.name) w.ack rails ack in
    let low = All-push (λ k. get_or n.first k false ≡ false) w.rails w.ack is.rails_low is.ack_low in
    record {
      found = found;
      low = low;
      sound =
          fault_none n.names n.first c (wire_numbers w) (sym net.named) net.distinct found (list_any_none (λ k. get_or n.first k false) (wire_numbers w) low);
    }

abbrev pub channel_form : Wires → Form
channel_form w = channel w.channel

pub channels_walk : (version : ℕ) (names : List (List ℕ)) (first : List Bool) (pre suf : List Wires) (text rest : List ℕ) → IsNodes version names first →
    IsChannelsRead version names first pre text (flat_map form_spelling (map channel_form suf) ++ rest) → All (IsWiredAmong names first) suf →
    All (λ (w : Wires). IsChannelForm w.channel) suf → Distinct (channel_names (pre ++ suf)) → IsChannelsRead version names first (pre ++ suf) text rest
channels_walk version names first pre [] text rest nodes read wired forms all =
    subst (λ ws. IsChannelsRead version names first ws text rest) (sym (append-nil pre)) read
channels_walk version names first pre (w ∷ suf) text rest nodes read wired forms all =
    let behind = flat_map form_spelling (map channel_form suf) ++ rest in
    let form = All-head (λ (w : Wires). IsChannelForm w.channel) w suf forms in
    let line = front_line (channel w.channel) behind form in
    let read' = subst (λ t. IsChannelsRead version names first pre text t)
    (append_assoc (form_spelling (channel w.channel)) (flat_map form_spelling (map channel_form suf)) rest) read in
    let apart = subst Distinct (map-append (λ (w : Wires). w.channel.name) pre (w ∷ suf)) all in
    let more = channels_more version names first pre w text (form_spelling (channel w.channel) ++ behind) behind nodes read' line.0 line.1 form
    (All-head (IsWiredAmong names first) w suf wired) (fresh_name (channel_names pre) w.channel.name (channel_names suf) apart) in
    let e : (pre ++ w ∷ []) ++ suf ≡ pre ++ (w ∷ suf) = append_assoc pre (w ∷ []) suf in
    subst (λ ws. IsChannelsRead version names first ws text rest) e
    (channels_walk version names first (pre ++ w ∷ []) suf text rest nodes more (All-tail (IsWiredAmong names first) w suf wired)
    (All-tail (λ (w : Wires). IsChannelForm w.channel) w suf forms) (subst (λ ws. Distinct (channel_names ws)) (sym e) all))

pub apart_names : (ws : List Wires) → AllPairs (λ (a b : Wires). a.channel.name ≢ b.channel.name) ws → Distinct (channel_names ws)
apart_names [] all = λ i j d below within. absurd (omega arith)
apart_names (w ∷ ws) all = λ i j d below within e.
    let count = length-map (w ∷ ws) (λ (w : Wires). w.channel.name) in
    all i j w below (omega (arith, count))
    (sym (get_or-map (λ (w : Wires). w.channel.name) (w ∷ ws) i w d (omega (arith, count))) ∙ e
    ∙ get_or-map (λ (w : Wires). w.channel.name) (w ∷ ws) j w d (omega (arith, count)))

-- the first of these lines isn't this one
pub other_line : (fs : List Form) (g : Form) → All IsForm fs → IsForm g → ((f : Form) → Contains fs f → f ≢ g) →
    first_line (flat_map form_spelling fs ++ []) ≡ form_spelling g → ⊥
other_line [] g forms form apart e = omega (arith, ap length e, some_line g form)
other_line (f ∷ fs) g forms form apart e =
    let is = All-head IsForm f fs forms in
    let line = front_line f (flat_map form_spelling fs ++ []) is in
    apart f (Contains-get_or (f ∷ fs) 0 f (omega arith))
    (same_form f g is form (sym line.0 ∙ sym (ap first_line (append_assoc (form_spelling f) (flat_map form_spelling fs) [])) ∙ e))

abbrev pub is_node : Form → Bool
is_node (head v) = false
is_node (node n v) = true
is_node (channel c) = false
is_node (rule g n u) = false

pub all_rules : (P : Form → Type 0) (names : List (List ℕ)) (r : RulesValue) (ks : List ℕ) → ((g : List (List Signed)) (n : List ℕ) (u : Bool) → P (rule g n u))
    → All P (flat_map (node_rules names r) ks)
all_rules P names r [] each = All-nil P
all_rules P names r (k ∷ ks) each =
    All-append P (node_rules names r k) (flat_map (node_rules names r) ks)
    (All-append P (guard_forms names (get_or r.up k []) k true) (guard_forms names (get_or r.down k []) k false) (one (get_or r.up k []) true)
    (one (get_or r.down k []) false)) (all_rules P names r ks each)
  where
    one : (g : GuardValue) (u : Bool) → All P (guard_forms names g k u)
    one [] u = All-nil P
    one (t ∷ ts) u = All-cons P (rule (guard_named names (t ∷ ts)) (get_or names k []) u) [] (each (guard_named names (t ∷ ts)) (get_or names k []) u)
        (All-nil P)

pub all_channels : (P : Form → Type 0) (ws : List Wires) → ((c : Channel) → P (channel c)) → All P (map channel_form ws)
all_channels P [] each = All-nil P
all_channels P (w ∷ ws) each = All-cons P (channel w.channel) (map channel_form ws) (each w.channel) (all_channels P ws each)
