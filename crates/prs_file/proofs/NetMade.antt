-- The parts that were read make a net.
use Rattle.std.proofs.Common.{◌≡◌, ◌≢◌, ℕ, zero, suc, ◌+◌, ◌-◌, ◌*◌, ◌<◌, Bool, true, false, cond, Some, List, [], ◌∷◌, ◌++◌, length, map, get_or, refl, ap, sym, ◌∙◌, subst, arith, length-append}
use Rattle.std.specs.Prelude.{◌==◌, ◌||◌, ◌&&◌, not, All, AllPairs, bytes_eq, codes}
use Rattle.std.specs.List.{list_any}
use Rattle.std.specs.Cmp.Lexicographic.{bytes_decides}
use Rattle.std.proofs.lemmas.Bool.{or_left, or_right, and_parts}
use Rattle.std.proofs.lemmas.List.{length-map, get_or-map}
use Rattle.std.proofs.lemmas.List.Elements.{All-nil, All-cons, All-head, All-tail, All-pop}
use Rattle.chp_base.specs.declared.channel.Channel.{Channel}
use Rattle.prs_core.specs.declared.wires.Wires.{Wires}
use Rattle.prs_core.specs.Nets.{RulesValue, NetValue, net_of, rail_names, ack_name, true_rail, false_rail, wires_from_outside, IsUndriven, IsChannel, IsReset, IsNet, IsBelow, most_nodes, most_literals}
use Rattle.prs_file.specs.ChannelsTold.{channel_names, IsChannelsRead}
use Rattle.prs_file.specs.DrivenTold.{HasItsReset}
use Rattle.prs_file.specs.Indexes.{place_in}
use Rattle.prs_file.specs.NodesTold.{IsNodes, IsNodesRead, node_forms, node_most}
use Rattle.prs_file.specs.Reading.{Form, IsChannelForm, last_of, ends_nodes, outside_of}
use Rattle.prs_file.specs.Reading.Form.{head, node}
use Rattle.prs_file.specs.RulesTold.{is_driven}
use Rattle.prs_file.specs.Tables.{reset_by, IsTable, IsWholeTable}
use Rattle.prs_file.specs.WiresFound.{AreFound, IsWiredAmong}
use Rattle.prs_file.proofs.DrivenNodes.{wired_parts, outside_found}
use Rattle.prs_file.proofs.Lookups.{rails_more}
use Rattle.prs_file.proofs.TableLoop.{channels_of}
use Rattle.prs_file.proofs.Wirings.{place_found, numbers_within}

-- the last node line

pub last_form : (f : Form) (names : List (List ℕ)) (first : List Bool) → length first ≡ length names → 0 < length names →
    last_of (f ∷ node_forms names first) ≡ Some (node (get_or names (length names - 1) []) (get_or first (length names - 1) false))
last_form f [] first same some = absurd (omega arith)
last_form f (n ∷ names) [] same some = absurd (omega arith)
last_form f (n ∷ []) (v ∷ []) same some = refl
last_form f (n ∷ []) (v ∷ w ∷ first) same some = absurd (omega arith)
last_form f (n ∷ m ∷ names) (v ∷ []) same some = absurd (omega arith)
last_form f (n ∷ m ∷ names) (v ∷ w ∷ first) same some =
    let e : length (m ∷ names) ≡ suc (length (m ∷ names) - 1) = omega arith in
    let at : suc (length (m ∷ names) - 1) ≡ length (n ∷ m ∷ names) - 1 = omega arith in
    last_form (node n v) (m ∷ names) (w ∷ first) (omega arith) (omega arith)
    ∙ ap (λ k. Some (node (get_or (n ∷ m ∷ names) k []) (get_or (v ∷ w ∷ first) k false))) at

ends_in_reset : (b : Bool) (name : List ℕ) (high : Bool) → b ≡ true → (not b || (bytes_eq name (codes "reset") && high)) ≡ true →
    (name ≡ codes "reset") × (high ≡ true)
ends_in_reset false name high is ends = absurd (cc is)
ends_in_reset true name high is ends =
    let both = and_parts (bytes_eq name (codes "reset")) high ends in
    ((bytes_decides name (codes "reset")).0 both.0, both.1)

pub reset_told : (version : ℕ) (names : List (List ℕ)) (first : List Bool) (text rest : List ℕ) → IsNodesRead version names first true text rest →
    HasItsReset version names first
reset_told version names first text rest read = λ is.
    let last = last_form (head version) names first read.nodes.count (omega (arith, read.nodes.some)) in
    let ends = ends_in_reset (version == 2) (get_or names (length names - 1) []) (get_or first (length names - 1) false) is
    (sym (ap (ends_nodes (version == 2)) last) ∙ read.ends) in
    record { name = ends.0; high = ends.1 }

-- wires by number and by name

rails_count : (channel : List ℕ) (width : ℕ) → length (rail_names channel width) ≡ 2 * width
rails_count channel zero = refl
rails_count channel (suc width) =
    let e : suc width ≡ width + 1 = omega arith in
    omega (
      arith,
      ap (λ n. length (rail_names channel n)) e,
      ap length (rails_more channel width),
      length-append (rail_names channel width) (true_rail channel width ∷ false_rail channel width ∷ []),
      rails_count channel width,
    )

found_count : (names wires : List (List ℕ)) (numbers : List ℕ) → AreFound names wires numbers → length numbers ≡ length wires
found_count names [] [] found = refl
found_count names [] (n ∷ numbers) found = absurd (cc found)
found_count names (w ∷ wires) [] found = absurd (cc found)
found_count names (w ∷ wires) (n ∷ numbers) found =
    let rest : AreFound names wires numbers = cc found in
    ap suc (found_count names wires numbers rest)

found_names : (names wires : List (List ℕ)) (numbers : List ℕ) → AreFound names wires numbers → map (λ k. get_or names k []) numbers ≡ wires
found_names names [] [] found = refl
found_names names [] (n ∷ numbers) found = absurd (cc found)
found_names names (w ∷ wires) [] found = absurd (cc found)
found_names names (w ∷ wires) (n ∷ numbers) found =
    let at : place_in names w ≡ Some n = cc found in
    let rest : AreFound names wires numbers = cc found in
    ap (λ x. x ∷ map (λ k. get_or names k []) numbers) (place_found names w n at).1 ∙ ap (λ xs. w ∷ xs) (found_names names wires numbers rest)

-- a wire that the environment moves has no rules
undriven_wires : (n : NetValue) (names wires : List (List ℕ)) (numbers : List ℕ) → AreFound names wires numbers →
    ((k : ℕ) → k < length names → list_any (bytes_eq (get_or names k [])) wires ≡ true → IsUndriven n k) → All (IsUndriven n) numbers
undriven_wires n names [] [] found moved = All-nil (IsUndriven n)
undriven_wires n names [] (k ∷ numbers) found moved = absurd (cc found)
undriven_wires n names (w ∷ wires) [] found moved = absurd (cc found)
undriven_wires n names (w ∷ wires) (k ∷ numbers) found moved =
    let at : place_in names w ≡ Some k = cc found in
    let rest : AreFound names wires numbers = cc found in
    let here = place_found names w k at in
    All-cons (IsUndriven n) k numbers
    (moved k here.0 (or_left (bytes_eq (get_or names k []) w) _ ((bytes_decides (get_or names k []) w).1 here.1)))
    (undriven_wires n names wires numbers rest (λ m within is. moved m within (or_right (bytes_eq (get_or names m []) w) _ is)))

-- one channel
channel_is : (n : NetValue) (w : Wires) → length n.first ≡ length n.names → IsWiredAmong n.names n.first w → IsChannelForm w.channel →
    ((k : ℕ) → k < length n.names → list_any (bytes_eq (get_or n.names k [])) (outside_of w.channel) ≡ true → IsUndriven n k) → IsChannel n w
channel_is n w same wired form moved =
    let parts = wired_parts n.names n.first w wired in
    let low = All-pop (λ k. get_or n.first k false ≡ false) (w.rails ++ w.ack ∷ []) w.rails (Some w.ack) refl wired.low in
    record {
      name = form.name;
      some = form.some;
      most = form.most;
      count = found_count n.names (rail_names w.channel.name w.channel.width) w.rails parts.0 ∙ rails_count w.channel.name w.channel.width;
      rails = found_names n.names (rail_names w.channel.name w.channel.width) w.rails parts.0;
      rails_within = subst (λ c. All (λ rail. rail < c) w.rails) (sym same)
          (numbers_within n.names (rail_names w.channel.name w.channel.width) w.rails parts.0);
      rails_low = low.0;
      ack = (place_found n.names (ack_name w.channel.name) w.ack parts.1).1;
      ack_within = omega (arith, same, (place_found n.names (ack_name w.channel.name) w.ack parts.1).0);
      ack_low = low.1;
      outside = undriven_wires n n.names (outside_of w.channel) (wires_from_outside w.channel.kind w.rails w.ack) (outside_found n.names n.first w wired) moved;
    }

all_channels : (n : NetValue) (ws : List Wires) → length n.first ≡ length n.names → All (IsWiredAmong n.names n.first) ws →
    All (λ (w : Wires). IsChannelForm w.channel) ws →
    ((k : ℕ) → k < length n.names → list_any (λ (c : Channel). list_any (bytes_eq (get_or n.names k [])) (outside_of c)) (channels_of ws) ≡ true →
    IsUndriven n k) → All (IsChannel n) ws
all_channels n [] same wired forms moved = All-nil (IsChannel n)
all_channels n (w ∷ ws) same wired forms moved =
    All-cons (IsChannel n) w ws
    (channel_is n w same (All-head (IsWiredAmong n.names n.first) w ws wired) (All-head (λ (w : Wires). IsChannelForm w.channel) w ws forms)
    (λ k within is. moved k within (or_left (list_any (bytes_eq (get_or n.names k [])) (outside_of w.channel)) _ is)))
    (all_channels n ws same (All-tail (IsWiredAmong n.names n.first) w ws wired) (All-tail (λ (w : Wires). IsChannelForm w.channel) w ws forms)
    (λ k within is. moved k within (or_right (list_any (bytes_eq (get_or n.names k [])) (outside_of w.channel)) _ is)))

apart_channels : (ws : List Wires) → AllPairs (λ (a b : List ℕ). a ≢ b) (channel_names ws) → AllPairs (λ (a b : Wires). a.channel.name ≢ b.channel.name) ws
apart_channels ws all = λ i j d below within e.
    all i j d.channel.name below (omega (arith, length-map ws (λ (w : Wires). w.channel.name)))
    (get_or-map (λ (w : Wires). w.channel.name) ws i d d.channel.name (omega arith) ∙ e
    ∙ sym (get_or-map (λ (w : Wires). w.channel.name) ws j d d.channel.name within))

-- a net of a version
most_is : (version : ℕ) (first : List Bool) → node_most version ≡ most_nodes (reset_by (version == 2) first)
most_is version first = by_version (version == 2)
  where
    by_version : (b : Bool) → cond b 65537 65536 ≡ most_nodes (reset_by b first)
    by_version true = refl
    by_version false = refl

literals_is : (b : Bool) (first : List Bool) → cond b 8454144 4194304 ≡ most_literals (reset_by b first)
literals_is true first = refl
literals_is false first = refl

moved_first : (b : Bool) (channels : List Channel) (name : List ℕ) → name ≡ codes "go" → is_driven b channels name ≡ true
moved_first b channels name is = or_left (bytes_eq name (codes "go")) _ ((bytes_decides name (codes "go")).1 is)

moved_reset : (b : Bool) (channels : List Channel) (name : List ℕ) → b ≡ true → name ≡ codes "reset" → is_driven b channels name ≡ true
moved_reset false channels name is named = absurd (cc is)
moved_reset true channels name is named =
    or_right (bytes_eq name (codes "go")) _ (or_left (bytes_eq name (codes "reset")) _ ((bytes_decides name (codes "reset")).1 named))

moved_outside : (b : Bool) (channels : List Channel) (name : List ℕ) → list_any (λ (c : Channel). list_any (bytes_eq name) (outside_of c)) channels ≡ true →
    is_driven b channels name ≡ true
moved_outside b channels name is = or_right (bytes_eq name (codes "go")) _ (or_right (b && bytes_eq name (codes "reset")) _ is)

abbrev pub net_read : ℕ → List (List ℕ) → List Bool → RulesValue → List Wires → NetValue
net_read version names first rules ws = net_of names first rules ws (reset_by (version == 2) first)

pub is_net : (version : ℕ) (names : List (List ℕ)) (first : List Bool) (ws : List Wires) (rules : RulesValue) (text rest : List ℕ) →
    IsNodes version names first → HasItsReset version names first → IsChannelsRead version names first ws text rest →
    IsWholeTable (version == 2) (channels_of ws) names rules → IsNet (net_read version names first rules ws)
is_net version names first ws rules text rest nodes reset read whole = record {
  named = sym nodes.count;
  ups = table.ups ∙ sym nodes.count;
  downs = table.downs ∙ sym nodes.count;
  some = omega (arith, nodes.some, nodes.count);
  most = omega (arith, nodes.most, nodes.count, most_is version first);
  names = nodes.named;
  distinct = nodes.distinct;
  go = nodes.go;
  go_low = nodes.go_low;
  go_undriven = undriven 0 (omega (arith, nodes.some)) (moved_first (version == 2) (channels_of ws) (get_or names 0 []) nodes.go);
  done = nodes.done;
  done_low = nodes.done_low;
  up_within = subst (λ c. All (IsBelow c) rules.up) (sym nodes.count) table.up_within;
  down_within = subst (λ c. All (IsBelow c) rules.down) (sym nodes.count) table.down_within;
  up_filled = table.up_filled;
  down_filled = table.down_filled;
  literals = omega (arith, table.literals, table.few, literals_is (version == 2) first);
  channels = all_channels n ws nodes.count read.wired read.forms
      (λ k within is. undriven k within (moved_outside (version == 2) (channels_of ws) (get_or names k []) is));
  channels_distinct = apart_channels ws read.distinct;
  reset = has_reset (version == 2) refl;
}
  where
    n : NetValue
    n = net_read version names first rules ws

    table : IsTable (version == 2) (channels_of ws) names whole.last whole.count rules
    table = whole.table

    undriven : (k : ℕ) → k < length names → is_driven (version == 2) (channels_of ws) (get_or names k []) ≡ true →
        IsUndriven (net_read version names first rules ws) k
    undriven k within moved = record { up = table.up_undriven k within moved; down = table.down_undriven k within moved }

    has_reset : (b : Bool) → (version == 2) ≡ b → IsReset (net_read version names first rules ws) (reset_by b first)
    has_reset false is = tt
    has_reset true is =
        let ends = reset is in
        let at : length first - 1 ≡ length names - 1 = omega (arith, nodes.count) in
        let named : get_or names (length first - 1) [] ≡ codes "reset" = ap (λ k. get_or names k []) at ∙ ends.name in
        record {
          last = omega (arith, nodes.some, nodes.count);
          name = named;
          high = ap (λ k. get_or first k false) at ∙ ends.high;
          undriven = undriven (length first - 1) (omega (arith, nodes.some, nodes.count))
              (moved_reset (version == 2) (channels_of ws) (get_or names (length first - 1) []) is named);
        }
