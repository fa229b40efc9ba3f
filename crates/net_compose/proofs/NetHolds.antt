-- The net of a typed program is a net of a rule file.
use Rattle.std.proofs.Common.{◌≡◌, ◌≢◌, ℕ, zero, suc, ◌+◌, ◌*◌, ◌/◌, ◌%◌, ◌≤◌, ◌<◌, ◌==◌, Bool, true, false, List, [], ◌∷◌, ◌++◌, map, length, get_or, None, refl, sym, ap, subst, ◌∙◌, arith, append_assoc, get_or-append-add}
use Rattle.std.specs.Prelude.{◌||◌, if◌then◌else◌, replicate, All, AllPairs, codes}
use Rattle.std.proofs.lemmas.Bool.{ne_eqb}
use Rattle.std.proofs.lemmas.List.{length-map, length-replicate, get_or_append_left, get_or-map}
use Rattle.std.proofs.lemmas.List.Elements.{All-nil, All-cons, All-head, All-tail}
use Rattle.chp_base.specs.declared.channel.Channel.{Channel}
use Rattle.chp_base.specs.declared.channel.Kind.{Kind}
use Rattle.chp_base.specs.declared.channel.Kind.TheVariants.{In, Out, Chan}
use Rattle.prs_core.specs.declared.wires.Wires.{Wires}
use Rattle.prs_core.specs.Nets.{NetValue, net_of, RulesValue, IsFilled, literals_of, NodeRules, IsBelow, IsRules, IsNet, IsChannel, IsUndriven, name_at, first_at, ack_name, wires_from_outside}
use Rattle.prs_core.specs.Pairs.{pairs_from, no_rules, rails_of}
use Rattle.width_check.specs.declared.typed.Var.{Var}
use Rattle.width_check.specs.Processes.{Process, skipping, assigning, sending, receiving, in_turn, side_by_side, choosing, repeating, Processes, no_members, and_member, Choices, no_choices, and_choice, TypedProgram}
use Rattle.width_check.specs.Typing.{kind_at, channel_width, var_width, names_of, IsTyped, IsDeclaredChannel}
use Rattle.width_check.specs.Reads.{reads}
use Rattle.handshake_expand.specs.Layout.{wires_size, wires_before, channel_from, vars_from, var_from, root_request, body_from, size_of, nodes_of}
use Rattle.handshake_expand.specs.Answers.{bodies_from, select_own, again_own}
use Rattle.handshake_expand.specs.Named.{wire_names}
use Rattle.cell_variable.specs.Variables.{high_first}
use Rattle.handshake_expand.specs.Sites.{in_body, sites_in, sites_in_turn, sites_in_branches, sites_in_bodies}
use Rattle.net_compose.specs.Translation.{rails_at, ack_at, hidden_high, send_site, rail_rules, channel_rules, channels_rules, vars_rules, vars_high, first_values, wires_from, all_rules, composed, translation}
use Rattle.net_compose.specs.NamesTo.{names_to}
use Rattle.net_compose.proofs.FlatCells.{rail_place_lt, rail_place}
use Rattle.net_compose.proofs.FlatFirst.{member, raised_is}
use Rattle.net_compose.proofs.FlatWires.{wires_below}
use Rattle.net_compose.proofs.Sizes.{Counted, all_counted, all_length, root_and_body, wires_length, rails_length, pairs_of_guards}
use Rattle.net_compose.proofs.NetLiterals.{few_literals}
use Rattle.net_compose.proofs.NetFilled.{all_filled, ups_filled, downs_filled}
use Rattle.net_compose.proofs.NetNames.{channel_name, names_count, rails_named, rail_text, rail_named, ack_named, rail_text_is, blocks_and_body, count_of_names, each_is_name, all_differ}

-- first values: the nodes before the variables' blocks are low

abbrev pub AllFrom : ℕ → List ℕ → Type 0
AllFrom b [] = Unit {0}
AllFrom b (x ∷ xs) = (b ≤ x) × AllFrom b xs

pub not_among : (b m : ℕ) (xs : List ℕ) → AllFrom b xs → m < b → member m xs ≡ false
not_among b m [] h lt = refl
not_among b m (x ∷ xs) h lt =
    let first = h.0 in
    ap (λ c. c || member m xs) (ne_eqb x m (λ e. absurd (omega (arith, e, first, lt)))) ∙ not_among b m xs h.1 lt

pub from_append : (b : ℕ) (xs ys : List ℕ) → AllFrom b xs → AllFrom b ys → AllFrom b (xs ++ ys)
from_append b [] ys h k = k
from_append b (x ∷ xs) ys h k = (h.0, from_append b xs ys h.1 k)

pub from_lower : (b c : ℕ) (xs : List ℕ) → b ≤ c → AllFrom c xs → AllFrom b xs
from_lower b c [] le h = tt
from_lower b c (x ∷ xs) le h = let first = h.0 in (omega (arith, le, first), from_lower b c xs le h.1)

high_from : (n v from : ℕ) → AllFrom from (high_first n v from)
high_from zero v from = tt
high_from (suc n) v from = (rail (v % 2 == 1), from_lower from (from + 5) (high_first n (v / 2) (from + 5)) (omega arith) (high_from n (v / 2) (from + 5)))
  where
    rail : (b : Bool) → from ≤ (if b then from else from + 1)
    rail true = omega arith
    rail false = omega arith

module _ (p : TypedProgram) where
  pub vars_high_from : (x : ℕ) (vs : List Var) → AllFrom (vars_from p) (vars_high p x vs)
  vars_high_from x [] = tt
  vars_high_from x (v ∷ vs) =
      from_append (vars_from p) (high_first v.width v.first (var_from p x)) (vars_high p (suc x) vs)
      (from_lower (vars_from p) (var_from p x) (high_first v.width v.first (var_from p x)) (omega arith) (high_from v.width v.first (var_from p x)))
      (vars_high_from (suc x) vs)

  hidden_if : (b : Bool) (w from : ℕ) → AllFrom from (if b then high_first w 0 from else [])
  hidden_if true w from = high_from w 0 from
  hidden_if false w from = tt

  mutual
    pub hidden_from : (s : Process) (from : ℕ) → AllFrom from (sites_in p (hidden_high p) s from)
    hidden_from skipping from = tt
    hidden_from (assigning x at e) from = hidden_if (reads x e) (var_width p.vars x) from
    hidden_from (sending chan at e) from = tt
    hidden_from (receiving chan at x to) from = tt
    hidden_from (in_turn members) from = hidden_turn members from
    hidden_from (side_by_side members) from = hidden_branches members from
    hidden_from (choosing false choices) from =
        from_lower from (bodies_from choices select_own from) (sites_in_bodies p (hidden_high p) choices (bodies_from choices select_own from)) (omega arith)
        (hidden_bodies choices (bodies_from choices select_own from))
    hidden_from (choosing true choices) from =
        from_lower from (bodies_from choices again_own from) (sites_in_bodies p (hidden_high p) choices (bodies_from choices again_own from)) (omega arith)
        (hidden_bodies choices (bodies_from choices again_own from))
    hidden_from (repeating s) from = from_lower from (from + 2) (sites_in p (hidden_high p) s (from + 2)) (omega arith) (hidden_from s (from + 2))

    hidden_turn : (members : Processes) (from : ℕ) → AllFrom from (sites_in_turn p (hidden_high p) members from)
    hidden_turn no_members from = tt
    hidden_turn (and_member s no_members) from = hidden_from s from
    hidden_turn (and_member s (and_member t more)) from =
        let to = from + 3 + size_of p s in
        from_append from (sites_in p (hidden_high p) s (from + 3)) (sites_in_turn p (hidden_high p) (and_member t more) to)
        (from_lower from (from + 3) (sites_in p (hidden_high p) s (from + 3)) (omega arith) (hidden_from s (from + 3)))
        (from_lower from to (sites_in_turn p (hidden_high p) (and_member t more) to) (omega arith) (hidden_turn (and_member t more) (from + 3 + size_of p s)))

    hidden_branches : (members : Processes) (from : ℕ) → AllFrom from (sites_in_branches p (hidden_high p) members from)
    hidden_branches no_members from = tt
    hidden_branches (and_member s more) from =
        let to = from + 3 + size_of p s in
        from_append from (sites_in p (hidden_high p) s (from + 3)) (sites_in_branches p (hidden_high p) more to)
        (from_lower from (from + 3) (sites_in p (hidden_high p) s (from + 3)) (omega arith) (hidden_from s (from + 3)))
        (from_lower from to (sites_in_branches p (hidden_high p) more to) (omega arith) (hidden_branches more (from + 3 + size_of p s)))

    hidden_bodies : (choices : Choices) (from : ℕ) → AllFrom from (sites_in_bodies p (hidden_high p) choices from)
    hidden_bodies no_choices from = tt
    hidden_bodies (and_choice g s more) from =
        let to = from + size_of p s in
        from_append from (sites_in p (hidden_high p) s from) (sites_in_bodies p (hidden_high p) more to) (hidden_from s from)
        (from_lower from to (sites_in_bodies p (hidden_high p) more to) (omega arith) (hidden_bodies more (from + size_of p s)))

  pub all_low : (n m : ℕ) → get_or (replicate n false) m false ≡ false
  all_low zero m = refl
  all_low (suc n) zero = refl
  all_low (suc n) (suc m) = all_low n m

  pub low_before : (m : ℕ) → m < vars_from p → get_or (first_values p) m false ≡ false
  low_before m lt =
      let highs = vars_high p 0 p.vars ++ in_body p (hidden_high p) in
      let n : length (replicate (nodes_of p) false) ≡ nodes_of p = length-replicate (nodes_of p) false in
      let out = not_among (vars_from p) m highs
      (from_append (vars_from p) (vars_high p 0 p.vars) (in_body p (hidden_high p)) (vars_high_from 0 p.vars)
      (from_lower (vars_from p) (body_from p) (in_body p (hidden_high p)) (omega arith) (hidden_from p.body (body_from p)))) lt in
      raised_is highs (replicate (nodes_of p) false) m (omega (arith, n, lt))
      ∙ (ap (λ b. b || member m highs) (all_low (nodes_of p) m) ∙ out)

  -- the rules of wires

  channel_rules_at : (k : ℕ) (cs : List Channel) (tail : List NodeRules) (j m : ℕ) → j < length cs → m < wires_size (channel_width cs j)
      → get_or (channels_rules p k cs ++ tail) (wires_before cs j + m) no_rules ≡ get_or (channel_rules p (k + j) (channel_width cs j) (kind_at cs j)) m
      no_rules
  channel_rules_at k [] tail j m h lt = absurd (omega (arith, h))
  channel_rules_at k (c ∷ cs) tail zero m h lt =
      let own = channel_rules p k c.width c.kind in
      let n = wires_length p k c.width c.kind in
      ap (λ xs. get_or xs (0 + m) no_rules) (append_assoc own (channels_rules p (suc k) cs) tail)
      ∙ (ap (λ i. get_or (own ++ (channels_rules p (suc k) cs ++ tail)) i no_rules) (let e : 0 + m ≡ m = omega arith in e)
      ∙ (get_or_append_left own (channels_rules p (suc k) cs ++ tail) no_rules m (omega (arith, n, lt))
      ∙ ap (λ i. get_or (channel_rules p i c.width c.kind) m no_rules) (let e : k ≡ k + 0 = omega arith in e)))
  channel_rules_at k (c ∷ cs) tail (suc j) m h lt =
      let own = channel_rules p k c.width c.kind in
      let n = wires_length p k c.width c.kind in
      ap (λ xs. get_or xs (wires_size c.width + wires_before cs j + m) no_rules) (append_assoc own (channels_rules p (suc k) cs) tail)
      ∙ (ap (λ i. get_or (own ++ (channels_rules p (suc k) cs ++ tail)) i no_rules) (let e : wires_size c.width + wires_before cs j + m ≡ length own +
      (wires_before cs j + m) = omega (arith, n) in e)
      ∙ (get_or-append-add own (channels_rules p (suc k) cs ++ tail) (wires_before cs j + m) no_rules
      ∙ (channel_rules_at (suc k) cs tail j m (omega (arith, h)) lt
      ∙ ap (λ i. get_or (channel_rules p i (channel_width cs j) (kind_at cs j)) m no_rules) (let e : suc k + j ≡ k + suc j = omega arith in e))))

  pub silent_at : (n i : ℕ) → get_or (replicate n no_rules) i no_rules ≡ no_rules
  silent_at zero i = refl
  silent_at (suc n) zero = refl
  silent_at (suc n) (suc i) = silent_at n i

  in_rail : (k w m : ℕ) → m < 2 * w → get_or (channel_rules p k w In) m no_rules ≡ no_rules
  in_rail k w m lt =
      let n : length (replicate (2 * w) no_rules) ≡ 2 * w = length-replicate (2 * w) no_rules in
      get_or_append_left (replicate (2 * w) no_rules) _ no_rules m (omega (arith, n, lt)) ∙ silent_at (2 * w) m

  out_ack : (k w : ℕ) → get_or (channel_rules p k w Out) (2 * w) no_rules ≡ no_rules
  out_ack k w =
      let sites = in_body p (send_site k) in
      let n = rails_length sites 0 w in
      ap (λ m. get_or (channel_rules p k w Out) m no_rules) (let e : 2 * w ≡ length (rail_rules sites 0 w) + 0 = omega (arith, n) in e)
      ∙ get_or-append-add (rail_rules sites 0 w) (no_rules ∷ []) 0 no_rules

-- what holds of the two rails of each bit holds of the rails
pub rails_all : (P : ℕ → Type 0) (from w : ℕ) → ((i : ℕ) (one : Bool) → i < w → P (from + rail_place i one)) → All P (rails_of (pairs_from w from))
rails_all P from zero h = All-nil P
rails_all P from (suc n) h =
    let first : P from = subst P (let e : from + 0 ≡ from = omega arith in e) (h 0 true (omega arith)) in
    let second : P (from + 1) = h 0 false (omega arith) in
    All-cons P from ((from + 1) ∷ rails_of (pairs_from n (from + 2))) first
    (All-cons P (from + 1) (rails_of (pairs_from n (from + 2))) second
    (rails_all P (from + 2) n (λ i one lt. subst P (let e : from + suc (suc (rail_place i one)) ≡ from + 2 + rail_place i one = omega arith in
    e) (h (suc i) one (omega (arith, lt))))))

rails_named_by : (f : ℕ → List ℕ) (name : List ℕ) (from bit w : ℕ) → ((i : ℕ) (one : Bool) → i < w → f (from + rail_place i one) ≡ rail_text name (bit + i) one)
    → map f (rails_of (pairs_from w from)) ≡ rails_named name bit w
rails_named_by f name from bit zero h = refl
rails_named_by f name from bit (suc n) h =
    let first : f from ≡ rail_text name bit true = ap f (let e : from ≡ from + 0 = omega arith in e)
    ∙ (h 0 true (omega arith) ∙ ap (λ b. rail_text name b true) (let e : bit + 0 ≡ bit = omega arith in e)) in
    let second : f (from + 1) ≡ rail_text name bit false = h 0 false (omega arith) ∙ ap (λ b. rail_text name b false) (let e : bit + 0 ≡ bit = omega arith in
    e) in
    let rest = rails_named_by f name (from + 2) (bit + 1) n (λ i one lt.
    ap f (let e : from + 2 + rail_place i one ≡ from + suc (suc (rail_place i one)) = omega arith in e)
    ∙ (h (suc i) one (omega (arith, lt)) ∙ ap (λ b. rail_text name b one) (let e : bit + suc i ≡ bit + 1 + i = omega arith in e))) in
    ap (λ x. x ∷ (f (from + 1)) ∷ map f (rails_of (pairs_from n (from + 2)))) first
    ∙ (ap (λ x. rail_text name bit true ∷ x ∷ map f (rails_of (pairs_from n (from + 2)))) second
    ∙ ap (λ xs. rail_text name bit true ∷ rail_text name bit false ∷ xs) rest)

rails_count : (from w : ℕ) → length (rails_of (pairs_from w from)) ≡ 2 * w
rails_count from zero = refl
rails_count from (suc n) = let e = rails_count (from + 2) n in omega (arith, e)

-- the channels with their wires, counted from a number on
abbrev wired : TypedProgram → ℕ → Channel → Wires
wired p k c = record { channel = c; rails = rails_of (rails_at p k); ack = ack_at p k }

abbrev channel_at : List Channel → ℕ → Channel → Type 0
channel_at [] j c = ⊥
channel_at (d ∷ ds) zero c = d ≡ c
channel_at (d ∷ ds) (suc j) c = channel_at ds j c

each_wired : (P : Wires → Type 0) (p : TypedProgram) (k : ℕ) (cs : List Channel) →
    ((j : ℕ) (c : Channel) → j < length cs → channel_at cs j c → P (wired p (k + j) c)) → All P (wires_from p k cs)
each_wired P p k [] h = All-nil P
each_wired P p k (c ∷ cs) h =
    let first : P (wired p k c) = subst (λ i. P (wired p i c)) (let e : k + 0 ≡ k = omega arith in e) (h 0 c (omega arith) refl) in
    All-cons P (wired p k c) (wires_from p (suc k) cs) first
    (each_wired P p (suc k) cs (λ j d lt at. subst (λ i. P (wired p i d)) (let e : k + suc j ≡ suc k + j = omega arith in
    e) (h (suc j) d (omega (arith, lt)) at)))

-- a net with a program's wires and names, whose first values are low before the blocks of variables, and where nothing else
-- drives what the environment does
module _ (p : TypedProgram) (typed : IsTyped p.channels p.vars p.body) (count : ℕ) (small : root_request p + count ≤ 65536) (first : List Bool)
    (rules : RulesValue)
    (long : length first ≡ root_request p + count) (lows : (m : ℕ) → m < vars_from p → get_or first m false ≡ false) where
  abbrev pub some_net : NetValue
  some_net = net_of (names_to p count) first rules (wires_from p 0 p.channels) None

  declared_at : (cs : List Channel) (j : ℕ) (c : Channel) → channel_at cs j c → All IsDeclaredChannel cs → IsDeclaredChannel c
  declared_at [] j c at h = absurd at
  declared_at (d ∷ ds) zero c at h = subst IsDeclaredChannel at (All-head IsDeclaredChannel d ds h)
  declared_at (d ∷ ds) (suc j) c at h = declared_at ds j c at (All-tail IsDeclaredChannel d ds h)

  told_of : (cs : List Channel) (j : ℕ) (c : Channel) → channel_at cs j c → (channel_name cs j ≡ c.name) × (channel_width cs j ≡ c.width)
      × (kind_at cs j ≡ c.kind)
  told_of [] j c at = absurd at
  told_of (d ∷ ds) zero c at = (ap (λ (x : Channel). x.name) at, ap (λ (x : Channel). x.width) at, ap (λ (x : Channel). x.kind) at)
  told_of (d ∷ ds) (suc j) c at = told_of ds j c at

  within : (k m : ℕ) → k < length p.channels → m < wires_size (channel_width p.channels k) → channel_from p k + m < vars_from p
  within k m h lt = let e = wires_below p.channels k h in omega (arith, e, lt)

  in_net : (m : ℕ) → m < vars_from p → m < length first
  in_net m lt = omega (arith, long, lt)

  module _ (outside : (k : ℕ) → k < length p.channels → All (IsUndriven some_net)
      (wires_from_outside (kind_at p.channels k) (rails_of (rails_at p k)) (ack_at p k))) where
    named_at : (k m : ℕ) (name : List ℕ) → get_or (wire_names p.channels ++ blocks_and_body p typed count small) (wires_before p.channels k + m) [] ≡ name →
        name_at some_net (channel_from p k + m) ≡ name
    named_at k m name h = ap (λ i. get_or (names_to p count) i []) (let e : channel_from p k + m ≡ suc (suc (wires_before p.channels k + m)) = omega arith in e)
        ∙ h

    channel_is : (k : ℕ) (c : Channel) → k < length p.channels → channel_at p.channels k c → IsChannel some_net (wired p k c)
    channel_is k c h at =
        let d = declared_at p.channels k c at typed.each_channel in
        let t = told_of p.channels k c at in
        let w = channel_width p.channels k in
        let name = channel_name p.channels k in
        let wide = t.1 in
        let whole = within k (2 * w) h (omega arith) in
        record {
          name = d.name;
          some = d.some;
          most = d.most;
          count = rails_count (channel_from p k) w ∙ ap (λ n. 2 * n) t.1;
          rails =
              rails_named_by (name_at some_net) name (channel_from p k) 0 w
              (λ i one lt. named_at k (rail_place i one) (rail_text name (0 + i) one) (rail_named p typed count small k i one h lt
              ∙ sym (rail_text_is p typed count small name i one)))
              ∙ (ap (λ n. rails_named n 0 w) t.0 ∙ ap (rails_named c.name 0) t.1);
          rails_within = rails_all (λ rail. rail < length first) (channel_from p k) w (λ i one lt. let below = rail_place_lt i w one lt in
              in_net (channel_from p k + rail_place i one) (within k (rail_place i one) h (omega (arith, below))));
          rails_low = rails_all (λ rail. first_at some_net rail ≡ false) (channel_from p k) w (λ i one lt. let below = rail_place_lt i w one lt in
              lows (channel_from p k + rail_place i one) (within k (rail_place i one) h (omega (arith, below))));
          ack = named_at k (2 * w) (name ++ codes ".a") (ack_named p typed count small k h) ∙ ap ack_name t.0;
          ack_within = in_net (ack_at p k) whole;
          ack_low = lows (ack_at p k) whole;
          outside = subst (λ x. All (IsUndriven some_net) (wires_from_outside x (rails_of (rails_at p k)) (ack_at p k))) t.2
              (outside k h);
        }

    names_of_wires : (k : ℕ) (cs : List Channel) → map (λ (w : Wires). w.channel.name) (wires_from p k cs) ≡ map (λ (c : Channel). c.name) cs
    names_of_wires k [] = refl
    names_of_wires k (c ∷ cs) = ap (λ xs. c.name ∷ xs) (names_of_wires (suc k) cs)

    wires_count : (k : ℕ) (cs : List Channel) → length (wires_from p k cs) ≡ length cs
    wires_count k [] = refl
    wires_count k (c ∷ cs) = ap suc (wires_count (suc k) cs)

    wire_name : (i : ℕ) (d : Wires) → i < length (wires_from p 0 p.channels) →
        (get_or (wires_from p 0 p.channels) i d).channel.name ≡ get_or (names_of p.channels p.vars) i []
    wire_name i d lt =
        let n = wires_count 0 p.channels in
        let names = map (λ (c : Channel). c.name) p.channels in
        let m : length names ≡ length p.channels = length-map p.channels _ in
        sym (get_or-map (λ (w : Wires). w.channel.name) (wires_from p 0 p.channels) i d [] lt)
        ∙ (ap (λ xs. get_or xs i []) (names_of_wires 0 p.channels)
        ∙ sym (get_or_append_left names (map (λ (v : Var). v.name) p.vars) [] i (omega (arith, lt, n, m))))

    channels_differ : AllPairs (λ (a b : Wires). a.channel.name ≢ b.channel.name) (wires_from p 0 p.channels)
    channels_differ i j d less lt same =
        let n = wires_count 0 p.channels in
        let c = names_count p in
        typed.distinct i j [] less (omega (arith, lt, n, c)) (sym (wire_name i d (omega (arith, less, lt))) ∙ (same ∙ wire_name j d lt))

    -- with rules over its own nodes, of no empty terms and of at most 64 literals for each node
    pub net_is : length rules.up ≡ length first → IsRules rules → All IsFilled rules.up → All IsFilled rules.down → literals_of some_net ≤ 64 * length first
        → IsUndriven some_net 0 → IsNet some_net
    net_is same is ups downs few go =
        let named = count_of_names p count in
        let down = is.downs in
        record {
          named = omega (arith, named, long);
          ups = same;
          downs = omega (arith, down, same);
          some = omega (arith, long);
          most = omega (arith, long, small);
          names = each_is_name p typed count small;
          distinct = all_differ p typed count small;
          go = refl;
          go_low = lows 0 (omega arith);
          go_undriven = go;
          done = refl;
          done_low = lows 1 (omega arith);
          up_within = subst (λ n. All (IsBelow n) rules.up) same is.up_within;
          down_within = subst (λ n. All (IsBelow n) rules.down) same is.down_within;
          up_filled = ups;
          down_filled = downs;
          literals = omega (arith, few, long, small);
          channels = each_wired (IsChannel some_net) p 0 p.channels (λ j c lt at. subst (λ i. IsChannel some_net (wired p i c)) (let e : j ≡ 0 + j =
              omega arith in e) (channel_is j c lt at));
          channels_distinct = channels_differ;
          reset = tt;
        }

module _ (p : TypedProgram) (typed : IsTyped p.channels p.vars p.body) (small : nodes_of p ≤ 65536) where
  abbrev the_net : NetValue
  the_net = translation p

  wire_within : (k m : ℕ) → k < length p.channels → m < wires_size (channel_width p.channels k) → channel_from p k + m < vars_from p
  wire_within k m h lt = let e = wires_below p.channels k h in omega (arith, e, lt)

  rule_at : (k m : ℕ) → k < length p.channels → m < wires_size (channel_width p.channels k) →
      get_or (all_rules p) (channel_from p k + m) no_rules ≡ get_or (channel_rules p k (channel_width p.channels k) (kind_at p.channels k)) m no_rules
  rule_at k m h lt =
      let tail = vars_rules p 0 p.vars ++ root_and_body p in
      ap (λ i. get_or (all_rules p) i no_rules) (let e : channel_from p k + m ≡ suc (suc (wires_before p.channels k + m)) = omega arith in e)
      ∙ (channel_rules_at p 0 p.channels tail k m h lt ∙ ap (λ i. get_or (channel_rules p i (channel_width p.channels k) (kind_at p.channels k)) m no_rules)
      (let e : 0 + k ≡ k = omega arith in e))

  silent : (n : ℕ) → n < length (all_rules p) → get_or (all_rules p) n no_rules ≡ no_rules → IsUndriven the_net n
  silent n lt e = record {
    up = get_or-map (λ (r : NodeRules). r.up) (all_rules p) n no_rules [] lt ∙ ap (λ (r : NodeRules). r.up) e;
    down = get_or-map (λ (r : NodeRules). r.down) (all_rules p) n no_rules [] lt ∙ ap (λ (r : NodeRules). r.down) e;
  }

  module _ (counted : Counted) where
    rules_count : length (all_rules p) ≡ nodes_of p
    rules_count = all_length counted p typed.body_is

    outside_of : (k : ℕ) → k < length p.channels → (kind : Kind) → kind_at p.channels k ≡ kind →
        All (IsUndriven the_net) (wires_from_outside kind (rails_of (rails_at p k)) (ack_at p k))
    outside_of k h In is =
        rails_all (IsUndriven the_net) (channel_from p k) (channel_width p.channels k) (λ i one lt.
        let below = rail_place_lt i (channel_width p.channels k) one lt in
        let inside = wire_within k (rail_place i one) h (omega (arith, below)) in
        let n = rules_count in
        silent (channel_from p k + rail_place i one) (omega (arith, inside, n))
        (rule_at k (rail_place i one) h (omega (arith, below))
        ∙ (ap (λ x. get_or (channel_rules p k (channel_width p.channels k) x) (rail_place i one) no_rules) is
        ∙ in_rail p k (channel_width p.channels k) (rail_place i one) below)))
    outside_of k h Out is =
        let inside = wire_within k (2 * channel_width p.channels k) h (omega arith) in
        let n = rules_count in
        All-cons (IsUndriven the_net) (ack_at p k) []
        (silent (ack_at p k) (omega (arith, inside, n)) (rule_at k (2 * channel_width p.channels k) h (omega arith)
        ∙ (ap (λ x. get_or (channel_rules p k (channel_width p.channels k) x) (2 * channel_width p.channels k) no_rules) is
        ∙ out_ack p k (channel_width p.channels k))))
        (All-nil (IsUndriven the_net))
    outside_of k h Chan is = All-nil (IsUndriven the_net)

    pub net_holds : IsRules (composed p) → IsNet (translation p)
    net_holds rules =
        let size = all_counted counted p typed in
        let first = size.first in
        let up = size.up in
        let few = few_literals counted p typed in
        let filled = all_filled p (λ choices from h. pairs_of_guards counted p choices from h) typed.body_is in
        net_is p typed (2 + size_of p p.body) (omega (arith, small)) (first_values p) (composed p) (omega (arith, first)) (low_before p)
        (λ k h. outside_of k h (kind_at p.channels k) refl) (omega (arith, first, up)) rules (ups_filled (all_rules p) filled)
        (downs_filled (all_rules p) filled)
        (omega (arith, few, first)) (record { up = refl; down = refl })
