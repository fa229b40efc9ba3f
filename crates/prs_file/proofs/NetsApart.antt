-- A text spells at most one net.
use Rattle.std.proofs.Common.{◌≡◌, ◌≢◌, ℕ, zero, suc, ◌+◌, ◌-◌, ◌<◌, ◌≤◌, inl, inr, Bool, true, false, cond, Option, None, Some, List, [], ◌∷◌, ◌++◌, length, map, get_or, refl, ap, sym, ◌∙◌, subst, arith}
use Rattle.std.specs.Prelude.{◌⊎◌, ◌==◌, ◌&&◌, not, All, AllPairs, bytes_eq}
use Rattle.std.specs.List.{flat_map, filter_map, range_with_len}
use Rattle.std.specs.Cmp.Lexicographic.{bytes_decides}
use Rattle.std.proofs.lemmas.Bool.{cases_lt, ne_eqb, and_left}
use Rattle.std.proofs.lemmas.List.{append-nil, length-map, get_or_past}
use Rattle.std.proofs.lemmas.List.Elements.{All-nil, All-cons, All-head, All-tail, All-append, All-get_or, filter_map-append}
use Rattle.chp_base.specs.Names.{IsNodeName}
use Rattle.chp_base.specs.declared.channel.Channel.{Channel}
use Rattle.prs_core.specs.declared.rule.Literal.{Literal}
use Rattle.prs_core.specs.declared.wires.Wires.{Wires}
use Rattle.prs_core.specs.Nets.{GuardValue, RulesValue, NetValue, net_rules, rail_names, ack_name, IsBelow, IsFilled, IsChannel, IsReset, IsNet}
use Rattle.prs_file.specs.ChannelsTold.{channels_told}
use Rattle.prs_file.specs.Named.{signed_by, guard_named}
use Rattle.prs_file.specs.NodesTold.{node_forms}
use Rattle.prs_file.specs.Reading.{Form, IsForm, IsTermForm, Signed, form_spelling, node_in, channel_in, told_nodes}
use Rattle.prs_file.specs.Reading.Form.{head, node, channel, rule}
use Rattle.prs_file.specs.Spelling.{version_of, spelling}
use Rattle.prs_file.specs.Tables.{guard_forms, node_rules, rule_forms, net_forms, reset_by}
use Rattle.prs_file.proofs.ChannelsRead.{nodes_are, channels_are}
use Rattle.prs_file.proofs.DrivenNodes.{apart_at, name_at_is}
use Rattle.prs_file.proofs.FormsApart.{same_forms}
use Rattle.prs_file.proofs.NetMade.{net_read}
use Rattle.prs_file.proofs.NetSpelled.{net_spelled}
use Rattle.prs_file.proofs.TableLoop.{channels_of}
use Rattle.prs_file.proofs.TableSteps.{flat_more, flat_above}

abbrev Distinct : List (List ℕ) → Type 0
Distinct names = AllPairs (λ (a b : List ℕ). a ≢ b) names

-- what is filtered out of the lines of rules

filter_flat : {X Y Z : Type 0} (h : Y → Option Z) (f : X → List Y) (xs : List X) → filter_map h (flat_map f xs) ≡ flat_map (λ x. filter_map h (f x)) xs
filter_flat h f [] = refl
filter_flat h f (x ∷ xs) = filter_map-append h (f x) (flat_map f xs) ∙ ap (λ t. filter_map h (f x) ++ t) (filter_flat h f xs)

flat_none : {X Y : Type 0} (f : X → List Y) (xs : List X) → ((x : X) → f x ≡ []) → flat_map f xs ≡ []
flat_none f [] none = refl
flat_none f (x ∷ xs) none = ap (λ t. t ++ flat_map f xs) (none x) ∙ flat_none f xs none

filter_two : {Z : Type 0} (h : Form → Option Z) (names : List (List ℕ)) (r : RulesValue) (k : ℕ) (one two : List Z) →
    filter_map h (guard_forms names (get_or r.up k []) k true) ≡ one → filter_map h (guard_forms names (get_or r.down k []) k false) ≡ two →
    filter_map h (node_rules names r k) ≡ one ++ two
filter_two h names r k one two up down =
    filter_map-append h (guard_forms names (get_or r.up k []) k true) (guard_forms names (get_or r.down k []) k false)
    ∙ ap (λ t. t ++ filter_map h (guard_forms names (get_or r.down k []) k false)) up ∙ ap (λ t. one ++ t) down

no_node : (names : List (List ℕ)) (g : GuardValue) (k : ℕ) (up : Bool) → filter_map node_in (guard_forms names g k up) ≡ []
no_node names [] k up = refl
no_node names (t ∷ ts) k up = refl

no_channel : (names : List (List ℕ)) (g : GuardValue) (k : ℕ) (up : Bool) → filter_map channel_in (guard_forms names g k up) ≡ []
no_channel names [] k up = refl
no_channel names (t ∷ ts) k up = refl

nodes_in_rules : (names : List (List ℕ)) (r : RulesValue) → filter_map node_in (rule_forms names r) ≡ []
nodes_in_rules names r =
    filter_flat node_in (node_rules names r) (range_with_len 0 (length names))
    ∙ flat_none (λ k. filter_map node_in (node_rules names r k)) (range_with_len 0 (length names))
    (λ k. filter_two node_in names r k [] [] (no_node names (get_or r.up k []) k true) (no_node names (get_or r.down k []) k false))

channels_in_rules : (names : List (List ℕ)) (r : RulesValue) → filter_map channel_in (rule_forms names r) ≡ []
channels_in_rules names r =
    filter_flat channel_in (node_rules names r) (range_with_len 0 (length names))
    ∙ flat_none (λ k. filter_map channel_in (node_rules names r k)) (range_with_len 0 (length names))
    (λ k. filter_two channel_in names r k [] [] (no_channel names (get_or r.up k []) k true) (no_channel names (get_or r.down k []) k false))

nodes_in_net : (version : ℕ) (names : List (List ℕ)) (first : List Bool) (ws : List Wires) (r : RulesValue) →
    filter_map node_in (net_forms version names first ws r) ≡ told_nodes (node_forms names first)
nodes_in_net version names first ws r =
    filter_map-append node_in (channels_told version names first ws) (rule_forms names r)
    ∙ ap (λ t. filter_map node_in (channels_told version names first ws) ++ t) (nodes_in_rules names r)
    ∙ append-nil (filter_map node_in (channels_told version names first ws)) ∙ nodes_are names first ws

channels_in_net : (version : ℕ) (names : List (List ℕ)) (first : List Bool) (ws : List Wires) (r : RulesValue) →
    filter_map channel_in (net_forms version names first ws r) ≡ channels_of ws
channels_in_net version names first ws r =
    filter_map-append channel_in (channels_told version names first ws) (rule_forms names r)
    ∙ ap (λ t. filter_map channel_in (channels_told version names first ws) ++ t) (channels_in_rules names r)
    ∙ append-nil (filter_map channel_in (channels_told version names first ws)) ∙ channels_are names first ws

pair_names : (names : List (List ℕ)) (first : List Bool) → length first ≡ length names →
    map (λ (p : List ℕ × Bool). p.0) (told_nodes (node_forms names first)) ≡ names
pair_names [] first same = refl
pair_names (n ∷ names) [] same = absurd (omega arith)
pair_names (n ∷ names) (v ∷ first) same = ap (λ xs. n ∷ xs) (pair_names names first (omega arith))

pair_values : (names : List (List ℕ)) (first : List Bool) → length first ≡ length names →
    map (λ (p : List ℕ × Bool). p.1) (told_nodes (node_forms names first)) ≡ first
pair_values [] [] same = refl
pair_values [] (v ∷ first) same = absurd (omega arith)
pair_values (n ∷ names) [] same = absurd (omega arith)
pair_values (n ∷ names) (v ∷ first) same = ap (λ xs. v ∷ xs) (pair_values names first (omega arith))

abbrev version_at : List Form → ℕ
version_at (head v ∷ fs) = v
version_at _ = 0

-- the guard of a node and a direction, by its line

abbrev agree : Bool → Bool → Bool
agree true b = b
agree false b = not b

agree_same : (b : Bool) → agree b b ≡ true
agree_same true = refl
agree_same false = refl

abbrev pick : List ℕ → Bool → Form → Option (List (List Signed))
pick name up (head v) = None
pick name up (node n v) = None
pick name up (channel c) = None
pick name up (rule g n u) = cond (bytes_eq n name && agree u up) (Some g) None

abbrev as_list : List (List ℕ) → GuardValue → List (List (List Signed))
as_list names [] = []
as_list names (t ∷ ts) = guard_named names (t ∷ ts) ∷ []

filter_one : {Z : Type 0} (h : Form → Option Z) (f : Form) (o : Option Z) (out : List Z) → h f ≡ o → ((z : Z) → o ≡ Some z → out ≡ z ∷ []) →
    (o ≡ None → out ≡ []) → filter_map h (f ∷ []) ≡ out
filter_one h f None out e some none = rw e (sym (none refl))
filter_one h f (Some z) out e some none = rw e (sym (some z refl))

pick_here : (names : List (List ℕ)) (g : GuardValue) (k : ℕ) (up : Bool) → filter_map (pick (get_or names k []) up) (guard_forms names g k up) ≡ as_list names g
pick_here names [] k up = refl
pick_here names (t ∷ ts) k up =
    let same : bytes_eq (get_or names k []) (get_or names k []) ≡ true = (bytes_decides (get_or names k []) (get_or names k [])).1 refl in
    let both : (bytes_eq (get_or names k []) (get_or names k []) && agree up up) ≡ true = ap (λ b. b && agree up up) same ∙ agree_same up in
    filter_one (pick (get_or names k []) up) (rule (guard_named names (t ∷ ts)) (get_or names k []) up) (Some (guard_named names (t ∷ ts)))
    (guard_named names (t ∷ ts) ∷ []) (ap (λ b. cond b (Some (guard_named names (t ∷ ts))) None) both) (λ z e. ap (λ x. x ∷ []) (cc e)) (λ e. absurd (cc e))

pick_not : (names : List (List ℕ)) (g : GuardValue) (name : List ℕ) (j : ℕ) (u up : Bool) → (bytes_eq (get_or names j []) name && agree u up) ≡ false →
    filter_map (pick name up) (guard_forms names g j u) ≡ []
pick_not names [] name j u up other = refl
pick_not names (t ∷ ts) name j u up other =
    filter_one (pick name up) (rule (guard_named names (t ∷ ts)) (get_or names j []) u) None []
    (ap (λ b. cond b (Some (guard_named names (t ∷ ts))) None) other) (λ z e. absurd (cc e)) (λ e. refl)

abbrev guard_at : RulesValue → ℕ → Bool → GuardValue
guard_at r k up = cond up (get_or r.up k []) (get_or r.down k [])

wrong_way : (b : Bool) (u : Bool) → (b && agree u (not u)) ≡ false
wrong_way true true = refl
wrong_way true false = refl
wrong_way false u = refl

pick_node : (names : List (List ℕ)) (r : RulesValue) (k : ℕ) (up : Bool) →
    filter_map (pick (get_or names k []) up) (node_rules names r k) ≡ as_list names (guard_at r k up)
pick_node names r k true =
    filter_two (pick (get_or names k []) true) names r k (as_list names (get_or r.up k [])) [] (pick_here names (get_or r.up k []) k true)
    (pick_not names (get_or r.down k []) (get_or names k []) k false true (wrong_way (bytes_eq (get_or names k []) (get_or names k [])) false))
    ∙ append-nil (as_list names (get_or r.up k []))
pick_node names r k false =
    filter_two (pick (get_or names k []) false) names r k [] (as_list names (get_or r.down k []))
    (pick_not names (get_or r.up k []) (get_or names k []) k true false (wrong_way (bytes_eq (get_or names k []) (get_or names k [])) true))
    (pick_here names (get_or r.down k []) k false)

pick_other : (names : List (List ℕ)) (r : RulesValue) (k j : ℕ) (up : Bool) → Distinct names → length r.up ≡ length names → length r.down ≡ length names →
    k < length names → j ≢ k → filter_map (pick (get_or names k []) up) (node_rules names r j) ≡ []
pick_other names r k j up all ups downs within apart = by_order (cases_lt j (length names))
  where
    by_order : (j < length names) ⊎ (length names ≤ j) → filter_map (pick (get_or names k []) up) (node_rules names r j) ≡ []
    by_order (inl below) =
        let other : bytes_eq (get_or names j []) (get_or names k []) ≡ false = name_at_is names k j (get_or names k []) all within below refl
        ∙ ne_eqb k j (λ e. apart (sym e)) in
        filter_two (pick (get_or names k []) up) names r j [] [] (pick_not names (get_or r.up j []) (get_or names k []) j true up (and_left _ _ other))
        (pick_not names (get_or r.down j []) (get_or names k []) j false up (and_left _ _ other))
    by_order (inr past) =
        filter_two (pick (get_or names k []) up) names r j [] []
        (ap (λ g. filter_map (pick (get_or names k []) up) (guard_forms names g j true)) (get_or_past r.up j [] (omega (arith, ups))))
        (ap (λ g. filter_map (pick (get_or names k []) up) (guard_forms names g j false)) (get_or_past r.down j [] (omega (arith, downs))))

flat_empty : {X : Type 0} (f : ℕ → List X) (m : ℕ) → ((i : ℕ) → i < m → f i ≡ []) → flat_map f (range_with_len 0 m) ≡ []
flat_empty f zero none = refl
flat_empty f (suc m) none =
    let e : suc m ≡ m + 1 = omega arith in
    ap (λ n. flat_map f (range_with_len 0 n)) e ∙ flat_more f m ∙ ap (λ t. t ++ f m) (flat_empty f m (λ i below. none i (omega arith))) ∙ none m (omega arith)

picked : (names : List (List ℕ)) (r : RulesValue) (k : ℕ) (up : Bool) → Distinct names → length r.up ≡ length names → length r.down ≡ length names →
    k < length names → filter_map (pick (get_or names k []) up) (rule_forms names r) ≡ as_list names (guard_at r k up)
picked names r k up all ups downs within =
    let f : ℕ → List (List (List Signed)) = λ j. filter_map (pick (get_or names k []) up) (node_rules names r j) in
    let e : length names ≡ (k + 1) + (length names - (k + 1)) = omega arith in
    filter_flat (pick (get_or names k []) up) (node_rules names r) (range_with_len 0 (length names))
    ∙ ap (λ n. flat_map f (range_with_len 0 n)) e
    ∙ flat_above f (k + 1) (length names - (k + 1)) (λ i past. pick_other names r k i up all ups downs within (λ is. absurd (omega (arith, is))))
    ∙ flat_more f k
    ∙ ap (λ t. t ++ f k) (flat_empty f k (λ i below. pick_other names r k i up all ups downs within (λ is. absurd (omega (arith, is)))))
    ∙ pick_node names r k up

pick_early : (name : List ℕ) (up : Bool) (names : List (List ℕ)) (first : List Bool) → filter_map (pick name up) (node_forms names first) ≡ []
pick_early name up [] first = refl
pick_early name up (n ∷ names) [] = refl
pick_early name up (n ∷ names) (v ∷ first) = pick_early name up names first

pick_channels : (name : List ℕ) (up : Bool) (ws : List Wires) → filter_map (pick name up) (map (λ (w : Wires). channel w.channel) ws) ≡ []
pick_channels name up [] = refl
pick_channels name up (w ∷ ws) = pick_channels name up ws

picked_in_net : (version : ℕ) (names : List (List ℕ)) (first : List Bool) (ws : List Wires) (r : RulesValue) (k : ℕ) (up : Bool) → Distinct names →
    length r.up ≡ length names → length r.down ≡ length names → k < length names →
    filter_map (pick (get_or names k []) up) (net_forms version names first ws r) ≡ as_list names (guard_at r k up)
picked_in_net version names first ws r k up all ups downs within =
    let p = pick (get_or names k []) up in
    let early : filter_map p (channels_told version names first ws) ≡ [] =
    filter_map-append p (node_forms names first) (map (λ (w : Wires). channel w.channel) ws)
    ∙ ap (λ t. t ++ filter_map p (map (λ (w : Wires). channel w.channel) ws)) (pick_early (get_or names k []) up names first)
    ∙ pick_channels (get_or names k []) up ws in
    filter_map-append p (channels_told version names first ws) (rule_forms names r) ∙ ap (λ t. t ++ filter_map p (rule_forms names r)) early
    ∙ picked names r k up all ups downs within

-- numbers by names

pub same_number : (names : List (List ℕ)) (i j : ℕ) → Distinct names → i < length names → j < length names → get_or names i [] ≡ get_or names j [] → i ≡ j
same_number names i j all within below e = by_order (cases_lt i j) (cases_lt j i)
  where
    by_order : (i < j) ⊎ (j ≤ i) → (j < i) ⊎ (i ≤ j) → i ≡ j
    by_order (inl less) o = absurd (apart_at names i j all within below (λ is. absurd (omega (arith, is))) e)
    by_order (inr more) (inl less) = absurd (apart_at names i j all within below (λ is. absurd (omega (arith, is))) e)
    by_order (inr more) (inr most) = omega arith

same_numbers : (names : List (List ℕ)) (is js : List ℕ) → Distinct names → All (λ k. k < length names) is → All (λ k. k < length names) js →
    map (λ k. get_or names k []) is ≡ map (λ k. get_or names k []) js → is ≡ js
same_numbers names [] [] all one two e = refl
same_numbers names [] (j ∷ js) all one two e = absurd (cc e)
same_numbers names (i ∷ is) [] all one two e = absurd (cc e)
same_numbers names (i ∷ is) (j ∷ js) all one two e =
    let here : get_or names i [] ≡ get_or names j [] = cc e in
    let rest : map (λ k. get_or names k []) is ≡ map (λ k. get_or names k []) js = cc e in
    ap (λ x. x ∷ is) (same_number names i j all (All-head (λ k. k < length names) i is one) (All-head (λ k. k < length names) j js two) here)
    ∙ ap (λ xs. j ∷ xs) (same_numbers names is js all (All-tail (λ k. k < length names) i is one) (All-tail (λ k. k < length names) j js two) rest)

abbrev Within : ℕ → Literal → Type 0
Within count l = l.node < count

same_term : (names : List (List ℕ)) (t s : List Literal) → Distinct names → All (Within (length names)) t → All (Within (length names)) s →
    map (signed_by names) t ≡ map (signed_by names) s → t ≡ s
same_term names [] [] all one two e = refl
same_term names [] (k ∷ s) all one two e = absurd (cc e)
same_term names (l ∷ t) [] all one two e = absurd (cc e)
same_term names (l ∷ t) (k ∷ s) all one two e =
    let here : signed_by names l ≡ signed_by names k = cc e in
    let rest : map (signed_by names) t ≡ map (signed_by names) s = cc e in
    let node : l.node ≡ k.node = same_number names l.node k.node all (All-head (Within (length names)) l t one) (All-head (Within (length names)) k s two)
    (ap (λ (x : Signed). x.name) here) in
    let high : l.high ≡ k.high = ap (λ (x : Signed). x.high) here in
    let same : l ≡ k = λ i. record { node = node i; high = high i } in
    ap (λ x. x ∷ t) same ∙ ap (λ xs. k ∷ xs) (same_term names t s all (All-tail (Within (length names)) l t one) (All-tail (Within (length names)) k s two)
    rest)

same_guard : (names : List (List ℕ)) (g h : GuardValue) → Distinct names → IsBelow (length names) g → IsBelow (length names) h →
    guard_named names g ≡ guard_named names h → g ≡ h
same_guard names [] [] all one two e = refl
same_guard names [] (s ∷ h) all one two e = absurd (cc e)
same_guard names (t ∷ g) [] all one two e = absurd (cc e)
same_guard names (t ∷ g) (s ∷ h) all one two e =
    let here : map (signed_by names) t ≡ map (signed_by names) s = cc e in
    let rest : guard_named names g ≡ guard_named names h = cc e in
    let P : List Literal → Type 0 = All (Within (length names)) in
    ap (λ x. x ∷ g) (same_term names t s all (All-head P t g one) (All-head P s h two) here)
    ∙ ap (λ xs. s ∷ xs) (same_guard names g h all (All-tail P t g one) (All-tail P s h two) rest)

same_listed : (names : List (List ℕ)) (g h : GuardValue) → Distinct names → IsBelow (length names) g → IsBelow (length names) h →
    as_list names g ≡ as_list names h → g ≡ h
same_listed names [] [] all one two e = refl
same_listed names [] (s ∷ h) all one two e = absurd (cc e)
same_listed names (t ∷ g) [] all one two e = absurd (cc e)
same_listed names (t ∷ g) (s ∷ h) all one two e =
    let here : guard_named names (t ∷ g) ≡ guard_named names (s ∷ h) = cc e in
    same_guard names (t ∷ g) (s ∷ h) all one two here

same_guards : (xs ys : List GuardValue) → length xs ≡ length ys → ((k : ℕ) → k < length xs → get_or xs k [] ≡ get_or ys k []) → xs ≡ ys
same_guards [] [] same each = refl
same_guards [] (y ∷ ys) same each = absurd (omega arith)
same_guards (x ∷ xs) [] same each = absurd (omega arith)
same_guards (x ∷ xs) (y ∷ ys) same each =
    ap (λ z. z ∷ xs) (each 0 (omega arith)) ∙ ap (λ zs. y ∷ zs) (same_guards xs ys (omega arith) (λ k below. each (suc k) (omega arith)))

-- wires by names

record IsWiresOf (names : List (List ℕ)) (w : Wires) : Type 0 where
  rails : map (λ k. get_or names k []) w.rails ≡ rail_names w.channel.name w.channel.width
  rails_within : All (λ k. k < length names) w.rails
  ack : get_or names w.ack [] ≡ ack_name w.channel.name
  ack_within : w.ack < length names

same_wires : (names : List (List ℕ)) (ws vs : List Wires) → Distinct names → All (IsWiresOf names) ws → All (IsWiresOf names) vs →
    channels_of ws ≡ channels_of vs → ws ≡ vs
same_wires names [] [] all one two e = refl
same_wires names [] (v ∷ vs) all one two e = absurd (cc e)
same_wires names (w ∷ ws) [] all one two e = absurd (cc e)
same_wires names (w ∷ ws) (v ∷ vs) all one two e =
    let here : w.channel ≡ v.channel = cc e in
    let rest : channels_of ws ≡ channels_of vs = cc e in
    let a = All-head (IsWiresOf names) w ws one in
    let b = All-head (IsWiresOf names) v vs two in
    let rails : w.rails ≡ v.rails = same_numbers names w.rails v.rails all a.rails_within b.rails_within (a.rails
    ∙ ap (λ (c : Channel). rail_names c.name c.width) here ∙ sym b.rails) in
    let ack : w.ack ≡ v.ack = same_number names w.ack v.ack all a.ack_within b.ack_within (a.ack ∙ ap (λ (c : Channel). ack_name c.name) here ∙ sym b.ack) in
    let same : w ≡ v = λ i. record { channel = here i; rails = rails i; ack = ack i } in
    ap (λ x. x ∷ ws) same ∙ ap (λ xs. v ∷ xs) (same_wires names ws vs all (All-tail (IsWiresOf names) w ws one) (All-tail (IsWiresOf names) v vs two) rest)

wires_of_net : (n : NetValue) (ws : List Wires) → length n.names ≡ length n.first → All (IsChannel n) ws → All (IsWiresOf n.names) ws
wires_of_net n [] same all = All-nil (IsWiresOf n.names)
wires_of_net n (w ∷ ws) same all =
    let is = All-head (IsChannel n) w ws all in
    All-cons (IsWiresOf n.names) w ws
    (record {
      rails = is.rails;
      rails_within = subst (λ c. All (λ k. k < c) w.rails) (sym same) is.rails_within;
      ack = is.ack;
      ack_within =
          omega (arith, is.ack_within, same);
    })
    (wires_of_net n ws same (All-tail (IsChannel n) w ws all))

-- the lines of a net say something

pub node_lines : (names : List (List ℕ)) (first : List Bool) → All IsNodeName names → All IsForm (node_forms names first)
node_lines [] first all = All-nil IsForm
node_lines (n ∷ names) [] all = All-nil IsForm
node_lines (n ∷ names) (v ∷ first) all = All-cons IsForm (node n v) (node_forms names first) (All-head IsNodeName n names all)
    (node_lines names first (All-tail IsNodeName n names all))

pub channel_lines : (n : NetValue) (ws : List Wires) → All (IsChannel n) ws → All IsForm (map (λ (w : Wires). channel w.channel) ws)
channel_lines n [] all = All-nil IsForm
channel_lines n (w ∷ ws) all =
    let is = All-head (IsChannel n) w ws all in
    All-cons IsForm (channel w.channel) (map (λ (w : Wires). channel w.channel) ws) (record { name = is.name; some = is.some; most = is.most })
    (channel_lines n ws (All-tail (IsChannel n) w ws all))

term_named : (names : List (List ℕ)) (t : List Literal) → All IsNodeName names → All (Within (length names)) t →
    All (λ (s : Signed). IsNodeName s.name) (map (signed_by names) t)
term_named names [] named within = All-nil (λ (s : Signed). IsNodeName s.name)
term_named names (l ∷ t) named within =
    All-cons (λ (s : Signed). IsNodeName s.name) (signed_by names l) (map (signed_by names) t)
    (All-get_or IsNodeName names l.node [] (All-head (Within (length names)) l t within) named)
    (term_named names t named (All-tail (Within (length names)) l t within))

terms_ok : (names : List (List ℕ)) (g : GuardValue) → All IsNodeName names → IsBelow (length names) g → IsFilled g → All IsTermForm (guard_named names g)
terms_ok names [] named below filled = All-nil IsTermForm
terms_ok names (t ∷ g) named below filled =
    let P : List Literal → Type 0 = All (Within (length names)) in
    All-cons IsTermForm (map (signed_by names) t) (guard_named names g)
    (record {
      some = omega (arith, length-map t (signed_by names), All-head (λ (t : List Literal). 0 < length t) t g filled);
      names =
          term_named names t named (All-head P t g below);
    })
    (terms_ok names g named (All-tail P t g below) (All-tail (λ (t : List Literal). 0 < length t) t g filled))

pub guard_line : (names : List (List ℕ)) (g : GuardValue) (k : ℕ) (up : Bool) → All IsNodeName names → k < length names → IsBelow (length names) g →
    IsFilled g → All IsForm (guard_forms names g k up)
guard_line names [] k up named within below filled = All-nil IsForm
guard_line names (t ∷ g) k up named within below filled =
    All-cons IsForm (rule (guard_named names (t ∷ g)) (get_or names k []) up) [] (
      omega arith,
      terms_ok names (t ∷ g) named below filled,
      All-get_or IsNodeName names k [] within named,
    ) (All-nil IsForm)

rule_lines : (names : List (List ℕ)) (r : RulesValue) (m : ℕ) → All IsNodeName names → m ≤ length names → length r.up ≡ length names →
    length r.down ≡ length names → All (IsBelow (length names)) r.up → All (IsBelow (length names)) r.down → All IsFilled r.up → All IsFilled r.down →
    All IsForm (flat_map (node_rules names r) (range_with_len 0 m))
rule_lines names r zero named most ups downs ub db uf df = All-nil IsForm
rule_lines names r (suc m) named most ups downs ub db uf df =
    let e : suc m ≡ m + 1 = omega arith in
    let up = guard_line names (get_or r.up m []) m true named (omega arith) (All-get_or (IsBelow (length names)) r.up m [] (omega (arith, ups)) ub)
    (All-get_or IsFilled r.up m [] (omega (arith, ups)) uf) in
    let down = guard_line names (get_or r.down m []) m false named (omega arith) (All-get_or (IsBelow (length names)) r.down m [] (omega (arith, downs)) db)
    (All-get_or IsFilled r.down m [] (omega (arith, downs)) df) in
    subst (All IsForm) (sym (ap (λ n. flat_map (node_rules names r) (range_with_len 0 n)) e ∙ flat_more (node_rules names r) m))
    (All-append IsForm (flat_map (node_rules names r) (range_with_len 0 m)) (node_rules names r m)
    (rule_lines names r m named (omega arith) ups downs ub db uf df)
    (All-append IsForm (guard_forms names (get_or r.up m []) m true) (guard_forms names (get_or r.down m []) m false) up down))

version_known : (o : Option ℕ) → (1 ≤ version_of o) × (version_of o ≤ 2)
version_known None = (omega arith, omega arith)
version_known (Some k) = (omega arith, omega arith)

abbrev pub all_forms : NetValue → List Form
all_forms n = net_forms (version_of n.reset) n.names n.first n.channels (net_rules n)

pub rules_say : (n : NetValue) → IsNet n → All IsForm (rule_forms n.names (net_rules n))
rules_say n is =
    let count = is.named in
    rule_lines n.names (net_rules n) (length n.names) is.names (omega arith) (is.ups ∙ sym count) (is.downs ∙ sym count)
    (subst (λ c. All (IsBelow c) n.up) (sym count) is.up_within) (subst (λ c. All (IsBelow c) n.down) (sym count) is.down_within) is.up_filled
    is.down_filled

pub lines_say : (n : NetValue) → IsNet n → All IsForm (all_forms n)
lines_say n is =
    All-append IsForm (channels_told (version_of n.reset) n.names n.first n.channels) (rule_forms n.names (net_rules n))
    (All-cons IsForm (head (version_of n.reset)) (node_forms n.names n.first ++ map (λ (w : Wires). channel w.channel) n.channels) (version_known n.reset)
    (All-append IsForm (node_forms n.names n.first) (map (λ (w : Wires). channel w.channel) n.channels) (node_lines n.names n.first is.names)
    (channel_lines n n.channels is.channels)))
    (rules_say n is)

reset_back : (n : NetValue) (o : Option ℕ) → IsReset n o → reset_by (version_of o == 2) n.first ≡ o
reset_back n None is = refl
reset_back n (Some k) is = ap Some (omega (arith, is.last))

-- its lines spell it
pub lines_spell : (n : NetValue) → IsNet n → flat_map form_spelling (all_forms n) ≡ spelling n
lines_spell n is =
    let known = version_known n.reset in
    let same : net_read (version_of n.reset) n.names n.first (net_rules n) n.channels ≡ n =
    λ i. record { names = n.names; first = n.first; up = n.up; down = n.down; channels = n.channels; reset = reset_back n n.reset is.reset i } in
    net_spelled (version_of n.reset) n.names n.first n.channels (net_rules n) (sym is.named) known.0 known.1 ∙ ap spelling same

pub one_spelled : (a b : NetValue) → IsNet a → IsNet b → spelling a ≡ spelling b → a ≡ b
one_spelled a b ia ib e = λ i. record { names = names i; first = first i; up = up i; down = down i; channels = channels i; reset = reset i }
  where
    forms : all_forms a ≡ all_forms b
    forms = same_forms (all_forms a) (all_forms b) (lines_say a ia) (lines_say b ib) (lines_spell a ia ∙ e ∙ sym (lines_spell b ib))

    nodes : told_nodes (node_forms a.names a.first) ≡ told_nodes (node_forms b.names b.first)
    nodes = sym (nodes_in_net (version_of a.reset) a.names a.first a.channels (net_rules a)) ∙ ap (filter_map node_in) forms
        ∙ nodes_in_net (version_of b.reset) b.names b.first b.channels (net_rules b)

    names : a.names ≡ b.names
    names = sym (pair_names a.names a.first (sym ia.named)) ∙ ap (map (λ (p : List ℕ × Bool). p.0)) nodes ∙ pair_names b.names b.first (sym ib.named)

    first : a.first ≡ b.first
    first = sym (pair_values a.names a.first (sym ia.named)) ∙ ap (map (λ (p : List ℕ × Bool). p.1)) nodes ∙ pair_values b.names b.first (sym ib.named)

    guard : (k : ℕ) (way : Bool) → k < length a.names → guard_at (net_rules a) k way ≡ guard_at (net_rules b) k way
    guard k way within =
        same_listed a.names (guard_at (net_rules a) k way) (guard_at (net_rules b) k way) ia.distinct (below a ia way k within)
        (subst (λ c. IsBelow c (guard_at (net_rules b) k way)) (sym (ap length names)) (below b ib way k (omega (arith, ap length names))))
        (sym (picked_in_net (version_of a.reset) a.names a.first a.channels (net_rules a) k way ia.distinct (ia.ups ∙ sym ia.named) (ia.downs ∙ sym ia.named)
        within)
        ∙ ap (filter_map (pick (get_or a.names k []) way)) forms
        ∙ ap (λ ns. filter_map (pick (get_or ns k []) way) (all_forms b)) names
        ∙ picked_in_net (version_of b.reset) b.names b.first b.channels (net_rules b) k way ib.distinct (ib.ups ∙ sym ib.named) (ib.downs ∙ sym ib.named)
        (omega (arith, ap length names))
        ∙ ap (λ ns. as_list ns (guard_at (net_rules b) k way)) (sym names))
      where
        below : (n : NetValue) → IsNet n → (way : Bool) (k : ℕ) → k < length n.names → IsBelow (length n.names) (guard_at (net_rules n) k way)
        below n is true k within = subst (λ c. IsBelow c (get_or n.up k [])) (sym is.named)
            (All-get_or (IsBelow (length n.first)) n.up k [] (omega (arith, is.ups, is.named)) is.up_within)
        below n is false k within = subst (λ c. IsBelow c (get_or n.down k [])) (sym is.named)
            (All-get_or (IsBelow (length n.first)) n.down k [] (omega (arith, is.downs, is.named)) is.down_within)

    up : a.up ≡ b.up
    up = same_guards a.up b.up (omega (arith, ia.ups, ib.ups, ap length first)) (λ k below. guard k true (omega (arith, ia.ups, ia.named)))

    down : a.down ≡ b.down
    down = same_guards a.down b.down (omega (arith, ia.downs, ib.downs, ap length first)) (λ k below. guard k false (omega (arith, ia.downs, ia.named)))

    told : channels_of a.channels ≡ channels_of b.channels
    told = sym (channels_in_net (version_of a.reset) a.names a.first a.channels (net_rules a)) ∙ ap (filter_map channel_in) forms
        ∙ channels_in_net (version_of b.reset) b.names b.first b.channels (net_rules b)

    channels : a.channels ≡ b.channels
    channels = same_wires a.names a.channels b.channels ia.distinct (wires_of_net a a.channels ia.named ia.channels)
        (subst (λ ns. All (IsWiresOf ns) b.channels) (sym names) (wires_of_net b b.channels ib.named ib.channels)) told

    version : version_of a.reset ≡ version_of b.reset
    version = ap version_at forms

    reset : a.reset ≡ b.reset
    reset = sym (reset_back a a.reset ia.reset) ∙ ap (λ v. reset_by (v == 2) a.first) version ∙ ap (λ f. reset_by (version_of b.reset == 2) f) first
        ∙ reset_back b b.reset ib.reset
