-- The rules of a net stand, none of them with a fault; so a text that spells a net is never refused.
use Rattle.std.proofs.Common.{◌≡◌, ℕ, zero, suc, ◌+◌, ◌*◌, ◌<◌, ◌≤◌, inl, inr, Bool, true, false, Option, None, Some, List, [], ◌∷◌, ◌++◌, length, map, get_or, refl, ap, sym, ◌∙◌, subst, arith}
use Rattle.std.specs.Prelude.{◌⊎◌, ◌==◌, ◌&&◌, ◌||◌, nat_lt, All, bytes_eq, codes, is_none, sum_by, unwrap_or}
use Rattle.std.specs.List.{flat_map, list_any, range_with_len}
use Rattle.std.specs.Cmp.Lexicographic.{bytes_decides}
use Rattle.std.proofs.lemmas.Bool.{ne_eqb, le-ltb, or_cases, or_from, and_parts}
use Rattle.std.proofs.lemmas.List.{append_assoc, append-nil}
use Rattle.std.proofs.lemmas.List.Concat.{flat_map-append}
use Rattle.std.proofs.lemmas.List.Elements.{All-nil, All-cons, All-head, All-tail, All-append, All-get_or, All-contains}
use Rattle.std.proofs.lemmas.List.FromFn.{fill_by_all}
use Rattle.std.proofs.lemmas.List.Sums.{sum_by-cons}
use Rattle.chp_base.specs.Names.{IsNodeName}
use Rattle.chp_base.specs.declared.channel.Channel.{Channel}
use Rattle.prs_core.specs.declared.rule.Literal.{Literal}
use Rattle.prs_core.specs.declared.wires.Wires.{Wires}
use Rattle.prs_core.specs.Nets.{GuardValue, RulesValue, NetValue, net_rules, IsBelow, IsFilled, IsChannel, IsReset, IsUndriven, IsNet, wires_from_outside, guard_literals, most_literals as most_of_net}
use Rattle.prs_file.specs.declared.fault.NetFault.{NetFault}
use Rattle.prs_file.specs.ChannelsTold.{channels_told, IsChannelsRead}
use Rattle.prs_file.specs.Indexes.{place_in}
use Rattle.prs_file.specs.Lines.{first_line}
use Rattle.prs_file.specs.Named.{signed_by, guard_named}
use Rattle.prs_file.specs.NodesTold.{nodes_told, IsNodesRead}
use Rattle.prs_file.specs.Reading.{Form, IsForm, IsRefused, IsChannelForm, Signed, form_spelling, outside_of, same_place, stands_above}
use Rattle.prs_file.specs.Reading.Form.{node, channel, rule}
use Rattle.prs_file.specs.RulesTold.{is_driven, is_rule, rule_place, rule_fault_of, literals_allowed, IsRulesRead}
use Rattle.prs_file.specs.Spelling.{version_of, node_spelling, channel_spelling, NetText}
use Rattle.prs_file.specs.Tables.{guard_forms, node_rules, rule_forms, place_at, IsBeyond}
use Rattle.prs_file.specs.Terms.{rule_unknown}
use Rattle.prs_file.specs.WiresFound.{AreFound, IsWiredAmong}
use Rattle.prs_file.proofs.ChannelsRead.{channels_begin}
use Rattle.prs_file.proofs.DrivenNodes.{outside_found}
use Rattle.prs_file.proofs.NetsApart.{same_number, channel_lines, guard_line, rules_say, all_forms, lines_spell}
use Rattle.prs_file.proofs.NetStands.{Distinct, place_at_name, front_line, net_nodes, wired_in, channel_form, channels_walk, apart_names, other_line, is_node, all_rules, all_channels}
use Rattle.prs_file.proofs.NotRefused.{not_refused}
use Rattle.prs_file.proofs.RulesBegin.{rules_begin}
use Rattle.prs_file.proofs.RulesRead.{rules_more}
use Rattle.prs_file.proofs.TableLoop.{channels_of, named_literals}
use Rattle.prs_file.proofs.TableSteps.{behind_more}

-- the names of a rule are known

term_known : (names : List (List ℕ)) (t : List Literal) → Distinct names → All (λ (l : Literal). l.node < length names) t →
    list_any (λ (s : Signed). is_none (place_in names s.name)) (map (signed_by names) t) ≡ false
term_known names [] all within = refl
term_known names (l ∷ t) all within =
    or_from _ _ (ap (λ o. is_none o) (place_at_name names l.node all (All-head (λ (l : Literal). l.node < length names) l t within)))
    (term_known names t all (All-tail (λ (l : Literal). l.node < length names) l t within))

terms_known : (names : List (List ℕ)) (g : GuardValue) → Distinct names → IsBelow (length names) g →
    list_any (list_any (λ (s : Signed). is_none (place_in names s.name))) (guard_named names g) ≡ false
terms_known names [] all within = refl
terms_known names (t ∷ g) all within =
    let P : List Literal → Type 0 = All (λ (l : Literal). l.node < length names) in
    or_from _ _ (term_known names t all (All-head P t g within)) (terms_known names g all (All-tail P t g within))

-- a place behind the last one is neither the same nor above
not_same : (last : Option ℕ) (place : ℕ) → IsBeyond last place → same_place last place ≡ false
not_same None place behind = refl
not_same (Some l) place behind = ne_eqb l place (λ e. absurd (omega (arith, e)))

not_above : (last : Option ℕ) (place : ℕ) → IsBeyond last place → stands_above last place ≡ false
not_above None place behind = refl
not_above (Some l) place behind = le-ltb place l (omega arith)

rule_good : (names : List (List ℕ)) (channels : List Channel) (reset : Bool) (last : Option ℕ) (count : ℕ) (g : GuardValue) (k : ℕ) (up : Bool) →
    Distinct names → k < length names → IsBelow (length names) g → is_driven reset channels (get_or names k []) ≡ false → IsBeyond last (place_at k up) →
    count + guard_literals g ≤ literals_allowed reset → rule_fault_of names channels reset last count (guard_named names g) (get_or names k []) up ≡ None
rule_good names channels reset last count g k up all within below free behind few =
    let at : place_in names (get_or names k []) ≡ Some k = place_at_name names k all within in
    let known : rule_unknown names (guard_named names g) (get_or names k []) ≡ false = or_from _ _ (ap (λ o. is_none o) at) (terms_known names g all below) in
    let place : rule_place names (get_or names k []) up ≡ place_at k up = ap (λ o. place_at (unwrap_or o 0) up) at in
    let same : same_place last (rule_place names (get_or names k []) up) ≡ false = ap (same_place last) place ∙ not_same last (place_at k up) behind in
    let above : stands_above last (rule_place names (get_or names k []) up) ≡ false = ap (stands_above last) place ∙ not_above last (place_at k up) behind in
    let many : nat_lt (literals_allowed reset) (count + sum_by (λ (t : List Signed). length t) (guard_named names g)) ≡ false =
    le-ltb (literals_allowed reset) (count + sum_by (λ (t : List Signed). length t) (guard_named names g)) (omega (arith, few, named_literals names g)) in
    rw (known, free, same, above, many) refl

-- a node that the environment moves has no rules

wire_undriven : (n : NetValue) (names : List (List ℕ)) (k : ℕ) (wires : List (List ℕ)) (numbers : List ℕ) → place_in names (get_or names k []) ≡ Some k →
    AreFound names wires numbers → All (IsUndriven n) numbers → list_any (bytes_eq (get_or names k [])) wires ≡ true → IsUndriven n k
wire_undriven n names k [] numbers at found none is = absurd (cc is)
wire_undriven n names k (w ∷ wires) [] at found none is = absurd (cc found)
wire_undriven n names k (w ∷ wires) (m ∷ numbers) at found none is =
    by_case (or_cases (bytes_eq (get_or names k []) w) (list_any (bytes_eq (get_or names k [])) wires) is)
    (λ more. wire_undriven n names k wires numbers at rest (All-tail (IsUndriven n) m numbers none) more)
  where
    here : place_in names w ≡ Some m
    here = cc found

    rest : AreFound names wires numbers
    rest = cc found

    by_case : (bytes_eq (get_or names k []) w ≡ true) ⊎ (list_any (bytes_eq (get_or names k [])) wires ≡ true) →
        (list_any (bytes_eq (get_or names k [])) wires ≡ true → IsUndriven n k) → IsUndriven n k
    by_case (inl same) more =
        let name : get_or names k [] ≡ w = (bytes_decides (get_or names k []) w).0 same in
        let some : Some m ≡ Some k = sym here ∙ ap (place_in names) (sym name) ∙ at in
        let number : m ≡ k = cc some in
        subst (IsUndriven n) number (All-head (IsUndriven n) m numbers none)
    by_case (inr other) more = more other

channel_undriven : (n : NetValue) → IsNet n → (ws : List Wires) (k : ℕ) → All (IsChannel n) ws → k < length n.names →
    list_any (λ (c : Channel). list_any (bytes_eq (get_or n.names k [])) (outside_of c)) (channels_of ws) ≡ true → IsUndriven n k
channel_undriven n net [] k all within is = absurd (cc is)
channel_undriven n net (w ∷ ws) k all within is =
    by_case (or_cases (list_any (bytes_eq (get_or n.names k [])) (outside_of w.channel))
    (list_any (λ (c : Channel). list_any (bytes_eq (get_or n.names k [])) (outside_of c)) (channels_of ws)) is)
    (λ more. channel_undriven n net ws k (All-tail (IsChannel n) w ws all) within more)
  where
    this : IsChannel n w
    this = All-head (IsChannel n) w ws all

    by_case : (list_any (bytes_eq (get_or n.names k [])) (outside_of w.channel) ≡ true) ⊎
        (list_any (λ (c : Channel). list_any (bytes_eq (get_or n.names k [])) (outside_of c)) (channels_of ws) ≡ true) →
        (list_any (λ (c : Channel). list_any (bytes_eq (get_or n.names k [])) (outside_of c)) (channels_of ws) ≡ true → IsUndriven n k) → IsUndriven n k
    by_case (inl here) more =
        wire_undriven n n.names k (outside_of w.channel) (wires_from_outside w.channel.kind w.rails w.ack) (place_at_name n.names k net.distinct within)
        (outside_found n.names n.first w (wired_in n w net this)) this.outside here
    by_case (inr other) more = more other

reset_undriven : (n : NetValue) (o : Option ℕ) (k : ℕ) → IsReset n o → Distinct n.names → length n.names ≡ length n.first → k < length n.names →
    (version_of o == 2) ≡ true → get_or n.names k [] ≡ codes "reset" → IsUndriven n k
reset_undriven n None k is all same within two named = absurd (cc two)
reset_undriven n (Some j) k is all same within two named =
    let at : j ≡ k = same_number n.names j k all (omega (arith, is.last, same)) within (is.name ∙ sym named) in
    subst (IsUndriven n) at is.undriven

undriven_at : (n : NetValue) → IsNet n → (k : ℕ) → k < length n.names → is_driven (version_of n.reset == 2) (channels_of n.channels) (get_or n.names k []) ≡
    true → IsUndriven n k
undriven_at n net k within is = by_first (or_cases (bytes_eq (get_or n.names k []) (codes "go")) _ is)
  where
    by_second : ((version_of n.reset == 2 && bytes_eq (get_or n.names k []) (codes "reset")) ≡ true) ⊎
        (list_any (λ (c : Channel). list_any (bytes_eq (get_or n.names k [])) (outside_of c)) (channels_of n.channels) ≡ true) → IsUndriven n k
    by_second (inl two) =
        let both = and_parts (version_of n.reset == 2) (bytes_eq (get_or n.names k []) (codes "reset")) two in
        reset_undriven n n.reset k net.reset net.distinct net.named within both.0 ((bytes_decides (get_or n.names k []) (codes "reset")).0 both.1)
    by_second (inr wire) = channel_undriven n net n.channels k net.channels within wire

    by_first : (bytes_eq (get_or n.names k []) (codes "go") ≡ true) ⊎
        ((((version_of n.reset == 2) && bytes_eq (get_or n.names k []) (codes "reset"))
        || list_any (λ (c : Channel). list_any (bytes_eq (get_or n.names k [])) (outside_of c)) (channels_of n.channels)) ≡ true) → IsUndriven n k
    by_first (inl same) =
        let first : 0 ≡ k = same_number n.names 0 k net.distinct (omega (arith, net.some, net.named)) within (net.go
        ∙ sym ((bytes_decides (get_or n.names k []) (codes "go")).0 same)) in
        subst (IsUndriven n) first net.go_undriven
    by_first (inr other) = by_second (or_cases ((version_of n.reset == 2) && bytes_eq (get_or n.names k []) (codes "reset")) _ other)

-- the rules one after another

record At (version : ℕ) (names : List (List ℕ)) (first : List Bool) (channels : List Channel) (before : List Form) (text rest : List ℕ) (place room : ℕ) : Type
    0 where
  last : Option ℕ
  count : ℕ
  read : IsRulesRead before version names first channels last count text rest
  behind : IsBeyond last place
  few : count + room ≤ literals_allowed (version == 2)

free_of : (b : Bool) → (b ≡ true → ⊥) → b ≡ false
free_of true never = absurd (never refl)
free_of false never = refl

one_rule : (version : ℕ) (names : List (List ℕ)) (first : List Bool) (channels : List Channel) (before : List Form) (text rest : List ℕ) (g : GuardValue)
    (k : ℕ) (up : Bool) (room : ℕ) → length first ≡ length names → Distinct names → k < length names → IsBelow (length names) g →
    All IsForm (guard_forms names g k up) → (is_driven (version == 2) channels (get_or names k []) ≡ true → g ≡ []) →
    At version names first channels before text (flat_map form_spelling (guard_forms names g k up) ++ rest) (place_at k up) (guard_literals g + room) →
    At version names first channels (before ++ guard_forms names g k up) text rest (place_at k up + 1) room
one_rule version names first channels before text rest [] k up room same all within below forms moved at = record {
  last = at.last;
  count = at.count;
  read = subst (λ b. IsRulesRead b version names first channels at.last at.count text rest) (sym (append-nil before)) at.read;
  behind = behind_more at.last (place_at k up) (place_at k up + 1) at.behind (omega arith);
  few = omega (arith, at.few);
}
one_rule version names first channels before text rest (t ∷ ts) k up room same all within below forms moved at =
    let g : GuardValue = t ∷ ts in
    let f : Form = rule (guard_named names g) (get_or names k []) up in
    let form = All-head IsForm f [] forms in
    let free = free_of (is_driven (version == 2) channels (get_or names k [])) (λ is. absurd (omega (arith, ap length (moved is)))) in
    let line = front_line f rest form in
    let shape : flat_map form_spelling (guard_forms names g k up) ++ rest ≡ form_spelling f ++ rest = ap (λ x. x ++ rest) (append-nil (form_spelling f)) in
    let read' = subst (λ x. IsRulesRead before version names first channels at.last at.count text x) shape at.read in
    let good = rule_good names channels (version == 2) at.last at.count g k up all within below free at.behind (omega (arith, at.few)) in
    let more = rules_more before version names first channels at.last at.count text (form_spelling f ++ rest) rest (guard_named names g) (get_or names k []) up
    same read' line.0 line.1 form good in
    let place : rule_place names (get_or names k []) up ≡ place_at k up = ap (λ o. place_at (unwrap_or o 0) up) (place_at_name names k all within) in
    record {
      last = Some (rule_place names (get_or names k []) up);
      count = at.count + sum_by (λ (t : List Signed). length t) (guard_named names g);
      read = more;
      behind = omega (arith, place);
      few = omega (arith, at.few, named_literals names g);
    }

abbrev literals_at : RulesValue → ℕ → ℕ
literals_at r i = guard_literals (get_or r.up i []) + guard_literals (get_or r.down i [])

abbrev literals_from : RulesValue → ℕ → ℕ → ℕ
literals_from r m j = sum_by (literals_at r) (range_with_len m j)

record IsWalkable (version : ℕ) (names : List (List ℕ)) (first : List Bool) (channels : List Channel) (r : RulesValue) : Type 0 where
  same : length first ≡ length names
  distinct : Distinct names
  ups : length r.up ≡ length names
  downs : length r.down ≡ length names
  up_within : All (IsBelow (length names)) r.up
  down_within : All (IsBelow (length names)) r.down
  forms : (k : ℕ) → k < length names → All IsForm (guard_forms names (get_or r.up k []) k true) × All IsForm (guard_forms names (get_or r.down k []) k false)
  up_moved : (k : ℕ) → k < length names → is_driven (version == 2) channels (get_or names k []) ≡ true → get_or r.up k [] ≡ []
  down_moved : (k : ℕ) → k < length names → is_driven (version == 2) channels (get_or names k []) ≡ true → get_or r.down k [] ≡ []

rules_walk : (version : ℕ) (names : List (List ℕ)) (first : List Bool) (channels : List Channel) (r : RulesValue) (before : List Form) (text rest : List ℕ)
    (j m : ℕ) → IsWalkable version names first channels r → m + j ≡ length names →
    At version names first channels before text (flat_map form_spelling (flat_map (node_rules names r) (range_with_len m j)) ++ rest) (2 * m)
    (literals_from r m j) → At version names first channels (before ++ flat_map (node_rules names r) (range_with_len m j)) text rest (2 * (m + j)) 0
rules_walk version names first channels r before text rest zero m walk here at = record {
  last = at.last;
  count = at.count;
  read = subst (λ b. IsRulesRead b version names first channels at.last at.count text rest) (sym (append-nil before)) at.read;
  behind = behind_more at.last (2 * m) (2 * (m + 0)) at.behind (omega arith);
  few = at.few;
}
rules_walk version names first channels r before text rest (suc j) m walk here at =
    let within : m < length names = omega (arith, here) in
    let up = get_or r.up m [] in
    let down = get_or r.down m [] in
    let ups = guard_forms names up m true in
    let downs = guard_forms names down m false in
    let more = flat_map (node_rules names r) (range_with_len (m + 1) j) in
    let behind = flat_map form_spelling more ++ rest in
    let split : flat_map form_spelling ((ups ++ downs) ++ more) ++ rest ≡ flat_map form_spelling ups ++ (flat_map form_spelling downs ++ behind) =
    ap (λ x. x ++ rest) (flat_map-append form_spelling (ups ++ downs) more
    ∙ ap (λ x. x ++ flat_map form_spelling more) (flat_map-append form_spelling ups downs))
    ∙ append_assoc (flat_map form_spelling ups ++ flat_map form_spelling downs) (flat_map form_spelling more) rest
    ∙ append_assoc (flat_map form_spelling ups) (flat_map form_spelling downs) behind in
    let total = sum_by-cons (literals_at r) m (range_with_len (m + 1) j) in
    let start : At version names first channels before text (flat_map form_spelling ups ++ (flat_map form_spelling downs ++ behind)) (place_at m true)
    (guard_literals up + (guard_literals down + literals_from r (m + 1) j)) = record {
      last = at.last;
      count = at.count;
      read = subst (λ x. IsRulesRead before version names first channels at.last at.count text x) split at.read;
      behind = behind_more at.last (2 * m) (2 * m + 0) at.behind (omega arith);
      few = omega (arith, at.few, total);
    } in
    let forms = walk.forms m within in
    let one = one_rule version names first channels before text (flat_map form_spelling downs ++ behind) up m true
    (guard_literals down + literals_from r (m + 1) j) walk.same walk.distinct within
    (All-get_or (IsBelow (length names)) r.up m [] (omega (arith, walk.ups)) walk.up_within) forms.0 (walk.up_moved m within) start in
    let middle : At version names first channels (before ++ ups) text (flat_map form_spelling downs ++ behind) (place_at m false)
    (guard_literals down + literals_from r (m + 1) j) = record {
      last = one.last;
      count = one.count;
      read = one.read;
      behind = behind_more one.last (2 * m + 0 + 1) (2 * m + 1) one.behind (omega arith);
      few = one.few;
    } in
    let two = one_rule version names first channels (before ++ ups) text behind down m false (literals_from r (m + 1) j) walk.same walk.distinct within
    (All-get_or (IsBelow (length names)) r.down m [] (omega (arith, walk.downs)) walk.down_within) forms.1 (walk.down_moved m within) middle in
    let next : At version names first channels ((before ++ ups) ++ downs) text behind (2 * (m + 1)) (literals_from r (m + 1) j) = record {
      last = two.last;
      count = two.count;
      read = two.read;
      behind = behind_more two.last (2 * m + 1 + 1) (2 * (m + 1)) two.behind (omega arith);
      few = two.few;
    } in
    let done = rules_walk version names first channels r ((before ++ ups) ++ downs) text rest j (m + 1) walk (omega (arith, here)) next in
    let joined : ((before ++ ups) ++ downs) ++ more ≡ before ++ ((ups ++ downs) ++ more) =
    append_assoc (before ++ ups) downs more ∙ append_assoc before ups (downs ++ more) ∙ ap (λ x. before ++ x) (sym (append_assoc ups downs more)) in
    record {
      last = done.last;
      count = done.count;
      read = subst (λ b. IsRulesRead b version names first channels done.last done.count text rest) joined done.read;
      behind = behind_more done.last (2 * (m + 1 + j)) (2 * (m + suc j)) done.behind (omega arith);
      few = done.few;
    }

-- all literals

sum_both : (r : RulesValue) (ks : List ℕ) → sum_by (literals_at r) ks ≡ sum_by (λ i. guard_literals (get_or r.up i [])) ks +
    sum_by (λ i. guard_literals (get_or r.down i [])) ks
sum_both r [] = refl
sum_both r (k ∷ ks) =
    omega (
      arith,
      sum_both r ks,
      sum_by-cons (literals_at r) k ks,
      sum_by-cons (λ i. guard_literals (get_or r.up i [])) k ks,
      sum_by-cons (λ i. guard_literals (get_or r.down i [])) k ks,
    )

sum_map : (f : ℕ → GuardValue) (ks : List ℕ) → sum_by guard_literals (map f ks) ≡ sum_by (λ i. guard_literals (f i)) ks
sum_map f [] = refl
sum_map f (k ∷ ks) = omega (arith, sum_map f ks, sum_by-cons guard_literals (f k) (map f ks), sum_by-cons (λ i. guard_literals (f i)) k ks)

sum_all : (gs : List GuardValue) (count : ℕ) → length gs ≡ count →
    sum_by (λ i. guard_literals (get_or gs i [])) (range_with_len 0 count) ≡ sum_by guard_literals gs
sum_all gs count same =
    sym (sum_map (λ i. get_or gs i []) (range_with_len 0 count))
    ∙ ap (sum_by guard_literals) (sym (fill_by_all (λ i. get_or gs i []) gs count [] same (λ k within. refl)))

most_same : (o : Option ℕ) → most_of_net o ≡ literals_allowed (version_of o == 2)
most_same None = refl
most_same (Some k) = refl

guard_forms_say : (n : NetValue) → IsNet n → (k : ℕ) → k < length n.names → All IsForm (guard_forms n.names (get_or n.up k []) k true)
    × All IsForm (guard_forms n.names (get_or n.down k []) k false)
guard_forms_say n is k within =
    let below : (gs : List GuardValue) → All (IsBelow (length n.first)) gs → All (IsBelow (length n.names)) gs =
    λ gs all. subst (λ c. All (IsBelow c) gs) (sym is.named) all in (
      guard_line n.names (get_or n.up k []) k true is.names within (All-get_or (IsBelow (length n.names)) n.up k [] (omega (arith, is.ups, is.named))
          (below n.up is.up_within)) (All-get_or IsFilled n.up k [] (omega (arith, is.ups, is.named)) is.up_filled),
      guard_line n.names (get_or n.down k []) k false is.names within (All-get_or (IsBelow (length n.names)) n.down k [] (omega (arith, is.downs, is.named))
          (below n.down is.down_within)) (All-get_or IsFilled n.down k [] (omega (arith, is.downs, is.named)) is.down_filled),
    )

walkable : (n : NetValue) → IsNet n → IsWalkable (version_of n.reset) n.names n.first (channels_of n.channels) (net_rules n)
walkable n is = record {
  same = sym is.named;
  distinct = is.distinct;
  ups = is.ups ∙ sym is.named;
  downs = is.downs ∙ sym is.named;
  up_within = subst (λ c. All (IsBelow c) n.up) (sym is.named) is.up_within;
  down_within = subst (λ c. All (IsBelow c) n.down) (sym is.named) is.down_within;
  forms = guard_forms_say n is;
  up_moved = λ k within moved. (undriven_at n is k within moved).up;
  down_moved = λ k within moved. (undriven_at n is k within moved).down;
}

channels_say : (n : NetValue) (ws : List Wires) → All (IsChannel n) ws → All (λ (w : Wires). IsChannelForm w.channel) ws
channels_say n [] all = All-nil (λ (w : Wires). IsChannelForm w.channel)
channels_say n (w ∷ ws) all =
    let is = All-head (IsChannel n) w ws all in
    All-cons (λ (w : Wires). IsChannelForm w.channel) w ws (record { name = is.name; some = is.some; most = is.most })
    (channels_say n ws (All-tail (IsChannel n) w ws all))

all_wired : (n : NetValue) → IsNet n → (ws : List Wires) → All (IsChannel n) ws → All (IsWiredAmong n.names n.first) ws
all_wired n net [] all = All-nil (IsWiredAmong n.names n.first)
all_wired n net (w ∷ ws) all =
    All-cons (IsWiredAmong n.names n.first) w ws (wired_in n w net (All-head (IsChannel n) w ws all)) (all_wired n net ws (All-tail (IsChannel n) w ws all))

pub never_refused : (n : NetValue) (text : List ℕ) (fault : NetFault) (line : ℕ) → IsNet n → NetText text n → IsRefused text fault line → ⊥
never_refused n text fault line is spelled refused =
    not_refused whole (all_forms n) fault line end.read.taken end.read.ends (subst (λ t. IsRefused t fault line) same refused)
  where
    version : ℕ
    version = version_of n.reset

    lines : List Form
    lines = map channel_form n.channels

    rules : List Form
    rules = rule_forms n.names (net_rules n)

    behind_channels : List ℕ
    behind_channels = flat_map form_spelling rules ++ []

    behind_nodes : List ℕ
    behind_nodes = flat_map form_spelling lines ++ behind_channels

    whole : List ℕ
    whole = flat_map form_spelling (nodes_told version n.names n.first) ++ behind_nodes

    nodes : IsNodesRead version n.names n.first true whole behind_nodes
    nodes = net_nodes n behind_nodes is

    late : All IsForm (lines ++ rules)
    late = All-append IsForm lines rules (channel_lines n n.channels is.channels) (rules_say n is)

    no_nodes : All (λ f. is_node f ≡ false) (lines ++ rules)
    no_nodes = All-append (λ f. is_node f ≡ false) lines rules (all_channels (λ f. is_node f ≡ false) n.channels (λ c. refl))
        (all_rules (λ f. is_node f ≡ false) n.names (net_rules n) (range_with_len 0 (length n.names)) (λ g k u. refl))

    joined : behind_nodes ≡ flat_map form_spelling (lines ++ rules) ++ []
    joined = sym (append_assoc (flat_map form_spelling lines) (flat_map form_spelling rules) [])
        ∙ ap (λ t. t ++ []) (sym (flat_map-append form_spelling lines rules))

    over_nodes : (name : List ℕ) (value : Bool) → IsNodeName name → first_line behind_nodes ≡ node_spelling name value → ⊥
    over_nodes name value named e =
        other_line (lines ++ rules) (node name value) late named
        (λ f in' same. absurd (cc (All-contains (λ f. is_node f ≡ false) (lines ++ rules) f no_nodes in', ap is_node same))) (sym (ap first_line joined)
        ∙ e)

    begun : IsChannelsRead version n.names n.first [] whole behind_nodes
    begun = channels_begin version n.names n.first [] whole behind_nodes refl nodes over_nodes

    channels : IsChannelsRead version n.names n.first n.channels whole behind_channels
    channels = channels_walk version n.names n.first [] n.channels whole behind_channels nodes.nodes begun (all_wired n is n.channels is.channels)
        (channels_say n n.channels is.channels) (apart_names n.channels is.channels_distinct)

    all_are_rules : All (λ f. is_rule f ≡ true) rules
    all_are_rules = all_rules (λ f. is_rule f ≡ true) n.names (net_rules n) (range_with_len 0 (length n.names)) (λ g k u. refl)

    over_channels : (c : Channel) → IsChannelForm c → first_line behind_channels ≡ channel_spelling c → ⊥
    over_channels c form e =
        other_line rules (channel c) (rules_say n is) form
        (λ f in' same. absurd (cc (All-contains (λ f. is_rule f ≡ true) rules f all_are_rules in', ap is_rule same))) e

    few : 0 + literals_from (net_rules n) 0 (length n.names) ≤ literals_allowed (version == 2)
    few = omega (
      arith,
      sum_both (net_rules n) (range_with_len 0 (length n.names)),
      sum_all n.up (length n.names) (is.ups ∙ sym is.named),
      sum_all n.down (length n.names) (is.downs ∙ sym is.named),
      is.literals,
      most_same n.reset,
    )

    begin : At version n.names n.first (channels_of n.channels) (channels_told version n.names n.first n.channels) whole behind_channels (2 * 0)
        (literals_from (net_rules n) 0 (length n.names))
    begin = record {
      last = None;
      count = 0;
      read = rules_begin version n.names n.first n.channels whole behind_channels nodes.nodes channels over_channels;
      behind = tt;
      few = few;
    }

    end : At version n.names n.first (channels_of n.channels) (all_forms n) whole [] (2 * (0 + length n.names)) 0
    end = rules_walk version n.names n.first (channels_of n.channels) (net_rules n) (channels_told version n.names n.first n.channels) whole [] (length n.names)
        0 (walkable n is) (omega arith) begin

    same : text ≡ whole
    same = spelled ∙ sym (lines_spell n is) ∙ sym (append-nil (flat_map form_spelling (all_forms n))) ∙ sym end.read.taken.told
