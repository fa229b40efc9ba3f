-- The guards of a net with one rule more.
use Rattle.std.proofs.Common.{◌≡◌, ◌≢◌, ℕ, zero, suc, ◌+◌, ◌-◌, ◌*◌, ◌<◌, ◌≤◌, inl, inr, Bool, true, false, Option, None, Some, List, [], ◌∷◌, ◌++◌, length, get_or, set, refl, ap, sym, ◌∙◌, subst, arith}
use Rattle.std.specs.Prelude.{◌⊎◌, All, sum_by, replicate}
use Rattle.std.specs.List.{flat_map, range_with_len}
use Rattle.std.proofs.lemmas.Bool.{cases_lt}
use Rattle.std.proofs.lemmas.List.{append_assoc, append-nil, get_or-set_same, get_or-set_other, get_or-replicate, get_or_past, length-set, length-replicate}
use Rattle.std.proofs.lemmas.List.Concat.{flat_map-append}
use Rattle.std.proofs.lemmas.List.Elements.{All-set, All-replicate, All-nil}
use Rattle.std.proofs.lemmas.List.Folds.{sum_by-replicate}
use Rattle.std.proofs.lemmas.List.Sums.{sum_by-set}
use Rattle.chp_base.specs.declared.channel.Channel.{Channel}
use Rattle.prs_core.specs.declared.rule.Literal.{Literal}
use Rattle.prs_core.specs.Nets.{GuardValue, RulesValue, IsBelow, IsFilled, guard_literals}
use Rattle.prs_file.specs.Named.{guard_named}
use Rattle.prs_file.specs.Reading.{Form}
use Rattle.prs_file.specs.Reading.Form.{rule}
use Rattle.prs_file.specs.RulesTold.{is_driven, literals_allowed}
use Rattle.prs_file.specs.Tables.{guard_forms, node_rules, rule_forms, place_at, with_guard, IsBeyond, IsTable}
use Rattle.prs_file.proofs.Lookups.{range_more}

pub behind_more : (last : Option ℕ) (p q : ℕ) → IsBeyond last p → p ≤ q → IsBeyond last q
behind_more None p q is more = tt
behind_more (Some l) p q is more = omega arith

-- a guard at another node
other_guard : (gs : List GuardValue) (node n : ℕ) (g : GuardValue) → n ≢ node → get_or gs n [] ≡ [] → get_or (set gs node g) n [] ≡ []
other_guard gs node n g apart none = get_or-set_other gs node n g [] apart ∙ none

more_literals : (gs : List GuardValue) (node : ℕ) (g : GuardValue) → node < length gs → get_or gs node [] ≡ [] →
    sum_by guard_literals (set gs node g) ≡ sum_by guard_literals gs + guard_literals g
more_literals gs node g within none =
    omega (arith, sum_by-set guard_literals gs node g [] within, ap guard_literals none)

undriven_more : (reset : Bool) (channels : List Channel) (names : List (List ℕ)) (gs : List GuardValue) (node : ℕ) (g : GuardValue) →
    is_driven reset channels (get_or names node []) ≡ false → ((n : ℕ) → n < length names → is_driven reset channels (get_or names n []) ≡ true →
    get_or gs n [] ≡ []) → (n : ℕ) → n < length names → is_driven reset channels (get_or names n []) ≡ true → get_or (set gs node g) n [] ≡ []
undriven_more reset channels names gs node g free none n within driven =
    other_guard gs node n g (λ is. absurd (cc (free, driven, ap (λ k. is_driven reset channels (get_or names k [])) is))) (none n within driven)

pub table_more : (reset : Bool) (channels : List Channel) (names : List (List ℕ)) (last : Option ℕ) (count : ℕ) (r : RulesValue) (node : ℕ) (up : Bool)
    (g : GuardValue) → IsTable reset channels names last count r → node < length names → is_driven reset channels (get_or names node []) ≡ false →
    IsBeyond last (place_at node up) → IsBelow (length names) g → IsFilled g → count + guard_literals g ≤ literals_allowed reset →
    IsTable reset channels names (Some (place_at node up)) (count + guard_literals g) (with_guard node up g r)
table_more reset channels names last count r node true g table within free behind below filled few =
    let none = table.up_free node (behind_more last (2 * node + 0) (2 * node) behind (omega arith)) in
    record {
      ups = length-set r.up node g ∙ table.ups;
      downs = table.downs;
      up_within = All-set (IsBelow (length names)) r.up node g below table.up_within;
      down_within = table.down_within;
      up_filled = All-set IsFilled r.up node g filled table.up_filled;
      down_filled = table.down_filled;
      up_undriven = undriven_more reset channels names r.up node g free table.up_undriven;
      down_undriven = table.down_undriven;
      literals = omega (arith, more_literals r.up node g (omega (arith, table.ups)) none, table.literals);
      few = few;
      up_free = λ n now. other_guard r.up node n g (λ is. absurd (omega arith))
          (table.up_free n (behind_more last (2 * node + 0) (2 * n) behind (omega arith)));
      down_free = λ n now. table.down_free n (behind_more last (2 * node + 0) (2 * n + 1) behind (omega arith));
    }
table_more reset channels names last count r node false g table within free behind below filled few =
    let none = table.down_free node behind in
    record {
      ups = table.ups;
      downs = length-set r.down node g ∙ table.downs;
      up_within = table.up_within;
      down_within = All-set (IsBelow (length names)) r.down node g below table.down_within;
      up_filled = table.up_filled;
      down_filled = All-set IsFilled r.down node g filled table.down_filled;
      up_undriven = table.up_undriven;
      down_undriven = undriven_more reset channels names r.down node g free table.down_undriven;
      literals = omega (arith, more_literals r.down node g (omega (arith, table.downs)) none, table.literals);
      few = few;
      up_free = λ n now. table.up_free n (behind_more last (2 * node + 1) (2 * n) behind (omega arith));
      down_free = λ n now. other_guard r.down node n g (λ is. absurd (omega arith))
          (table.down_free n (behind_more last (2 * node + 1) (2 * n + 1) behind (omega arith)));
    }

-- lines over a range of nodes

pub flat_more : {X : Type 0} (f : ℕ → List X) (m : ℕ) → flat_map f (range_with_len 0 (m + 1)) ≡ flat_map f (range_with_len 0 m) ++ f m
flat_more f m =
    ap (flat_map f) (range_more m) ∙ flat_map-append f (range_with_len 0 m) (m ∷ []) ∙ ap (λ xs. flat_map f (range_with_len 0 m) ++ xs) (append-nil (f m))

pub flat_above : {X : Type 0} (f : ℕ → List X) (m k : ℕ) → ((i : ℕ) → m ≤ i → f i ≡ []) →
    flat_map f (range_with_len 0 (m + k)) ≡ flat_map f (range_with_len 0 m)
flat_above f m zero none = ap (λ n. flat_map f (range_with_len 0 n)) (omega arith)
flat_above f m (suc k) none =
    let e : m + suc k ≡ (m + k) + 1 = omega arith in
    ap (λ n. flat_map f (range_with_len 0 n)) e ∙ flat_more f (m + k) ∙ ap (λ xs. flat_map f (range_with_len 0 (m + k)) ++ xs) (none (m + k) (omega arith))
    ∙ append-nil (flat_map f (range_with_len 0 (m + k))) ∙ flat_above f m k none

pub flat_same : {X : Type 0} (f g : ℕ → List X) (m : ℕ) → ((i : ℕ) → i < m → f i ≡ g i) → flat_map f (range_with_len 0 m) ≡ flat_map g (range_with_len 0 m)
flat_same f g zero same = refl
flat_same f g (suc m) same =
    let e : suc m ≡ m + 1 = omega arith in
    ap (λ n. flat_map f (range_with_len 0 n)) e ∙ flat_more f m ∙ ap (λ xs. xs ++ f m) (flat_same f g m (λ i below. same i (omega arith)))
    ∙ ap (λ xs. flat_map g (range_with_len 0 m) ++ xs) (same m (omega arith)) ∙ sym (flat_more g m) ∙ sym (ap (λ n. flat_map g (range_with_len 0 n)) e)

no_rules : (names : List (List ℕ)) (r : RulesValue) (node : ℕ) → get_or r.up node [] ≡ [] → get_or r.down node [] ≡ [] → node_rules names r node ≡ []
no_rules names r node up down = rw (up, down) refl

some_form : (names : List (List ℕ)) (g : GuardValue) (node : ℕ) (up : Bool) → 0 < length g →
    guard_forms names g node up ≡ rule (guard_named names g) (get_or names node []) up ∷ []
some_form names [] node up some = absurd (omega arith)
some_form names (t ∷ ts) node up some = refl

-- at the node itself, and at each other
node_more : (reset : Bool) (channels : List Channel) (names : List (List ℕ)) (last : Option ℕ) (count : ℕ) (r : RulesValue) (node : ℕ) (up : Bool)
    (g : GuardValue) → IsTable reset channels names last count r → node < length names → IsBeyond last (place_at node up) → 0 < length g →
    node_rules names (with_guard node up g r) node ≡ node_rules names r node ++ rule (guard_named names g) (get_or names node []) up ∷ []
node_more reset channels names last count r node true g table within behind some =
    let up = table.up_free node (behind_more last (2 * node + 0) (2 * node) behind (omega arith)) in
    let down = table.down_free node (behind_more last (2 * node + 0) (2 * node + 1) behind (omega arith)) in
    let now : get_or (set r.up node g) node [] ≡ g = get_or-set_same r.up node g [] (omega (arith, table.ups)) in
    ap (λ g. guard_forms names g node true ++ guard_forms names (get_or r.down node []) node false) now
    ∙ ap (λ d. guard_forms names g node true ++ guard_forms names d node false) down
    ∙ append-nil (guard_forms names g node true)
    ∙ some_form names g node true some
    ∙ sym (ap (λ fs. fs ++ rule (guard_named names g) (get_or names node []) true ∷ []) (no_rules names r node up down))
node_more reset channels names last count r node false g table within behind some =
    let down = table.down_free node behind in
    let now : get_or (set r.down node g) node [] ≡ g = get_or-set_same r.down node g [] (omega (arith, table.downs)) in
    let ups = guard_forms names (get_or r.up node []) node true in
    ap (λ g. ups ++ guard_forms names g node false) now
    ∙ ap (λ fs. ups ++ fs) (some_form names g node false some)
    ∙ sym (ap (λ fs. fs ++ rule (guard_named names g) (get_or names node []) false ∷ []) (ap (λ d. ups ++ guard_forms names d node false) down
    ∙ append-nil ups))

node_other : (names : List (List ℕ)) (r : RulesValue) (node n : ℕ) (up : Bool) (g : GuardValue) → n ≢ node →
    node_rules names (with_guard node up g r) n ≡ node_rules names r n
node_other names r node n true g apart = ap (λ u. guard_forms names u n true ++ guard_forms names (get_or r.down n []) n false)
    (get_or-set_other r.up node n g [] apart)
node_other names r node n false g apart =
    ap (λ d. guard_forms names (get_or r.up n []) n true ++ guard_forms names d n false) (get_or-set_other r.down node n g [] apart)

past_node : (last : Option ℕ) (node i : ℕ) (up : Bool) → IsBeyond last (place_at node up) → node + 1 ≤ i → IsBeyond last (2 * i)
past_node last node i true behind past = behind_more last (2 * node + 0) (2 * i) behind (omega arith)
past_node last node i false behind past = behind_more last (2 * node + 1) (2 * i) behind (omega arith)

none_past : (reset : Bool) (channels : List Channel) (names : List (List ℕ)) (last : Option ℕ) (count : ℕ) (r : RulesValue) (node i : ℕ) (up : Bool) →
    IsTable reset channels names last count r → IsBeyond last (place_at node up) → node + 1 ≤ i → node_rules names r i ≡ []
none_past reset channels names last count r node i up table behind past =
    let here = past_node last node i up behind past in
    no_rules names r i (table.up_free i here) (table.down_free i (behind_more last (2 * i) (2 * i + 1) here (omega arith)))

-- one line more
pub forms_more : (reset : Bool) (channels : List Channel) (names : List (List ℕ)) (last : Option ℕ) (count : ℕ) (r : RulesValue) (node : ℕ) (up : Bool)
    (g : GuardValue) → IsTable reset channels names last count r → node < length names → IsBeyond last (place_at node up) → 0 < length g →
    rule_forms names (with_guard node up g r) ≡ rule_forms names r ++ rule (guard_named names g) (get_or names node []) up ∷ []
forms_more reset channels names last count r node up g table within behind some =
    let f = node_rules names r in
    let h = node_rules names (with_guard node up g r) in
    let new : Form = rule (guard_named names g) (get_or names node []) up in
    let e : length names ≡ (node + 1) + (length names - (node + 1)) = omega arith in
    let old_end : rule_forms names r ≡ flat_map f (range_with_len 0 node) ++ f node =
    ap (λ n. flat_map f (range_with_len 0 n)) e
    ∙ flat_above f (node + 1) (length names - (node + 1)) (λ i past. none_past reset channels names last count r node i up table behind past)
    ∙ flat_more f node in
    let past : (i : ℕ) → node + 1 ≤ i → h i ≡ [] = λ i past. node_other names r node i up g (λ is. absurd (omega arith))
    ∙ none_past reset channels names last count r node i up table behind past in
    let new_end : rule_forms names (with_guard node up g r) ≡ flat_map h (range_with_len 0 node) ++ h node =
    ap (λ n. flat_map h (range_with_len 0 n)) e ∙ flat_above h (node + 1) (length names - (node + 1)) past ∙ flat_more h node in
    new_end
    ∙ ap (λ xs. xs ++ h node) (flat_same h f node (λ i below. node_other names r node i up g (λ is. absurd (omega arith))))
    ∙ ap (λ xs. flat_map f (range_with_len 0 node) ++ xs) (node_more reset channels names last count r node up g table within behind some)
    ∙ sym (append_assoc (flat_map f (range_with_len 0 node)) (f node) (new ∷ []))
    ∙ ap (λ xs. xs ++ new ∷ []) (sym old_end)

-- before the first rule

abbrev nothing : GuardValue
nothing = []

at_replicate : (n i : ℕ) → get_or (replicate n nothing) i nothing ≡ nothing
at_replicate n i = by_order (cases_lt i n)
  where
    by_order : (i < n) ⊎ (n ≤ i) → get_or (replicate n nothing) i nothing ≡ nothing
    by_order (inl within) = get_or-replicate n i nothing nothing within
    by_order (inr past) = get_or_past (replicate n nothing) i nothing (omega (arith, length-replicate n nothing))

zero_times : (n : ℕ) → n * 0 ≡ 0
zero_times n = omega arith

no_sum : (n : ℕ) → sum_by guard_literals (replicate n nothing) ≡ 0
no_sum n = omega (arith, sum_by-replicate guard_literals n nothing, zero_times n)

pub table_begin : (reset : Bool) (channels : List Channel) (names : List (List ℕ)) (r : RulesValue) →
    r ≡ record { up = replicate (length names) []; down = replicate (length names) [] } → IsTable reset channels names None 0 r
table_begin reset channels names r is = subst (IsTable reset channels names None 0) (sym is) (record {
  ups = length-replicate (length names) [];
  downs = length-replicate (length names) [];
  up_within = All-replicate (IsBelow (length names)) (length names) [] (All-nil (All (λ (l : Literal). l.node < length names)));
  down_within = All-replicate (IsBelow (length names)) (length names) [] (All-nil (All (λ (l : Literal). l.node < length names)));
  up_filled = All-replicate IsFilled (length names) [] (All-nil (λ (t : List Literal). 0 < length t));
  down_filled = All-replicate IsFilled (length names) [] (All-nil (λ (t : List Literal). 0 < length t));
  up_undriven = λ n within driven. at_replicate (length names) n;
  down_undriven = λ n within driven. at_replicate (length names) n;
  literals = omega (arith, no_sum (length names));
  few = omega arith;
  up_free = λ n behind. at_replicate (length names) n;
  down_free = λ n behind. at_replicate (length names) n;
})

all_above : (n : ℕ) → n ≡ 0 + n
all_above n = omega arith

pub forms_begin : (names : List (List ℕ)) (r : RulesValue) → r ≡ record { up = replicate (length names) []; down = replicate (length names) [] } →
    rule_forms names r ≡ []
forms_begin names r is =
    ap (rule_forms names) is ∙ ap (λ n. flat_map (node_rules names (record { up = replicate (length names) []; down = replicate (length names) [] }))
    (range_with_len 0 n)) (all_above (length names))
    ∙ flat_above (node_rules names (record { up = replicate (length names) []; down = replicate (length names) [] })) 0 (length names)
    (λ i past. no_rules names (record { up = replicate (length names) []; down = replicate (length names) [] }) i (at_replicate (length names) i)
    (at_replicate (length names) i))
