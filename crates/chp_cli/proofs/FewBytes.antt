-- What `compile` writes is no longer than a rule file may be.
use Rattle.std.proofs.Common.{◌≡◌, ◌∙◌, ◌⊎◌, ℕ, zero, suc, ◌+◌, ◌-◌, ◌*◌, ◌<◌, ◌≤◌, Bool, true, false, cond, not, List, [], ◌∷◌, ◌++◌, length, get_or, drop, map, Option, Some, None, inl, inr, refl, sym, ap, subst, arith, length-append}
use Rattle.std.specs.Prelude.{All, sum_by, codes, decimal}
use Rattle.std.specs.List.{concat, flat_map, join_by, range_with_len}
use Rattle.std.proofs.lemmas.Bool.{cases_lt}
use Rattle.std.proofs.lemmas.List.{get_or_append_left, get_or-append_right, get_or_past, length_push, drop_all}
use Rattle.std.proofs.lemmas.List.Elements.{All-head, All-tail, All-get_or, All-nil}
use Rattle.std.proofs.lemmas.List.FromFn.{length-range_with_len, length-map-range_with_len, get_or-map-range_with_len}
use Rattle.std.proofs.lemmas.List.Sums.{sum_by-cons, sum_by_push, sum_by-drop_more}
use Rattle.itoa.proofs.Decimal.{length_wide}
use Rattle.chp_base.specs.Names.{IsNodeName}
use Rattle.chp_base.specs.declared.channel.Channel.{Channel}
use Rattle.chp_base.specs.declared.channel.Kind.{Kind}
use Rattle.chp_base.specs.declared.channel.Kind.TheVariants.{In, Out, Chan}
use Rattle.handshake_expand.specs.Named.{wire_names, wires_named, block_names, numbered_from}
use Rattle.handshake_expand.specs.Layout.{vars_from, root_request, size_of}
use Rattle.net_compose.specs.NamesTo.{names_to}
use Rattle.net_compose.specs.Translation.{wires_from}
use Rattle.call_map.specs.Calling.{called_size}
use Rattle.call_map.specs.CallNet.{inlined_program, procs_size}
use Rattle.call_compose.specs.Placing.{shared_of}
use Rattle.prs_core.specs.declared.rule.Literal.{Literal}
use Rattle.prs_core.specs.declared.wires.Wires.{Wires}
use Rattle.prs_core.specs.Nets.{GuardValue, NetValue, IsNet, IsChannel, IsFilled, guard_literals, literals_of, name_at, first_at, up_of, down_of, rail_names, ack_name}
use Rattle.prs_file.specs.Spelling.{NetText, version_of, head_spelling, value_spelling, node_spelling, kind_spelling, channel_spelling, sign_spelling, literal_spelling, term_spelling, guard_spelling, end_spelling, rule_spelling, rules_spelling, spelling}
use Rattle.reset_net.specs.Resets.{reset_literal, held, forced, reset_guard, has_rules, reset_up, reset_down, reset_of}
use Rattle.width_check.specs.Processes.{TypedProgram}
use Rattle.program_commands.specs.Bodies.{Bodies, copied, shared, IsFaithful, net_for, net_with}
use Rattle.command_steps.specs.Steps.{most_of_net}

-- ---- lists

parts_bytes : (xs : List (List ℕ)) → length (concat xs) ≡ sum_by (λ (x : List ℕ). length x) xs
parts_bytes [] = refl
parts_bytes (x ∷ xs) = omega (arith, length-append x (concat xs), parts_bytes xs, sum_by-cons (λ (y : List ℕ). length y) x xs)

-- what is joined has no more than its pieces with a separator behind each
module _ {X : Type 0} (f : X → List ℕ) (sep : List ℕ) (w : X → ℕ) (each : (x : X) → length (f x) + length sep ≤ w x) where
  later_bytes : (xs : List X) → length (flat_map (λ y. sep ++ f y) xs) ≤ sum_by w xs
  later_bytes [] = omega arith
  later_bytes (x ∷ xs) =
      omega (
        arith,
        each x,
        later_bytes xs,
        sum_by-cons w x xs,
        length-append (sep ++ f x) (flat_map (λ y. sep ++ f y) xs),
        length-append sep (f x),
      )

  joined_bytes : (xs : List X) → length (join_by f sep xs) ≤ sum_by w xs
  joined_bytes [] = omega arith
  joined_bytes (x ∷ xs) =
      omega (arith, each x, later_bytes xs, sum_by-cons w x xs, length-append (f x) (flat_map (λ y. sep ++ f y) xs))

-- over numbers from one on, what guards weigh is no more than what all of them weigh
own_literals : (gs : List GuardValue) (m a : ℕ) →
    sum_by (λ k. guard_literals (get_or gs k [])) (range_with_len a m) ≤ sum_by guard_literals (drop a gs)
own_literals gs zero a = omega arith
own_literals gs (suc m) a = by_place (own_literals gs m (a + 1)) (cases_lt a (length gs))
  where
    by_place : sum_by (λ k. guard_literals (get_or gs k [])) (range_with_len (a + 1) m) ≤ sum_by guard_literals (drop (a + 1) gs) →
        (a < length gs) ⊎ (length gs ≤ a) →
        sum_by (λ k. guard_literals (get_or gs k [])) (range_with_len a (suc m)) ≤ sum_by guard_literals (drop a gs)
    by_place later (inl within) =
        omega (
          arith,
          sum_by-cons (λ k. guard_literals (get_or gs k [])) a (range_with_len (a + 1) m),
          sum_by-drop_more guard_literals gs a [] within,
          later,
        )
    by_place later (inr past) =
        let none : guard_literals (get_or gs a []) ≡ 0 = ap guard_literals (get_or_past gs a [] past) in
        let gone : drop (a + 1) gs ≡ [] = drop_all (a + 1) gs (omega arith) in
        omega (
          arith,
          none,
          ap (sum_by guard_literals) gone,
          sum_by-cons (λ k. guard_literals (get_or gs k [])) a (range_with_len (a + 1) m),
          later,
        )

-- ---- the guards

sign_bytes : (high : Bool) → length (sign_spelling high) ≤ 1
sign_bytes true = omega arith
sign_bytes false = omega arith

-- what a literal and a guard have at most, with a separator behind each part
abbrev weight : NetValue → Literal → ℕ
weight n l = length (name_at n l.node) + 4

abbrev term_weight : NetValue → List Literal → ℕ
term_weight n t = sum_by (weight n) t + 3

abbrev guard_weight : NetValue → GuardValue → ℕ
guard_weight n g = sum_by (term_weight n) g

module _ (n : NetValue) where
  literal_bytes : (l : Literal) → length (literal_spelling n l) + 3 ≤ weight n l
  literal_bytes l = omega (arith, sign_bytes l.high, length-append (sign_spelling l.high) (name_at n l.node))

  term_bytes : (t : List Literal) → length (term_spelling n t) + 3 ≤ term_weight n t
  term_bytes t = omega (arith, joined_bytes (literal_spelling n) (codes " & ") (weight n) literal_bytes t)

  guard_bytes : (g : GuardValue) → length (guard_spelling n g) ≤ guard_weight n g
  guard_bytes g = joined_bytes (term_spelling n) (codes " | ") (term_weight n) term_bytes g

module _ (n : NetValue) (names : All IsNodeName n.names) where
  name_bytes : (k : ℕ) → length (name_at n k) ≤ 32
  name_bytes k = by_place (cases_lt k (length n.names))
    where
      by_place : (k < length n.names) ⊎ (length n.names ≤ k) → length (name_at n k) ≤ 32
      by_place (inl within) = (All-get_or IsNodeName n.names k [] within names).short
      by_place (inr past) = omega (arith, ap (λ (x : List ℕ). length x) (get_or_past n.names k [] past))

  own_weight : (t : List Literal) → sum_by (weight n) t ≤ 36 * length t
  own_weight [] = omega arith
  own_weight (l ∷ t) = omega (arith, sum_by-cons (weight n) l t, name_bytes l.node, own_weight t)

  plain_weight : (g : GuardValue) → IsFilled g → guard_weight n g ≤ 39 * guard_literals g
  plain_weight [] filled = omega arith
  plain_weight (t ∷ g) filled =
      omega (
        arith,
        own_weight t,
        sum_by-cons (term_weight n) t g,
        sum_by-cons (λ (u : List Literal). length u) t g,
        All-head (λ (u : List Literal). 0 < length u) t g filled,
        plain_weight g (All-tail (λ (u : List Literal). 0 < length u) t g filled),
      )

  -- what a reset node adds
  module _ (reset : ℕ) (named : name_at n reset ≡ codes "reset") where
    added : (high : Bool) → weight n (reset_literal reset high) ≡ 9
    added high = omega (arith, ap (λ (x : List ℕ). length x) named)

    held_weight : (g : GuardValue) → IsFilled g → guard_weight n (held reset g) ≤ 48 * guard_literals g
    held_weight [] filled = omega arith
    held_weight (t ∷ g) filled =
        omega (
          arith,
          own_weight t,
          added false,
          sum_by_push (weight n) t (reset_literal reset false),
          sum_by-cons (term_weight n) (t ++ reset_literal reset false ∷ []) (held reset g),
          sum_by-cons (λ (u : List Literal). length u) t g,
          All-head (λ (u : List Literal). 0 < length u) t g filled,
          held_weight g (All-tail (λ (u : List Literal). 0 < length u) t g filled),
        )

    forced_weight : (g : GuardValue) → IsFilled g → guard_weight n (forced reset g) ≤ 39 * guard_literals g + 12
    forced_weight g filled =
        omega (arith, plain_weight g filled, added true, sum_by_push (term_weight n) g (reset_literal reset true ∷ []))

    reset_weight : (back : Bool) (g : GuardValue) → IsFilled g →
        guard_weight n (reset_guard reset back g) ≤ 48 * guard_literals g + 12
    reset_weight true g filled = omega (arith, forced_weight g filled)
    reset_weight false g filled = omega (arith, held_weight g filled)

    some_weight : (some back : Bool) (g : GuardValue) → IsFilled g →
        guard_weight n (cond some (reset_guard reset back g) []) ≤ 48 * guard_literals g + 12
    some_weight true back g filled = reset_weight back g filled
    some_weight false back g filled = omega arith

-- ---- the lines

end_bytes : (name : List ℕ) (up : Bool) → length name ≤ 32 → length (end_spelling name up) ≤ 38
end_bytes name true short =
    omega (arith, parts_bytes (codes " -> " ∷ name ∷ codes "+\n" ∷ []))
end_bytes name false short =
    omega (arith, parts_bytes (codes " -> " ∷ name ∷ codes "-\n" ∷ []))

value_bytes : (value : Bool) → length (value_spelling value) ≡ 3
value_bytes true = refl
value_bytes false = refl

kind_bytes : (k : Kind) → length (kind_spelling k) ≤ 5
kind_bytes In = omega arith
kind_bytes Out = omega arith
kind_bytes Chan = omega arith

few_versions : (reset : Option ℕ) → version_of reset ≤ 2
few_versions None = omega arith
few_versions (Some k) = omega arith

head_bytes : (version : ℕ) → version ≤ 2 → length (head_spelling version) ≤ 44
head_bytes version few =
    omega (arith, parts_bytes (codes "prs " ∷ decimal version ∷ codes "\n" ∷ []), length_wide version (omega arith))

module _ (n : NetValue) (kept : IsNet n) where
  rule_bytes : (g : GuardValue) (k : ℕ) (up : Bool) → length (rule_spelling n g k up) ≤ guard_weight n g + 43
  rule_bytes [] k up = omega arith
  rule_bytes (t ∷ ts) k up =
      omega (
        arith,
        parts_bytes (codes "rule " ∷ guard_spelling n (t ∷ ts) ∷ end_spelling (name_at n k) up ∷ []),
        guard_bytes n (t ∷ ts),
        end_bytes (name_at n k) up (name_bytes n kept.names k),
      )

  node_bytes : (k : ℕ) → length (node_spelling (name_at n k) (first_at n k)) ≤ 40
  node_bytes k =
      omega (
        arith,
        parts_bytes (codes "node " ∷ name_at n k ∷ value_spelling (first_at n k) ∷ []),
        name_bytes n kept.names k,
        value_bytes (first_at n k),
      )

  nodes_bytes : (ks : List ℕ) → length (flat_map (λ k. node_spelling (name_at n k) (first_at n k)) ks) ≤ 40 * length ks
  nodes_bytes [] = omega arith
  nodes_bytes (k ∷ ks) =
      omega (
        arith,
        node_bytes k,
        nodes_bytes ks,
        length-append (node_spelling (name_at n k) (first_at n k)) (flat_map (λ j. node_spelling (name_at n j) (first_at n j)) ks),
      )

  channel_bytes : (w : Wires) → IsChannel n w → length (channel_spelling w.channel) ≤ 70
  channel_bytes w is =
      omega (
        arith,
        parts_bytes (kind_spelling w.channel.kind ∷ w.channel.name ∷ codes " " ∷ decimal w.channel.width ∷ codes "\n" ∷ []),
        kind_bytes w.channel.kind,
        is.name.short,
        length_wide w.channel.width (omega (arith, is.most)),
      )

  channels_bytes : (ws : List Wires) → All (IsChannel n) ws →
      length (flat_map (λ (w : Wires). channel_spelling w.channel) ws) ≤ 70 * length ws
  channels_bytes [] are = omega arith
  channels_bytes (w ∷ ws) are =
      omega (
        arith,
        channel_bytes w (All-head (IsChannel n) w ws are),
        channels_bytes ws (All-tail (IsChannel n) w ws are),
        length-append (channel_spelling w.channel) (flat_map (λ (v : Wires). channel_spelling v.channel) ws),
      )

  -- a net whose guards weigh no more than those of another one with what the reset node adds
  module _ (plain : NetValue) (ups : (k : ℕ) → guard_weight n (up_of n k) ≤ 48 * guard_literals (up_of plain k) + 12)
      (downs : (k : ℕ) → guard_weight n (down_of n k) ≤ 48 * guard_literals (down_of plain k) + 12) where
    two_bytes : (k : ℕ) →
        length (rules_spelling n k) ≤ 48 * (guard_literals (up_of plain k) + guard_literals (down_of plain k)) + 110
    two_bytes k =
        omega (
          arith,
          ups k,
          downs k,
          rule_bytes (up_of n k) k true,
          rule_bytes (down_of n k) k false,
          length-append (rule_spelling n (up_of n k) k true) (rule_spelling n (down_of n k) k false),
        )

    rules_bytes : (ks : List ℕ) → length (flat_map (rules_spelling n) ks) ≤
        48 * (sum_by (λ k. guard_literals (up_of plain k)) ks + sum_by (λ k. guard_literals (down_of plain k)) ks) + 110 * length ks
    rules_bytes [] = omega arith
    rules_bytes (k ∷ ks) =
        omega (
          arith,
          two_bytes k,
          rules_bytes ks,
          sum_by-cons (λ j. guard_literals (up_of plain j)) k ks,
          sum_by-cons (λ j. guard_literals (down_of plain j)) k ks,
          length-append (rules_spelling n k) (flat_map (rules_spelling n) ks),
        )

    text_bytes : literals_of plain ≤ 4194304 → length n.first ≤ 65537 → length n.channels ≤ 65536 →
        length (spelling n) ≤ 268435456
    text_bytes few small channels =
        let nodes = range_with_len 0 (length n.first) in
        omega (
          arith,
          parts_bytes (head_spelling (version_of n.reset) ∷ flat_map (λ k. node_spelling (name_at n k) (first_at n k)) nodes
              ∷ flat_map (λ (w : Wires). channel_spelling w.channel) n.channels ∷ flat_map (rules_spelling n) nodes ∷ []),
          head_bytes (version_of n.reset) (few_versions n.reset),
          nodes_bytes nodes,
          channels_bytes n.channels kept.channels,
          rules_bytes nodes,
          length-range_with_len 0 (length n.first),
          own_literals plain.up (length n.first) 0,
          own_literals plain.down (length n.first) 0,
        )

-- ---- the nets of a program

-- each channel has a node
few_wires : (p : TypedProgram) (k : ℕ) (cs : List Channel) → length (wires_from p k cs) ≤ length (wire_names cs)
few_wires p k [] = omega arith
few_wires p k (c ∷ cs) =
    omega (
      arith,
      few_wires p (suc k) cs,
      length_push (rail_names c.name c.width) (ack_name c.name),
      length-append (wires_named c) (wire_names cs),
    )

few_channels : (p : TypedProgram) (count : ℕ) → length (wires_from p 0 p.channels) ≤ length (names_to p count)
few_channels p count =
    let others = block_names p.vars (vars_from p) ++ numbered_from (root_request p) count in
    omega (arith, few_wires p 0 p.channels, length-append (wire_names p.channels) others)

channels_named : {p : TypedProgram} (bodies : Bodies p) → length (net_with bodies).channels ≤ length (net_with bodies).names
channels_named {p} copied = few_channels p (2 + size_of p p.body)
channels_named (shared h) =
    let C = shared_of h in
    few_channels (inlined_program C) (procs_size (inlined_program C) C.procs + (2 + called_size C.procs (inlined_program C) C.body))

none_filled : IsFilled []
none_filled = All-nil (λ (t : List Literal). 0 < length t)

-- no guard of a net has an empty term
each_filled : (gs : List GuardValue) → All IsFilled gs → (k : ℕ) → IsFilled (get_or gs k [])
each_filled gs filled k = by_place (cases_lt k (length gs))
  where
    by_place : (k < length gs) ⊎ (length gs ≤ k) → IsFilled (get_or gs k [])
    by_place (inl within) = All-get_or IsFilled gs k [] within filled
    by_place (inr past) = subst IsFilled (sym (get_or_past gs k [] past)) none_filled

-- the guard of a node of the net with a reset node is that which was made for it, or there is none
only_none : (i : ℕ) → get_or {A = GuardValue} ([] ∷ []) i [] ≡ []
only_none zero = refl
only_none (suc i) = refl

laid : (P : GuardValue → Type 0) (f : ℕ → GuardValue) (count k : ℕ) → P [] → P (f k) →
    P (get_or (map f (range_with_len 0 count) ++ [] ∷ []) k [])
laid P f count k none made = by_place (cases_lt k count)
  where
    within_is : k < count → get_or (map f (range_with_len 0 count) ++ [] ∷ []) k [] ≡ f k
    within_is within =
        get_or_append_left (map f (range_with_len 0 count)) ([] ∷ []) [] k (omega (arith, length-map-range_with_len f 0 count))
        ∙ get_or-map-range_with_len f 0 count k k [] within (omega arith)

    past_is : count ≤ k → get_or (map f (range_with_len 0 count) ++ [] ∷ []) k [] ≡ []
    past_is past =
        get_or-append_right (map f (range_with_len 0 count)) ([] ∷ []) count k [] (length-map-range_with_len f 0 count) past
        ∙ only_none (k - count)

    by_place : (k < count) ⊎ (count ≤ k) → P (get_or (map f (range_with_len 0 count) ++ [] ∷ []) k [])
    by_place (inl within) = subst P (sym (within_is within)) made
    by_place (inr past) = subst P (sym (past_is past)) none

plain_text : (n : NetValue) → IsNet n → literals_of n ≤ 4194304 → length n.first ≤ 65537 → length n.channels ≤ 65536 →
    length (spelling n) ≤ 268435456
plain_text n kept few small channels =
    text_bytes n kept n
    (λ k. omega (arith, plain_weight n kept.names (up_of n k) (each_filled n.up kept.up_filled k)))
    (λ k. omega (arith, plain_weight n kept.names (down_of n k) (each_filled n.down kept.down_filled k)))
    few small channels

reset_text : (n : NetValue) → IsNet n → IsNet (reset_of n) → literals_of n ≤ 4194304 → length n.first ≤ 65536 → length n.channels ≤ 65536 →
    length (spelling (reset_of n)) ≤ 268435456
reset_text n plain kept few small channels =
    text_bytes (reset_of n) kept n
    (λ k. laid (λ g. guard_weight (reset_of n) g ≤ 48 * guard_literals (up_of n k) + 12) (reset_up n) (length n.first) k (omega arith)
    (some_weight (reset_of n) kept.names (length n.first) kept.reset.name (has_rules (up_of n k) (down_of n k)) (first_at n k) (up_of n k)
    (each_filled n.up plain.up_filled k)))
    (λ k. laid (λ g. guard_weight (reset_of n) g ≤ 48 * guard_literals (down_of n k) + 12) (reset_down n) (length n.first) k (omega arith)
    (some_weight (reset_of n) kept.names (length n.first) kept.reset.name (has_rules (up_of n k) (down_of n k)) (not (first_at n k))
    (down_of n k) (each_filled n.down plain.down_filled k)))
    few (omega (arith, length_push n.first true)) channels

-- without a reset node it has as many nodes and literals as such a net may have
nodes_within : {p : TypedProgram} (bodies : Bodies p) → IsNet (net_with bodies) → length (net_with bodies).first ≤ 65536
nodes_within copied net = net.most
nodes_within (shared h) net = net.most

literals_within : {p : TypedProgram} (bodies : Bodies p) → IsNet (net_with bodies) → literals_of (net_with bodies) ≤ 4194304
literals_within copied net = net.literals
literals_within (shared h) net = net.literals

net_text : (reset : Bool) {p : TypedProgram} (bodies : Bodies p) → IsNet (net_with bodies) → IsNet (net_for reset bodies)
    → length (net_with bodies).channels ≤ 65536 → length (spelling (net_for reset bodies)) ≤ 268435456
net_text false bodies plain kept channels =
    plain_text (net_with bodies) plain (literals_within bodies plain) (omega (arith, nodes_within bodies plain)) channels
net_text true bodies plain kept channels =
    reset_text (net_with bodies) plain kept (literals_within bodies plain) (nodes_within bodies plain) channels

pub few_bytes : (reset : Bool) {p : TypedProgram} (bodies : Bodies p) (file : List ℕ) → NetText file (net_for reset bodies) → IsFaithful reset bodies
    → length file ≤ most_of_net
few_bytes reset bodies file spells is =
    let channels : length (net_with bodies).channels ≤ 65536 = omega (arith, channels_named bodies, is.plain.named, nodes_within bodies is.plain) in
    omega (arith, ap (λ (x : List ℕ). length x) spells, net_text reset bodies is.plain is.kept channels)
