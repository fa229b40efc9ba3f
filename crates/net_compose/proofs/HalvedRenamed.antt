-- So the net of a program is that of the program in halves, numbered otherwise: node by node, in its first values and in its
-- rules.
use Rattle.std.proofs.Common.{◌≡◌, ℕ, zero, suc, ◌+◌, ◌*◌, ◌/◌, ◌%◌, ◌<◌, ◌≤◌, ◌==◌, Bool, true, false, List, [], ◌∷◌, ◌++◌, map, length, replicate, None, refl, sym, ap, ◌∙◌, arith, append-nil, append_assoc}
use Rattle.std.specs.Prelude.{◌||◌, if◌then◌else◌}
use Rattle.std.proofs.lemmas.Bool.{eqb-true, eq-eqb}
use Rattle.std.proofs.lemmas.List.{map-append, get_or_past, get_or-replicate, length-replicate}
use Rattle.chp_base.specs.declared.channel.Channel.{Channel}
use Rattle.prs_core.specs.Nets.{NodeRules, NetValue, net_of, up_of, down_of}
use Rattle.prs_core.specs.Pairs.{pairs_from, rails_of, no_rules}
use Rattle.prs_core.specs.Moves.{high, guard_holds}
use Rattle.width_check.specs.declared.typed.Var.{Var}
use Rattle.width_check.specs.Processes.{Formula, Process, skipping, assigning, sending, receiving, in_turn, side_by_side, choosing, repeating, Processes, no_members, and_member, TypedProgram, Choices, no_choices, and_choice}
use Rattle.width_check.specs.Reads.{reads}
use Rattle.width_check.specs.Values.{width_of}
use Rattle.width_check.proofs.Bounds.{width_some}
use Rattle.width_check.specs.Typing.{channel_width, var_width, IsOfWidth, IsProcess, AreProcesses, AreChoices}
use Rattle.handshake_expand.specs.Layout.{block_size, size_of, channel_from, var_from, root_request, body_from, nodes_of}
use Rattle.handshake_expand.specs.Named.{node_names}
use Rattle.cell_variable.specs.Variables.{high_first}
use Rattle.function_blocks.specs.Expressions.{formula_result}
use Rattle.chp_meaning.specs.Halves.{ReadsNoTarget, hidden_of, hidden_vars, hidden_in_each, halved, halved_program, hidden_in_choices}
use Rattle.handshake_expand.specs.Answers.{bodies_from, select_own, again_own}
use Rattle.handshake_expand.specs.Sites.{in_body, sites_in, sites_in_turn, sites_in_branches, sites_in_bodies}
use Rattle.net_compose.specs.Translation.{translation, composed, all_rules, hidden_high, vars_high, first_values, wires_from, rails_at, ack_at}
use Rattle.net_compose.specs.WiresBelow.{RailsBelow, WiresBelow}
use Rattle.net_compose.proofs.Sizes.{Counted, all_length}
use Rattle.net_compose.proofs.FlatTrees.{rules_at}
use Rattle.net_compose.proofs.FlatWires.{wires_below}
use Rattle.net_compose.proofs.FlatBlocks.{blocks_below, length-variable_rules, side}
use Rattle.net_compose.proofs.FlatFirst.{member, raised_is, length-raised, high_member, high_at}
use Rattle.net_compose.proofs.FlatNet.{up_told, down_told}
use Rattle.net_compose.proofs.PlainPasses.{none_hidden}
use Rattle.net_compose.proofs.HalvedNumbers.{blocks}
use Rattle.net_compose.proofs.HalvedNodes.{Numbered, hidden, hidden_turn, hidden_branches, hidden_assign, hidden_rules, hidden_bodies}
use Rattle.net_compose.proofs.NumberedOnce.{node_in, standing, one_place}
use Rattle.net_compose.proofs.HalvedAlike.{Values, rules_in, values_left, values_right, values_at, declared_from, HiddenAt, hidden_at_left, hidden_at_right, hidden_long}
use Rattle.net_compose.proofs.HalvedNet.{rules_in_at, values_from, order, order_all, all_long, order_long, renamed, nodes_there, where_hidden, below_root, in_hidden, order_alike}
use Rattle.net_compose.proofs.Renamed.{IsRenaming}

-- the rails that are high at first of a block, where the block is numbered otherwise
highs_renamed : (f : ℕ → ℕ) (n value from to : ℕ) → ((i : ℕ) → i < 5 * n → from + i ≡ f (to + i)) → map f (high_first n value to) ≡ high_first n value from
highs_renamed f zero value from to h = refl
highs_renamed f (suc n) value from to h =
    ap (λ k. k ∷ map f (high_first n (value / 2) (to + 5))) (by (value % 2 == 1))
    ∙ ap (λ l. (if value % 2 == 1 then from else from + 1) ∷ l)
    (highs_renamed f n (value / 2) (from + 5) (to + 5)
    (λ i l. (let z : from + 5 + i ≡ from + (5 + i) = omega arith in z) ∙ (h (5 + i) (omega (arith, l))
    ∙ ap f (let z : to + (5 + i) ≡ to + 5 + i = omega arith in z))))
  where
    by : (b : Bool) → f (if b then to else to + 1) ≡ (if b then from else from + 1)
    by true = ap f (let z : to ≡ to + 0 = omega arith in z) ∙ (sym (h 0 (omega arith)) ∙ (let z : from + 0 ≡ from = omega arith in z))
    by false = sym (h 1 (omega arith))

-- a number among others, and among others that are numbered otherwise
member_there : (f : ℕ → ℕ) (n : ℕ) (xs : List ℕ) → member n xs ≡ true → member (f n) (map f xs) ≡ true
member_there f n [] h = absurd (cc h)
member_there f n (x ∷ xs) h = by (x == n) refl h (λ g. member_there f n xs g)
  where
    or_true : (b : Bool) → (b || true) ≡ true
    or_true true = refl
    or_true false = refl

    by : (b : Bool) → (x == n) ≡ b → (b || member n xs) ≡ true → (member n xs ≡ true → member (f n) (map f xs) ≡ true)
        → member (f n) (f x ∷ map f xs) ≡ true
    by true e h later = ap (λ z. z || member (f n) (map f xs)) (eq-eqb (f x) (f n) (ap f (eqb-true x n e)))
    by false e h later = ap (λ z. (f x == f n) || z) (later h) ∙ or_true (f x == f n)

record Before (f : ℕ → ℕ) (m : ℕ) (xs : List ℕ) : Type 0 where
  pub number : ℕ
  pub among : member number xs ≡ true
  pub is : f number ≡ m

member_back : (f : ℕ → ℕ) (m : ℕ) (xs : List ℕ) → member m (map f xs) ≡ true → Before f m xs
member_back f m [] h = absurd (cc h)
member_back f m (x ∷ xs) h = by (f x == m) refl h (λ g. member_back f m xs g)
  where
    or_true : (b : Bool) → (b || true) ≡ true
    or_true true = refl
    or_true false = refl

    later : Before f m xs → Before f m (x ∷ xs)
    later r = record { number = r.number; among = ap (λ z. (x == r.number) || z) r.among ∙ or_true (x == r.number); is = r.is }

    by : (b : Bool) → (f x == m) ≡ b → (b || member m (map f xs)) ≡ true → (member m (map f xs) ≡ true → Before f m xs) → Before f m (x ∷ xs)
    by true e h before = record { number = x; among = ap (λ z. z || member x xs) (eq-eqb x x refl); is = eqb-true (f x) m e }
    by false e h before = later (before h)

same_truth : (a b : Bool) → (a ≡ true → b ≡ true) → (b ≡ true → a ≡ true) → a ≡ b
same_truth true b f g = sym (f refl)
same_truth false true f g = g refl
same_truth false false f g = refl

vars_high_append : (P : TypedProgram) (n : ℕ) (xs ys : List Var) → vars_high P n (xs ++ ys) ≡ vars_high P n xs ++ vars_high P (n + length xs) ys
vars_high_append P n [] ys = let e : n ≡ n + 0 = omega arith in ap (λ k. vars_high P k ys) e
vars_high_append P n (x ∷ xs) ys =
    let e : suc n + length xs ≡ n + suc (length xs) = omega arith in
    let first = high_first x.width x.first (var_from P n) in
    ap (λ l. first ++ l) (vars_high_append P (suc n) xs ys ∙ ap (λ k. vars_high P (suc n) xs ++ vars_high P k ys) e)
    ∙ sym (append_assoc first (vars_high P (suc n) xs) (vars_high P (n + suc (length xs)) ys))

-- the wires of channels
pub rails_below : (k w from : ℕ) → from + 2 * w ≤ k → RailsBelow k (rails_of (pairs_from w from))
rails_below k zero from l = tt
rails_below k (suc w) from l = (omega (arith, l), (omega (arith, l), rails_below k w (from + 2) (omega (arith, l))))

channels_below : (P : TypedProgram) (k : ℕ) (cs : List Channel) → k + length cs ≡ length P.channels → WiresBelow (root_request P) (wires_from P k cs)
channels_below P k [] l = tt
channels_below P k (c ∷ cs) l =
    let b = wires_below P.channels k (omega (arith, l)) in (
      omega (arith, b),
      rails_below (root_request P) (channel_width P.channels k) (channel_from P k) (omega (arith, b)),
      channels_below P (suc k) cs (omega (arith, l)),
    )

pub same_wires : (P : TypedProgram) (k : ℕ) (cs : List Channel) → wires_from (halved_program P) k cs ≡ wires_from P k cs
same_wires P k [] = refl
same_wires P k (c ∷ cs) = ap (λ l. record { channel = c; rails = rails_of (rails_at P k); ack = ack_at P k } ∷ l) (same_wires P (suc k) cs)

module _ (counted : Counted) (P : TypedProgram) (typed : IsProcess P.channels P.vars P.body)
    (plain : ReadsNoTarget (halved (length P.vars) P.body)) (some : (y : ℕ) → y < length P.vars → 1 ≤ var_width P.vars y) where
  abbrev Q : TypedProgram
  Q = halved_program P

  abbrev f : ℕ → ℕ
  f = renamed counted P typed plain some

  abbrev nodes : List Numbered
  nodes = order counted P typed plain some

  f_below : (n : ℕ) → n < nodes_of P → f n < nodes_of P
  f_below n l =
      let o = order_long counted P typed plain some in
      let a = all_long counted P typed plain some in
      let w = (node_in nodes (all_rules P) (order_all counted P typed plain some) n (omega (arith, l, o))).within in
      omega (arith, w, a)

  f_apart : (n m : ℕ) → n < nodes_of P → m < nodes_of P → f n ≡ f m → n ≡ m
  f_apart n m h l e =
      let o = order_long counted P typed plain some in
      one_place nodes (all_rules P) (order_all counted P typed plain some) n m (omega (arith, h, o)) (omega (arith, l, o)) e

  f_back : (m : ℕ) → m < nodes_of P → (n : ℕ) × (n < nodes_of P) × (f n ≡ m)
  f_back m l =
      let o = order_long counted P typed plain some in
      let a = all_long counted P typed plain some in
      let r = standing nodes (all_rules P) (order_all counted P typed plain some) m (omega (arith, l, a)) in
      let w = r.within in
      (r.place, omega (arith, w, o), r.is)

  -- the numbers themselves, in the order
  pub numbers : Values (λ n. n) f 0 nodes
  numbers = values_from (λ n. n) f 0 nodes (λ i l. ap f (let z : i ≡ 0 + i = omega arith in z))

  f_still : (n : ℕ) → n < root_request P → f n ≡ n
  f_still n l = sym (below_root counted P typed plain some (λ n. n) f numbers n l)

  pub values_of : (v u : ℕ → Bool) → ((n : ℕ) → n < nodes_of P → v (f n) ≡ u n) → Values v u 0 nodes
  values_of v u h = values_from v u 0 nodes
      (λ i l. let o = order_long counted P typed plain some in
      h i (omega (arith, l, o)) ∙ ap u (let z : i ≡ 0 + i = omega arith in z))

  -- the guards
  guards_same : (v u : ℕ → Bool) → ((n : ℕ) → n < nodes_of P → v (f n) ≡ u n) → (n : ℕ) → n < nodes_of P
      → (guard_holds v (up_of (translation P) (f n)) ≡ guard_holds u (up_of (translation Q) n)) ×
      (guard_holds v (down_of (translation P) (f n)) ≡ guard_holds u (down_of (translation Q) n))
  guards_same v u h n l =
      let o = order_long counted P typed plain some in
      let at = rules_at v u (rules_in nodes) (all_rules Q) (order_alike counted P typed plain some v u (values_of v u h)) n in
      let here = (node_in nodes (all_rules P) (order_all counted P typed plain some) n (omega (arith, l, o))).is ∙ sym (rules_in_at nodes n) in (
        ap (guard_holds v) (up_told (all_rules P) (f n) ∙ ap (λ (r : NodeRules). r.up) here) ∙ (at.0 ∙ ap (guard_holds u) (sym (up_told (all_rules Q) n))),
        ap (guard_holds v) (down_told (all_rules P) (f n) ∙ ap (λ (r : NodeRules). r.down) here)
            ∙ (at.1 ∙ ap (guard_holds u) (sym (down_told (all_rules Q) n))),
      )

  none_past : (R : TypedProgram) (n : ℕ) → length (all_rules R) ≤ n → (up_of (translation R) n ≡ []) × (down_of (translation R) n ≡ [])
  none_past R n h =
      let e = get_or_past (all_rules R) n no_rules h in
      (up_told (all_rules R) n ∙ ap (λ (r : NodeRules). r.up) e, down_told (all_rules R) n ∙ ap (λ (r : NodeRules). r.down) e)

  -- the first values
  declared_highs : (k : ℕ) (vs : List Var) → k + length vs ≡ length P.vars → ((j : ℕ) → j < length vs → var_width vs j ≡ var_width P.vars (k + j))
      → map f (vars_high Q k vs) ≡ vars_high P k vs
  declared_highs k [] long h = refl
  declared_highs k (w ∷ vs) long h =
      let e : w.width ≡ var_width P.vars k = h 0 (omega arith) ∙ ap (var_width P.vars) (let z : k + 0 ≡ k = omega arith in z) in
      let within : k < length P.vars = omega (arith, long) in
      let b = blocks_below P.vars k within in
      let one = some k within in
      let there = declared_from counted P k (omega (arith, within)) in
      map-append f (high_first w.width w.first (var_from Q k)) (vars_high Q (suc k) vs)
      ∙ (ap (λ l. l ++ map f (vars_high Q (suc k) vs))
      (ap (λ n. map f (high_first w.width w.first n)) there
      ∙ highs_renamed f w.width w.first (var_from P k) (var_from P k) (λ i l. sym (f_still (var_from P k + i) (omega (arith, l, b, e, one)))))
      ∙ ap (λ l. high_first w.width w.first (var_from P k) ++ l)
      (declared_highs (suc k) vs (omega (arith, long))
      (λ j l. h (suc j) (omega (arith, l)) ∙ ap (var_width P.vars) (let z : k + suc j ≡ suc k + j = omega arith in z))))

  hidden_assign_highs : (n x : ℕ) (e : Formula) (b : Bool) → IsOfWidth P.vars (var_width P.vars x) e → (from block : ℕ) →
      HiddenAt counted P n (hidden_of b e) block
      → Values (λ n. n) f block (hidden_assign P b x e from)
      → map f (vars_high Q n (hidden_of b e)) ≡ (if b then high_first (var_width P.vars x) 0 from else [])
  hidden_assign_highs n x e false t from block at stored = refl
  hidden_assign_highs n x e true t from block at stored =
      let agrees = t.agrees in
      let least = width_some e t.formed in
      ap (λ l. map f l) (append-nil (high_first (width_of e) 0 (var_from Q n)))
      ∙ (ap (λ k. map f (high_first (width_of e) 0 k)) at.0
      ∙ (ap (λ k. map f (high_first k 0 block)) agrees
      ∙ highs_renamed f (var_width P.vars x) 0 from block
      (λ i l. values_at (λ n. n) f from block (hidden_rules P x e from) stored i
      (let m = hidden_rules_long x e from in omega (arith, l, m, agrees, least)))))
    where
      hidden_rules_long : (x : ℕ) (e : Formula) (from : ℕ) → length (hidden_rules P x e from) ≡ block_size (var_width P.vars x)
      hidden_rules_long x e from = length-variable_rules (var_width P.vars x) from (formula_result e (from + block_size (var_width P.vars x) + 3 + 1) ∷ [])

  mutual
    hidden_highs : (n : ℕ) (p : Process) → IsProcess P.channels P.vars p → (from block : ℕ) → HiddenAt counted P n (hidden_vars p) block
        → Values (λ n. n) f block (hidden P p from) → map f (vars_high Q n (hidden_vars p)) ≡ sites_in P (hidden_high P) p from
    hidden_highs n skipping t from block at stored = refl
    hidden_highs n (assigning x s e) t from block at stored = hidden_assign_highs n x e (reads x e) t.1 from block at stored
    hidden_highs n (sending chan s e) t from block at stored = refl
    hidden_highs n (receiving chan s x to) t from block at stored = refl
    hidden_highs n (in_turn members) t from block at stored = turn_highs n members t.1 from block at stored
    hidden_highs n (side_by_side members) t from block at stored = branches_highs n members t.1 from block at stored
    hidden_highs n (repeating p) t from block at stored = hidden_highs n p t (from + 2) block at stored
    hidden_highs n (choosing false choices) t from block at stored = bodies_highs n choices t.2 (bodies_from choices select_own from) block at stored
    hidden_highs n (choosing true choices) t from block at stored = bodies_highs n choices t.2 (bodies_from choices again_own from) block at stored

    turn_highs : (n : ℕ) (members : Processes) → AreProcesses P.channels P.vars members → (from block : ℕ)
        → HiddenAt counted P n (hidden_in_each members) block → Values (λ n. n) f block (hidden_turn P members from)
        → map f (vars_high Q n (hidden_in_each members)) ≡ sites_in_turn P (hidden_high P) members from
    turn_highs n no_members t from block at stored = refl
    turn_highs n (and_member p no_members) t from block at stored =
        ap (λ l. map f (vars_high Q n l)) (append-nil (hidden_vars p))
        ∙ hidden_highs n p t.0 from block (hidden_at_left counted P n (hidden_vars p) [] block at) stored
    turn_highs n (and_member p (and_member q more)) t from block at stored =
        let mine = hidden P p (from + 3) in
        let others = hidden_turn P (and_member q more) (from + 3 + size_of P p) in
        let rest = hidden_in_each (and_member q more) in
        let k = n + length (hidden_vars p) in
        ap (λ l. map f l) (vars_high_append Q n (hidden_vars p) rest)
        ∙ (map-append f (vars_high Q n (hidden_vars p)) (vars_high Q k rest)
        ∙ (ap (λ l. l ++ map f (vars_high Q k rest))
        (hidden_highs n p t.0 (from + 3) block (hidden_at_left counted P n (hidden_vars p) rest block at) (values_left (λ n. n) f block mine others stored))
        ∙ ap (λ l. sites_in P (hidden_high P) p (from + 3) ++ l)
        (turn_highs k (and_member q more) t.1 (from + 3 + size_of P p) (block + blocks (hidden_vars p))
        (hidden_at_right counted P n (hidden_vars p) rest block at)
        (values_right (λ n. n) f block (blocks (hidden_vars p)) mine others (hidden_long counted P p t.0 (from + 3)) stored))))

    branches_highs : (n : ℕ) (members : Processes) → AreProcesses P.channels P.vars members → (from block : ℕ)
        → HiddenAt counted P n (hidden_in_each members) block → Values (λ n. n) f block (hidden_branches P members from)
        → map f (vars_high Q n (hidden_in_each members)) ≡ sites_in_branches P (hidden_high P) members from
    branches_highs n no_members t from block at stored = refl
    branches_highs n (and_member p more) t from block at stored =
        let mine = hidden P p (from + 3) in
        let others = hidden_branches P more (from + 3 + size_of P p) in
        let rest = hidden_in_each more in
        let k = n + length (hidden_vars p) in
        ap (λ l. map f l) (vars_high_append Q n (hidden_vars p) rest)
        ∙ (map-append f (vars_high Q n (hidden_vars p)) (vars_high Q k rest)
        ∙ (ap (λ l. l ++ map f (vars_high Q k rest))
        (hidden_highs n p t.0 (from + 3) block (hidden_at_left counted P n (hidden_vars p) rest block at) (values_left (λ n. n) f block mine others stored))
        ∙ ap (λ l. sites_in P (hidden_high P) p (from + 3) ++ l)
        (branches_highs k more t.1 (from + 3 + size_of P p) (block + blocks (hidden_vars p))
        (hidden_at_right counted P n (hidden_vars p) rest block at)
        (values_right (λ n. n) f block (blocks (hidden_vars p)) mine others (hidden_long counted P p t.0 (from + 3)) stored))))

    bodies_highs : (n : ℕ) (choices : Choices) → AreChoices P.channels P.vars choices → (from block : ℕ)
        → HiddenAt counted P n (hidden_in_choices choices) block → Values (λ n. n) f block (hidden_bodies P choices from)
        → map f (vars_high Q n (hidden_in_choices choices)) ≡ sites_in_bodies P (hidden_high P) choices from
    bodies_highs n no_choices t from block at stored = refl
    bodies_highs n (and_choice g p more) t from block at stored =
        let mine = hidden P p from in
        let others = hidden_bodies P more (from + size_of P p) in
        let rest = hidden_in_choices more in
        let k = n + length (hidden_vars p) in
        ap (λ l. map f l) (vars_high_append Q n (hidden_vars p) rest)
        ∙ (map-append f (vars_high Q n (hidden_vars p)) (vars_high Q k rest)
        ∙ (ap (λ l. l ++ map f (vars_high Q k rest))
        (hidden_highs n p t.1 from block (hidden_at_left counted P n (hidden_vars p) rest block at) (values_left (λ n. n) f block mine others stored))
        ∙ ap (λ l. sites_in P (hidden_high P) p from ++ l)
        (bodies_highs k more t.2 (from + size_of P p) (block + blocks (hidden_vars p))
        (hidden_at_right counted P n (hidden_vars p) rest block at)
        (values_right (λ n. n) f block (blocks (hidden_vars p)) mine others (hidden_long counted P p t.1 from) stored))))

  module _ (covered : ReadsNoTarget (halved (length P.vars) P.body)) where
    abbrev highs : List ℕ
    highs = vars_high P 0 P.vars ++ in_body P (hidden_high P)

    abbrev highs_there : List ℕ
    highs_there = vars_high Q 0 (P.vars ++ hidden_vars P.body)

    highs_are : map f highs_there ≡ highs
    highs_are =
        let hs = hidden_vars P.body in
        let z : (j : ℕ) → 0 + j ≡ j = λ j. omega arith in
        ap (λ l. map f l) (vars_high_append Q 0 P.vars hs ∙ ap (λ k. vars_high Q 0 P.vars ++ vars_high Q k hs) (z (length P.vars)))
        ∙ (map-append f (vars_high Q 0 P.vars) (vars_high Q (length P.vars) hs)
        ∙ (ap (λ l. l ++ map f (vars_high Q (length P.vars) hs))
        (declared_highs 0 P.vars (z (length P.vars)) (λ j l. ap (var_width P.vars) (sym (z j))))
        ∙ ap (λ l. vars_high P 0 P.vars ++ l)
        (hidden_highs (length P.vars) P.body typed (body_from P) (root_request P) (where_hidden counted P typed plain some)
        (in_hidden counted P typed plain some (λ n. n) f numbers))))

    first_is : (R : TypedProgram) (n : ℕ) → n < nodes_of R → high (first_values R) n ≡ member n (vars_high R 0 R.vars ++ in_body R (hidden_high R))
    first_is R n l =
        let all = vars_high R 0 R.vars ++ in_body R (hidden_high R) in
        raised_is all (replicate (nodes_of R) false) n (let e = length-replicate (nodes_of R) false in omega (arith, l, e))
        ∙ ap (λ b. b || member n all) (get_or-replicate (nodes_of R) n false false l)

    highs_of_q : vars_high Q 0 Q.vars ++ in_body Q (hidden_high Q) ≡ highs_there
    highs_of_q = ap (λ l. highs_there ++ l) (none_hidden Q (halved (length P.vars) P.body) covered (body_from Q)) ∙ append-nil highs_there

    high_below : (m : ℕ) → member m highs_there ≡ true → m < nodes_of P
    high_below m h =
        let r = high_member Q 0 Q.vars m h in
        let at = high_at Q m r in
        let b = blocks_below Q.vars r.var r.some in
        let less = r.below in
        let s = side_least r.one in
        let there = nodes_there counted P typed plain some in
        omega (arith, at, b, less, s, there)
      where
        side_least : (one : Bool) → side one < 2
        side_least true = omega arith
        side_least false = omega arith

    firsts_same : (n : ℕ) → n < nodes_of P → high (first_values P) (f n) ≡ high (first_values Q) n
    firsts_same n l =
        let there = nodes_there counted P typed plain some in
        first_is P (f n) (f_below n l)
        ∙ (ap (λ xs. member (f n) xs) (sym highs_are)
        ∙ (same_truth (member (f n) (map f highs_there)) (member n highs_there)
        (λ h. let r = member_back f (f n) highs_there h in
        ap (λ k. member k highs_there) (f_apart n r.number l (high_below r.number r.among) (sym r.is)) ∙ r.among)
        (λ h. member_there f n highs_there h)
        ∙ (ap (λ xs. member n xs) (sym highs_of_q) ∙ sym (first_is Q n (omega (arith, l, there))))))

    -- the net of the program in halves, with the wires as the program names them
    abbrev pub net_there : NetValue
    net_there = net_of (node_names Q) (first_values Q) (composed Q) (wires_from P 0 P.channels) None

    pub translation_there : translation Q ≡ net_there
    translation_there = ap (λ ws. net_of (node_names Q) (first_values Q) (composed Q) ws None) (same_wires P 0 P.channels)

    module _ (typed_there : IsProcess Q.channels Q.vars Q.body) where
      pub is_renaming : IsRenaming (translation P) net_there f (nodes_of P) (root_request P)
      is_renaming =
          let there = nodes_there counted P typed plain some in
          let a = all_long counted P typed plain some in
          let b = all_length counted Q typed_there in
          record {
            below = f_below;
            back = f_back;
            apart = f_apart;
            still = f_still;
            some = omega arith;
            within = omega arith;
            rules = guards_same;
            past = λ n h. none_past P n (omega (arith, h, a));
            past_there = λ n h. none_past Q n (omega (arith, h, b, there));
            wires = channels_below P 0 P.channels (omega arith);
            long = length-raised highs (replicate (nodes_of P) false) ∙ length-replicate (nodes_of P) false;
            long_there = length-raised (vars_high Q 0 Q.vars ++ in_body Q (hidden_high Q)) (replicate (nodes_of Q) false)
                ∙ (length-replicate (nodes_of Q) false ∙ there);
            first = firsts_same;
          }
