-- The blocks of variables: where their nodes are numbered, which node a number is, and what their rules say.
use Rattle.std.proofs.Common.{◌≡◌, ℕ, zero, suc, ◌+◌, ◌-◌, ◌*◌, ◌<◌, ◌≤◌, Bool, true, false, List, [], ◌∷◌, ◌++◌, map, length, get_or, refl, sym, ap, ◌∙◌, subst, arith, length-append, append_assoc, get_or-append-add, ⊎_elim}
use Rattle.std.specs.Prelude.{not, ◌&&◌, ◌||◌}
use Rattle.std.specs.List.{list_any, range_with_len}
use Rattle.std.proofs.lemmas.Bool.{cases_lt}
use Rattle.std.proofs.lemmas.List.{get_or_append_left}
use Rattle.prs_core.specs.Nets.{NodeRules, is_high, is_low, one_term}
use Rattle.prs_core.specs.Pairs.{Pair, pair_of, no_rules, or_of}
use Rattle.function_blocks.specs.Listed.{node_of}
use Rattle.prs_core.specs.Moves.{guard_holds}
use Rattle.width_check.specs.declared.typed.Var.{Var}
use Rattle.width_check.specs.Processes.{TypedProgram}
use Rattle.width_check.specs.Typing.{var_width}
use Rattle.handshake_expand.specs.Layout.{block_size, blocks_before, var_from}
use Rattle.cell_parallel.specs.Trees.{tree_rules, tree_top}
use Rattle.cell_parallel.specs.Sizes.{tree_length}
use Rattle.cell_variable.specs.Variables.{bit_at, bits_from, bit_rules, bits_rules, kept_rail, bit_written, written_leaves, variable_rules}
use Rattle.circuit_places.specs.Lines.{Rails}
use Rattle.circuit_places.specs.Circuit.{Rule, joint_count, tree_value, tree_answer, tree_rule}
use Rattle.circuit_places.specs.Whole.{bit_rule, wrote_rule, merged, lows_only}
use Rattle.handshake_expand.specs.Sites.{in_body}
use Rattle.net_compose.specs.Translation.{block_bits, vars_rules, write_site}
use Rattle.net_compose.proofs.FlatTrees.{joint_count_is, value_leaf, value_node, answer_value, Alike, tree_alike}
use Rattle.net_compose.proofs.FlatRules.{one_high, high_and_low, or_up, or_down}
use Rattle.net_compose.proofs.FlatSites.{at_site}

-- a node of a block: a rail of a bit, one by which it is written, the node that says that it is, and one of the tree
pub data Part : Type 0 where
  a_bit a_put : (bit : ℕ) (one : Bool) → Part
  a_mark a_joint : (k : ℕ) → Part

abbrev pub side : Bool → ℕ
side true = 0
side false = 1

abbrev pub offset : (n : ℕ) → Part → ℕ
offset n (a_bit i one) = 5 * i + side one
offset n (a_put i one) = 5 * i + (2 + side one)
offset n (a_mark i) = 5 * i + 4
offset n (a_joint k) = 5 * n + k

abbrev pub IsPart : (n : ℕ) → Part → Type 0
IsPart n (a_bit i one) = i < n
IsPart n (a_put i one) = i < n
IsPart n (a_mark i) = i < n
IsPart n (a_joint k) = k < joint_count n

side_below : (one : Bool) → side one < 2
side_below true = omega arith
side_below false = omega arith

side_same : (a b : Bool) → side a ≡ side b → a ≡ b
side_same true true e = refl
side_same false false e = refl
side_same true false e = absurd (omega (arith, e))
side_same false true e = absurd (omega (arith, e))

pub offset_lt : (n : ℕ) (b : Part) → IsPart n b → offset n b < block_size n
offset_lt n (a_bit i one) h = let e = side_below one in omega (arith, h, e)
offset_lt n (a_put i one) h = let e = side_below one in omega (arith, h, e)
offset_lt n (a_mark i) h = omega (arith, h)
offset_lt n (a_joint k) h = let e = joint_count_is n in omega (arith, h, e)

-- two nodes at one number are one
split : (i j a b : ℕ) → a < 5 → b < 5 → 5 * i + a ≡ 5 * j + b → (i ≡ j) × (a ≡ b)
split i j a b ha hb e =
    let x : i ≡ j = omega (arith, ha, hb, e) in
    (x, omega (arith, ha, hb, e, x))

pub part_same : (n : ℕ) (b c : Part) → IsPart n b → IsPart n c → offset n b ≡ offset n c → b ≡ c
part_same n (a_bit i one) (a_bit j s) hb hc e = let x = side_below one in let y = side_below s in let z = split i j (side one) (side s) (omega (arith, x))
    (omega (arith, y)) e in ap (λ k. a_bit k one) z.0 ∙ ap (λ t. a_bit j t) (side_same one s z.1)
part_same n (a_put i one) (a_put j s) hb hc e = let x = side_below one in let y = side_below s in let z = split i j (2 + side one) (2 + side s)
    (omega (arith, x)) (omega (arith, y)) e in let w : side one ≡ side s = omega (arith, z.1) in ap (λ k. a_put k one) z.0
    ∙ ap (λ t. a_put j t) (side_same one s w)
part_same n (a_mark i) (a_mark j) hb hc e = let z = split i j 4 4 (omega arith) (omega arith) e in ap (λ k. a_mark k) z.0
part_same n (a_joint i) (a_joint j) hb hc e = let z : i ≡ j = omega (arith, e) in ap (λ k. a_joint k) z
part_same n (a_bit i one) (a_put j s) hb hc e = let x = side_below one in let y = side_below s in absurd (let g : ⊥ = omega (arith, x, y, e) in g)
part_same n (a_bit i one) (a_mark j) hb hc e = let x = side_below one in absurd (let g : ⊥ = omega (arith, x, e) in g)
part_same n (a_bit i one) (a_joint j) hb hc e = let x = side_below one in absurd (let g : ⊥ = omega (arith, x, e, hb) in g)
part_same n (a_put i one) (a_bit j s) hb hc e = let x = side_below one in let y = side_below s in absurd (let g : ⊥ = omega (arith, x, y, e) in g)
part_same n (a_put i one) (a_mark j) hb hc e = let x = side_below one in absurd (let g : ⊥ = omega (arith, x, e) in g)
part_same n (a_put i one) (a_joint j) hb hc e = let x = side_below one in absurd (let g : ⊥ = omega (arith, x, e, hb) in g)
part_same n (a_mark i) (a_bit j s) hb hc e = let y = side_below s in absurd (let g : ⊥ = omega (arith, y, e) in g)
part_same n (a_mark i) (a_put j s) hb hc e = let y = side_below s in absurd (let g : ⊥ = omega (arith, y, e) in g)
part_same n (a_mark i) (a_joint j) hb hc e = absurd (let g : ⊥ = omega (arith, e, hb) in g)
part_same n (a_joint i) (a_bit j s) hb hc e = let y = side_below s in absurd (let g : ⊥ = omega (arith, y, e, hc) in g)
part_same n (a_joint i) (a_put j s) hb hc e = let y = side_below s in absurd (let g : ⊥ = omega (arith, y, e, hc) in g)
part_same n (a_joint i) (a_mark j) hb hc e = absurd (let g : ⊥ = omega (arith, e, hc) in g)

-- which node a number is
record Fifth (m : ℕ) : Type 0 where
  pub whole : ℕ
  pub rest : ℕ
  pub below : rest < 5
  pub is : 5 * whole + rest ≡ m

fifth : (m : ℕ) → Fifth m
fifth zero = record { whole = 0; rest = 0; below = omega arith; is = refl }
fifth (suc zero) = record { whole = 0; rest = 1; below = omega arith; is = refl }
fifth (suc (suc zero)) = record { whole = 0; rest = 2; below = omega arith; is = refl }
fifth (suc (suc (suc zero))) = record { whole = 0; rest = 3; below = omega arith; is = refl }
fifth (suc (suc (suc (suc zero)))) = record { whole = 0; rest = 4; below = omega arith; is = refl }
fifth (suc (suc (suc (suc (suc m))))) = let r = fifth m in record {
  whole = suc r.whole;
  rest = r.rest;
  below = r.below;
  is =
      (let e = r.is in omega (arith, e));
}

pub record PartAt (n m : ℕ) : Type 0 where
  pub part : Part
  pub fine : IsPart n part
  pub is : offset n part ≡ m

pub part_of : (n m : ℕ) → m < block_size n → PartAt n m
part_of n m h = ⊎_elim (λ (lt : m < 5 * n). low (fifth m) lt) (λ (le : 5 * n ≤ m). high le) (cases_lt m (5 * n))
  where
    high : 5 * n ≤ m → PartAt n m
    high le = let e = joint_count_is n in record { part = a_joint (m - 5 * n); fine = omega (arith, h, le, e); is = omega (arith, le) }

    by : (i r : ℕ) → r < 5 → 5 * i + r ≡ m → i < n → PartAt n m
    by i zero h e less = record { part = a_bit i true; fine = less; is = e }
    by i (suc zero) h e less = record { part = a_bit i false; fine = less; is = e }
    by i (suc (suc zero)) h e less = record { part = a_put i true; fine = less; is = e }
    by i (suc (suc (suc zero))) h e less = record { part = a_put i false; fine = less; is = e }
    by i (suc (suc (suc (suc zero)))) h e less = record { part = a_mark i; fine = less; is = e }
    by i (suc (suc (suc (suc (suc r))))) h e less = absurd (let g : ⊥ = omega (arith, h) in g)

    low : Fifth m → m < 5 * n → PartAt n m
    low f lt = by f.whole f.rest f.below f.is (let e = f.is in omega (arith, lt, e))

-- the rules of a block
length-bits_rules : (sites : List (List Pair)) (place n from : ℕ) → length (bits_rules sites place (bits_from n from)) ≡ 5 * n
length-bits_rules sites place zero from = refl
length-bits_rules sites place (suc n) from = let e = length-bits_rules sites (suc place) n (from + 5) in omega (arith, e)

leaves_count : (n from : ℕ) → length (written_leaves n from) ≡ n
leaves_count zero from = refl
leaves_count (suc n) from = ap (λ k. suc k) (leaves_count n (from + 5))

pub length-variable_rules : (n from : ℕ) (sites : List (List Pair)) → length (variable_rules n from sites) ≡ block_size n
length-variable_rules n from sites =
    omega (
      arith,
      length-append (bits_rules sites 0 (bits_from n from)) (tree_rules (written_leaves n from) (from + 5 * n)),
      length-bits_rules sites 0 n from,
      tree_length (written_leaves n from) (from + 5 * n),
      leaves_count n from,
    )

bits_rule : (sites : List (List Pair)) (place n from i r : ℕ) → i < n → r < 5
    → get_or (bits_rules sites place (bits_from n from)) (5 * i + r) no_rules ≡ get_or (bit_rules sites (place + i) (bit_at (from + 5 * i))) r no_rules
bits_rule sites place zero from i r h k = absurd (let g : ⊥ = omega (arith, h) in g)
bits_rule sites place (suc n) from zero r h k =
    ap (λ m. get_or (bit_rules sites place (bit_at from) ++ bits_rules sites (suc place) (bits_from n (from + 5))) m no_rules)
    (let e : 5 * 0 + r ≡ r = omega arith in e)
    ∙ (get_or_append_left (bit_rules sites place (bit_at from)) (bits_rules sites (suc place) (bits_from n (from + 5))) no_rules r k
    ∙ (ap (λ m. get_or (bit_rules sites m (bit_at from)) r no_rules) (let e : place ≡ place + 0 = omega arith in e)
    ∙ ap (λ m. get_or (bit_rules sites (place + 0) (bit_at m)) r no_rules) (let e : from ≡ from + 5 * 0 = omega arith in e)))
bits_rule sites place (suc n) from (suc i) r h k =
    ap (λ m. get_or (bit_rules sites place (bit_at from) ++ bits_rules sites (suc place) (bits_from n (from + 5))) m no_rules)
    (let e : 5 * suc i + r ≡ 5 + (5 * i + r) = omega arith in e)
    ∙ (get_or-append-add (bit_rules sites place (bit_at from)) (bits_rules sites (suc place) (bits_from n (from + 5))) (5 * i + r) no_rules
    ∙ (bits_rule sites (suc place) n (from + 5) i r (let e : i < n = omega (arith, h) in e) k
    ∙ (ap (λ m. get_or (bit_rules sites m (bit_at (from + 5 + 5 * i))) r no_rules) (let e : suc place + i ≡ place + suc i = omega arith in e)
    ∙ ap (λ m. get_or (bit_rules sites (place + suc i) (bit_at m)) r no_rules) (let e : from + 5 + 5 * i ≡ from + 5 * suc i = omega arith in e))))

block_rule : (n from : ℕ) (sites : List (List Pair)) (i r : ℕ) → i < n → r < 5
    → get_or (variable_rules n from sites) (5 * i + r) no_rules ≡ get_or (bit_rules sites i (bit_at (from + 5 * i))) r no_rules
block_rule n from sites i r h k =
    get_or_append_left (bits_rules sites 0 (bits_from n from)) (tree_rules (written_leaves n from) (from + 5 * n)) no_rules (5 * i + r)
    (omega (arith, length-bits_rules sites 0 n from, h, k))
    ∙ (bits_rule sites 0 n from i r h k ∙ ap (λ m. get_or (bit_rules sites m (bit_at (from + 5 * i))) r no_rules) (let e : 0 + i ≡ i = omega arith in e))

tree_rule_at : (n from : ℕ) (sites : List (List Pair)) (k : ℕ) → get_or (variable_rules n from sites) (5 * n + k) no_rules ≡ get_or
    (tree_rules (written_leaves n from) (from + 5 * n)) k no_rules
tree_rule_at n from sites k =
    ap (λ m. get_or (variable_rules n from sites) (m + k) no_rules) (sym (length-bits_rules sites 0 n from))
    ∙ get_or-append-add (bits_rules sites 0 (bits_from n from)) (tree_rules (written_leaves n from) (from + 5 * n)) k no_rules

-- the rails of a variable's value
pub bit_number : (n from i : ℕ) (one : Bool) → i < n → node_of (pair_of (block_bits n from) i) one ≡ from + offset n (a_bit i one)
bit_number zero from i one h = absurd (let g : ⊥ = omega (arith, h) in g)
bit_number (suc n) from zero true h = omega arith
bit_number (suc n) from zero false h = omega arith
bit_number (suc n) from (suc i) one h = let e = bit_number n (from + 5) i one (omega (arith, h)) in omega (arith, e)

-- a block of so many bits whose nodes have these values
module _ (v : ℕ → Bool) where
  two_terms : (a b c d : ℕ) → guard_holds v ((is_high a ∷ is_high b ∷ []) ∷ (is_high c ∷ is_high d ∷ []) ∷ []) ≡ ((v a && v b) || (v c && v d))
  two_terms a b c d = here (v a) (v b) (v c) (v d)
    where
      here : (a b c d : Bool) → ((a && (b && true)) || ((c && (d && true)) || false)) ≡ ((a && b) || (c && d))
      here true true c d = refl
      here true false true true = refl
      here true false true false = refl
      here true false false d = refl
      here false b true true = refl
      here false b true false = refl
      here false b false d = refl

  both_low : (a b : ℕ) → guard_holds v (one_term (is_low a ∷ is_low b ∷ [])) ≡ (not (v a) && not (v b))
  both_low a b = here (v a) (v b)
    where
      here : (a b : Bool) → ((not a && (not b && true)) || false) ≡ (not a && not b)
      here true b = refl
      here false true = refl
      here false false = refl

  pub record BlockIs (n from : ℕ) (x w : Rails) (wrote node : ℕ → Bool) : Type 0 where
    pub bits : (i : ℕ) (one : Bool) → i < n → v (from + offset n (a_bit i one)) ≡ x i one
    pub puts : (i : ℕ) (one : Bool) → i < n → v (from + offset n (a_put i one)) ≡ w i one
    pub marks : (i : ℕ) → i < n → v (from + offset n (a_mark i)) ≡ wrote i
    pub joints : (k : ℕ) → k < joint_count n → v (from + offset n (a_joint k)) ≡ node k

  leaves_alike : (n from a : ℕ) (wrote : ℕ → Bool) (u : ℕ → Bool) → ((i : ℕ) → i < n → v (from + (5 * i + 4)) ≡ wrote i)
      → ((i : ℕ) → i < n → u (a + i) ≡ wrote i) → Alike v u (written_leaves n from) (range_with_len a n)
  leaves_alike zero from a wrote u h k = tt
  leaves_alike (suc n) from a wrote u h k = (
    h 0 (omega arith) ∙ (sym (k 0 (omega arith)) ∙ ap u (let e : a + 0 ≡ a = omega arith in e)),
    leaves_alike n (from + 5) (a + 1) (λ i. wrote (suc i)) u
        (λ i less. ap v (let e : from + 5 + (5 * i + 4) ≡ from + (5 * suc i + 4) = omega arith in e) ∙ h (suc i) (omega (arith, less)))
        (λ i less. ap u (let e : a + 1 + i ≡ a + suc i = omega arith in e) ∙ k (suc i) (omega (arith, less))),
  )

  module _ (n from : ℕ) (x w : Rails) (wrote node : ℕ → Bool) (b : BlockIs n from x w wrote node) (sites : List (List Pair)) where
    pub record Says (m : ℕ) (r : Rule) : Type 0 where
      pub now : v (from + m) ≡ r.now
      pub up : guard_holds v (get_or (variable_rules n from sites) m no_rules).up ≡ r.up
      pub down : guard_holds v (get_or (variable_rules n from sites) m no_rules).down ≡ r.down

    says : (m : ℕ) (r : Rule) (g : NodeRules) → get_or (variable_rules n from sites) m no_rules ≡ g → v (from + m) ≡ r.now → guard_holds v g.up ≡ r.up
        → guard_holds v g.down ≡ r.down → Says m r
    says m r g e now up down = record {
      now = now;
      up = ap (λ (z : NodeRules). guard_holds v z.up) e ∙ up;
      down = ap (λ (z : NodeRules). guard_holds v z.down) e
          ∙ down;
    }

    -- the nodes of a bit
    xt : (i : ℕ) → i < n → v (from + 5 * i) ≡ x i true
    xt i h = ap v (let e : from + 5 * i ≡ from + (5 * i + 0) = omega arith in e) ∙ b.bits i true h

    xf : (i : ℕ) → i < n → v (from + 5 * i + 1) ≡ x i false
    xf i h = ap v (let e : from + 5 * i + 1 ≡ from + (5 * i + 1) = omega arith in e) ∙ b.bits i false h

    wt : (i : ℕ) → i < n → v (from + 5 * i + 2) ≡ w i true
    wt i h = ap v (let e : from + 5 * i + 2 ≡ from + (5 * i + 2) = omega arith in e) ∙ b.puts i true h

    wf : (i : ℕ) → i < n → v (from + 5 * i + 3) ≡ w i false
    wf i h = ap v (let e : from + 5 * i + 3 ≡ from + (5 * i + 3) = omega arith in e) ∙ b.puts i false h

    pub bit_says : (i : ℕ) (one : Bool) → i < n → Says (offset n (a_bit i one)) (bit_rule w x i one)
    bit_says i true h = says (5 * i + 0) (bit_rule w x i true) (kept_rail (from + 5 * i + 2) (from + 5 * i + 1) (from + 5 * i + 3))
        (block_rule n from sites i 0 h (omega arith)) (b.bits i true h)
        (high_and_low v (from + 5 * i + 2) (from + 5 * i + 1) ∙ (ap (λ z. z && not (v (from + 5 * i + 1))) (wt i h) ∙ ap (λ z. w i true && not z) (xf i h)))
        (one_high v (from + 5 * i + 3) ∙ wf i h)
    bit_says i false h = says (5 * i + 1) (bit_rule w x i false) (kept_rail (from + 5 * i + 3) (from + 5 * i) (from + 5 * i + 2))
        (block_rule n from sites i 1 h (omega arith)) (b.bits i false h)
        (high_and_low v (from + 5 * i + 3) (from + 5 * i) ∙ (ap (λ z. z && not (v (from + 5 * i))) (wf i h) ∙ ap (λ z. w i false && not z) (xt i h)))
        (one_high v (from + 5 * i + 2) ∙ wt i h)

    pub put_says : (i : ℕ) (one : Bool) (values : List Bool) → i < n → map v (map (at_site i one) sites) ≡ values
        → Says (offset n (a_put i one)) (merged (w i one) values)
    put_says i true values h e = says (5 * i + 2) (merged (w i true) values) (or_of (map (at_site i true) sites)) (block_rule n from sites i 2 h (omega arith))
        (b.puts i true h)
        (or_up v (map (at_site i true) sites) ∙ ap (list_any (λ z. z)) e) (or_down v (map (at_site i true) sites) ∙ ap lows_only e)
    put_says i false values h e = says (5 * i + 3) (merged (w i false) values) (or_of (map (at_site i false) sites))
        (block_rule n from sites i 3 h (omega arith)) (b.puts i false h)
        (or_up v (map (at_site i false) sites) ∙ ap (list_any (λ z. z)) e) (or_down v (map (at_site i false) sites) ∙ ap lows_only e)

    pub mark_says : (i : ℕ) → i < n → Says (offset n (a_mark i)) (wrote_rule w x wrote i)
    mark_says i h = says (5 * i + 4) (wrote_rule w x wrote i) (bit_written (bit_at (from + 5 * i))) (block_rule n from sites i 4 h (omega arith)) (b.marks i h)
        (two_terms (from + 5 * i + 2) (from + 5 * i) (from + 5 * i + 3) (from + 5 * i + 1)
        ∙ (ap (λ z. (z && v (from + 5 * i)) || (v (from + 5 * i + 3) && v (from + 5 * i + 1))) (wt i h)
        ∙ (ap (λ z. (w i true && z) || (v (from + 5 * i + 3) && v (from + 5 * i + 1))) (xt i h)
        ∙ (ap (λ z. (w i true && x i true) || (z && v (from + 5 * i + 1))) (wf i h) ∙ ap (λ z. (w i true && x i true) || (w i false && z)) (xf i h)))))
        (both_low (from + 5 * i + 2) (from + 5 * i + 3) ∙ (ap (λ z. not z && not (v (from + 5 * i + 3))) (wt i h) ∙ ap (λ z. not (w i true) && not z) (wf i h)))

    alike : Alike v (tree_value n wrote node) (written_leaves n from) (range_with_len 0 n)
    alike = leaves_alike n from 0 wrote (tree_value n wrote node) b.marks
        (λ i less. ap (tree_value n wrote node) (let e : 0 + i ≡ i = omega arith in e) ∙ value_leaf n wrote node i less)

    pub joint_says : (k : ℕ) → k < joint_count n → Says (offset n (a_joint k)) (tree_rule n wrote node k)
    joint_says k h =
        let told = tree_alike v (tree_value n wrote node) (written_leaves n from) (range_with_len 0 n) (from + 5 * n) n alike
        (λ j lt. ap v (let e : from + 5 * n + j ≡ from + (5 * n + j) = omega arith in e) ∙ (b.joints j lt ∙ sym (value_node n wrote node j))) k in
        says (5 * n + k) (tree_rule n wrote node k) (get_or (tree_rules (written_leaves n from) (from + 5 * n)) k no_rules) (tree_rule_at n from sites k)
        (b.joints k h) told.0 told.1

    -- the acknowledge
    pub written_is : 1 ≤ n → v (tree_top (written_leaves n from) (from + 5 * n)) ≡ tree_answer n wrote node
    written_is some = by n some refl
      where
        by : (m : ℕ) → 1 ≤ m → m ≡ n → v (tree_top (written_leaves n from) (from + 5 * n)) ≡ tree_answer n wrote node
        by zero h e = absurd (let g : ⊥ = omega (arith, h) in g)
        by (suc zero) h e = subst (λ (j : ℕ). v (tree_top (written_leaves j from) (from + 5 * j)) ≡ tree_answer j wrote node) e
            (ap v (let z : from + 4 ≡ from + (5 * 0 + 4) = omega arith in z) ∙ b.marks 0 (omega (arith, e)))
        by (suc (suc m)) h e =
            ap v (top m e)
            ∙ (b.joints (n - 2) (let z = joint_count_is n in omega (arith, z, e)) ∙ sym (answer_value n wrote node (omega (arith, e))))
          where
            top : (m : ℕ) → suc (suc m) ≡ n → tree_top (written_leaves n from) (from + 5 * n) ≡ from + (5 * n + (n - 2))
            top m e = subst (λ (j : ℕ). tree_top (written_leaves j from) (from + 5 * j) ≡ from + (5 * j + (j - 2))) e
                (let z = leaves_count m (from + 5 + 5) in omega (arith, z))

-- where the blocks are
pub blocks_below : (vs : List Var) (x : ℕ) → x < length vs → blocks_before vs x + block_size (var_width vs x) ≤ blocks_before vs (length vs)
blocks_below [] x h = absurd (let g : ⊥ = omega (arith, h) in g)
blocks_below (v ∷ vs) zero h = omega arith
blocks_below (v ∷ vs) (suc x) h = let e = blocks_below vs x (omega (arith, h)) in omega (arith, e)

pub blocks_apart : (vs : List Var) (x y : ℕ) → x < y → y ≤ length vs → blocks_before vs x + block_size (var_width vs x) ≤ blocks_before vs y
blocks_apart [] x y h k = absurd (let g : ⊥ = omega (arith, h, k) in g)
blocks_apart (v ∷ vs) x zero h k = absurd (let g : ⊥ = omega (arith, h) in g)
blocks_apart (v ∷ vs) zero (suc y) h k = omega arith
blocks_apart (v ∷ vs) (suc x) (suc y) h k = let e = blocks_apart vs x y (omega (arith, h)) (omega (arith, k)) in omega (arith, e)

pub record Owner (vs : List Var) (n : ℕ) : Type 0 where
  pub var : ℕ
  pub place : ℕ
  pub some : var < length vs
  pub below : place < block_size (var_width vs var)
  pub is : blocks_before vs var + place ≡ n

pub owner : (vs : List Var) (n : ℕ) → n < blocks_before vs (length vs) → Owner vs n
owner [] n h = absurd (let g : ⊥ = omega (arith, h) in g)
owner (v ∷ vs) n h =
    ⊎_elim
    (λ (lt : n < block_size v.width). let here : Owner (v ∷ vs) n = record { var = zero; place = n; some = omega arith; below = lt; is = omega arith } in here)
    (λ (le : block_size v.width ≤ n).
    let r = owner vs (n - block_size v.width) (omega (arith, h, le)) in
    let here : Owner (v ∷ vs) n = record { var = suc r.var; place = r.place; some = omega (arith, r.some); below = r.below; is = omega (arith, r.is, le) } in
    here)
    (cases_lt n (block_size v.width))

pub length-vars_rules : (P : TypedProgram) (x : ℕ) (vs : List Var) → length (vars_rules P x vs) ≡ blocks_before vs (length vs)
length-vars_rules P x [] = refl
length-vars_rules P x (v ∷ vs) =
    omega (
      arith,
      length-append (variable_rules v.width (var_from P x) (in_body P (write_site P x))) (vars_rules P (suc x) vs),
      length-variable_rules v.width (var_from P x) (in_body P (write_site P x)),
      length-vars_rules P (suc x) vs,
    )

pub vars_rule : (P : TypedProgram) (x : ℕ) (vs : List Var) (tail : List NodeRules) (y m : ℕ) → y < length vs → m < block_size (var_width vs y)
    → get_or (vars_rules P x vs ++ tail) (blocks_before vs y + m) no_rules ≡ get_or
    (variable_rules (var_width vs y) (var_from P (x + y)) (in_body P (write_site P (x + y)))) m no_rules
vars_rule P x [] tail y m h k = absurd (let g : ⊥ = omega (arith, h) in g)
vars_rule P x (v ∷ vs) tail zero m h k =
    let first = variable_rules v.width (var_from P x) (in_body P (write_site P x)) in
    let rest = vars_rules P (suc x) vs in
    ap (λ l. get_or l (0 + m) no_rules) (append_assoc first rest tail)
    ∙ (ap (λ i. get_or (first ++ (rest ++ tail)) i no_rules) (let e : 0 + m ≡ m = omega arith in e)
    ∙ (get_or_append_left first (rest ++ tail) no_rules m (omega (arith, k, length-variable_rules v.width (var_from P x) (in_body P (write_site P x))))
    ∙ ap (λ i. get_or (variable_rules v.width (var_from P i) (in_body P (write_site P i))) m no_rules) (let e : x ≡ x + 0 = omega arith in e)))
vars_rule P x (v ∷ vs) tail (suc y) m h k =
    let first = variable_rules v.width (var_from P x) (in_body P (write_site P x)) in
    let rest = vars_rules P (suc x) vs in
    let o : block_size v.width + blocks_before vs y + m ≡ length first + (blocks_before vs y + m) = omega
    (arith, length-variable_rules v.width (var_from P x) (in_body P (write_site P x))) in
    ap (λ l. get_or l (block_size v.width + blocks_before vs y + m) no_rules) (append_assoc first rest tail)
    ∙ (ap (λ i. get_or (first ++ (rest ++ tail)) i no_rules) o
    ∙ (get_or-append-add first (rest ++ tail) (blocks_before vs y + m) no_rules
    ∙ (vars_rule P (suc x) vs tail y m (omega (arith, h)) k
    ∙ ap (λ i. get_or (variable_rules (var_width vs y) (var_from P i) (in_body P (write_site P i))) m no_rules)
    (let e : suc x + y ≡ x + suc y = omega arith in e))))
