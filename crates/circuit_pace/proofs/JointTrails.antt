-- Own moves of the completion tree of a parallel composition.
--
-- P: the program; K: how many moves follow the falls of lines; b: where the branches are; t: the tree's nodes; j, k: its nodes; z: that a rule fires.
use Rattle.std.proofs.Common.{◌≡◌, ◌≢◌, ℕ, ◌+◌, ◌-◌, ◌<◌, Bool, true, false, List, refl, sym, ap, ◌∙◌, subst, inl, inr, arith}
use Rattle.std.specs.Prelude.{◌⊎◌, not, if◌then◌else◌}
use Rattle.std.specs.List.{range_with_len}
use Rattle.std.proofs.lemmas.Bool.{cases_eq}
use Rattle.prs_core.specs.Moves.{guard_holds}
use Rattle.prs_core.specs.Parts.{turned}
use Rattle.prs_core.specs.Turning.{turned_here, turned_apart}
use Rattle.cell_parallel.specs.Trees.{tree_top}
use Rattle.width_check.specs.Processes.{side_by_side, Processes, member_count, TypedProgram}
use Rattle.function_blocks.specs.Rails.{one_rule_fires}
use Rattle.circuit_places.specs.Lines.{Seen}
use Rattle.circuit_places.specs.Circuit.{Bits, joint_count, cell_bit, turned_bits, tree_value, tree_node, tree_rule, branches_answered, Spot, of_branch, joint, answer, rule, flipped}
use Rattle.circuit_places.proofs.Trees.{joint_stands, joint_apart, turned_at, value_node}
use Rattle.circuit_places.proofs.Places.{Mode, asks, acks, at_side, BranchesAt, SideMay, cells, branch_cells, moves, answer_is, can_is}
use Rattle.round_time.specs.Longest.{tree_height}
use Rattle.circuit_time.proofs.Trails.{Clearing, joint_level, trail}
use Rattle.circuit_time.proofs.Joints.{own_level, Above, joint_sees}
use Rattle.circuit_time.proofs.Requests.{Plain}
use Rattle.circuit_time.proofs.OwnTrails.{Shorter, Led}
use Rattle.circuit_pace.proofs.SideTrails.{node_other, fires_low, fires_high, same_fires, both_ways}

module _ (P : TypedProgram) (K : Clearing) (held down : ℕ) (env : Seen) {ms : Processes} {ks : List Mode} (m : Mode)
    (t : Bits (joint_count (member_count ms))) (b : BranchesAt ms ks) (h : SideMay (member_count ms) m ks t) (j : ℕ)
    (e : moves env (at_side m t b h) (joint j) ≡ true) where
  abbrev n : ℕ
  n = member_count ms

  abbrev leaf : ℕ → Bool
  leaf = branches_answered ms (branch_cells b)

  abbrev node : ℕ → Bool
  node = cell_bit (joint_count (member_count ms)) t

  abbrev now : ℕ → Bool
  now = cell_bit (joint_count (member_count ms)) (turned_bits (joint_count (member_count ms)) t j)

  abbrev height : ℕ
  height = tree_height (member_count ms)

  abbrev ups : ℕ
  ups = held + (2 + tree_height (member_count ms) + down)

  f : one_rule_fires (tree_rule n leaf node j) ≡ true
  f = can_is env (at_side m t b h) (joint j) ∙ e

  there : j < joint_count n
  there = joint_stands n leaf node j f

  turns : (i : ℕ) → now i ≡ turned node j i
  turns i = turned_at (joint_count (member_count ms)) t j i there

  here_now : now j ≡ not (node j)
  here_now = turns j ∙ turned_here node j

  else_now : (i : ℕ) → i ≢ j → now i ≡ node i
  else_now i ne = turns i ∙ turned_apart node j i ne

  others : (i : ℕ) → i ≢ n + j → tree_value n leaf now i ≡ tree_value n leaf node i
  others = node_other n j leaf node now else_now

  low_trail : (c : Bool) (k : ℕ) → c ≡ false
      → (if c then (height - joint_level n k) + down else (height - joint_level n k) + ups) ≡ (height - joint_level n k) + ups
  low_trail c k z = ap (λ (x : Bool). if x then (height - joint_level n k) + down else (height - joint_level n k) + ups) z

  high_trail : (c : Bool) (k : ℕ) → c ≡ true
      → (if c then (height - joint_level n k) + down else (height - joint_level n k) + ups) ≡ (height - joint_level n k) + down
  high_trail c k z = ap (λ (x : Bool). if x then (height - joint_level n k) + down else (height - joint_level n k) + ups) z

  abbrev Goal : (k : ℕ) → Type 0
  Goal k = Shorter (joint {members = ms} j) (joint k) (moves env (at_side m t b h) (joint k))
      (if now k then (height - joint_level n k) + down else (height - joint_level n k) + ups)
      (if node k then (height - joint_level n k) + down else (height - joint_level n k) + ups)
      (if node j then (height - joint_level n j) + down else (height - joint_level n j) + ups)

  -- a node of a higher level
  rises_on : (k : ℕ) → one_rule_fires (tree_rule n leaf now k) ≡ true → Above n (n + j) (tree_value n leaf now) k → (c : Bool) → node j ≡ c → Goal k
  rises_on k z a false e =
      let at : tree_value n leaf now (n + j) ≡ true = value_node n leaf now j ∙ (here_now ∙ ap not e) in
      let x = low_trail (now k) k (fires_low (now k) _ _ z (a.no_fall at)) in
      let y = low_trail (node j) j e in
      let own = own_level n j in
      let lower = a.lower in
      let within = a.within in
      inl (omega (arith, x, y, own, lower, within))
  rises_on k z a true e =
      let at : tree_value n leaf now (n + j) ≡ false = value_node n leaf now j ∙ (here_now ∙ ap not e) in
      let x = high_trail (now k) k (fires_high (now k) _ _ z (a.no_rise at)) in
      let y = high_trail (node j) j e in
      let own = own_level n j in
      let lower = a.lower in
      let within = a.within in
      inl (omega (arith, x, y, own, lower, within))

  joined : (k : ℕ) → one_rule_fires (tree_rule n leaf now k) ≡ true → Goal k
  joined k z = by (cases_eq k j) (joint_sees n (n + j) (tree_value n leaf node) (tree_value n leaf now) others k)
    where
      by : (k ≡ j) ⊎ (k ≡ j → ⊥)
          → ((guard_holds (tree_value n leaf now) (tree_node n k).up ≡ guard_holds (tree_value n leaf node) (tree_node n k).up)
          × (guard_holds (tree_value n leaf now) (tree_node n k).down ≡ guard_holds (tree_value n leaf node) (tree_node n k).down))
          ⊎ Above n (n + j) (tree_value n leaf now) k → Goal k
      by w (inr a) = rises_on k z a (node j) refl
      by (inr ne) (inl (u, d)) =
          let same : now k ≡ node k = else_now k ne in
          let x : (if now k then (height - joint_level n k) + down else (height - joint_level n k) + ups)
          ≡ (if node k then (height - joint_level n k) + down else (height - joint_level n k) + ups) =
          ap (λ (c : Bool). if c then (height - joint_level n k) + down else (height - joint_level n k) + ups) same in
          inr (
            (λ (s : joint {members = ms} j ≡ joint k). ne (sym (cc s))),
            sym (can_is env (at_side m t b h) (joint k)) ∙ same_fires (node k) _ _ _ _ u d
                (subst (λ (c : Bool). (if c then guard_holds (tree_value n leaf now) (tree_node n k).down else guard_holds (tree_value n leaf now)
                (tree_node n k).up)
                ≡ true) same z),
            omega (arith, x),
          )
      by (inl same) (inl (u, d)) =
          let x : (if node k then guard_holds (tree_value n leaf node) (tree_node n k).down else guard_holds (tree_value n leaf node) (tree_node n k).up)
          ≡ true =
          subst (λ (i : ℕ). (if node i then guard_holds (tree_value n leaf node) (tree_node n i).down
          else guard_holds (tree_value n leaf node) (tree_node n i).up) ≡ true) (sym same) f in
          let turned_k : now k ≡ not (node k) = subst (λ (i : ℕ). now i ≡ not (node i)) (sym same) here_now in
          let y : (if not (node k) then guard_holds (tree_value n leaf node) (tree_node n k).down else guard_holds (tree_value n leaf node) (tree_node n k).up)
          ≡ true =
          same_fires (not (node k)) _ _ _ _ u d
          (subst (λ (c : Bool). (if c then guard_holds (tree_value n leaf now) (tree_node n k).down else guard_holds (tree_value n leaf now) (tree_node n k).up)
          ≡ true) turned_k z) in
          absurd (both_ways (node k) _ _ x y (joint_apart n leaf node k))

  -- the answer turns over where the node is the top alone
  top_turns : {c : Bool} → acks m ≡ c → answer (side_by_side ms) (flipped (side_by_side ms) (cells (at_side m t b h)) (joint j)) ≡ not c → node j ≡ c
  top_turns {c = c} e z = by (cases_eq (tree_top (range_with_len 0 n) n) (n + j))
    where
      never : (x : Bool) → x ≡ not x → ⊥
      never true k = cc k
      never false k = cc k

      twice : (x : Bool) → not (not x) ≡ x
      twice true = refl
      twice false = refl

      by : (tree_top (range_with_len 0 n) n ≡ n + j) ⊎ (tree_top (range_with_len 0 n) n ≡ n + j → ⊥) → node j ≡ c
      by (inr ne) = absurd (never c (sym e ∙ (sym (answer_is (at_side m t b h)) ∙ (sym (others (tree_top (range_with_len 0 n) n) ne) ∙ z))))
      by (inl same) =
          let a : now j ≡ not c = sym (value_node n leaf now j) ∙ (ap (tree_value n leaf now) (sym same) ∙ z) in
          sym (twice (node j)) ∙ (ap not (sym here_now) ∙ (ap not a ∙ twice c))

  pub joint_led : Led P K held down (side_by_side ms) m env (at_side m t b h) (joint j)
  joint_led = record {
    each = here;
    up = λ a z. let x = low_trail (node j) j (top_turns a z) in (omega (arith, x), omega arith);
    falls = λ a z. let x = high_trail (node j) j (top_turns a z) in omega (arith, x);
    less = omega arith;
  }
    where
      here : (q : Spot (side_by_side ms))
          → one_rule_fires (rule (side_by_side ms) env (asks m) (flipped (side_by_side ms) (cells (at_side m t b h)) (joint j)) q) ≡ true
          → Plain (side_by_side ms) (flipped (side_by_side ms) (cells (at_side m t b h)) (joint j)) q
          → Shorter (joint j) q (moves env (at_side m t b h) q)
          (trail P K held down (side_by_side ms) (flipped (side_by_side ms) (cells (at_side m t b h)) (joint j)) q)
          (trail P K held down (side_by_side ms) (cells (at_side m t b h)) q) (trail P K held down (side_by_side ms) (cells (at_side m t b h)) (joint j))
      here (of_branch q) z plain = inr ((λ s. cc s), sym (can_is env (at_side m t b h) (of_branch q)) ∙ z, omega arith)
      here (joint k) z plain = joined k z
