-- The top of a completion tree is its only node on its level; so what is said of two moves of a variable's block says that the top rises where
-- the second isn't of a shorter trail. And where the top turns over no other node of the block moves.
--
-- n: how many leaves; m: how many levels at most; k: an own node of the tree; h, after, late: as in the trails of a block; w, x: the rails by which
-- the variable is written, and its own.
use Rattle.std.proofs.Common.{◌≡◌, ◌≢◌, ℕ, zero, suc, ◌+◌, ◌-◌, ◌/◌, ◌<◌, ◌≤◌, Bool, true, false, refl, sym, ap, ◌∙◌, inl, inr, arith}
use Rattle.std.specs.Prelude.{◌⊎◌, not, ◌&&◌, ◌||◌, nat_lt, if◌then◌else◌}
use Rattle.std.specs.List.{range_with_len}
use Rattle.std.proofs.lemmas.Bool.{cases_lt}
use Rattle.std.proofs.lemmas.Bool.Decides.{nat_tests}
use Rattle.std.proofs.lemmas.List.FromFn.{length-range_with_len}
use Rattle.prs_core.specs.Parts.{turned}
use Rattle.cell_parallel.specs.Trees.{tree_top}
use Rattle.cell_parallel.specs.Sizes.{tree_length}
use Rattle.function_blocks.specs.Rails.{Rails, one_rule_fires}
use Rattle.circuit_places.specs.Circuit.{joint_count, rails_turned, tree_value, tree_answer, tree_rule}
use Rattle.circuit_places.specs.Whole.{wrote_rule}
use Rattle.circuit_places.proofs.Flow.{cases, not_both}
use Rattle.circuit_places.proofs.BitTable.{written_as_acknowledged}
use Rattle.circuit_places.proofs.Trees.{joint_stands, value_node, node_moves, TopTurned, stays_top, turns_top, NodeTurned, node_turns, leaf_turns, flat_stands}
use Rattle.circuit_places.proofs.Blocks.{now_at, Block}
use Rattle.round_time.specs.Longest.{levels_in, tree_height}
use Rattle.circuit_time.proofs.Trails.{level_from, joint_level}
use Rattle.circuit_pace.proofs.BlockTrails.{bit_trail, wrote_trail, joint_trail, bit_wrote, wrote_joint, joint_joint}

-- ---- the top's level

few_levels : (m n : ℕ) → 1 < n → n ≤ suc m → 1 ≤ levels_in m n
few_levels zero n some few = absurd (omega (arith, some, few))
few_levels (suc m) n some few = let e : (if nat_lt 1 n then suc (levels_in m ((n + 1) / 2)) else 0) ≡ suc (levels_in m ((n + 1) / 2)) =
    ap (λ b. if b then suc (levels_in m ((n + 1) / 2)) else 0) (let e : nat_lt 1 n ≡ true = grind (arith, nat_tests) in e) in omega (arith, e)

last_level : (m n k : ℕ) → n ≤ suc m → k < n - 1 → levels_in (suc m) n ≤ level_from (suc m) n k → k ≡ n - 2
last_level zero n k few less most = absurd (omega (arith, few, less))
last_level (suc m) n k few less most = by (cases_lt k (n / 2)) (cases_lt 1 ((n + 1) / 2))
    (λ a b c. last_level m ((n + 1) / 2) (k - n / 2) a b c)
  where
    more : levels_in (suc (suc m)) n ≡ suc (levels_in (suc m) ((n + 1) / 2))
    more = ap (λ b. if b then suc (levels_in (suc m) ((n + 1) / 2)) else 0) (let e : nat_lt 1 n ≡ true = grind (arith, nat_tests) in e)

    by : (k < n / 2) ⊎ (n / 2 ≤ k) → (1 < (n + 1) / 2) ⊎ ((n + 1) / 2 ≤ 1)
        → ((n + 1) / 2 ≤ suc m → k - n / 2 < (n + 1) / 2 - 1 → levels_in (suc m) ((n + 1) / 2) ≤ level_from (suc m) ((n + 1) / 2) (k - n / 2)
        → k - n / 2 ≡ (n + 1) / 2 - 2) → k ≡ n - 2
    by (inl low) (inl some) go =
        let e : level_from (suc (suc m)) n k ≡ 1 =
        ap (λ b. if b then 1 else suc (level_from (suc m) ((n + 1) / 2) (k - n / 2))) (let e : nat_lt k (n / 2) ≡ true = grind (arith, nat_tests) in e) in
        let z = few_levels (suc m) ((n + 1) / 2) some (omega (arith, few, less)) in
        absurd (omega (arith, e, most, more, z))
    by (inl low) (inr one) go = omega (arith, one, less)
    by (inr far) d go =
        let e : level_from (suc (suc m)) n k ≡ suc (level_from (suc m) ((n + 1) / 2) (k - n / 2)) =
        ap (λ b. if b then 1 else suc (level_from (suc m) ((n + 1) / 2) (k - n / 2))) (let e : nat_lt k (n / 2) ≡ false = grind (arith, nat_tests) in e) in
        let z = go (omega (arith, few, less)) (omega (arith, less, far)) (omega (arith, e, most, more)) in
        omega (arith, z, far, less)

joint_count_is : (n : ℕ) → joint_count n ≡ n - 1
joint_count_is n = tree_length (range_with_len 0 n) n ∙ ap (λ k. k - 1) (length-range_with_len 0 n)

top_is : (n : ℕ) → 2 ≤ n → tree_top (range_with_len 0 n) n ≡ n + (n - 2)
top_is zero some = absurd (omega (arith, some))
top_is (suc zero) some = absurd (omega (arith, some))
top_is (suc (suc n)) some = let e = length-range_with_len 2 n in omega (arith, e)

-- a node that moves and isn't below the tree's height is the top
pub top_node : (n : ℕ) (leaf node : ℕ → Bool) (k : ℕ) → one_rule_fires (tree_rule n leaf node k) ≡ true → tree_height n ≤ joint_level n k
    → tree_top (range_with_len 0 n) n ≡ n + k
top_node zero leaf node k f most = let a = joint_stands 0 leaf node k f in let b = joint_count_is 0 in absurd (omega (arith, a, b))
top_node (suc m) leaf node k f most =
    let a = joint_stands (suc m) leaf node k f in
    let b = joint_count_is (suc m) in
    let e = last_level m (suc m) k (omega arith) (omega (arith, a, b)) most in
    let t = top_is (suc m) (omega (arith, a, b)) in
    omega (arith, e, t, a, b)

pub top_answer : (n : ℕ) (leaf node : ℕ → Bool) (k : ℕ) → tree_top (range_with_len 0 n) n ≡ n + k → tree_answer n leaf node ≡ node k
top_answer n leaf node k e = ap (tree_value n leaf node) e ∙ value_node n leaf node k

-- of one bit its node is the top
pub one_answer : (n : ℕ) (leaf node : ℕ → Bool) (j : ℕ) → tree_height n ≡ 0 → j < n → tree_answer n leaf node ≡ leaf j
one_answer zero leaf node j flat less = absurd (omega (arith, less))
one_answer (suc zero) leaf node zero flat less = refl
one_answer (suc zero) leaf node (suc j) flat less = absurd (omega (arith, less))
one_answer (suc (suc n)) leaf node j flat less =
    let a = few_levels (suc (suc n)) (suc (suc n)) (omega arith) (omega arith) in absurd (omega (arith, a, flat))

-- ---- what isn't of a shorter trail is the rise of the top

pub bit_wrote_top : (h v e : ℕ) (w x : Rails) (wrote : ℕ → Bool) (j : ℕ) (side : Bool) (i : ℕ)
    → one_rule_fires (wrote_rule w (rails_turned x j side) wrote i) ≡ true
    → (one_rule_fires (wrote_rule w x wrote i) ≡ true)
    ⊎ ((wrote_trail h v e (wrote i) < bit_trail h e (x j side)) ⊎ ((h ≡ 0) × (e ≡ 0) × (wrote i ≡ false)))
bit_wrote_top h v e w x wrote j side i z = cases (wrote i) high (λ (l : wrote i ≡ false). low l (bit_wrote h v e w x wrote j side i z))
  where
    high : wrote i ≡ true → (one_rule_fires (wrote_rule w x wrote i) ≡ true)
        ⊎ ((wrote_trail h v e (wrote i) < bit_trail h e (x j side)) ⊎ ((h ≡ 0) × (e ≡ 0) × (wrote i ≡ false)))
    high t = inl (ap (λ b. if b then not (w i true) && not (w i false) else ((w i true && x i true) || (w i false && x i false))) t
        ∙ (sym (ap (λ b. if b then not (w i true) && not (w i false) else ((w i true && rails_turned x j side i true) ||
        (w i false && rails_turned x j side i false))) t) ∙ z))

    low : wrote i ≡ false
        → (one_rule_fires (wrote_rule w x wrote i) ≡ true) ⊎ ((wrote_trail h v e (wrote i) < bit_trail h e (x j side)) ⊎ (h + e ≡ 0))
        → (one_rule_fires (wrote_rule w x wrote i) ≡ true)
        ⊎ ((wrote_trail h v e (wrote i) < bit_trail h e (x j side)) ⊎ ((h ≡ 0) × (e ≡ 0) × (wrote i ≡ false)))
    low l (inl before) = inl before
    low l (inr (inl less)) = inr (inl less)
    low l (inr (inr none)) = inr (inr (omega (arith, none), omega (arith, none), l))

pub wrote_joint_top : (n v e : ℕ) (wrote joint : ℕ → Bool) (j : ℕ) → j < n → (k : ℕ) → one_rule_fires (tree_rule n (turned wrote j) joint k) ≡ true
    → (one_rule_fires (tree_rule n wrote joint k) ≡ true)
    ⊎ ((joint_trail (tree_height n) (joint_level n k) v e (joint k) < wrote_trail (tree_height n) v e (wrote j))
    ⊎ ((tree_height n ≤ joint_level n k) × (e ≡ 0) × (joint k ≡ false)))
wrote_joint_top n v e wrote joint j less k z = cases (joint k)
    (λ (t : joint k ≡ true). high (joint k) (wrote j) t (wrote_joint n (suc (tree_height n)) 1 wrote joint j less k z))
    (λ (l : joint k ≡ false). low l (wrote_joint n v e wrote joint j less k z))
  where
    high : (now was : Bool) → now ≡ true → (one_rule_fires (tree_rule n wrote joint k) ≡ true)
        ⊎ ((joint_trail (tree_height n) (joint_level n k) (suc (tree_height n)) 1 now < wrote_trail (tree_height n) (suc (tree_height n)) 1 was)
        ⊎ ((tree_height n ≤ joint_level n k) × (◌≡◌ {A = ℕ} 1 0)))
        → (one_rule_fires (tree_rule n wrote joint k) ≡ true)
        ⊎ ((joint_trail (tree_height n) (joint_level n k) v e now < wrote_trail (tree_height n) v e was)
        ⊎ ((tree_height n ≤ joint_level n k) × (e ≡ 0) × (now ≡ false)))
    high false was t d = absurd (cc t)
    high true was t (inl before) = inl before
    high true true t (inr (inl less)) = inr (inl (omega (arith, less)))
    high true false t (inr (inl less)) = absurd (omega (arith, less))
    high true was t (inr (inr (far, none))) = absurd (omega (arith, none))

    low : joint k ≡ false → (one_rule_fires (tree_rule n wrote joint k) ≡ true)
        ⊎ ((joint_trail (tree_height n) (joint_level n k) v e (joint k) < wrote_trail (tree_height n) v e (wrote j))
        ⊎ ((tree_height n ≤ joint_level n k) × (e ≡ 0)))
        → (one_rule_fires (tree_rule n wrote joint k) ≡ true)
        ⊎ ((joint_trail (tree_height n) (joint_level n k) v e (joint k) < wrote_trail (tree_height n) v e (wrote j))
        ⊎ ((tree_height n ≤ joint_level n k) × (e ≡ 0) × (joint k ≡ false)))
    low l (inl before) = inl before
    low l (inr (inl less)) = inr (inl less)
    low l (inr (inr (far, none))) = inr (inr (far, none, l))

pub joint_joint_top : (n v e : ℕ) (wrote joint : ℕ → Bool) (j k : ℕ) → k ≢ j → one_rule_fires (tree_rule n wrote (turned joint j) k) ≡ true
    → (one_rule_fires (tree_rule n wrote joint k) ≡ true)
    ⊎ ((joint_trail (tree_height n) (joint_level n k) v e (joint k) < joint_trail (tree_height n) (joint_level n j) v e (joint j))
    ⊎ ((tree_height n ≤ joint_level n k) × (e ≡ 0) × (joint k ≡ false)))
joint_joint_top n v e wrote joint j k ne z = cases (joint k)
    (λ (t : joint k ≡ true). high (joint k) (joint j) t (joint_joint n (suc (tree_height n)) 1 wrote joint j k ne z))
    (λ (l : joint k ≡ false). low l (joint_joint n v e wrote joint j k ne z))
  where
    high : (now was : Bool) → now ≡ true → (one_rule_fires (tree_rule n wrote joint k) ≡ true)
        ⊎ ((joint_trail (tree_height n) (joint_level n k) (suc (tree_height n)) 1 now
        < joint_trail (tree_height n) (joint_level n j) (suc (tree_height n)) 1 was)
        ⊎ ((tree_height n ≤ joint_level n k) × (◌≡◌ {A = ℕ} 1 0)))
        → (one_rule_fires (tree_rule n wrote joint k) ≡ true)
        ⊎ ((joint_trail (tree_height n) (joint_level n k) v e now < joint_trail (tree_height n) (joint_level n j) v e was)
        ⊎ ((tree_height n ≤ joint_level n k) × (e ≡ 0) × (now ≡ false)))
    high false was t d = absurd (cc t)
    high true was t (inl before) = inl before
    high true true t (inr (inl less)) = inr (inl (omega (arith, less)))
    high true false t (inr (inl less)) = absurd (omega (arith, less))
    high true was t (inr (inr (far, none))) = absurd (omega (arith, none))

    low : joint k ≡ false → (one_rule_fires (tree_rule n wrote joint k) ≡ true)
        ⊎ ((joint_trail (tree_height n) (joint_level n k) v e (joint k) < joint_trail (tree_height n) (joint_level n j) v e (joint j))
        ⊎ ((tree_height n ≤ joint_level n k) × (e ≡ 0)))
        → (one_rule_fires (tree_rule n wrote joint k) ≡ true)
        ⊎ ((joint_trail (tree_height n) (joint_level n k) v e (joint k) < joint_trail (tree_height n) (joint_level n j) v e (joint j))
        ⊎ ((tree_height n ≤ joint_level n k) × (e ≡ 0) × (joint k ≡ false)))
    low l (inl before) = inl before
    low l (inr (inl less)) = inr (inl less)
    low l (inr (inr (far, none))) = inr (inr (far, none, l))

-- ---- where the top turns over, nothing else of the block moves

never_own : (b : Bool) → b ≡ not b → ⊥
never_own true e = cc e
never_own false e = cc e

module _ (n : ℕ) (x w : Rails) (wrote joint : ℕ → Bool) (b : Block n x w wrote joint) where
  -- a leaf turns it over only where it is alone
  leaf_alone : (i : ℕ) → i < n → one_rule_fires (wrote_rule w x wrote i) ≡ true
      → (tree_answer n (turned wrote i) joint ≡ tree_answer n wrote joint → ⊥) → n ≤ 1
  leaf_alone i less e over = by (cases_lt 1 n)
    where
      by : (1 < n) ⊎ (n ≤ 1) → n ≤ 1
      by (inr few) = few
      by (inl some) = absurd (over (leaf_turns n b.known (omega (arith, some)) wrote joint i less b.tree
          (written_as_acknowledged (now_at x w wrote (tree_answer n wrote joint) i) (b.bits i less) e)).top)

  pub leaf_over : (i : ℕ) → i < n → one_rule_fires (wrote_rule w x wrote i) ≡ true
      → (tree_answer n (turned wrote i) joint ≡ tree_answer n wrote joint → ⊥) → ((j : ℕ) → j < n → j ≡ i) × ((k : ℕ) → node_moves n wrote joint k ≡ true → ⊥)
  leaf_over i less e over =
      let few = leaf_alone i less e over in
      let c = joint_count_is n in
      ((λ j l. omega (arith, few, less, l)), (λ k f. let a = joint_stands n wrote joint k f in absurd (omega (arith, few, a, c))))

  -- all leaves have turned over before a node of the tree does so
  pub node_over : (k : ℕ) → node_moves n wrote joint k ≡ true → (tree_answer n wrote (turned joint k) ≡ tree_answer n wrote joint → ⊥)
      → ((i : ℕ) → i < n → one_rule_fires (wrote_rule w x wrote i) ≡ true → ⊥) × ((j : ℕ) → j ≢ k → node_moves n wrote joint j ≡ true → ⊥)
  node_over k f over = by (node_turns n b.known wrote joint k b.tree f)
    where
      many : 2 ≤ n
      many = let a = joint_stands n wrote joint k f in let c = joint_count_is n in omega (arith, a, c)

      by : NodeTurned n b.known wrote joint k
          → ((i : ℕ) → i < n → one_rule_fires (wrote_rule w x wrote i) ≡ true → ⊥) × ((j : ℕ) → j ≢ k → node_moves n wrote joint j ≡ true → ⊥)
      by r = here r.top
        where
          here : TopTurned n b.known wrote joint k
              → ((i : ℕ) → i < n → one_rule_fires (wrote_rule w x wrote i) ≡ true → ⊥) × ((j : ℕ) → j ≢ k → node_moves n wrote joint j ≡ true → ⊥)
          here (stays_top same) = absurd (over same)
          here (turns_top is all) = (
            (λ i less e. never_own (tree_answer n wrote joint)
                (sym (written_as_acknowledged (now_at x w wrote (tree_answer n wrote joint) i) (b.bits i less) e) ∙ all i less)),
            (λ j ne g. not_both (flat_stands n b.known many wrote (turned joint k) (not (tree_answer n wrote joint)) r.settled is all j) (r.keeps j ne g)),
          )
