-- Own moves of parallel compositions: of their branches, and of the completion tree over these.
--
-- P: the program; K: how many moves follow the falls of lines; plus, minus: how many follow the rise and the fall of a branch's end; b: where
-- branches are; r: their request; s, q: spots; z: that a rule fires; l: what is said of the move of a branch; n: how many branches there are.
use Rattle.std.proofs.Common.{◌≡◌, ◌≢◌, ℕ, zero, suc, ◌+◌, ◌-◌, ◌<◌, ◌≤◌, Bool, true, false, List, ◌∷◌, refl, sym, ap, ◌∙◌, subst, inl, inr, arith}
use Rattle.std.specs.Prelude.{◌⊎◌, not, ◌&&◌, nat_lt, if◌then◌else◌}
use Rattle.std.specs.List.{range_with_len}
use Rattle.std.proofs.lemmas.Bool.{cases_lt, cases_eq}
use Rattle.std.proofs.lemmas.Bool.Decides.{nat_tests}
use Rattle.std.proofs.Math.Path.{fun_ext}
use Rattle.prs_core.specs.Moves.{guard_holds}
use Rattle.cell_parallel.specs.Trees.{tree_top}
use Rattle.width_check.specs.Processes.{Process, side_by_side, Processes, and_member, member_count, TypedProgram}
use Rattle.function_blocks.specs.Rails.{one_rule_fires}
use Rattle.circuit_places.specs.Lines.{Seen}
use Rattle.circuit_places.specs.Circuit.{Bits, joint_count, cell_bit, tree_value, tree_node, tree_rule, branches_answered, GuardedSpot, Spot, of_branch, joint, BranchSpot, in_this, in_others, answer, guarded_rule, rule, branch_rule, turned_guarded, flipped, turned_branches}
use Rattle.circuit_places.proofs.Flow.{not_both}
use Rattle.circuit_places.proofs.Places.{Mode, asks, acks, all_ask, GuardedAt, at_side, BranchesAt, and_at, SideMay, guarded_cells, cells, branch_cells, guarded_moves, moves, branch_moves, next_is, answer_is, guarded_can_is, can_is, branch_can_is}
use Rattle.circuit_places.proofs.StillSteps.{branch_rises, branch_value}
use Rattle.round_time.specs.Longest.{tree_height}
use Rattle.circuit_time.proofs.Trails.{Clearing, joint_level, trail, branch_trail}
use Rattle.circuit_time.proofs.Joints.{Above, joint_sees}
use Rattle.circuit_time.proofs.Requests.{Plain}
use Rattle.circuit_time.proofs.Spots.{branch_apart, this_apart, others_apart}
use Rattle.circuit_time.proofs.OwnTrails.{Shorter, Led, GuardedLed}
use Rattle.circuit_time.proofs.TurnTrails.{wrapped}

-- what is said of a move of one of the branches: no end but that branch's changes
pub record BranchLed (P : TypedProgram) (K : Clearing) (plus minus : ℕ) (ms : Processes) (ks : List Mode) (r : Bool) (env : Seen) (b : BranchesAt ms ks)
    (s : BranchSpot ms) : Type 0 where
  pub each : (q : BranchSpot ms) → one_rule_fires (branch_rule ms env r (turned_branches ms (branch_cells b) s) q) ≡ true
      → (branch_rises q ≡ true → branch_value ms (turned_branches ms (branch_cells b) s) q ≡ true)
      → Shorter s q (branch_moves env b q) (branch_trail P K plus minus ms (turned_branches ms (branch_cells b) s) q)
      (branch_trail P K plus minus ms (branch_cells b) q) (branch_trail P K plus minus ms (branch_cells b) s)
  pub which : ℕ
  pub there : which < member_count ms
  pub others : (i : ℕ) → i ≢ which → branches_answered ms (turned_branches ms (branch_cells b) s) i ≡ branches_answered ms (branch_cells b) i
  pub up : branches_answered ms (branch_cells b) which ≡ false → branches_answered ms (turned_branches ms (branch_cells b) s) which ≡ true
      → plus ≤ branch_trail P K plus minus ms (branch_cells b) s
  pub falls : branches_answered ms (branch_cells b) which ≡ true → branches_answered ms (turned_branches ms (branch_cells b) s) which ≡ false
      → minus ≤ branch_trail P K plus minus ms (branch_cells b) s

module _ (P : TypedProgram) (K : Clearing) (plus minus : ℕ) (r : Bool) (env : Seen) where
  pub this_led : {p : Process} {more : Processes} {k : Mode} {ks : List Mode} (g : GuardedAt p k) (b : BranchesAt more ks) → all_ask r ks ≡ true → asks k ≡ r
      → (s : GuardedSpot p) → GuardedLed P K plus minus p k env g s → BranchLed P K plus minus (and_member p more) (k ∷ ks) r env (and_at g b) (in_this s)
  this_led {p = p} {more = more} {k = k} {ks = ks} g b h asked s l = record {
    each = here;
    which = 0;
    there = omega arith;
    others = apart;
    up = λ e z. l.up (sym (next_is g) ∙ e) z;
    falls = λ e z. l.falls (sym (next_is g) ∙ e) z;
  }
    where
      apart : (i : ℕ) → i ≢ 0 → branches_answered (and_member p more) (turned_branches (and_member p more) (branch_cells (and_at g b)) (in_this s)) i
          ≡ branches_answered (and_member p more) (branch_cells (and_at g b)) i
      apart zero ne = absurd (ne refl)
      apart (suc i) ne = refl

      here : (q : BranchSpot (and_member p more))
          → one_rule_fires (branch_rule (and_member p more) env r (turned_branches (and_member p more) (branch_cells (and_at g b)) (in_this s)) q) ≡ true
          → (branch_rises q ≡ true → branch_value (and_member p more) (turned_branches (and_member p more) (branch_cells (and_at g b)) (in_this s)) q ≡ true)
          → Shorter (in_this s) q (branch_moves env (and_at g b) q)
          (branch_trail P K plus minus (and_member p more) (turned_branches (and_member p more) (branch_cells (and_at g b)) (in_this s)) q)
          (branch_trail P K plus minus (and_member p more) (branch_cells (and_at g b)) q)
          (branch_trail P K plus minus (and_member p more) (branch_cells (and_at g b)) (in_this s))
      here (in_this q) z plain = wrapped s q (in_this s) (in_this q) this_apart (guarded_moves env g q) _ _ _ (l.each q
          (subst (λ (c : Bool). one_rule_fires (guarded_rule p env c (turned_guarded p (guarded_cells g) s) q) ≡ true) (sym asked) z) plain)
      here (in_others q) z plain = inr ((λ e. cc e), sym (branch_can_is env r b h q) ∙ z, omega arith)

  pub others_led : {p : Process} {more : Processes} {k : Mode} {ks : List Mode} (g : GuardedAt p k) (b : BranchesAt more ks) → asks k ≡ r
      → (s : BranchSpot more) → BranchLed P K plus minus more ks r env b s
      → BranchLed P K plus minus (and_member p more) (k ∷ ks) r env (and_at g b) (in_others s)
  others_led {p = p} {more = more} {k = k} {ks = ks} g b asked s l = record {
    each = here;
    which = suc l.which;
    there = let a = l.there in omega (arith, a);
    others = apart;
    up = l.up;
    falls = l.falls;
  }
    where
      apart : (i : ℕ) → i ≢ suc l.which
          → branches_answered (and_member p more) (turned_branches (and_member p more) (branch_cells (and_at g b)) (in_others s)) i
          ≡ branches_answered (and_member p more) (branch_cells (and_at g b)) i
      apart zero ne = refl
      apart (suc i) ne = l.others i (λ e. ne (ap (λ j. suc j) e))

      here : (q : BranchSpot (and_member p more))
          → one_rule_fires (branch_rule (and_member p more) env r (turned_branches (and_member p more) (branch_cells (and_at g b)) (in_others s)) q) ≡ true
          → (branch_rises q ≡ true → branch_value (and_member p more) (turned_branches (and_member p more) (branch_cells (and_at g b)) (in_others s)) q ≡ true)
          → Shorter (in_others s) q (branch_moves env (and_at g b) q)
          (branch_trail P K plus minus (and_member p more) (turned_branches (and_member p more) (branch_cells (and_at g b)) (in_others s)) q)
          (branch_trail P K plus minus (and_member p more) (branch_cells (and_at g b)) q)
          (branch_trail P K plus minus (and_member p more) (branch_cells (and_at g b)) (in_others s))
      here (in_this q) z plain = inr (
        (λ e. cc e),
        sym (guarded_can_is env g q) ∙ (ap (λ c. one_rule_fires (guarded_rule p env c (guarded_cells g) q)) asked ∙ z),
        omega arith,
      )
      here (in_others q) z plain = wrapped s q (in_others s) (in_others q) others_apart (branch_moves env b q) _ _ _ (l.each q z plain)

-- ---- the tree

-- a value that a change of one leaf, or of one own node, leaves
pub leaf_other : (n j : ℕ) (v w node : ℕ → Bool) → ((i : ℕ) → i ≢ j → w i ≡ v i) → (i : ℕ) → i ≢ j → tree_value n w node i ≡ tree_value n v node i
leaf_other n j v w node same i ne = by (nat_lt i n)
  where
    by : (b : Bool) → (if b then w i else node (i - n)) ≡ (if b then v i else node (i - n))
    by true = same i ne
    by false = refl

pub node_other : (n j : ℕ) (v node now : ℕ → Bool) → ((i : ℕ) → i ≢ j → now i ≡ node i) → (i : ℕ) → i ≢ n + j → tree_value n v now i ≡ tree_value n v node i
node_other n j v node now same i ne = by (cases_lt i n)
  where
    by : (i < n) ⊎ (n ≤ i) → tree_value n v now i ≡ tree_value n v node i
    by (inl less) = ap (λ b. if b then v i else now (i - n)) (let e : nat_lt i n ≡ true = grind (arith, nat_tests) in e)
        ∙ sym (ap (λ b. if b then v i else node (i - n)) (let e : nat_lt i n ≡ true = grind (arith, nat_tests) in e))
    by (inr far) = ap (λ b. if b then v i else now (i - n)) (let e : nat_lt i n ≡ false = grind (arith, nat_tests) in e)
        ∙ (same (i - n) (λ (e : i - n ≡ j). ne (omega (arith, far, e)))
        ∙ sym (ap (λ b. if b then v i else node (i - n)) (let e : nat_lt i n ≡ false = grind (arith, nat_tests) in e)))

pub leaf_at : (n j : ℕ) (w node : ℕ → Bool) → j < n → tree_value n w node j ≡ w j
leaf_at n j w node less = ap (λ b. if b then w j else node (j - n)) (let e : nat_lt j n ≡ true = grind (arith, nat_tests) in e)

-- the top isn't a leaf
pub top_above : (n : ℕ) → 2 ≤ n → n ≤ tree_top (range_with_len 0 n) n
top_above zero some = absurd (omega (arith, some))
top_above (suc zero) some = absurd (omega (arith, some))
top_above (suc (suc n)) some = omega arith

-- which way a node goes
pub fires_low : (now up down : Bool) → (if now then down else up) ≡ true → down ≡ false → now ≡ false
fires_low true up down f e = absurd (not_both e f)
fires_low false up down f e = refl

pub fires_high : (now up down : Bool) → (if now then down else up) ≡ true → up ≡ false → now ≡ true
fires_high true up down f e = refl
fires_high false up down f e = absurd (not_both e f)

pub same_fires : (now a b c d : Bool) → a ≡ c → b ≡ d → (if now then b else a) ≡ true → (if now then d else c) ≡ true
same_fires true a b c d e h f = sym h ∙ f
same_fires false a b c d e h f = sym e ∙ f

pub both_ways : (now up down : Bool) → (if now then down else up) ≡ true → (if not now then down else up) ≡ true → not (up && down) ≡ true → ⊥
both_ways true up down f z a = cc (f, z, a)
both_ways false up down f z a = cc (f, z, a)

module _ (P : TypedProgram) (K : Clearing) (held down : ℕ) (env : Seen) {ms : Processes} {ks : List Mode} (m : Mode)
    (t : Bits (joint_count (member_count ms))) (b : BranchesAt ms ks) (h : SideMay (member_count ms) m ks t) where
  -- a branch moves
  pub branch_led : (s : BranchSpot ms)
      → BranchLed P K (tree_height (member_count ms) + (held + (2 + tree_height (member_count ms) + down))) (tree_height (member_count ms) + down) ms ks
      (asks m) env b s
      → Led P K held down (side_by_side ms) m env (at_side m t b h) (of_branch s)
  branch_led s l = record { each = here; up = λ e z. absurd (not_both (still e) z); falls = λ e z. absurd (not_both z (still e)); less = omega arith }
    where
      others : (i : ℕ) → i ≢ l.which → tree_value (member_count ms) (branches_answered ms (turned_branches ms (branch_cells b) s))
          (cell_bit (joint_count (member_count ms)) t) i
          ≡ tree_value (member_count ms) (branches_answered ms (branch_cells b)) (cell_bit (joint_count (member_count ms)) t) i
      others = leaf_other (member_count ms) l.which (branches_answered ms (branch_cells b)) (branches_answered ms (turned_branches ms (branch_cells b) s))
          (cell_bit (joint_count (member_count ms)) t) l.others

      still : {c : Bool} → acks m ≡ c → answer (side_by_side ms) (flipped (side_by_side ms) (cells (at_side m t b h)) (of_branch s)) ≡ c
      still e =
          let top = top_above (member_count ms) h.some in
          let less = l.there in
          others (tree_top (range_with_len 0 (member_count ms)) (member_count ms))
          (λ (x : tree_top (range_with_len 0 (member_count ms)) (member_count ms) ≡ l.which). omega (arith, top, less, x))
          ∙ (answer_is (at_side m t b h) ∙ e)

      joined : (k : ℕ) → one_rule_fires (tree_rule (member_count ms) (branches_answered ms (turned_branches ms (branch_cells b) s))
          (cell_bit (joint_count (member_count ms)) t) k) ≡ true
          → Shorter (of_branch s) (joint k) (moves env (at_side m t b h) (joint k))
          (trail P K held down (side_by_side ms) (flipped (side_by_side ms) (cells (at_side m t b h)) (of_branch s)) (joint k))
          (trail P K held down (side_by_side ms) (cells (at_side m t b h)) (joint k))
          (trail P K held down (side_by_side ms) (cells (at_side m t b h)) (of_branch s))
      joined k z = by (joint_sees (member_count ms) l.which
          (tree_value (member_count ms) (branches_answered ms (branch_cells b)) (cell_bit (joint_count (member_count ms)) t))
          (tree_value (member_count ms) (branches_answered ms (turned_branches ms (branch_cells b) s)) (cell_bit (joint_count (member_count ms)) t)) others k)
        where
          stays : branches_answered ms (branch_cells b) l.which ≡ branches_answered ms (turned_branches ms (branch_cells b) s) l.which
              → Shorter (of_branch s) (joint k) (moves env (at_side m t b h) (joint k))
              (trail P K held down (side_by_side ms) (flipped (side_by_side ms) (cells (at_side m t b h)) (of_branch s)) (joint k))
              (trail P K held down (side_by_side ms) (cells (at_side m t b h)) (joint k))
              (trail P K held down (side_by_side ms) (cells (at_side m t b h)) (of_branch s))
          stays e =
              let same : branches_answered ms (turned_branches ms (branch_cells b) s)
              ≡ branches_answered ms (branch_cells b) = fun_ext (λ i. at i (cases_eq i l.which)) in
              inr (
                (λ e. cc e),
                sym (can_is env (at_side m t b h) (joint k))
                    ∙ (ap (λ (f : ℕ → Bool). one_rule_fires (tree_rule (member_count ms) f (cell_bit (joint_count (member_count ms)) t) k)) (sym same) ∙ z),
                omega arith,
              )
            where
              at : (i : ℕ) → (i ≡ l.which) ⊎ (i ≡ l.which → ⊥)
                  → branches_answered ms (turned_branches ms (branch_cells b) s) i ≡ branches_answered ms (branch_cells b) i
              at i (inl x) = ap (branches_answered ms (turned_branches ms (branch_cells b) s)) x ∙ (sym e ∙ ap (branches_answered ms (branch_cells b)) (sym x))
              at i (inr ne) = l.others i ne

          turns_end : (c d : Bool) → branches_answered ms (branch_cells b) l.which ≡ c
              → branches_answered ms (turned_branches ms (branch_cells b) s) l.which ≡ d
              → Above (member_count ms) l.which (tree_value (member_count ms) (branches_answered ms (turned_branches ms (branch_cells b) s))
              (cell_bit (joint_count (member_count ms)) t)) k
              → Shorter (of_branch s) (joint k) (moves env (at_side m t b h) (joint k))
              (trail P K held down (side_by_side ms) (flipped (side_by_side ms) (cells (at_side m t b h)) (of_branch s)) (joint k))
              (trail P K held down (side_by_side ms) (cells (at_side m t b h)) (joint k))
              (trail P K held down (side_by_side ms) (cells (at_side m t b h)) (of_branch s))
          turns_end false true e f a =
              let at = leaf_at (member_count ms) l.which (branches_answered ms (turned_branches ms (branch_cells b) s))
              (cell_bit (joint_count (member_count ms)) t) l.there in
              let low = fires_low (cell_bit (joint_count (member_count ms)) t k) _ _ z (a.no_fall (at ∙ f)) in
              let x = l.up e f in
              let lower = a.lower in
              let within = a.within in
              let y : (if cell_bit (joint_count (member_count ms)) t k then (tree_height (member_count ms) - joint_level (member_count ms) k) + down
              else (tree_height (member_count ms) - joint_level (member_count ms) k) + (held + (2 + tree_height (member_count ms) + down)))
              ≡ (tree_height (member_count ms) - joint_level (member_count ms) k) + (held + (2 + tree_height (member_count ms) + down)) =
              ap (λ (c : Bool). if c then (tree_height (member_count ms) - joint_level (member_count ms) k) + down
              else (tree_height (member_count ms) - joint_level (member_count ms) k) + (held + (2 + tree_height (member_count ms) + down))) low in
              inl (omega (arith, x, lower, within, y))
          turns_end true false e f a =
              let at = leaf_at (member_count ms) l.which (branches_answered ms (turned_branches ms (branch_cells b) s))
              (cell_bit (joint_count (member_count ms)) t) l.there in
              let high = fires_high (cell_bit (joint_count (member_count ms)) t k) _ _ z (a.no_rise (at ∙ f)) in
              let x = l.falls e f in
              let lower = a.lower in
              let within = a.within in
              let y : (if cell_bit (joint_count (member_count ms)) t k then (tree_height (member_count ms) - joint_level (member_count ms) k) + down
              else (tree_height (member_count ms) - joint_level (member_count ms) k) + (held + (2 + tree_height (member_count ms) + down)))
              ≡ (tree_height (member_count ms) - joint_level (member_count ms) k) + down =
              ap (λ (c : Bool). if c then (tree_height (member_count ms) - joint_level (member_count ms) k) + down
              else (tree_height (member_count ms) - joint_level (member_count ms) k) + (held + (2 + tree_height (member_count ms) + down))) high in
              inl (omega (arith, x, lower, within, y))
          turns_end true true e f a = stays (e ∙ sym f)
          turns_end false false e f a = stays (e ∙ sym f)

          by : ((guard_holds (tree_value (member_count ms) (branches_answered ms (turned_branches ms (branch_cells b) s))
              (cell_bit (joint_count (member_count ms)) t)) (tree_node (member_count ms) k).up
              ≡ guard_holds (tree_value (member_count ms) (branches_answered ms (branch_cells b)) (cell_bit (joint_count (member_count ms)) t))
              (tree_node (member_count ms) k).up)
              × (guard_holds (tree_value (member_count ms) (branches_answered ms (turned_branches ms (branch_cells b) s))
              (cell_bit (joint_count (member_count ms)) t)) (tree_node (member_count ms) k).down
              ≡ guard_holds (tree_value (member_count ms) (branches_answered ms (branch_cells b)) (cell_bit (joint_count (member_count ms)) t))
              (tree_node (member_count ms) k).down))
              ⊎ Above (member_count ms) l.which (tree_value (member_count ms) (branches_answered ms (turned_branches ms (branch_cells b) s))
              (cell_bit (joint_count (member_count ms)) t)) k
              → Shorter (of_branch s) (joint k) (moves env (at_side m t b h) (joint k))
              (trail P K held down (side_by_side ms) (flipped (side_by_side ms) (cells (at_side m t b h)) (of_branch s)) (joint k))
              (trail P K held down (side_by_side ms) (cells (at_side m t b h)) (joint k))
              (trail P K held down (side_by_side ms) (cells (at_side m t b h)) (of_branch s))
          by (inr a) = turns_end (branches_answered ms (branch_cells b) l.which) (branches_answered ms (turned_branches ms
              (branch_cells b) s) l.which) refl refl a
          by (inl (u, d)) = inr (
            (λ e. cc e),
            sym (can_is env (at_side m t b h) (joint k)) ∙ same_fires (cell_bit (joint_count (member_count ms)) t k) _ _ _ _ u d z,
            omega arith,
          )

      here : (q : Spot (side_by_side ms))
          → one_rule_fires (rule (side_by_side ms) env (asks m) (flipped (side_by_side ms) (cells (at_side m t b h)) (of_branch s)) q) ≡ true
          → Plain (side_by_side ms) (flipped (side_by_side ms) (cells (at_side m t b h)) (of_branch s)) q
          → Shorter (of_branch s) q (moves env (at_side m t b h) q)
          (trail P K held down (side_by_side ms) (flipped (side_by_side ms) (cells (at_side m t b h)) (of_branch s)) q)
          (trail P K held down (side_by_side ms) (cells (at_side m t b h)) q) (trail P K held down (side_by_side ms) (cells (at_side m t b h)) (of_branch s))
      here (of_branch q) z plain = wrapped s q (of_branch s) (of_branch q) branch_apart (branch_moves env b q) _ _ _ (l.each q z plain)
      here (joint k) z plain = joined k z
